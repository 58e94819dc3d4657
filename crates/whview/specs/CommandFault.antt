-- What the program shows and ends with where a command line asks for nothing that can be done.
use Rattle.std.specs.Prelude.{◌≡◌, ◌⊎◌, ℕ, List, Option, Some, None}
use Rattle.std.specs.String.{string_bytes}
use Rattle.clap.specs.Words.{IsAmong, Kinds}
use Rattle.clap.specs.declared.error.kind.ErrorKind.{ErrorKind}
use Rattle.clap.specs.declared.error.kind.ErrorKind.TheVariants as kind
use Rattle.whview.specs.declared.command_line.fault.CommandFault.{CommandFault}
use Rattle.whview.specs.declared.command_line.fault.CommandFault.TheVariants as fault
use Rattle.whview.specs.declared.status.Status.{Status}
use Rattle.whview.specs.declared.status.Status.TheVariants.{Done, Limit, Words}

-- the status of a fault of the words: done for help that is asked for, else as the fault is
abbrev pub status_of : CommandFault → Status
status_of (fault.Help text) = Done
status_of (fault.Refused text) = Words
status_of fault.Memory = Limit

-- the text that is shown, where there is one
abbrev pub text_of : CommandFault → Option (List ℕ)
text_of (fault.Help text) = Some (string_bytes text)
text_of (fault.Refused text) = Some (string_bytes text)
text_of fault.Memory = None

-- the status of a kind of fault that a parse of words knows
abbrev pub status_of_kind : ErrorKind → Status
status_of_kind kind.DisplayHelp = Done
status_of_kind kind.OutOfMemory = Limit
status_of_kind _ = Words

-- memory ran out, or the status is that of one of the kinds
abbrev pub FailsAs : Kinds → CommandFault → Type 0
FailsAs kinds f = (f ≡ fault.Memory) ⊎ ((k : ErrorKind) × IsAmong k kinds × (status_of f ≡ status_of_kind k))
