-- The fault of an error of `clap`.
use Rattle.std.proofs.Common.{◌≡◌, ◌∙◌, ◌⊎◌, ap, inl, inr, refl}
use Rattle.clap.specs.Words.{HasKind, Kinds, kind_of}
use Rattle.clap.specs.declared.error.Error.{Error}
use Rattle.clap.specs.declared.error.kind.ErrorKind.TheVariants.{OutOfMemory}
use Rattle.whview.specs.CommandFault.{FailsAs, status_of, status_of_kind}
use Rattle.whview.specs.declared.command_line.fault.CommandFault.{CommandFault}
use Rattle.whview.specs.declared.command_line.fault.CommandFault.TheVariants as fault
use Rattle.whview.specs.declared.status.Status.TheVariants.{Limit}

-- a fault that is memory, or has the status of the error's kind
abbrev pub IsFaultOf : Error → CommandFault → Type 0
IsFaultOf e f = (f ≡ fault.Memory) ⊎ (status_of f ≡ status_of_kind (kind_of e))

memory_status : (f : CommandFault) → status_of f ≡ Limit → f ≡ fault.Memory
memory_status (fault.Help text) e = cc
memory_status (fault.Refused text) e = cc
memory_status fault.Memory e = refl

pub memory_fault : (e : Error) (f : CommandFault) → IsFaultOf e f → kind_of e ≡ OutOfMemory → f ≡ fault.Memory
memory_fault e f (inl memory) kind = memory
memory_fault e f (inr status) kind = memory_status f (status ∙ ap status_of_kind kind)

pub fails_as : (kinds : Kinds) (e : Error) (f : CommandFault) → HasKind kinds e → IsFaultOf e f → FailsAs kinds f
fails_as kinds e f (inl memory) of = inl (memory_fault e f of memory)
fails_as kinds e f (inr among) (inl memory) = inl memory
fails_as kinds e f (inr among) (inr status) = inr (kind_of e, among, status)
