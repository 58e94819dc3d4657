-- Why an operation is not published, what a refusal leaves, and how a night ends.
use Rattle.std.specs.Prelude.{◌≡◌, ◌⊎◌, ℕ, ◌+◌, Bool, true, false, IsTrue, Option, Some, None, option_map, is_some, if◌then◌else◌, Result, Ok, Err, MatchResult}
use Rattle.wh_store.specs.Operations.{Operation, Opens, Writes, Commits, Gives_up}
use Rattle.wh_store.specs.Refusals.{refusal}
use Rattle.wh_store.specs.declared.fault.StoreFault.{StoreFault}
use Rattle.wh_store.specs.declared.fault.StoreFault.TheVariants as store
use Rattle.wh_store.specs.declared.publish_fault.PublishFault.{PublishFault}
use Rattle.wh_store.specs.declared.publish_fault.PublishFault.TheVariants.{NightOpen, NoNight, NoView, BadPage, LastVersion, Held, Memory}
use Rattle.wh_store.specs.declared.ended.Ended.{Ended}
use Rattle.wh_store.specs.declared.ended.Ended.TheVariants.{Committed, GivenUp, NoneOpen}
use Rattle.wh_store.specs.Ledgers.{Ledger, is_busy, ledger, window_in, gone_out, stays_open, closed}

-- the numbers of refusals
abbrev pub fault_number : PublishFault → ℕ
fault_number NightOpen = 1
fault_number NoNight = 2
fault_number NoView = 3
fault_number BadPage = 4
fault_number LastVersion = 5
fault_number Held = 6
fault_number (Memory held) = 7

-- a store's refusal as a writer answers it
abbrev pub fault_of : StoreFault → PublishFault
fault_of store.NightOpen = NightOpen
fault_of store.NoNight = NoNight
fault_of store.NoView = NoView
fault_of store.BadPage = BadPage
fault_of store.LastVersion = LastVersion
fault_of store.Memory = Memory false

-- why an operation is not published, want of memory aside: one is held, or else for what a store that shows the published list refuses it
abbrev pub publish_refusal : Ledger → Operation → Option PublishFault
publish_refusal l op = if is_some l.held then Some Held else option_map fault_of (refusal (window_in l.of l.list) op)

-- a refusal publishes nothing, and keeps the operation where it says so
abbrev pub refused : Ledger → Operation → PublishFault → Ledger
refused l op (Memory true) = ledger l.of l.list (Some op)
refused l op (Memory false) = l
refused l op NightOpen = l
refused l op NoNight = l
refused l op NoView = l
refused l op BadPage = l
refused l op LastVersion = l
refused l op Held = l

-- published, unless memory was refused
abbrev pub IsOkUnlessMemory : Result (Unit {0}) PublishFault → Type 0
IsOkUnlessMemory (Ok x) = Unit {0}
IsOkUnlessMemory (Err fault) = (held : Bool) × (fault ≡ Memory held)

-- how the night ends, where this was held and a night is open still once it has gone out
abbrev pub ended : Option Operation → Bool → Ended
ended held true = GivenUp
ended (Some Commits) false = Committed
ended (Some Gives_up) false = GivenUp
ended (Some Opens) false = NoneOpen
ended (Some (Writes view rows)) false = NoneOpen
ended None false = NoneOpen

-- what was held has gone out, and the night that was open still is given up
abbrev pub Ends : Ledger → Ledger → Ended → Type 0
Ends l m answer = (m ≡ ledger l.of (closed (stays_open l) (gone_out l)) None) × (answer ≡ ended l.held (stays_open l))

-- for want of memory, where something is held or a night is open: nothing has changed; or what was held has gone out, a night is open
-- still, and its end is held or not
abbrev pub EndsLater : Ledger → Ledger → Type 0
EndsLater l m =
    IsTrue (is_busy l) × ((m ≡ l) ⊎ (IsTrue (stays_open l) × ((m ≡ ledger l.of (gone_out l) None) ⊎ (m ≡ ledger l.of (gone_out l) (Some Gives_up)))))

-- the count of refused give-ups is one higher after a give-up that was refused, and the same after any other
abbrev pub CountsRefusal : {T E : Type 0} → Result T E → ℕ → ℕ → Type 0
CountsRefusal result before after = MatchResult result (λ _. after ≡ before) (λ _. after ≡ before + 1)
