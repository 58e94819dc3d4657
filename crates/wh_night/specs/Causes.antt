-- Why a night is refused, as its caller is told.
use Rattle.std.specs.Prelude.{◌≡◌, ℕ, IsErrAnd, Result}
use Rattle.wh_maint.specs.declared.fault.MaintFault.{MaintFault}
use Rattle.wh_maint.specs.declared.fault.MaintFault.TheVariants as fault
use Rattle.wh_store.specs.declared.publish_fault.PublishFault.{PublishFault}
use Rattle.wh_store.specs.declared.publish_fault.PublishFault.TheVariants as publish
use Rattle.wh_night.specs.declared.cause.NightCause.{NightCause}
use Rattle.wh_night.specs.declared.cause.NightCause.TheVariants as cause
use Rattle.wh_night.specs.declared.left.Aftermath.TheVariants.{Untouched}
use Rattle.wh_night.specs.declared.left.NightFault.{NightFault}

-- the number of a cause
abbrev pub cause_number : NightCause → ℕ
cause_number cause.Memory = 1
cause_number (cause.Large v) = 2
cause_number (cause.Range v) = 3
cause_number (cause.Absent v row) = 4
cause_number cause.NightOpen = 5
cause_number cause.LastVersion = 6
cause_number cause.Held = 7

-- a fault of carrying out, as a cause
abbrev pub cause_of : MaintFault → NightCause
cause_of fault.Memory = cause.Memory
cause_of (fault.Large v) = cause.Large v
cause_of (fault.Range v) = cause.Range v
cause_of (fault.Absent v row) = cause.Absent v row

-- Why a night cannot begin, as a cause: an operation is held, a night is open, or the numbers of versions are used up. A Begin is refused for
-- nothing else
abbrev pub IsBeginCause : PublishFault → NightCause → Type 0
IsBeginCause publish.Held why = why ≡ cause.Held
IsBeginCause publish.NightOpen why = why ≡ cause.NightOpen
IsBeginCause publish.LastVersion why = why ≡ cause.LastVersion
IsBeginCause publish.NoNight why = ⊥
IsBeginCause publish.NoView why = ⊥
IsBeginCause publish.BadPage why = ⊥
IsBeginCause (publish.Memory held) why = ⊥

-- a night whose Begin would be refused for this is refused so, and leaves all as it was
abbrev pub CannotBegin : {T : Type 0} → PublishFault → Result T NightFault → Type 0
CannotBegin fault answer = IsErrAnd answer (λ f. IsBeginCause fault f.cause × (f.left ≡ Untouched))
