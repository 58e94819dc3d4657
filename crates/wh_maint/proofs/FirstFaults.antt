-- A fault that is answered exactly where something fails.
use Rattle.std.proofs.Common.{◌≡◌, ◌↔◌, refl, ap}
use Rattle.std.specs.Prelude.{Result, Ok, Err, OnErr}
use Rattle.wh_maint.specs.declared.fault.RowFault.{RowFault}
use Rattle.wh_maint.specs.declared.fault.RowFault.TheVariants.{Memory, Range}

pub err_where : {A : Type 0} (r : RowFault) (P : Type 0) → (r ≡ Range) ↔ P → (◌≡◌ {A = Result A RowFault} (Err r) (Err Range)) ↔ P
err_where {A} r P e = (λ h. e.0 (let both : ◌≡◌ {A = Result A RowFault} (Err r) (Err Range) = h in cc), λ p. ap Err (e.1 p))

pub range_here : {A : Type 0} (P : Type 0) → P → (◌≡◌ {A = Result A RowFault} (Err Range) (Err Range)) ↔ P
range_here P p = (λ h. p, λ q. refl)

pub ok_where : {A : Type 0} (x : A) (P : Type 0) → (P → ⊥) → (◌≡◌ {A = Result A RowFault} (Ok x) (Err Range)) ↔ P
ok_where {A} x P n = (λ h. absurd (let bad : ◌≡◌ {A = Result A RowFault} (Ok x) (Err Range) = h in cc), λ p. absurd (n p))

pub range_there : (P : Type 0) → P → (Range ≡ Range) ↔ P
range_there P p = (λ h. p, λ q. refl)

pub memory_there : (P : Type 0) → (P → ⊥) → (Memory ≡ Range) ↔ P
memory_there P n = (λ h. absurd (let bad : Memory ≡ Range = h in cc), λ p. absurd (n p))

pub told_err : {A E : Type 0} (r : Result A E) (P : Type 0) → P → OnErr r P
told_err (Ok x) P p = tt
told_err (Err x) P p = p
