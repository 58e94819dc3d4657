-- The sizes of tables, one after another, and the versions that are kept.
use Rattle.std.proofs.Common.{◌≡◌, refl, sym, ap, subst, ◌∙◌, ℕ, ◌-◌, ◌<◌, ◌≤◌, Bool, true, false, List, [], ◌∷◌, ◌++◌, Vec, Global, Some, Result, Ok, Err, IfOk}
use Rattle.std.specs.Prelude.{cond, is_some, ◌&&◌}
use Rattle.wh_row.specs.Bag.{Bag, size}
use Rattle.wh_store.specs.Versions.{is_unexpired}
use Rattle.wh_core.specs.declared.machine.Machine.{Machine}
use Rattle.wh_core.specs.Log.{Log}
use Rattle.wh_core.specs.Nights.{Setup, versions}
use Rattle.wh_core.specs.Standing.{KeepsTables, Stands}
use Rattle.wh_core.specs.Tables.{kept_before, sizes_of}
use Rattle.wh_core.proofs.Moves.{open_here}
use Rattle.wh_core.proofs.Steps.{le_false, le_true}

pub sizes_more : (tables : List Bag) (table : Bag) → sizes_of tables ++ size table ∷ [] ≡ sizes_of (tables ++ table ∷ [])
sizes_more [] table = refl
sizes_more (own ∷ tables) table = ap (λ sizes. size own ∷ sizes) (sizes_more tables table)

-- where no night is open, the tables that are kept are those of the current version
pub kept_newest : (s : Setup) (log : Log) (m : Machine) → Stands s log m → (tables : Vec Bag Global) → m.tables ≡ Some tables → is_some m.store.draft ≡ false → tables.items ≡ (versions s log).newest
kept_newest s log m h tables is idle = (subst (KeepsTables s log) is h.tables).0 (sym (open_here s log m h) ∙ idle)

pub where_ok : {T E : Type 0} (r : Result T E) (P Q : T → Type 0) → IfOk r P → ((x : T) → P x → Q x) → IfOk r Q
where_ok (Ok x) P Q p f = f x p
where_ok (Err e) P Q p f = tt

module _ (n current : ℕ) (active : Bool) (back : ℕ) where
  abbrev told : Bool → List ℕ
  told b = cond b ((current - back) ∷ []) []

  pub is_kept : back ≤ current → is_unexpired n current active (current - back) ≡ true → kept_before n current active back ≡ (current - back) ∷ []
  is_kept l e = ap (λ b. told (b && is_unexpired n current active (current - back))) (le_true back current l) ∙ ap told e

  pub is_expired : back ≤ current → is_unexpired n current active (current - back) ≡ false → kept_before n current active back ≡ []
  is_expired l e = ap (λ b. told (b && is_unexpired n current active (current - back))) (le_true back current l) ∙ ap told e

  pub is_none : current < back → kept_before n current active back ≡ []
  is_none l = ap (λ b. told (b && is_unexpired n current active (current - back))) (le_false back current l)
