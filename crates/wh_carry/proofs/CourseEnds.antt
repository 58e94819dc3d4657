-- How a night's course ends: with the tables that the whole list makes, or at a refusal.
use Rattle.std.proofs.Common.{◌≡◌, refl, sym, ap, ◌∙◌, ℕ, suc, List, [], ◌∷◌, length, false, Option, Some, None, arith}
use Rattle.std.specs.Prelude.{slice_get, is_none}
use Rattle.std.specs.List.{flat_map, list_all}
use Rattle.std.proofs.lemmas.Bool.{false≢true}
use Rattle.wh_maint.specs.Definition.{graph_of}
use Rattle.wh_carry.specs.declared.stages.Stage.{Stage}
use Rattle.wh_carry.specs.Carry.{at_first, carried, tables_after}
use Rattle.wh_carry.specs.Kept.{Kept}
use Rattle.wh_carry.specs.Night.{Night, state_at}
use Rattle.wh_carry.specs.Stages.{place_behind}
use Rattle.wh_carry.specs.Inner.Standing.{StandsAt}
use Rattle.wh_carry.specs.Waves.{expressions_of, stages_of}
use Rattle.wh_carry.proofs.CourseWaves.{take_all}
use Rattle.wh_carry.proofs.StageLaws.{lists_have_one_stages}

-- where not all outcomes are none, some job is refused
pub some_refused : {A : Type 0} (outcomes : List (Option A)) → list_all is_none outcomes ≡ false → (j : ℕ) × (fault : A) × (slice_get outcomes j ≡ Some (Some fault))
some_refused [] e = absurd (false≢true (sym e))
some_refused (None ∷ outcomes) e = let r = some_refused outcomes e in (suc r.0, r.1, r.2)
some_refused (Some fault ∷ outcomes) e = (0, fault, refl)

-- behind all stages stand the tables that the whole list makes
pub last_tables : (n : Night) (stages : List Stage) (k : Kept) → stages ≡ stages_of n.list → StandsAt n (place_behind stages) k → (v : ℕ) → k.tables v ≡ tables_after (graph_of n.catalog) n.changes n.list n.tables v
last_tables n stages k e stands v =
    let whole : place_behind stages ≡ length n.list = ap length (ap (flat_map expressions_of) e ∙ (lists_have_one_stages n.list).0.joined) in
    stands.agrees.tables v ∙ ap (λ p. (state_at n p).tables v) whole
    ∙ ap (λ list. (carried (graph_of n.catalog) n.changes list (at_first n.tables)).tables v) (take_all (length n.list) n.list (omega arith))
