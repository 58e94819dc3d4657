use Rattle.std.proofs.Common.{◌≡◌, refl, sym, ap, ◌∙◌, ℕ, zero, suc, ◌+◌, ◌<◌, List, [], ◌∷◌, ◌++◌, take, length, arith}
use Rattle.wh_row.specs.Bag.{Bag}
use Rattle.wh_store.specs.Versions.{table_in}
use Rattle.wh_carry.proofs.CourseWaves.{take_all}
use Rattle.wh_night.specs.Tonight.{newest_in}
use Rattle.wh_night.proofs.opening.current_tables.Goals as goal

next_table : (tables : List Bag) (i : ℕ) → i < length tables → take (i + 1) tables ≡ take i tables ++ table_in tables i ∷ []
next_table [] i l = absurd (omega arith)
next_table (t ∷ tables) zero l = refl
next_table (t ∷ tables) (suc i) l = let e : suc i + 1 ≡ suc (i + 1) = omega arith in ap (λ k. take k (t ∷ tables)) e ∙ ap (λ ts. t ∷ ts) (next_table tables i (omega arith))

pub loop-view-preserved : goal.loop-view-preserved
loop-view-preserved g c =
    let newest : List Bag = newest_in (g.P.Publish.kept c.args.writer.now) in
    let each : length newest ≡ c.args.views = c.requires.views in
    let t = c.loop-view.invariant in
    c.in_ok-push.ensures.items
    ∙ (λ i. t i ++ c.in_ok-table.ensures.table i ∷ [])
    ∙ sym (next_table newest c.loop-view.view (omega (arith, each)))

pub returns : goal.returns
returns g c =
    let newest : List Bag = newest_in (g.P.Publish.kept c.args.writer.now) in
    let each : length newest ≡ c.args.views = c.requires.views in
    c.loop-view.invariant ∙ take_all c.loop-view.view newest (omega (arith, each))
