use Rattle.std.proofs.Common.{◌≡◌, refl, sym, ap, ◌∙◌}
use Rattle.wh_dag.specs.Catalog.{OutputOf, Keep, Sums, sums_in}
use Rattle.wh_maint.specs.Definition.{kind_of, view_of}
use Rattle.wh_maint.specs.View.{sums_of}
use Rattle.wh_carry.proofs.state.sums_of.Goals as goal

sums_of_kind : (output : OutputOf) → sums_of (kind_of output) ≡ sums_in output
sums_of_kind (Keep kept) = refl
sums_of_kind (Sums group sums) = refl

pub returns-in-Some : goal.returns-in-Some
returns-in-Some g c =
    c.sums.ensures ∙ ap sums_in c.output.ensures.output ∙ sym (sums_of_kind c.in-Some.definition.now.output)
    ∙ sym (ap (λ d. sums_of (view_of d).kind) c.in-Some.ensures.definition)
