use Rattle.std.proofs.Common.{ap, ◌∙◌}
use Rattle.wh_carry.specs.Kept.{KeptLists}
use Rattle.wh_carry.proofs.Storing.{compute_answer}
use Rattle.wh_carry.proofs.state.NightState.compute_wide.Goals as goal

pub returns : goal.returns
returns g c =
    compute_answer c.args.catalog.now c.args.self.now c.args.view c.args.sources.now c.deref.result.now c.deref-2.result.now c.comp_wide.result
    (c.deref.ensures.value ∙ ap (λ (z : KeptLists). z.tables) c.self.view_is)
    (c.deref-2.ensures.value ∙ ap (λ (z : KeptLists). z.changes) c.self.view_is)
    c.comp_wide.ensures
