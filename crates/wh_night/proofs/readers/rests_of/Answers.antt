use Rattle.std.proofs.Common.{◌∙◌, ◌++◌, ◌∷◌, [], ap, sym}
use Rattle.wh_desk.specs.declared.asks.Ask.TheVariants as ask
use Rattle.wh_night.proofs.Rests.{rests_more}
use Rattle.wh_night.proofs.readers.rests_of.Goals as goal

pub loop-view-preserved : goal.loop-view-preserved
loop-view-preserved c = c.in_ok-push.ensures.items ∙ ap (λ asks. asks ++ ask.Rest c.loop-view.view 256 ∷ []) c.loop-view.invariant ∙ sym (rests_more c.loop-view.view)
