use Rattle.std.proofs.Common.{◌∙◌, ap, ◌++◌, ◌∷◌, [], None}
use Rattle.std.proofs.lemmas.List.{replicate_more}
use Rattle.wh_text_tables.proofs.sizes.no_sizes.Goals as goal

pub loop-view-preserved : goal.loop-view-preserved
loop-view-preserved c =
    c.in_ok-push.ensures.items ∙ ap (λ given. given ++ None ∷ []) c.loop-view.invariant ∙ replicate_more c.loop-view._view None
