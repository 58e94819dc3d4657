use Rattle.std.proofs.Common.{◌∙◌}
use Rattle.std.proofs.lemmas.Slice.Eq.{slice_eq-Decides, bytes_eq-Decides}
use Rattle.wh_dag.proofs.Lists.{pointwise-lists_of}
use Rattle.wh_dag.proofs.child_lists.are_same.Goals as goal

pub returns : goal.returns
returns c =
    slice_eq-Decides bytes_eq-Decides _ _ c.eq.result (c.eq.ensures ∙ pointwise-lists_of c.args.lists.now c.args.others.now)
