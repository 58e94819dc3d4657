use Rattle.std.proofs.Common.{◌≡◌, length, arith}
use Rattle.std.proofs.lemmas.Grind.{common_steps}
use Rattle.wh_dag.proofs.Faultless.{well_formed}
use Rattle.wh_dag.proofs.Made.{shape_of, texts_named}
use Rattle.wh_dag.proofs.shape.Shape.new.Goals as goal

pub from_lists-children-requires : goal.from_lists-children-requires
from_lists-children-requires c =
    let named : length c.args.names.items ≡ length c.args.over.items = grind (arith, common_steps) in
    let faultless = rw (c.deref.ensures.value, c.deref-2.ensures.value) at c.in_ok-lists.ensures.faultless in
    rw (c.in_ok-lists.ensures.ok, c.deref.ensures.value, c.deref-2.ensures.value)
    (shape_of _ _ (well_formed _ _ (texts_named c.args.names.items c.args.over.items named) faultless))

pub returns-clause-well_formed : goal.returns-clause-well_formed
returns-clause-well_formed c =
    let named : length c.args.names.items ≡ length c.args.over.items = grind (arith, common_steps) in
    let faultless = rw (c.deref.ensures.value, c.deref-2.ensures.value) at c.in_ok-lists.ensures.faultless in
    well_formed _ _ (texts_named c.args.names.items c.args.over.items named) faultless
