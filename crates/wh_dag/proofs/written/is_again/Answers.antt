use Rattle.wh_dag.proofs.Texts.{is_again_from}
use Rattle.wh_dag.proofs.written.is_again.Goals as goal

pub returns : goal.returns
returns c =
    is_again_from c.args.names.now c.args.view c.index-names-view.result _ c.requires c.index-names-view.is
    (rw c.as_str.ensures.value at c.stands_in.ensures)
