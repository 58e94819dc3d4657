use Rattle.wh_dag.proofs.Shown.{shows}
use Rattle.wh_dag.proofs.catalog.Catalog.new.Goals as goal

pub returns-clause-shows : goal.returns-clause-shows
returns-clause-shows g c =
    rw (c.in_ok-widths.ensures.dealt, c.deref.ensures.value, c.in_ok-definitions.ensures.dealt, c.child_lists.ensures.lists)
    (shows c.args.shape c.args.widths.items c.args.definitions.items c.requires)
