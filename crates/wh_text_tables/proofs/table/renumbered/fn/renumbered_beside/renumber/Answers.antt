use Rattle.wh_text_tables.proofs.table.renumbered.fn.renumbered_beside.renumber.Goals as goal

pub returns : goal.returns
returns c = rw c.deref.ensures.value at c.renumbered.ensures
