use Rattle.std.proofs.Common.{rules, ◌∙◌}
use Rattle.wh_text_tables.proofs.TableRows.{back-on-err, taken-back}
use Rattle.wh_text_tables.proofs.table.read_singly.Goals as goal
use Rattle.wh_text_tables.proofs.table.read_singly.Goals.{then-is_err, else-is_err}

pub returns-clause-kept : goal.returns-clause-kept
returns-clause-kept g c =
    let begins = rw c.replace.ensures.value at c.read_through-outcome.ensures.begins in
    elim c.if-is_err.branch [
      | then-is_err w ↦ back-on-err c.read_through-outcome.result c.args.dict.now c.if-is_err.dict
          (w.dict-is ∙ taken-back c.args.dict.now c.read_through-outcome.new.rows.dict w.truncate.new.self c.len-texts.result begins c.len-texts.ensures.len w.truncate.ensures)
      | else-is_err w ↦ search rules
    ]
