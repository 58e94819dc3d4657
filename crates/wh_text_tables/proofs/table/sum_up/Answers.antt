use Rattle.std.proofs.Common.{ap, arith, inl, inr, refl, Err}
use Rattle.wh_row.specs.Records.{IsFirstTooLarge}
use Rattle.wh_text_tables.proofs.TableSums.{large-within}
use Rattle.wh_text_tables.proofs.table.sum_up.Goals as goal

pub overflow_add-result : goal.overflow_add-result
overflow_add-result g c =
    let first : IsFirstTooLarge c.args.counted.now c.in-Err-Large.place = c.in-Err-Large.ensures.large c.in-Err-Large.place (ap Err c.in-Err-Large.field-0-is) in
    let within = large-within c.args.counted.now c.in-Err-Large.place first in
    omega (arith, within, c.requires)

pub returns-clause-err : goal.returns-clause-err
returns-clause-err g c =
    let first : IsFirstTooLarge c.args.counted.now c.in-Err-Large.place = c.in-Err-Large.ensures.large c.in-Err-Large.place (ap Err c.in-Err-Large.field-0-is) in
    inr (inl (c.in-Err-Large.place, first, refl))
