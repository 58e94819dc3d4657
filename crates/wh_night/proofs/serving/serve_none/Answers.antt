use Rattle.wh_carry.proofs.HandedOn.{handed_on}
use Rattle.wh_night.proofs.serving.serve_none.Goals as goal

pub returns-in_err-tables-clause-refused : goal.returns-in_err-tables-clause-refused
returns-in_err-tables-clause-refused g c = handed_on _ c.from_residual.result c.in_err-tables.field-0.0 c.from_residual.ensures c.in_err-tables.ensures.refused
