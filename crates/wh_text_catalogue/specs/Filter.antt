-- The predicate that the rows of a derived view meet: the key `where`.
use Rattle.std.specs.Prelude.{codes, Option, Some, None, Ok}
use Rattle.toml.specs.Data.{Data, get}
use Rattle.wh_formula.specs.Pred.{True}
use Rattle.wh_text.specs.declared.fault.Key.TheVariants as key
use Rattle.wh_text.specs.declared.fault.LoadFault.TheVariants as fault
use Rattle.wh_text.specs.ValueOrFault.{◌>>=◌}
use Rattle.wh_text_catalogue.specs.ColumnNames.{checked, unless_unknown}
use Rattle.wh_text_catalogue.specs.Formula.{is_whole_pred, unknown_in_test, whole_pred}
use Rattle.wh_text_catalogue.specs.FormulaKinds.{PredOutcome, Texts}
use Rattle.wh_text_catalogue.specs.Header.{HeaderOf}

-- a predicate as it is written: its form, then its columns, then its kinds
abbrev pub filter_written : HeaderOf → Data → Texts → PredOutcome
filter_written header value texts = do
  formed ← checked (is_whole_pred value) (fault.Key key.Where) value
  known ← unless_unknown (unknown_in_test header.columns formed) formed
  whole_pred header known texts

-- the predicate of the key, or the one that every row meets where the key is missing
abbrev pub filter_at : HeaderOf → Option Data → Texts → PredOutcome
filter_at header None texts = Ok (True, texts)
filter_at header (Some value) texts = filter_written header value texts

-- the predicate of a view
abbrev pub filter_of : HeaderOf → Data → Texts → PredOutcome
filter_of header view texts = filter_at header (get (codes "where") view) texts
