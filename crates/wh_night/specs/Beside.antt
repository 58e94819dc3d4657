-- A night that runs while readers ask: what it answers and leaves, and that the writer has all that the readers saw.
use Rattle.std.specs.Prelude.{◌≡◌, ℕ, List, Option, Result, IfErr, IfOk, IfSome, MatchOption, OnErr}
use Rattle.std.specs.List.{All}
use Rattle.wh_row.specs.Bag.{Bag}
use Rattle.wh_dag.specs.Catalog.{CatalogOf}
use Rattle.wh_strategy.specs.declared.expression.Expression.{Expression}
use Rattle.wh_store.specs.Faults.{publish_refusal}
use Rattle.wh_store.specs.Operations.{Opens}
use Rattle.wh_carry.specs.declared.report.Carried.{Carried}
use Rattle.wh_desk.specs.declared.askers.Answered.{Answered}
use Rattle.wh_desk.specs.Askers.{IsHad}
use Rattle.wh_desk.specs.Writers.{Writing}
use Rattle.wh_night.specs.declared.left.NightFault.{NightFault}
use Rattle.wh_night.specs.Causes.{CannotBegin}
use Rattle.wh_night.specs.Published.{IsPublished}
use Rattle.wh_night.specs.Refusals.{IsRefused}
use Rattle.wh_night.specs.Tonight.{IsSound, Leaves, TellsEnd, newest_in, tonight}

-- What a night answers that is carried out over what a writer has published, and what the writer has then:
--   book       it is of the same warehouse;
--   ends       the answer says how many give-ups were refused;
--   published  a night that is done is published, and its report tells of it;
--   tables     the tables that it answers are those of the current version;
--   leaves     a refused night leaves what its answer says;
--   newest     and the current version as it was;
--   sound      a sound list stays sound;
--   refused    a night that can begin is refused for its reason alone, and one that cannot begin is.
pub record HasRun (catalog : CatalogOf) (list : List Expression) (before : Writing) (changes : List Bag) (keys : ℕ) (answer : Result Carried NightFault) (after : Writing) : Type 0 where
  pub book : after.book ≡ before.book
  pub ends : TellsEnd answer before.refused_ends after.refused_ends
  pub published : IfOk answer (λ c. IsPublished catalog list before.ledger changes keys c.report after.ledger)
  pub tables : IfOk answer (λ c. c.tables.items ≡ newest_in after.ledger)
  pub leaves : IfErr answer (λ f. Leaves (tonight catalog list before.ledger changes keys) f.cause before.ledger f.left after.ledger)
  pub newest : OnErr answer (newest_in after.ledger ≡ newest_in before.ledger)
  pub sound : IsSound catalog before.ledger → IsSound catalog after.ledger
  pub refused : MatchOption (publish_refusal before.ledger Opens) (IfErr answer (IsRefused (tonight catalog list before.ledger changes keys))) (λ fault. CannotBegin fault answer)

-- all that each of these readers saw is a beginning of what the writer has published
abbrev pub AreHad : Writing → List (Option Answered) → Type 0
AreHad w all = All (λ a. IfSome a (λ a. IsHad w a.reader.desk)) all
