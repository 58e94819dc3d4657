-- What `night` prints for the bytes of a bundle, and the status that it ends with.
use Rattle.std.specs.Prelude.{◌≡◌, ◌≢◌, ◌<◌, ◌+◌, ◌++◌, ℕ, List, [], ◌∷◌, length, map, Option, Some, None, codes, decimal, cond, flat_map, replicate, slice_get, sum_by, IfSome, MatchResult}
use Rattle.wh_dag.specs.Catalog.{DefinitionOf}
use Rattle.wh_dag.specs.Shape.{Views}
use Rattle.wh_dag.specs.Written.{name_of}
use Rattle.wh_row.specs.Bag.{Bag, difference_of}
use Rattle.wh_text_catalogue.specs.Definitions.{ViewOf, shown_view}
use Rattle.wh_text_catalogue.specs.FormulaKinds.{Texts}
use Rattle.wh_text_tables.specs.TableWritten.{table_text}
use Rattle.wh_text_lines.specs.ExpressionText.{expression_text}
use Rattle.wh_text_catalogue.specs.ReadCatalog.{catalog_of}
use Rattle.wh_load.specs.ReadingNight.{Night, Opening, catalog_in, night_read}
use Rattle.wh_maint.specs.Comp.{bag_at}
use Rattle.wh_maint.specs.Contents.{AreContentsOf, contents}
use Rattle.wh_maint.specs.Definition.{graph_of}
use Rattle.wh_maint.specs.Laws.{changed}
use Rattle.wh_maint.specs.Opening.{HasNoContents, HaveContentsBelow}
use Rattle.wh_maint.specs.Size.{capped}
use Rattle.wh_maint.specs.View.{ViewGraph}
use Rattle.wh_maint.specs.declared.fault.MaintFault.{MaintFault}
use Rattle.wh_maint.specs.declared.fault.MaintFault.TheVariants.{Absent, Large, Memory, Range}
use Rattle.wh_carry.specs.Carry.{tables_after}
use Rattle.wh_carry.specs.Refused.{AreAllowedBelow, ArePassedBelow}
use Rattle.wh_carry.specs.Steps.{AreSteps}
use Rattle.wh_carry.specs.declared.report.CarryFault.{CarryFault}
use Rattle.wh_carry.specs.Night.{Night as NightFrom, night_over}
use Rattle.wh_night.specs.Refusals.{IsRefusedSo, left_of}
use Rattle.wh_night.specs.Serving.{rows_of}
use Rattle.wh_strategy.specs.Rules.{IsCorrect, IsFirstBroken}
use Rattle.wh_strategy.specs.declared.expression.Expression.{Expression}
use Rattle.wh_strategy.specs.declared.rule.Rule.{Rule}
use Rattle.whview.specs.CheckOutput.{IsFaultShown, broken_text, line}
use Rattle.whview.specs.declared.night.Outcome.{Outcome}
use Rattle.whview.specs.declared.night.Outcome.TheVariants.{Broken, Carried, NoContents, Refused}
use Rattle.whview.specs.declared.night.shown.Shown.{Shown}
use Rattle.whview.specs.declared.night.shown.Shown.TheVariants.{ChangesOf, NewTables}
use Rattle.whview.specs.declared.night_options.Printed.{Printed}
use Rattle.whview.specs.declared.night_options.Printed.TheVariants.{Changes, Tables}
use Rattle.whview.specs.declared.status.Status.{Status}
use Rattle.whview.specs.declared.status.Status.TheVariants.{Done, Negative}

-- ---- texts

-- the line of an expression: the expression and its rows
abbrev pub step_text : List (List ℕ) → Expression × ℕ → List ℕ
step_text names step = line (expression_text names step.0 ++ codes ": " ++ decimal step.1)

-- the rows of all steps together, or 2^128 - 1 in place of more
abbrev pub work_in : List (Expression × ℕ) → ℕ
work_in steps = capped (sum_by (λ step. step.1) steps)

-- the report: the steps, their work and the new version
abbrev pub report_text : List (List ℕ) → List (Expression × ℕ) → List ℕ
report_text names steps = flat_map (step_text names) steps ++ line (codes "work " ++ decimal (work_in steps)) ++ line (codes "version " ++ decimal 1)

-- what is printed of a view, its new table or its change
abbrev pub word_of : Printed → List ℕ
word_of Tables = codes "view "
word_of Changes = codes "changes "

-- what is printed of a derived view, written as a table is, under what it is and its name; of a base view nothing
abbrev pub view_text : List ℕ → Texts → List ℕ → ViewOf → Bag → List ℕ
view_text word texts name view rows = of_definition view.definition
  where
    of_definition : Option DefinitionOf → List ℕ
    of_definition None = []
    of_definition (Some definition) = line (word ++ name) ++ table_text view.columns texts rows

-- what is printed of the derived views, in the order of their numbers, the first view having this number
abbrev pub views_text : List ℕ → Texts → List (List ℕ) → ℕ → List ViewOf → (ℕ → Bag) → List ℕ
views_text word texts names number [] rows = []
views_text word texts names number (view ∷ views) rows =
    view_text word texts (name_of names number) view (rows number) ++ views_text word texts names (number + 1) views rows

-- What is printed of a view: its new table, or its change. In the change each row counts what it counts in the new table less what it
-- counts in the old one. Added to the old table the change is the new one.
abbrev pub rows_printed : Printed → (ℕ → Bag) → (ℕ → Bag) → ℕ → Bag
rows_printed Tables old new view = new view
rows_printed Changes old new view = difference_of (new view) (old view)

-- what is printed of a night that was carried out in these steps, from the old tables to the new ones
abbrev pub carried_text : Printed → Night → List (Expression × ℕ) → (ℕ → Bag) → (ℕ → Bag) → List ℕ
carried_text printed night steps old new =
    report_text night.shape.names steps
    ++ views_text (word_of printed) night.opening.texts night.shape.names 0 night.opening.views (rows_printed printed old new)

-- what is printed of a refusal: what is refused, and of which view
abbrev pub refused_text : List (List ℕ) → MaintFault → List ℕ
refused_text names (Large view) = line (codes "refused large " ++ name_of names view)
refused_text names (Range view) = line (codes "refused range " ++ name_of names view)
refused_text names (Absent view row) = line (codes "refused absent " ++ name_of names view)
refused_text names Memory = line (codes "memory")

-- what is printed of a night that was refused: the refusal, and whether the night had begun
abbrev pub left_text : List (List ℕ) → CarryFault → List ℕ
left_text names refused = refused_text names refused.fault ++ cond refused.started (line (codes "left given-up")) (line (codes "left untouched"))

-- the line of a reader: how many rows it was given of the contents of before, which are version 0
abbrev pub reader_text : ℕ → ℕ → List ℕ
reader_text reader rows = line (codes "reader " ++ decimal reader ++ codes " version 0 rows " ++ decimal rows)

-- the lines of the readers, the first having this number
abbrev pub readers_text : ℕ → List ℕ → List ℕ
readers_text reader [] = []
readers_text reader (rows ∷ others) = reader_text reader rows ++ readers_text (reader + 1) others

-- ---- contents

-- the views of what was read
abbrev pub graph_over : Views → Opening → ViewGraph
graph_over shape opening = graph_of (catalog_of shape opening.views)

-- the views of a night
abbrev pub graph_in : Night → ViewGraph
graph_in night = graph_of (catalog_in night)

-- these lists are the contents of the base that was read
pub record AreOpened (shape : Views) (opening : Opening) (tables : List Bag) : Type 0 where
  pub each : length tables ≡ length shape.children
  pub opened : (view : ℕ) → view < length shape.children → bag_at tables view ≡ contents (graph_over shape opening) (bag_at opening.tables) view
  pub valued : HaveContentsBelow (graph_over shape opening) (bag_at opening.tables) (length shape.children)

-- The strategy, carried out from the contents of the base that was read, makes these tables in these steps, and nothing in it is refused.
-- The tables are the contents of the base with its changes, whatever the strategy is. So each derived view has a value there, which is also
-- of at most 2^56 combined rows.
pub record IsCarriedOut (night : Night) (old new : List Bag) (steps : List (Expression × ℕ)) : Type 0 where
  pub opened : AreOpened night.shape night.opening old
  pub allowed : AreAllowedBelow (catalog_in night) (bag_at old) (bag_at night.given.changes) (length night.shape.children)
  pub passed : ArePassedBelow (catalog_in night) night.given.list (bag_at old) (bag_at night.given.changes) (length night.given.list)
  pub carried : (view : ℕ) → view < length night.shape.children
      → bag_at new view ≡ tables_after (graph_in night) (bag_at night.given.changes) night.given.list (bag_at old) view
  pub contents : AreContentsOf (graph_in night) (changed (bag_at night.opening.tables) (bag_at night.given.changes)) (bag_at new)
  pub valued : HaveContentsBelow (graph_in night) (changed (bag_at night.opening.tables) (bag_at night.given.changes)) (length night.shape.children)
  pub reported : AreSteps night.shape.children night.given.list (bag_at old)
      (tables_after (graph_in night) (bag_at night.given.changes) night.given.list (bag_at old)) steps

-- ---- what is decided

-- this holds at each derived view, by its number
abbrev pub AtDerived : List ViewOf → (ℕ → Type 0) → Type 0
AtDerived views P = (number : ℕ) → IfSome (slice_get views number) (λ view. view.definition ≢ None → P number)

-- this is what is shown of the derived views, where tables or changes are to be printed
abbrev pub IsShownAs : Printed → List ViewOf → (ℕ → Bag) → (ℕ → Bag) → Shown → Type 0
IsShownAs Tables views old new shown = shown ≡ NewTables
IsShownAs Changes views old new NewTables = ⊥
IsShownAs Changes views old new (ChangesOf changes) = AtDerived views (λ view. bag_at changes.items view ≡ rows_printed Changes old new view)

-- what is carried out is shown with these views and texts, which are those that were read, from these contents, of which so many readers
-- were given all rows
pub record IsShownFrom (night : Night) (printed : Printed) (readers : ℕ) (views : List ViewOf) (texts : Texts) (new : List Bag) (shown : Shown) (steps : List (Expression × ℕ)) (rows : List ℕ) : Type 0 where
  pub views_read : views ≡ night.opening.views
  pub texts_read : texts ≡ night.opening.texts
  pub old : List Bag
  pub carried : IsCarriedOut night old new steps
  pub printed_as : IsShownAs printed night.opening.views (bag_at old) (bag_at new) shown
  pub given : rows ≡ replicate readers (rows_of old)

-- the night from these contents, with so many rows an operation
abbrev pub night_from : Night → List Bag → ℕ → NightFrom
night_from night old keys = night_over (catalog_in night) night.given.list old night.given.changes keys

-- A night from these contents is refused for this, whatever the number of rows an operation. It is refused by its base changes before it
-- begins, or, wave by wave, once it has begun
abbrev pub IsRefusedAs : Night → List Bag → CarryFault → Type 0
IsRefusedAs night old fault = (keys : ℕ) → IsRefusedSo (night_from night old keys) (left_of fault.started) fault.fault

-- a night is refused from these contents for this reason, which is not want of memory
pub record IsRefusedFrom (night : Night) (fault : CarryFault) : Type 0 where
  pub old : List Bag
  pub opened : AreOpened night.shape night.opening old
  pub told : fault.fault ≢ Memory
  pub why : IsRefusedAs night old fault

-- this is decided of a night of which so much is printed, beside so many readers
abbrev pub IsDecided : Night → Printed → ℕ → Outcome → Type 0
IsDecided night printed readers (Broken rule place) = IsFirstBroken night.shape.children night.given.list rule place
IsDecided night printed readers (NoContents fault) = IsCorrect night.shape.children night.given.list × HasNoContents (graph_in night) (bag_at night.opening.tables) fault
IsDecided night printed readers (Refused fault) = IsCorrect night.shape.children night.given.list × IsRefusedFrom night fault
IsDecided night printed readers (Carried views texts carried shown) =
    IsCorrect night.shape.children night.given.list
    × IsShownFrom night printed readers (map shown_view views.items) texts carried.tables.items shown carried.report.steps.items carried.rows.items

-- what is printed of the views of a night that was carried out
abbrev pub shown_text : Shown → Texts → List (List ℕ) → List ViewOf → List Bag → List ℕ
shown_text NewTables texts names views tables = views_text (word_of Tables) texts names 0 views (bag_at tables)
shown_text (ChangesOf changes) texts names views tables = views_text (word_of Changes) texts names 0 views (bag_at changes.items)

-- what is printed of what was decided, where the views have these names
abbrev pub text_of : List (List ℕ) → Outcome → List ℕ
text_of names (Broken rule place) = broken_text rule place
text_of names (NoContents fault) = refused_text names fault
text_of names (Refused fault) = left_text names fault
text_of names (Carried views texts carried shown) =
    (report_text names carried.report.steps.items ++ shown_text shown texts names (map shown_view views.items) carried.tables.items) ++ readers_text 0 carried.rows.items

-- the status of what was decided
abbrev pub status_of : Outcome → Status
status_of (Broken rule place) = Negative
status_of (NoContents fault) = Negative
status_of (Refused fault) = Negative
status_of (Carried views texts carried shown) = Done

-- ---- what is printed

-- What is printed of a night, so much of it and beside so many readers, and the status. A night is refused for the first reason that its
-- base changes, and then its waves and Insts, meet. Want of memory is told as such and is none of these.
pub data IsNightTold (night : Night) (printed : Printed) (readers : ℕ) (text : List ℕ) (status : ℕ) : Type 0 where
  broken : (rule : Rule) (place : ℕ) → IsFirstBroken night.shape.children night.given.list rule place → text ≡ broken_text rule place → status ≡ 1 → IsNightTold night printed readers text status
  no_contents : (fault : MaintFault) → IsCorrect night.shape.children night.given.list → HasNoContents (graph_in night) (bag_at night.opening.tables) fault
      → text ≡ refused_text night.shape.names fault → status ≡ 1 → IsNightTold night printed readers text status
  refused : (old : List Bag) (fault : CarryFault) → IsCorrect night.shape.children night.given.list → AreOpened night.shape night.opening old → fault.fault ≢ Memory
      → IsRefusedAs night old fault
      → text ≡ left_text night.shape.names fault → status ≡ 1 → IsNightTold night printed readers text status
  carried : (old new : List Bag) (steps : List (Expression × ℕ)) → IsCorrect night.shape.children night.given.list → IsCarriedOut night old new steps
      → text ≡ carried_text printed night steps (bag_at old) (bag_at new) ++ readers_text 0 (replicate readers (rows_of old)) → status ≡ 0
      → IsNightTold night printed readers text status

-- what `night` prints for a bundle's bytes, where so much is printed of the views, beside so many readers; and the status
abbrev pub IsNightOutput : Printed → ℕ → List ℕ → List ℕ → ℕ → Type 0
IsNightOutput printed readers bytes text status =
    MatchResult (night_read bytes) (λ night. IsNightTold night printed readers text status) (λ fault. IsFaultShown fault text status)
