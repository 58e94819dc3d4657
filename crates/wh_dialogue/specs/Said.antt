-- What is printed of the replies to commands.
use Rattle.std.specs.Prelude.{ℕ, ◌+◌, List, [], ◌∷◌, ◌++◌, Option, Ok, Err, Result, is_some, codes, cond, decimal, slice_get, option_and_then, option_map, unwrap_or}
use Rattle.std.specs.List.{flat_map}
use Rattle.wh_dag.specs.Written.{name_of}
use Rattle.wh_core.specs.declared.reply.Cause.TheVariants as cause
use Rattle.wh_core.specs.declared.reply.Reply.{Reply}
use Rattle.wh_core.specs.declared.reply.Reply.TheVariants as reply
use Rattle.wh_replies.specs.ReplyText.{line, reply_line}
use Rattle.wh_row.specs.Bag.{Bag, bag_of}
use Rattle.wh_stay.specs.Standing.{StandingOf}
use Rattle.wh_stay.specs.declared.told.NightTold.{NightTold}
use Rattle.wh_stay.specs.declared.told.NightTold.TheVariants as told
use Rattle.wh_store.specs.Pages.{Shown}
use Rattle.wh_strategy.specs.Rules.{number_of}
use Rattle.wh_text.specs.Columns.{NamedKind}
use Rattle.wh_text.specs.FaultText.{fault_text}
use Rattle.wh_text.specs.declared.fault.LoadFault.{LoadFault}
use Rattle.wh_text_catalogue.specs.Definitions.{ViewOf}
use Rattle.wh_text_lines.specs.declared.schedule.event.ScheduledEvent.{ScheduledEvent}
use Rattle.wh_text_lines.specs.declared.schedule.event.ScheduledEvent.TheVariants as scheduled
use Rattle.wh_text_tables.specs.TableWritten.{table_text}

-- the line of a reply; that memory was refused is told in one word
abbrev pub said_line : Reply → List ℕ
said_line (reply.Refused cause.Memory) = line (codes "memory")
said_line r = reply_line r

-- the columns of a view among these, none where there is no such view
abbrev pub columns_among : List ViewOf → Option ℕ → List NamedKind
columns_among views view = unwrap_or (option_map (λ own. own.columns) (option_and_then (slice_get views) view)) []

-- the text of a page of a view: its rows as a table, and a line that tells whether none follows
abbrev pub page_lines : StandingOf → Option ℕ → Shown → List ℕ
page_lines w view page = table_text (columns_among w.views view) w.texts (bag_of page.rows) ++ line (cond page.last (codes "end") (codes "more"))

-- the text of the reply to an event
abbrev pub said_of : StandingOf → ScheduledEvent → Reply → List ℕ
said_of w (scheduled.Read desk view limit) (reply.Page page) = page_lines w view page
said_of w event r = said_line r

-- the text of what is told of a night whose parts came
abbrev pub told_text : NightTold → List ℕ
told_text (told.Fault f) = line (fault_text f)
told_text (told.Broken rule place) = line (codes "broken S" ++ decimal (number_of rule) ++ codes " at " ++ decimal place)
told_text (told.Replied r) = said_line r

-- the text of what is told of a page of a view: its rows as those of a read, a refusal, or a fault of the cells that were given
abbrev pub page_told_text : StandingOf → Option ℕ → Result Reply LoadFault → List ℕ
page_told_text w view (Ok (reply.Page page)) = page_lines w view page
page_told_text w view (Ok r) = said_line r
page_told_text w view (Err f) = line (fault_text f)

-- ---- tables

-- the line of a view: its name, and how many rows it has
abbrev pub size_line : List ℕ → ℕ → List ℕ
size_line name size = name ++ line (codes "," ++ decimal size)

-- the lines of views of these names, of so many rows
abbrev pub size_lines : List (List ℕ) → List ℕ → List ℕ
size_lines (name ∷ names) (size ∷ sizes) = size_line name size ++ size_lines names sizes
size_lines names sizes = []

-- a version behind a space
abbrev pub version_text : ℕ → List ℕ
version_text version = codes " " ++ decimal version

-- the text of how many rows all tables have: a header, a line for each view, and the versions that can be read
abbrev pub tables_text : List (List ℕ) → List ℕ → List ℕ → List ℕ
tables_text names sizes versions = line (codes "view,rows") ++ size_lines names sizes ++ line (codes "versions" ++ flat_map version_text versions)

-- ---- changes

-- the text of the change of a derived view, the view of this number: its name, and by how much each row counts otherwise, as a table is
-- written; of a base view nothing
abbrev pub change_text : StandingOf → ℕ → ViewOf → Bag → List ℕ
change_text w number view change = cond (is_some view.definition) (line (codes "changes " ++ name_of w.names number) ++ table_text view.columns w.texts change) []

-- of these views, the first having this number
abbrev pub change_texts : StandingOf → ℕ → List ViewOf → (ℕ → Bag) → List ℕ
change_texts w number [] change = []
change_texts w number (view ∷ views) change = change_text w number view (change number) ++ change_texts w (number + 1) views change

-- the text of what the open night changes: the change of each derived view, and a line that ends them
abbrev pub changes_text : StandingOf → (ℕ → Bag) → List ℕ
changes_text w change = change_texts w 0 w.views change ++ line (codes "end")
