-- What callers see of a writer, and what holds of it.
use Rattle.std.specs.Prelude.{ℕ, List, [], ◌∷◌, ◌++◌, drop, Option, Some, None}
use Rattle.logbook.specs.Pages.{Book}
use Rattle.wh_store.specs.Operations.{Operation, operation}
use Rattle.wh_store.specs.Ledgers.{Ledger, ledger}
use Rattle.wh_desk.specs.declared.inner.Inner.{Inner}
use Rattle.wh_desk.specs.declared.kept.Kept.{Kept}
use Rattle.wh_desk.specs.declared.kept.Publication.{Publication}
use Rattle.wh_desk.specs.Known.{Known, known}

-- of which warehouse, what it has published and holds, and how many of its give-ups were refused
pub record Writing : Type 0 where
  pub book : Book
  pub ledger : Ledger
  pub refused_ends : ℕ

-- the same but for the count
pub record Written : Type 0 where
  pub book : Book
  pub ledger : Ledger

abbrev pub written : Book → Ledger → Written
written book l = record { book = book; ledger = l }

abbrev pub writing : Written → ℕ → Writing
writing w n = record { book = w.book; ledger = w.ledger; refused_ends = n }

-- what a writer has published, which is what is shown
abbrev pub published : Writing → Known
published w = known w.book w.ledger.of w.ledger.list

abbrev pub and_held : List Publication → Option Publication → List Publication
and_held ps None = ps
and_held ps (Some p) = ps ++ p ∷ []

-- the published copy
abbrev pub copy_of : Inner → Kept
copy_of w = w.raw.desk.shown.value

abbrev pub waiting : Inner → List Publication
waiting w = and_held (drop w.raw.behind w.raw.log.items) w.held

-- the operation that waits
abbrev pub held_of : List Publication → Option Operation
held_of [] = None
held_of (p ∷ ps) = Some (operation p.op)

abbrev pub ledger_in : Kept → List Publication → Ledger
ledger_in x ps = ledger x.front.of x.front.list (held_of ps)

abbrev pub written_of : Inner → Written
written_of w = written (copy_of w).front.book (ledger_in (copy_of w) (waiting w))
