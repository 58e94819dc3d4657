-- The rule of the history, and what its step tells.
use Rattle.std.specs.Prelude.{ℕ, ◌≡◌, ◌+◌, true, List, [], ◌∷◌, ◌++◌, length}
use Rattle.logbook.specs.Pages.{Cell, Step, View, Book, Named}
use Rattle.wh_desk.specs.declared.history.Chapter.{Chapter}
use Rattle.wh_desk.specs.Inner.Known.{IsLog}

-- the word is the number of operations, which stand after what the warehouse began with
pub record IsKept (cells : List Cell) (log : List Chapter) : Type 0 where
  pub count : ℕ
  pub word : cells ≡ (count, true) ∷ []
  pub whole : length log ≡ count + 1
  pub story : IsLog log

abbrev pub word_of : Book → Named
word_of b = record { tracked = true; key = 0; book = b }

-- where the word had the expected number, the operation was added to all that had been seen
abbrev pub Adds : Step Chapter → View Chapter ℕ → ℕ → View Chapter ℕ → Type 0
Adds s v found w = found ≡ s.old → w.0 ≡ v.0 ++ s.ask ∷ []
