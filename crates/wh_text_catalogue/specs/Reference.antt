-- References to columns: the child's name, a dot, and the column's name.
use Rattle.std.specs.Prelude.{ℕ, List, Bool, ◌==◌, ◌&&◌}
use Rattle.std.specs.List.{before_first, after_first}
use Rattle.wh_text.specs.NameForm.{is_name}

-- the dot
abbrev pub dot : ℕ
dot = 46

-- the text is two names with one dot between them: no name has a dot, so the first is the only one
abbrev pub is_reference : List ℕ → Bool
is_reference text = is_name (before_first (λ byte. byte == dot) text) && is_name (after_first (λ byte. byte == dot) text)
