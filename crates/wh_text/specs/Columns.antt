-- The columns of a view, as contracts see them.
use Rattle.std.specs.Prelude.{◌≢◌, ℕ, List, String, string_bytes, map}
use Rattle.std.specs.List.{AllPairs, AllPass}
use Rattle.std.specs.declared.alloc.Global.{Global}
use Rattle.wh_text.specs.NameForm.{is_name}
use Rattle.wh_text.specs.declared.columns.Kind.{Kind}

-- a column: the bytes of its name, and the kind of its cells
pub record NamedKind : Type 0 where
  pub name : List ℕ
  pub kind : Kind

-- the column with the name that this text is
abbrev pub named_kind : String Global → Kind → NamedKind
named_kind text kind = record { name = string_bytes text; kind = kind }

-- the names of columns
abbrev pub names_of : List NamedKind → List (List ℕ)
names_of columns = map (λ column. column.name) columns

-- the kinds of columns
abbrev pub kinds_of : List NamedKind → List Kind
kinds_of columns = map (λ column. column.kind) columns

-- the columns of a view have names of the form of names, none of them twice
pub record AreNamed (columns : List NamedKind) : Type 0 where
  pub formed : AllPass is_name (names_of columns)
  pub distinct : AllPairs (λ first second. first ≢ second) (names_of columns)
