-- The columns that a formula names: the second look at it, after its form.
use Rattle.std.specs.Prelude.{ℕ, zero, suc, List, [], ◌∷◌, Option, Some, None, is_some, if◌then◌else◌}
use Rattle.std.specs.Option.{option_or}
use Rattle.toml.specs.Data.{Data}
use Rattle.wh_text.specs.Columns.{NamedKind}
use Rattle.wh_text_catalogue.specs.ExprForm.{WrittenExpr, Reference, Operation, expr_form}
use Rattle.wh_text_catalogue.specs.Header.{cell_of}
use Rattle.wh_text_catalogue.specs.PredForm.{WrittenPred, Compare, All, Any, Not, pred_form}

-- the reference itself, where it names no column
abbrev pub unknown : List NamedKind → List ℕ → Option (List ℕ)
unknown columns reference = if is_some (cell_of columns reference) then None else Some reference

-- the first unknown reference of this level, and of its parts from left to right
abbrev pub unknown_in_form : List NamedKind → (Data → Option (List ℕ)) → Option WrittenExpr → Option (List ℕ)
unknown_in_form columns within (Some (Reference text)) = unknown columns text
unknown_in_form columns within (Some (Operation sign left right)) = option_or (within left) (within right)
unknown_in_form columns within _ = None

-- the first reference of an expression that names no column
abbrev pub unknown_in_expr : List NamedKind → ℕ → Data → Option (List ℕ)
unknown_in_expr columns zero value = None
unknown_in_expr columns (suc levels) value = unknown_in_form columns (unknown_in_expr columns levels) (expr_form value)

-- the first reference to no column that is found in some values, from left to right
abbrev pub first_unknown : (Data → Option (List ℕ)) → List Data → Option (List ℕ)
first_unknown within [] = None
first_unknown within (value ∷ rest) = option_or (within value) (first_unknown within rest)

-- the first unknown reference of this level's parts: expressions and predicates
abbrev pub unknown_in_parts : (Data → Option (List ℕ)) → (Data → Option (List ℕ)) → Option WrittenPred → Option (List ℕ)
unknown_in_parts expr pred (Some (Compare comparison left right)) = option_or (expr left) (expr right)
unknown_in_parts expr pred (Some (All parts)) = first_unknown pred parts
unknown_in_parts expr pred (Some (Any parts)) = first_unknown pred parts
unknown_in_parts expr pred (Some (Not part)) = pred part
unknown_in_parts expr pred _ = None

-- the first reference of a predicate that names no column
abbrev pub unknown_in_pred : List NamedKind → ℕ → Data → Option (List ℕ)
unknown_in_pred columns zero value = None
unknown_in_pred columns (suc levels) value =
    unknown_in_parts (unknown_in_expr columns levels) (unknown_in_pred columns levels) (pred_form value)
