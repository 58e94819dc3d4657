-- The form of a predicate, level by level.
use Rattle.std.specs.Prelude.{ℕ, zero, suc, List, [], ◌∷◌, Bool, true, false, ◌&&◌, if◌then◌else◌, Option, Some, None, option_map, codes}
use Rattle.std.specs.List.{list_all}
use Rattle.std.specs.Str.{bytes_eq}
use Rattle.toml.specs.Data.{Data, string, boolean, array}
use Rattle.wh_formula.specs.declared.comparison.Comparison.{Comparison}
use Rattle.wh_formula.specs.declared.comparison.Comparison.TheVariants as op
use Rattle.wh_text_catalogue.specs.Catalogue.{elements}
use Rattle.wh_text_catalogue.specs.ExprForm.{is_expr}

-- the first level of a predicate
pub data WrittenPred : Type 0 where
  Always : WrittenPred
  Compare : Comparison → Data → Data → WrittenPred
  All : List Data → WrittenPred
  Any : List Data → WrittenPred
  Not : Data → WrittenPred

-- the comparison that a text stands for
abbrev pub comparison_of : List ℕ → Option Comparison
comparison_of text =
    if bytes_eq text (codes "=") then Some op.Equal
    else (if bytes_eq text (codes "<>") then Some op.NotEqual
    else (if bytes_eq text (codes "<") then Some op.Less
    else (if bytes_eq text (codes "<=") then Some op.LessOrEqual
    else (if bytes_eq text (codes ">") then Some op.Greater
    else (if bytes_eq text (codes ">=") then Some op.GreaterOrEqual else None)))))

-- a comparison of two expressions
abbrev pub compare_of : List ℕ → List Data → Option WrittenPred
compare_of text (left ∷ right ∷ []) = option_map (λ comparison. Compare comparison left right) (comparison_of text)
compare_of text _ = None

-- the contrary of one predicate
abbrev pub not_of : List Data → Option WrittenPred
not_of (part ∷ []) = Some (Not part)
not_of _ = None

-- what stands under this word: any number of predicates, one, or two expressions
abbrev pub headed : List ℕ → List Data → Option WrittenPred
headed word parts =
    if bytes_eq word (codes "all") then Some (All parts)
    else (if bytes_eq word (codes "any") then Some (Any parts)
    else (if bytes_eq word (codes "not") then not_of parts else compare_of word parts))

-- a word, and what stands under it
abbrev pub compound_of : List Data → Option WrittenPred
compound_of (string word ∷ parts) = headed word parts
compound_of _ = None

-- `true`, or a word with parts of any form
abbrev pub pred_form : Data → Option WrittenPred
pred_form (boolean true) = Some Always
pred_form (array parts) = compound_of (elements parts)
pred_form _ = None

-- the parts of this form pass: expressions and predicates
abbrev pub pred_parts_pass : (Data → Bool) → (Data → Bool) → Option WrittenPred → Bool
pred_parts_pass expr pred None = false
pred_parts_pass expr pred (Some Always) = true
pred_parts_pass expr pred (Some (Compare comparison left right)) = expr left && expr right
pred_parts_pass expr pred (Some (All parts)) = list_all pred parts
pred_parts_pass expr pred (Some (Any parts)) = list_all pred parts
pred_parts_pass expr pred (Some (Not part)) = pred part

-- a predicate of at most so many levels, those of its expressions among them
abbrev pub is_pred : ℕ → Data → Bool
is_pred zero value = false
is_pred (suc levels) value = pred_parts_pass (is_expr levels) (is_pred levels) (pred_form value)
