-- The form of an expression, level by level.
use Rattle.std.specs.Prelude.{ℕ, ℤ, zero, suc, List, [], ◌∷◌, Bool, true, false, ◌==◌, ◌&&◌, if◌then◌else◌, Option, Some, None, option_map, option_and_then, codes}
use Rattle.std.specs.Str.{bytes_eq}
use Rattle.toml.specs.Data.{Data, string, integer, array, table, Members, no_members, member, as_str, get_member}
use Rattle.wh_text_catalogue.specs.Catalogue.{elements}
use Rattle.wh_text_catalogue.specs.Reference.{is_reference}
use Rattle.wh_text_catalogue.specs.declared.definitions.expr_form.Sign.{Sign}
use Rattle.wh_text_catalogue.specs.declared.definitions.expr_form.Sign.TheVariants.{Plus, Minus, Times}

-- the first level of an expression
pub data WrittenExpr : Type 0 where
  Number : ℤ → WrittenExpr
  Reference : List ℕ → WrittenExpr
  Literal : List ℕ → WrittenExpr
  Operation : Sign → Data → Data → WrittenExpr

-- the operation that a text stands for
abbrev pub sign_of : List ℕ → Option Sign
sign_of text =
    if bytes_eq text (codes "+") then Some Plus
    else (if bytes_eq text (codes "-") then Some Minus else (if bytes_eq text (codes "*") then Some Times else None))

-- an operation on two parts: its sign, the left part, the right part
abbrev pub operation_of : List Data → Option WrittenExpr
operation_of (string text ∷ left ∷ right ∷ []) = option_map (λ sign. Operation sign left right) (sign_of text)
operation_of _ = None

-- how many keys a table has
abbrev pub member_count : Members → ℕ
member_count no_members = 0
member_count (member key value rest) = suc (member_count rest)

-- a text literal: the key `text`, which has a text, and no other key
abbrev pub literal_of : Members → Option WrittenExpr
literal_of members =
    if member_count members == 1 then option_map Literal (option_and_then as_str (get_member (codes "text") members)) else None

-- a whole number, a reference, a text literal, or an operation on two parts of any form
abbrev pub expr_form : Data → Option WrittenExpr
expr_form (integer n) = Some (Number n)
expr_form (string text) = if is_reference text then Some (Reference text) else None
expr_form (table members) = literal_of members
expr_form (array parts) = operation_of (elements parts)
expr_form _ = None

-- the parts of this form pass, where it has any
abbrev pub parts_pass : (Data → Bool) → Option WrittenExpr → Bool
parts_pass passes None = false
parts_pass passes (Some (Operation sign left right)) = passes left && passes right
parts_pass passes (Some _) = true

-- an expression of at most so many levels
abbrev pub is_expr : ℕ → Data → Bool
is_expr zero value = false
is_expr (suc levels) value = parts_pass (is_expr levels) (expr_form value)
