-- The forms of references and literals, as the code tests them.
use Rattle.std.proofs.Common.{◌≡◌, ◌≤◌, ℕ, suc, ◌+◌, Bool, true, false, ◌&&◌, List, [], ◌∷◌, length, take, drop, eqb, Global, String, refl, ap, sym, ◌∙◌, arith}
use Rattle.std.specs.List.{position_or_len}
use Rattle.std.proofs.lemmas.List.{drop_all}
use Rattle.toml.specs.View.{members_view}
use Rattle.toml.specs.declared.value.Value.{Value}
use Rattle.wh_text.specs.NameForm.{is_name}
use Rattle.wh_text_catalogue.specs.ExprForm.{member_count}
use Rattle.wh_text_catalogue.specs.Reference.{is_reference}

-- a table has as many keys as its map has entries
pub member_count-entries : (entries : List (String Global × Value)) → member_count (members_view entries) ≡ length entries
member_count-entries [] = refl
member_count-entries (entry ∷ rest) = ap suc (member_count-entries rest)

no_name : false ≡ is_name []
unfolding is_name
no_name = refl

and_false : (b : Bool) → false ≡ (b && false)
and_false true = refl
and_false false = refl

-- a text without a dot is no reference
pub is_reference-no_dot : (text : List ℕ) → position_or_len (λ byte. eqb byte 46) text ≡ length text → false ≡ is_reference text
is_reference-no_dot text none =
    let n = position_or_len (λ byte. eqb byte 46) text in
    let past : length text ≤ n + 1 = omega (arith, none) in
    let empty : drop (n + 1) text ≡ [] = drop_all (n + 1) text past in
    and_false (is_name (take n text)) ∙ ap (λ b. is_name (take n text) && b) (no_name ∙ ap is_name (sym empty))
