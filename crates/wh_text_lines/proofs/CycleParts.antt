-- The parts of a cycle's line in memory, as its expressions are read from them.
use Rattle.std.proofs.Common.{◌≡◌, ℕ, ◌+◌, ◌<◌, List, [], ◌∷◌, ◌++◌, length, map, drop, get_or, Option, Some, None, option_map, Bor, refl, ap, sym, ◌∙◌, arith, suc}
use Rattle.std.specs.Prelude.{option_and_then}
use Rattle.std.proofs.Math.Seq.{drop-cons}
use Rattle.std.proofs.lemmas.List.{append_assoc}
use Rattle.wh_strategy.specs.declared.expression.Expression.{Expression}
use Rattle.wh_text_lines.specs.ExpressionText.{expression_of}
use Rattle.wh_text_lines.specs.NodeLine.{expressions_of}
use Rattle.wh_text_lines.specs.Words.{words_of}

-- the words of each part
abbrev pub parted : List (Bor (List ℕ)) → List (List (List ℕ))
parted parts = map words_of (map (λ part. part.now) parts)

from_part : (parts : List (Bor (List ℕ))) (i : ℕ) (d : Bor (List ℕ)) → i < length parts → parted (drop i parts) ≡ words_of (get_or parts i d).now ∷ parted (drop (i + 1) parts)
from_part parts i d within = let e : suc i ≡ i + 1 = omega arith in ap parted (drop-cons parts i d within) ∙ ap (λ n. words_of (get_or parts i d).now ∷ parted (drop n parts)) e

one_expression : (done : List Expression) (own : Expression) (rest : Option (List Expression))
    → option_map (λ more. done ++ more) (option_map (λ expressions. own ∷ expressions) rest) ≡ option_map (λ more. (done ++ own ∷ []) ++ more) rest
one_expression done own None = refl
one_expression done own (Some more) = ap Some (sym (append_assoc done (own ∷ []) more))

-- a part that says no expression
pub parts-none : (names : List (List ℕ)) (parts : List (Bor (List ℕ))) (i : ℕ) (d : Bor (List ℕ)) (done : List Expression) → i < length parts
    → None ≡ expression_of names (words_of (get_or parts i d).now) → option_map (λ more. done ++ more) (expressions_of names (parted (drop i parts))) ≡ None
parts-none names parts i d done within none =
    ap (λ ws. option_map (λ more. done ++ more) (expressions_of names ws)) (from_part parts i d within)
    ∙ ap (λ o. option_map (λ more. done ++ more) (option_and_then (λ own. option_map (λ expressions. own ∷ expressions) (expressions_of names (parted (drop (i + 1) parts)))) o)) (sym none)

-- a part that says one
pub parts-some : (names : List (List ℕ)) (parts : List (Bor (List ℕ))) (i : ℕ) (d : Bor (List ℕ)) (done : List Expression) (own : Expression) → i < length parts
    → Some own ≡ expression_of names (words_of (get_or parts i d).now)
    → option_map (λ more. done ++ more) (expressions_of names (parted (drop i parts))) ≡ option_map (λ more. (done ++ own ∷ []) ++ more) (expressions_of names (parted (drop (i + 1) parts)))
parts-some names parts i d done own within some =
    ap (λ ws. option_map (λ more. done ++ more) (expressions_of names ws)) (from_part parts i d within)
    ∙ ap (λ o. option_map (λ more. done ++ more) (option_and_then (λ own. option_map (λ expressions. own ∷ expressions) (expressions_of names (parted (drop (i + 1) parts)))) o)) (sym some)
    ∙ one_expression done own (expressions_of names (parted (drop (i + 1) parts)))
