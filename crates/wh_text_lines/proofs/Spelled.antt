-- Words in memory, as an expression is read from them.
use Rattle.std.proofs.Common.{◌≡◌, ℕ, ◌+◌, ◌<◌, true, if◌then◌else◌, List, [], ◌∷◌, ◌++◌, length, map, drop, get_or, Option, Some, None, option_map, Bor, refl, ap, sym, ◌∙◌, arith, suc}
use Rattle.std.specs.Prelude.{option_and_then}
use Rattle.std.proofs.Math.Seq.{drop-cons}
use Rattle.std.proofs.lemmas.List.{append_assoc, get_or-map, drop-map}
use Rattle.wh_dag.specs.Written.{number_of}
use Rattle.wh_text_lines.specs.ExpressionText.{views_of, is_comp, is_inst, target_in, sources_in, comp_from, comp_of, inst_of}
use Rattle.wh_strategy.specs.declared.expression.Expression.TheVariants.{Inst}

-- the bytes of words in memory
abbrev pub spelled : List (Bor (List ℕ)) → List (List ℕ)
spelled words = map (λ word. word.now) words

one_view : (done : List ℕ) (view : ℕ) (rest : Option (List ℕ)) → option_map (λ views. done ++ views) (option_map (λ views. view ∷ views) rest) ≡ option_map (λ views. (done ++ view ∷ []) ++ views) rest
one_view done view None = refl
one_view done view (Some views) = ap Some (sym (append_assoc done (view ∷ []) views))

from_place : (words : List (Bor (List ℕ))) (i : ℕ) (d : Bor (List ℕ)) → i < length words → spelled (drop i words) ≡ (get_or words i d).now ∷ spelled (drop (i + 1) words)
from_place words i d within = let e : suc i ≡ i + 1 = omega arith in ap spelled (drop-cons words i d within) ∙ ap (λ n. (get_or words i d).now ∷ spelled (drop n words)) e

-- a word that is no view's
pub views_of-none : (names : List (List ℕ)) (words : List (Bor (List ℕ))) (i : ℕ) (d : Bor (List ℕ)) (done : List ℕ) → i < length words
    → None ≡ number_of names (get_or words i d).now → option_map (λ views. done ++ views) (views_of names (spelled (drop i words))) ≡ None
views_of-none names words i d done within none =
    ap (λ ws. option_map (λ views. done ++ views) (views_of names ws)) (from_place words i d within)
    ∙ ap (λ o. option_map (λ views. done ++ views) (option_and_then (λ view. option_map (λ views. view ∷ views) (views_of names (spelled (drop (i + 1) words)))) o)) (sym none)

-- a word that is a view's
pub views_of-some : (names : List (List ℕ)) (words : List (Bor (List ℕ))) (i : ℕ) (d : Bor (List ℕ)) (done : List ℕ) (view : ℕ) → i < length words
    → Some view ≡ number_of names (get_or words i d).now
    → option_map (λ views. done ++ views) (views_of names (spelled (drop i words))) ≡ option_map (λ views. (done ++ view ∷ []) ++ views) (views_of names (spelled (drop (i + 1) words)))
views_of-some names words i d done view within some =
    ap (λ ws. option_map (λ views. done ++ views) (views_of names ws)) (from_place words i d within)
    ∙ ap (λ o. option_map (λ views. done ++ views) (option_and_then (λ view. option_map (λ views. view ∷ views) (views_of names (spelled (drop (i + 1) words)))) o)) (sym some)
    ∙ one_view done view (views_of names (spelled (drop (i + 1) words)))

second : (words : List (Bor (List ℕ))) (d : Bor (List ℕ)) → 1 < length words → target_in (spelled words) ≡ (get_or words 1 d).now
second words d within = get_or-map (λ word. word.now) words 1 d [] within

-- words of the form of an Inst
pub inst_of-form : (names : List (List ℕ)) (words : List (Bor (List ℕ))) (d : Bor (List ℕ)) → true ≡ is_inst (spelled words) → 1 < length words
    → inst_of names (spelled words) ≡ option_map Inst (number_of names (get_or words 1 d).now)
inst_of-form names words d form within =
    ap (λ b. if b then option_map Inst (number_of names (target_in (spelled words))) else None) (sym form)
    ∙ ap (λ word. option_map Inst (number_of names word)) (second words d within)

-- words of the form of a Comp
pub comp_of-form : (names : List (List ℕ)) (words : List (Bor (List ℕ))) (d : Bor (List ℕ)) → true ≡ is_comp (spelled words) → 3 < length words
    → comp_of names (spelled words) ≡ comp_from (number_of names (get_or words 1 d).now) (views_of names (spelled (drop 3 words)))
comp_of-form names words d form within =
    ap (λ b. if b then comp_from (number_of names (target_in (spelled words))) (views_of names (sources_in (spelled words))) else None) (sym form)
    ∙ ap (λ word. comp_from (number_of names word) (views_of names (sources_in (spelled words)))) (second words d (omega (arith, within)))
    ∙ ap (λ sources. comp_from (number_of names (get_or words 1 d).now) (views_of names sources)) (drop-map (λ word. word.now) 3 words)
