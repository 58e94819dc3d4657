-- Parts dealt out to views, one view more.
use Rattle.std.proofs.Common.{◌≡◌, ℕ, zero, suc, ◌+◌, ◌<◌, ◌==◌, ◌↔◌, true, false, List, [], ◌∷◌, ◌++◌, length, drop, get_or, refl, ap, sym, ◌∙◌, arith, append_assoc, Option, Some, None}
use Rattle.std.specs.Prelude.{option_to_list, unwrap_or, IsSome}
use Rattle.std.proofs.lemmas.List.{drop_more}
use Rattle.std.proofs.lemmas.Bool.{both_ways}
use Rattle.std.proofs.lemmas.Bool.Decides.{Decides-eqb}
use Rattle.wh_dag.specs.Shape.{children_of}
use Rattle.wh_dag.specs.Catalog.{DefinitionOf, columns}
use Rattle.wh_dag.specs.CatalogParts.{dealt_definitions, dealt_widths}

-- what was made so far, with what the rest makes, is the whole; so it is after one more
pub one_more : {A : Type 0} (made more : List A) (x : A) (rest rest-more whole : List A) → made ++ rest ≡ whole → rest ≡ x ∷ rest-more →
    more ≡ made ++ x ∷ [] → more ++ rest-more ≡ whole
one_more made more x rest rest-more whole h r m =
    ap (λ xs. xs ++ rest-more) m ∙ append_assoc made (x ∷ []) rest-more ∙ ap (λ ys. made ++ ys) (sym r) ∙ h

-- an iterator that gave nothing had nothing left
pub no_more : {A : Type 0} (r : Option A) (n : ℕ) (xs : List A) → IsSome r ↔ (0 < n) → n ≡ length xs → r ≡ None → length xs ≡ 0
no_more (Some x) n xs v e h = cc
no_more None zero xs v e h = sym e
no_more None (suc n) xs v e h = absurd (let some : false ≡ true = v.1 (omega arith) in both_ways false refl some)

-- what is left is as long as before, less what was given
pub left_after : {A : Type 0} (r : Option A) (m n : ℕ) (xs ys : List A) → m + length (option_to_list r) ≡ n →
    xs ≡ option_to_list r ++ ys → n ≡ length xs → m ≡ length ys
left_after None m n xs ys a b e = let same : length xs ≡ length ys = ap length b in let a' : m + 0 ≡ n = a in omega arith
left_after (Some x) m n xs ys a b e =
    let same : length xs ≡ suc (length ys) = ap length b in let a' : m + 1 ≡ n = a in omega arith

none_left : (given : List DefinitionOf) → length given ≡ 0 → given ≡ []
none_left [] e = refl
none_left (d ∷ given) e = absurd (let n : suc (length given) ≡ 0 = e in omega arith)

base_next : (own : List ℕ) (shape : List (List ℕ)) (given : List DefinitionOf) → (length own == 0) ≡ true →
    dealt_definitions (own ∷ shape) given ≡ None ∷ dealt_definitions shape given
base_next [] shape given e = refl
base_next (u ∷ us) shape given e =
    absurd (let none : suc (length us) ≡ 0 = (Decides-eqb (suc (length us)) 0).0 e in omega arith)

derived_next : (own : List ℕ) (shape : List (List ℕ)) (given left : List DefinitionOf) (d : Option DefinitionOf) → (length own == 0) ≡ false →
    given ≡ option_to_list d ++ left → (d ≡ None → length given ≡ 0) →
    dealt_definitions (own ∷ shape) given ≡ d ∷ dealt_definitions shape left
derived_next [] shape given left d e s n = cc
derived_next (u ∷ us) shape given left None e s n =
    let none : given ≡ [] = none_left given (n refl) in
    rw (← s, none) refl
derived_next (u ∷ us) shape given left (Some d) e s n = rw s refl

-- a base view has no definition
pub dealt_base : (shape : List (List ℕ)) (view : ℕ) (given : List DefinitionOf) (own : List ℕ) → view < length shape → own ≡ children_of shape view →
    (length own == 0) ≡ true →
    dealt_definitions (drop view shape) given ≡ None ∷ dealt_definitions (drop (view + 1) shape) given
unfolding children_of
dealt_base shape view given own l o e =
    ap (λ s. dealt_definitions s given) (drop_more shape view [] l)
    ∙ base_next (get_or shape view []) (drop (view + 1) shape) given (rw (← o) e)

-- a derived view has the next one
pub dealt_derived : (shape : List (List ℕ)) (view : ℕ) (given left : List DefinitionOf) (d : Option DefinitionOf) (own : List ℕ) → view < length shape →
    own ≡ children_of shape view → (length own == 0) ≡ false →
    given ≡ option_to_list d ++ left → (d ≡ None → length given ≡ 0) →
    dealt_definitions (drop view shape) given ≡ d ∷ dealt_definitions (drop (view + 1) shape) left
unfolding children_of
dealt_derived shape view given left d own l o e s n =
    ap (λ x. dealt_definitions x given) (drop_more shape view [] l)
    ∙ derived_next (get_or shape view []) (drop (view + 1) shape) given left d (rw (← o) e) s n

no_width_left : (given : List ℕ) → length given ≡ 0 → given ≡ []
no_width_left [] e = refl
no_width_left (w ∷ given) e = absurd (let n : suc (length given) ≡ 0 = e in omega arith)

-- the list from an item on
pub from_item : {A : Type 0} (xs : List A) (i : ℕ) (x : A) → i < length xs → x ≡ get_or xs i x → drop i xs ≡ x ∷ drop (i + 1) xs
from_item xs i x l e = drop_more xs i x l ∙ ap (λ y. y ∷ drop (i + 1) xs) (sym e)

-- a derived view has the columns of its definition
pub width_defined : (definitions rest : List (Option DefinitionOf)) (own : Option DefinitionOf) (d : DefinitionOf) (given : List ℕ) →
    definitions ≡ own ∷ rest → own ≡ Some d →
    dealt_widths definitions given ≡ columns d.output ∷ dealt_widths rest given
width_defined definitions rest own d given h e = rw (h, e) refl

width_next : (rest : List (Option DefinitionOf)) (given left : List ℕ) (w : Option ℕ) →
    given ≡ option_to_list w ++ left → (w ≡ None → length given ≡ 0) →
    dealt_widths (None ∷ rest) given ≡ unwrap_or w 0 ∷ dealt_widths rest left
width_next rest given left None s n =
    let none : given ≡ [] = no_width_left given (n refl) in
    rw (← s, none) refl
width_next rest given left (Some w) s n = rw s refl

-- a base view has the next width
pub width_given : (definitions rest : List (Option DefinitionOf)) (own : Option DefinitionOf) (given left : List ℕ) (w : Option ℕ) →
    definitions ≡ own ∷ rest → own ≡ None → given ≡ option_to_list w ++ left → (w ≡ None → length given ≡ 0) →
    dealt_widths definitions given ≡ unwrap_or w 0 ∷ dealt_widths rest left
width_given definitions rest own given left w h e s n = rw (h, e) (width_next rest given left w s n)
