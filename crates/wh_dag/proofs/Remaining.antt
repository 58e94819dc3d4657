-- Parts that fit together, view by view: what is left of them has to fit the views that are left.
use Rattle.std.proofs.Common.{◌≡◌, ℕ, suc, ◌+◌, ◌<◌, ◌≤◌, ◌==◌, ◌↔◌, true, false, List, [], ◌∷◌, ◌++◌, length, drop, take, set, inl, inr, ◌⊎◌, refl, ap, sym, ◌∙◌, subst, arith}
use Rattle.std.proofs.lemmas.List.{drop_more, drop_all, take_more_set}
use Rattle.std.proofs.lemmas.Bool.{both_ways}
use Rattle.std.proofs.lemmas.Bool.Decides.{Decides-eqb}
use Rattle.wh_dag.specs.Shape.{children_of}
use Rattle.wh_dag.specs.Catalog.{DefinitionOf, IsDefinition, columns, total_width}

-- a definition over rows of these views, after views of these widths, with 1 to 64 columns
pub record IsNext (seen own : List ℕ) (definition : DefinitionOf) : Type 0 where
  pub width : definition.width ≡ total_width seen own
  pub some : 1 ≤ columns definition.output
  pub few : columns definition.output ≤ 64
  pub within : IsDefinition definition

-- these widths and definitions are for these views, after views of the widths seen
abbrev pub Rest : List ℕ → List (List ℕ) → List ℕ → List DefinitionOf → Type 0
Rest seen [] ws ds = ([] ≡ ws) × ([] ≡ ds)
Rest seen ([] ∷ shape) [] ds = false ≡ true
Rest seen ([] ∷ shape) (w ∷ ws) ds = (1 ≤ w) × (w ≤ 64) × Rest (seen ++ w ∷ []) shape ws ds
Rest seen ((u ∷ us) ∷ shape) ws [] = false ≡ true
Rest seen ((u ∷ us) ∷ shape) ws (d ∷ ds) = IsNext seen (u ∷ us) d × Rest (seen ++ columns d.output ∷ []) shape ws ds

not_empty : (u : ℕ) (us : List ℕ) → (length (u ∷ us) == 0) ≡ true → false ≡ true
not_empty u us e = absurd (let none : suc (length us) ≡ 0 = (Decides-eqb (suc (length us)) 0).0 e in omega arith)

pub base_step : (seen own : List ℕ) (shape : List (List ℕ)) (w : ℕ) (ws : List ℕ) (ds : List DefinitionOf) → (length own == 0) ≡ true →
    Rest seen (own ∷ shape) (w ∷ ws) ds ↔ ((1 ≤ w) × (w ≤ 64) × Rest (seen ++ w ∷ []) shape ws ds)
base_step seen [] shape w ws ds e = (λ r. r, λ r. r)
base_step seen (u ∷ us) shape w ws ds e = absurd (both_ways false refl (not_empty u us e))

pub no_width : (seen own : List ℕ) (shape : List (List ℕ)) (ds : List DefinitionOf) → (length own == 0) ≡ true →
    Rest seen (own ∷ shape) [] ds → false ≡ true
no_width seen [] shape ds e r = r
no_width seen (u ∷ us) shape ds e r = not_empty u us e

pub derived_step : (seen own : List ℕ) (shape : List (List ℕ)) (ws : List ℕ) (d : DefinitionOf) (ds : List DefinitionOf) →
    (length own == 0) ≡ false →
    Rest seen (own ∷ shape) ws (d ∷ ds) ↔ (IsNext seen own d × Rest (seen ++ columns d.output ∷ []) shape ws ds)
derived_step seen [] shape ws d ds e = absurd (both_ways _ e refl)
derived_step seen (u ∷ us) shape ws d ds e = (λ r. r, λ r. r)

pub no_definition : (seen own : List ℕ) (shape : List (List ℕ)) (ws : List ℕ) → (length own == 0) ≡ false →
    Rest seen (own ∷ shape) ws [] → false ≡ true
no_definition seen [] shape ws e r = absurd (both_ways _ e refl)
no_definition seen (u ∷ us) shape ws e r = r

-- the views from one on
pub from_view : (shape : List (List ℕ)) (view : ℕ) → view < length shape → drop view shape ≡ children_of shape view ∷ drop (view + 1) shape
unfolding children_of
from_view shape view l = drop_more shape view [] l

nothing : {A : Type 0} (xs : List A) → length xs ≡ 0 → [] ≡ xs
nothing [] e = refl
nothing (x ∷ xs) e = absurd (let n : suc (length xs) ≡ 0 = e in omega arith)

-- the rest of the views begins with this one
at_view : (shape : List (List ℕ)) (view : ℕ) (own : List ℕ) → view < length shape → own ≡ children_of shape view →
    drop view shape ≡ own ∷ drop (view + 1) shape
at_view shape view own l o = from_view shape view l ∙ ap (λ xs. xs ∷ drop (view + 1) shape) (sym o)

-- a base view with no width left
pub stuck_width : (shape : List (List ℕ)) (view : ℕ) (seen own ws : List ℕ) (ds : List DefinitionOf) → view < length shape →
    own ≡ children_of shape view → (length own == 0) ≡ true → length ws ≡ 0 → Rest seen (drop view shape) ws ds → false ≡ true
stuck_width shape view seen own ws ds l o e n r =
    no_width seen own (drop (view + 1) shape) ds e
    (subst (λ xs. Rest seen (own ∷ drop (view + 1) shape) xs ds) (sym (nothing ws n))
    (subst (λ s. Rest seen s ws ds) (at_view shape view own l o) r))

-- a derived view with no definition left
pub stuck_definition : (shape : List (List ℕ)) (view : ℕ) (seen own ws : List ℕ) (ds : List DefinitionOf) → view < length shape →
    own ≡ children_of shape view → (length own == 0) ≡ false → length ds ≡ 0 → Rest seen (drop view shape) ws ds → false ≡ true
stuck_definition shape view seen own ws ds l o e n r =
    no_definition seen own (drop (view + 1) shape) ws e
    (subst (λ xs. Rest seen (own ∷ drop (view + 1) shape) ws xs) (sym (nothing ds n))
    (subst (λ s. Rest seen s ws ds) (at_view shape view own l o) r))

-- a base view with its width
pub next_width : (shape : List (List ℕ)) (view : ℕ) (seen own ws : List ℕ) (w : ℕ) (left : List ℕ) (ds : List DefinitionOf) → view < length shape →
    own ≡ children_of shape view → (length own == 0) ≡ true → ws ≡ w ∷ left →
    Rest seen (drop view shape) ws ds ↔ ((1 ≤ w) × (w ≤ 64) × Rest (seen ++ w ∷ []) (drop (view + 1) shape) left ds)
next_width shape view seen own ws w left ds l o e h =
    rw (at_view shape view own l o, h) (base_step seen own (drop (view + 1) shape) w left ds e)

-- a derived view with its definition
pub next_definition : (shape : List (List ℕ)) (view : ℕ) (seen own ws : List ℕ) (ds : List DefinitionOf) (d : DefinitionOf) (left : List DefinitionOf) →
    view < length shape → own ≡ children_of shape view → (length own == 0) ≡ false → ds ≡ d ∷ left →
    Rest seen (drop view shape) ws ds ↔ (IsNext seen own d × Rest (seen ++ columns d.output ∷ []) (drop (view + 1) shape) ws left)
next_definition shape view seen own ws ds d left l o e h =
    rw (at_view shape view own l o, h) (derived_step seen own (drop (view + 1) shape) ws d left e)

-- no view is left
pub at_end : (shape : List (List ℕ)) (view : ℕ) (seen ws : List ℕ) (ds : List DefinitionOf) → length shape ≤ view →
    Rest seen (drop view shape) ws ds ↔ ((length ws ≡ 0) × (length ds ≡ 0))
at_end shape view seen ws ds l =
    rw (drop_all view shape l)
    (λ r. (sym (ap length r.0), sym (ap length r.1)), λ n. (nothing ws n.0, nothing ds n.1))

-- a number of columns that is too low or too high
pub bad_columns : (columns n : ℕ) → columns ≡ n → (columns < 1) ⊎ ((1 ≤ columns) × (64 < columns)) → 1 ≤ n → n ≤ 64 → false ≡ true
bad_columns columns n e bad some few =
    elim bad [
      | inl low ↦ absurd (omega arith)
      | inr high ↦ absurd (let above : 64 < columns = high.1 in omega arith)
    ]

-- what is left after a base view
pub pass_width : {P : Type 0} (shape : List (List ℕ)) (view : ℕ) (widths own ws : List ℕ) (w : ℕ) (left : List ℕ) (ds : List DefinitionOf) →
    view < length shape → view < length widths → own ≡ children_of shape view → (length own == 0) ≡ true → ws ≡ w ∷ left → 1 ≤ w → w ≤ 64 →
    P ↔ Rest (take view widths) (drop view shape) ws ds →
    P ↔ Rest (take (view + 1) (set widths view w)) (drop (view + 1) shape) left ds
pass_width shape view widths own ws w left ds l m o e h some few now =
    let step = next_width shape view (take view widths) own ws w left ds l o e h in
    rw (take_more_set widths view w m)
    (λ p. (step.0 (now.0 p)).2, λ r. now.1 (step.1 (some, few, r)))

-- what is left after a derived view
pub pass_definition : {P : Type 0} (shape : List (List ℕ)) (view : ℕ) (widths own ws : List ℕ) (ds : List DefinitionOf) (d : DefinitionOf) (left : List DefinitionOf) →
    view < length shape → view < length widths → own ≡ children_of shape view → (length own == 0) ≡ false → ds ≡ d ∷ left →
    IsNext (take view widths) own d →
    P ↔ Rest (take view widths) (drop view shape) ws ds →
    P ↔ Rest (take (view + 1) (set widths view (columns d.output))) (drop (view + 1) shape) ws left
pass_definition shape view widths own ws ds d left l m o e h next now =
    let step = next_definition shape view (take view widths) own ws ds d left l o e h in
    rw (take_more_set widths view (columns d.output) m)
    (λ p. (step.0 (now.0 p)).1, λ r. now.1 (step.1 (next, r)))
