-- A line of a plan, as it follows others.
use Rattle.std.proofs.Common.{◌≡◌, ℕ, Bool, true, false, List, [], ◌∷◌, ◌++◌, Option, Some, None, refl, ap, sym, ◌∙◌}
use Rattle.std.specs.Prelude.{◌&&◌, ◌||◌, is_some, if◌then◌else◌}
use Rattle.std.specs.List.{list_any}
use Rattle.std.proofs.lemmas.List.Folds.{list_any-append}
use Rattle.wh_text_lines.specs.ListedLines.{if_follows}
use Rattle.wh_text_lines.specs.PlanText.{is_certifying, may_follow, may_stand, nodes_in, nodes_of}
use Rattle.wh_text_lines.specs.TreeGrowth.{after_nodes, places_after}
use Rattle.wh_text_lines.specs.declared.plan.line.PlanLine.{PlanLine}
use Rattle.wh_text_lines.proofs.TreeGrowths.{places-line}

-- whether lines with one more have one of the certificate
pub certifying-line : (before : List PlanLine) (line : PlanLine) → list_any is_certifying (before ++ line ∷ []) ≡ (list_any is_certifying before || is_certifying line)
certifying-line before line = list_any-append is_certifying before (line ∷ []) ∙ ap (λ b. list_any is_certifying before || b) (or-false (is_certifying line))
  where
    or-false : (b : Bool) → (b || false) ≡ b
    or-false true = refl
    or-false false = refl

-- a line of a kind that may stand here, by the places that its node leaves
pub if_follows-places : (before : List PlanLine) (line : PlanLine) (places : List ℕ) (after : Option (List ℕ)) → true ≡ may_stand before line
    → places_after (nodes_of before) ≡ Some places → after ≡ after_nodes (nodes_in line) places
    → if_follows may_follow before (Some line) ≡ (if is_some after then Some (before ++ line ∷ []) else None)
if_follows-places before line places after stands left taken =
    ap (λ (b : Bool). if b && is_some (places_after (nodes_of (before ++ line ∷ []))) then Some (before ++ line ∷ []) else None) (sym stands)
    ∙ ap (λ own. if is_some own then Some (before ++ line ∷ []) else None) (places-line before line places left ∙ sym taken)
