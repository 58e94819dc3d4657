-- The first broken rule of a strategy, and the first fault of an input, are told in one text.
use Rattle.std.proofs.Common.{◌≡◌, ◌+◌, ◌∙◌, ℕ, List, ap, refl, subst, sym, ⊎_elim}
use Rattle.std.proofs.lemmas.Bool.{cases_order}
use Rattle.wh_text.specs.declared.fault.LoadFault.{LoadFault}
use Rattle.wh_strategy.specs.declared.expression.Expression.{Expression}
use Rattle.wh_strategy.specs.declared.rule.Rule.{Rule}
use Rattle.wh_strategy.specs.declared.rule.Rule.TheVariants.{S1, S2, S3, S4, S5, S6}
use Rattle.wh_strategy.specs.Rules.{IsFirstBroken, IsFirstPlace, number_of}
use Rattle.whview.specs.CheckOutput.{IsFaultShown, broken_text}
use Rattle.whview.specs.OneAnswer.{AreSame}

one_index : (rule : Rule) (shape : List (List ℕ)) (list : List Expression) (place other : ℕ) → IsFirstPlace rule shape list place → IsFirstPlace rule shape list other → place ≡ other
one_index rule shape list place other f g =
    ⊎_elim
    (λ same. f.counted ∙ ap (λ i. i + 1) same ∙ sym g.counted)
    (λ apart. ⊎_elim (λ less. absurd (g.first f.index less f.broken)) (λ more. absurd (f.first g.index more g.broken)) apart)
    (cases_order f.index g.index)

one_rule : (rule other : Rule) → number_of rule ≡ number_of other → rule ≡ other
one_rule S1 S1 e = refl
one_rule S2 S2 e = refl
one_rule S3 S3 e = refl
one_rule S4 S4 e = refl
one_rule S5 S5 e = refl
one_rule S6 S6 e = refl
one_rule _ _ e = cc

one_number : (shape : List (List ℕ)) (list : List Expression) (rule other : Rule) (place ended : ℕ) → IsFirstBroken shape list rule place → IsFirstBroken shape list other ended → number_of rule ≡ number_of other
one_number shape list rule other place ended f g =
    ⊎_elim
    (λ same. same)
    (λ apart. ⊎_elim
    (λ less. absurd (g.kept rule less f.there.index f.there.broken))
    (λ more. absurd (f.kept other more g.there.index g.there.broken))
    apart)
    (cases_order (number_of rule) (number_of other))

pub one_broken : (shape : List (List ℕ)) (list : List Expression) (rule other : Rule) (place ended : ℕ) → IsFirstBroken shape list rule place → IsFirstBroken shape list other ended
    → broken_text rule place ≡ broken_text other ended
one_broken shape list rule other place ended f g =
    let same = one_rule rule other (one_number shape list rule other place ended f g) in
    let there = subst (λ r. IsFirstPlace r shape list ended) (sym same) g.there in
    ap (λ r. broken_text r place) same ∙ ap (broken_text other) (one_index rule shape list place ended f.there there)

pub one_shown : (fault : LoadFault) (text other : List ℕ) (status ended : ℕ) → IsFaultShown fault text status → IsFaultShown fault other ended → AreSame text status other ended
one_shown fault text other status ended f g = record { texts = f.printed ∙ sym g.printed; statuses = f.ended ∙ sym g.ended }
