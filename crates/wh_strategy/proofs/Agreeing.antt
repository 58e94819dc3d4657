-- The rules by places and the tests along the list agree.
use Rattle.std.proofs.Common.{◌≡◌, ℕ, ◌+◌, ◌<◌, ◌≤◌, List, [], refl, length, Option, Some, None, ⊎_elim, arith}
use Rattle.std.proofs.lemmas.Option.{slice_get_within}
use Rattle.std.specs.Prelude.{IfNone, IfSome, MatchOption}
use Rattle.std.proofs.lemmas.Bool.{both_ways}
use Rattle.wh_dag.specs.Shape.{IsShape}
use Rattle.wh_strategy.specs.declared.expression.Expression.{Expression}
use Rattle.wh_strategy.specs.declared.rule.Rule.{Rule}
use Rattle.wh_strategy.specs.Rules.{IsCorrect, Breaks, Keeps, IsFirstPlace, IsFirstBroken, number_of}
use Rattle.wh_strategy.specs.Tests.{place_from, Passes}
use Rattle.wh_strategy.specs.Inner.Tests.{PassEach, IsFirstFailed}
use Rattle.wh_strategy.proofs.Passing.{by_tests, each_kept, none_lacks}
use Rattle.wh_strategy.proofs.CorrectLists.{passes_all}
use Rattle.wh_strategy.proofs.RuleOrder.{in_order, place_of, rule_at}
use Rattle.wh_strategy.proofs.Failing.{Fails, fails_breaks, breaks_fails, place_fails}

fails_within : (rule : Rule) (shape : List (List ℕ)) (list : List Expression) (p : ℕ) → Fails rule shape list p → p ≤ length list
fails_within rule shape list p f =
    ⊎_elim (λ h. let l = slice_get_within list p h.0 h.1 in omega arith) (λ h. let e = h.0 in omega arith) f

-- the first place of a failing test is the first at which the rule is broken
pub first_breaks : (rule : Rule) (shape : List (List ℕ)) (list : List Expression) (n : ℕ) → place_from rule shape [] list ≡ Some n → (p : ℕ) × (n ≡ p + 1) × Breaks rule shape list p × ((q : ℕ) → q < p → Breaks rule shape list q → ⊥)
first_breaks rule shape list n found =
    let r = place_fails rule shape list [] list n refl found in
    let within = fails_within rule shape list r.0 r.3 in (
      r.0,
      r.1,
      fails_breaks rule shape list r.0 r.3,
      λ q l b. ⊎_elim
          (λ h. both_ways _ (r.4 q h.0 (omega arith) l h.1) h.2)
          (λ h. let e = h.0 in omega arith)
          (breaks_fails rule shape list q b),
    )

pub passes_keeps : (rule : Rule) (shape : List (List ℕ)) (list : List Expression) → Passes shape list rule → Keeps rule shape list
passes_keeps rule shape list passes p b =
    ⊎_elim
    (λ h. both_ways _ (each_kept rule shape list [] list refl passes p h.0 (omega arith) h.1) h.2)
    (λ h. both_ways _ (none_lacks rule shape [] list passes) h.1)
    (breaks_fails rule shape list p b)

none_of : (o : Option ℕ) → ((n : ℕ) → o ≡ Some n → ⊥) → o ≡ None
none_of None h = refl
none_of (Some n) h = absurd (h n refl)

pub keeps_passes : (rule : Rule) (shape : List (List ℕ)) (list : List Expression) → Keeps rule shape list → Passes shape list rule
keeps_passes rule shape list keeps =
    none_of (place_from rule shape [] list) (λ n found. let r = first_breaks rule shape list n found in keeps r.0 r.2)

pub correct_keeps : (shape : List (List ℕ)) (list : List Expression) → IsShape shape → IsCorrect shape list → (rule : Rule) → Keeps rule shape list
correct_keeps shape list sh co rule = passes_keeps rule shape list (passes_all shape list sh co rule)

pub keeps_correct : (shape : List (List ℕ)) (list : List Expression) → IsShape shape → ((rule : Rule) → Keeps rule shape list) → IsCorrect shape list
keeps_correct shape list sh keeps = by_tests shape list sh (λ rule. keeps_passes rule shape list (keeps rule))

pub first_place : (rule : Rule) (shape : List (List ℕ)) (list : List Expression) (n : ℕ) → place_from rule shape [] list ≡ Some n → IsFirstPlace rule shape list n
first_place rule shape list n found =
    let r = first_breaks rule shape list n found in
    record { index = r.0; counted = r.1; broken = r.2; first = r.3 }

-- what is refused is not correct
pub refused : (rule : Rule) (shape : List (List ℕ)) (list : List Expression) (n : ℕ) → IsShape shape → IsFirstBroken shape list rule n → IsCorrect shape list → ⊥
refused rule shape list n sh f co = correct_keeps shape list sh co rule f.there.index f.there.broken

pub first_broken : (rule : Rule) (shape : List (List ℕ)) (list : List Expression) (n : ℕ) → place_from rule shape [] list ≡ Some n → ((earlier : Rule) → number_of earlier < number_of rule → Passes shape list earlier) → IsFirstBroken shape list rule n
first_broken rule shape list n found before =
    record { there = first_place rule shape list n found; kept = λ earlier l. passes_keeps earlier shape list (before earlier l) }

-- what the tests of all rules, in their order, say of the list
pub judged : (shape : List (List ℕ)) (list : List Expression) (o : Option (Rule × ℕ)) → IsShape shape → IfNone o (PassEach in_order shape list) → IfSome o (λ f. IsFirstFailed in_order shape list f.0 f.1) → MatchOption o (IsCorrect shape list) (λ f. IsFirstBroken shape list f.0 f.1)
judged shape list None sh none some = by_tests shape list sh (λ rule. let p = place_of rule in none p.0 rule p.3)
judged shape list (Some f) sh none some =
    let n = rule_at some.turn f.0 some.among in
    first_broken f.0 shape list f.1 some.failed
    (λ earlier l. let p = place_of earlier in let e : p.0 + 1 ≡ number_of earlier = p.1 in let k : p.0 < some.turn = omega arith in some.passed p.0 earlier k p.3)
