-- The rules in the order of a check.
use Rattle.std.proofs.Common.{◌≡◌, ℕ, zero, suc, ◌+◌, ◌<◌, List, [], ◌∷◌, Some, refl, sym, ap, arith}
use Rattle.std.specs.Prelude.{slice_get}
use Rattle.std.proofs.lemmas.Option.{none-some, same_Some}
use Rattle.wh_strategy.specs.declared.rule.Rule.{Rule}
use Rattle.wh_strategy.specs.declared.rule.Rule.TheVariants.{S1, S2, S3, S4, S5, S6}
use Rattle.wh_strategy.specs.Rules.{number_of}

abbrev pub in_order : List Rule
in_order = S1 ∷ S2 ∷ S3 ∷ S4 ∷ S5 ∷ S6 ∷ []

-- each rule stands at its number, counted from 1
pub place_of : (rule : Rule) → (k : ℕ) × (k + 1 ≡ number_of rule) × (k < 6) × (slice_get in_order k ≡ Some rule)
place_of S1 = (0, refl, omega arith, refl)
place_of S2 = (1, refl, omega arith, refl)
place_of S3 = (2, refl, omega arith, refl)
place_of S4 = (3, refl, omega arith, refl)
place_of S5 = (4, refl, omega arith, refl)
place_of S6 = (5, refl, omega arith, refl)

pub rule_at : (k : ℕ) (rule : Rule) → slice_get in_order k ≡ Some rule → number_of rule ≡ k + 1
rule_at zero rule e = sym (ap number_of (same_Some S1 rule e))
rule_at (suc zero) rule e = sym (ap number_of (same_Some S2 rule e))
rule_at (suc (suc zero)) rule e = sym (ap number_of (same_Some S3 rule e))
rule_at (suc (suc (suc zero))) rule e = sym (ap number_of (same_Some S4 rule e))
rule_at (suc (suc (suc (suc zero)))) rule e = sym (ap number_of (same_Some S5 rule e))
rule_at (suc (suc (suc (suc (suc zero))))) rule e = sym (ap number_of (same_Some S6 rule e))
rule_at (suc (suc (suc (suc (suc (suc k)))))) rule e = absurd (none-some rule e)
