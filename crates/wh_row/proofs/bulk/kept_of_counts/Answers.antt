use Rattle.std.proofs.Common.{rules, ◌≡◌, ◌+◌, ℕ, ℤ, ◌∷◌, length, arith, ap, ◌∙◌, to_z-of_z, FitsSigned}
use Rattle.std.specs.Prelude.{unsigned_abs}
use Rattle.std.specs.List.{sum_by}
use Rattle.std.proofs.lemmas.List.Sums.{sum_by-cons}
use mir.Syntax.{w64}
use Rattle.wh_row.specs.Row.{Row}
use Rattle.wh_row.specs.Weigh.{Counted}
use Rattle.wh_row.specs.Inner.Kept.{one_below}
use Rattle.wh_row.proofs.KeptLaws.{abs_small, one_small}
use Rattle.wh_row.proofs.bulk.kept_of_counts.Goals as goal

-- the first of some entries, and those behind it
first_of : (f : ℤ → ℕ) (es later : Counted) (e : Row × ℤ) → es ≡ e ∷ later → sum_by (λ (x : Row × ℤ). f x.1) es ≡ f e.1 + sum_by (λ (x : Row × ℤ). f x.1) later
first_of f es later e is = ap (λ (xs : Counted). sum_by (λ (x : Row × ℤ). f x.1) xs) is ∙ sum_by-cons (λ (x : Row × ℤ). f x.1) e later

pub loop-count-preserved : goal.loop-count-preserved
loop-count-preserved c =
    let at = c.loop-count in
    let fits : FitsSigned w64 c.in-Some.count = search rules in
    let later = c.next.new.self in
    let steps = c.in-Some.ensures.steps in
    let abs : c.unsigned_abs.result ≡ unsigned_abs c.in-Some.count = c.unsigned_abs.ensures.value ∙ ap unsigned_abs (to_z-of_z fits) in
    let below : c.one_if_below-below.result ≡ one_below c.in-Some.count = c.one_if_below-below.ensures ∙ ap one_below (to_z-of_z fits) in
    let totals = first_of unsigned_abs at.count-iterator later _ steps in
    let belows = first_of one_below at.count-iterator later _ steps in
    let many = ap length steps in
    let most = abs_small c.in-Some.count fits in
    let one = one_small c.in-Some.count in
    record {
      next = search rules;
      total = omega (arith, at.invariant.total, totals, abs, c.from-total.ensures);
      below = omega (arith, at.invariant.below, belows, below);
      small = omega (arith, at.invariant.small, many, most, abs, c.from-total.ensures);
      few = omega (arith, at.invariant.few, many, one, below);
    }
