use Rattle.std.proofs.Common.{◌∙◌, ap, drop, neg_ℤ, rules, subst, sym, w64, FitsSigned, pos, ◌≤ℤ◌}
use Rattle.std.specs.Prelude.{◌-ℤ◌}
use Rattle.std.specs.Ordering.{is_eq}
use Rattle.wh_row.proofs.BagLaws.{same_row}
use Rattle.whview.specs.Inner.Difference.{IsStep}
use Rattle.whview.proofs.Walks.{first_counts, less_than, step_both, step_leaving, turned}
use Rattle.whview.proofs.night.difference.step.Goals as goal

pub returns-in-Greater : goal.returns-in-Greater
returns-in-Greater c =
    let s = c.in-Some-Some in
    let coming = c.args.coming.now in
    let leaving = c.args.leaving.now in
    let some : pos 0 ≤ℤ s.less = first_counts leaving (drop 1 leaving) (s.other.now, s.less) s.ensures' c.requires.leaving in
    let fits : FitsSigned w64 s.less = search rules in
    subst (λ t. IsStep (s.other.now, t) coming coming leaving c.pass-in-Greater.new.self) (sym (turned s.less fits some))
    (subst (λ rest. IsStep (s.other.now, neg_ℤ s.less) coming coming leaving rest) (sym c.pass-in-Greater.ensures)
    (step_leaving coming leaving (drop 1 leaving) (s.other.now, s.less) s.ensures' c.requires.coming c.requires.leaving))

pub returns-in-Equal : goal.returns-in-Equal
returns-in-Equal c =
    let s = c.in-Some-Some in
    let coming = c.args.coming.now in
    let leaving = c.args.leaving.now in
    let some : pos 0 ≤ℤ s.count = first_counts coming (drop 1 coming) (s.row.now, s.count) s.ensures c.requires.coming in
    let others : pos 0 ≤ℤ s.less = first_counts leaving (drop 1 leaving) (s.other.now, s.less) s.ensures' c.requires.leaving in
    let fits : FitsSigned w64 s.count = search rules in
    let fit : FitsSigned w64 s.less = search rules in
    let same = same_row s.row.now s.other.now (ap is_eq (sym c.cmp.ensures ∙ c.in-Equal.is)) in
    subst (λ t. IsStep (s.row.now, t) coming c.pass-in-Equal.new.self leaving c.pass-in-Equal-2.new.self) (sym (less_than s.count s.less fits fit some others))
    (subst (λ rest. IsStep (s.row.now, s.count -ℤ s.less) coming rest leaving c.pass-in-Equal-2.new.self) (sym c.pass-in-Equal.ensures)
    (subst (λ rest. IsStep (s.row.now, s.count -ℤ s.less) coming (drop 1 coming) leaving rest) (sym c.pass-in-Equal-2.ensures)
    (step_both coming leaving (drop 1 coming) (drop 1 leaving) (s.row.now, s.count) (s.other.now, s.less) s.ensures s.ensures' (sym same) c.requires.coming c.requires.leaving)))
