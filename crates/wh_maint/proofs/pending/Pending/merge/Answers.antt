use Rattle.std.proofs.Common.{◌≡◌, List, ◌∷◌, length, sym, ap, ◌∙◌, arith}
use Rattle.std.specs.Prelude.{Err}
use Rattle.wh_row.specs.Bag.{Bag}
use Rattle.wh_maint.specs.Comp.{merged}
use Rattle.wh_maint.proofs.BothSums.{first_merged, merged_length, whole, columns_by, columns_bring}
use Rattle.wh_maint.proofs.NoRows.{memory_of_bag}
use Rattle.wh_maint.proofs.TermSums.{err_same}
use Rattle.wh_maint.proofs.pending.Pending.merge.Goals as goal

pub returns-clause-sum : goal.returns-clause-sum
returns-clause-sum c =
    let mine = columns_by c.self.inside.view c.self.inside.counts c.as_mut_slice-sums.result.now _ c.args.self.now c.as_mut_slice-sums.ensures.value c.self.view_is in
    let theirs = columns_by c.other.inside.view c.other.inside.counts c.as_slice-others.result.now _ c.args.other.now c.as_slice-others.ensures.value c.other.view_is in
    let long : length c.add_columns.new.sums ≡ length c.as_mut_slice-sums.result.now = ap length c.in_default.ensures.sums ∙ merged_length c.as_mut_slice-sums.result.now c.as_slice-others.result.now in
    let held = ap length c.as_mut_slice-sums.ensures.value in
    ap (λ (sums : List Bag). c.add_columns.new.counts ∷ sums) (whole c.self.inside.sums.len c.self.inside.sums.items c.add_columns.new.sums (omega arith) (omega (arith, c.self.inside.sums.ok.0)))
    ∙ (λ i. c.in_default.ensures.counts i ∷ c.in_default.ensures.sums i)
    ∙ sym (first_merged c.self.inside.counts c.other.inside.counts c.as_mut_slice-sums.result.now c.as_slice-others.result.now)
    ∙ (λ i. merged (mine i) (theirs i))

pub returns-in-Err-clause-memory : goal.returns-in-Err-clause-memory
returns-in-Err-clause-memory c = λ e nothing.
    let mine = columns_by c.self.inside.view c.self.inside.counts c.as_mut_slice-sums.result.now _ c.args.self.now c.as_mut_slice-sums.ensures.value c.self.view_is in
    let theirs = columns_by c.other.inside.view c.other.inside.counts c.as_slice-others.result.now _ c.args.other.now c.as_slice-others.ensures.value c.other.view_is in
    c.in-Err.ensures.memory (ap Err (memory_of_bag _ c.in-Err.fault c.of_bag.result c.of_bag.ensures (err_same c.of_bag.result _ e))) (columns_bring _ _ _ _ mine theirs nothing)
