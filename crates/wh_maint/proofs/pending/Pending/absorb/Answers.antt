use Rattle.std.proofs.Common.{rules, ◌≡◌, ℕ, suc, ◌+ℤ◌, ◌∷◌, ap, sym, ◌∙◌}
use Rattle.wh_row.specs.Row.{Row}
use Rattle.wh_row.specs.Bag.{count, empty}
use Rattle.wh_maint.specs.Comp.{bag_at, PendingOf}
use Rattle.wh_maint.proofs.BothSums.{none_in, on_ok, taken_in}
use Rattle.wh_maint.proofs.pending.Pending.absorb.Goals as goal
use lib.IntN.{+ℤ_idl}

pub returns-then-is_nothing-clause-sum : goal.returns-then-is_nothing-clause-sum
returns-then-is_nothing-clause-sum c = λ j q.
    let none : (k : ℕ) → bag_at c.args.self.now.columns k ≡ empty = search rules in
    sym (ap (λ z. z +ℤ count (bag_at c.args.other.columns j) q) (ap (λ b. count b q) (none j) ∙ none_in q) ∙ +ℤ_idl _)

pub returns-clause-sum : goal.returns-clause-sum
returns-clause-sum c =
    let counted = c.take_counts_in.new.self.columns in
    let all = c.take_sums_in.new.self.columns in
    let more = c.other.inside.counts in
    let sums = c.other.inside.sums.items in
    let theirs : more ∷ sums ≡ c.args.other.columns = ap (λ (p : PendingOf). p.columns) c.other.view_is in
    on_ok c.take_sums_in.result ((j : ℕ) (q : Row) → count (bag_at all (suc j)) q ≡ count (bag_at counted (suc j)) q +ℤ count (bag_at sums j) q) _
    (taken_in c.args.self.now.columns c.args.other.columns counted all more sums theirs c.in_ok-take_counts_in.ensures.count c.in_ok-take_counts_in.ensures.sums c.take_sums_in.ensures.count)
    c.take_sums_in.ensures.sums
