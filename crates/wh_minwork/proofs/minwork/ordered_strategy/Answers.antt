use Rattle.std.proofs.Common.{subst}
use Rattle.wh_dag.proofs.SiblingLists.{on_err}
use Rattle.wh_strategy.specs.Sizes.{sizes_of}
use Rattle.wh_minwork.specs.Sorted.{IsUnsorted}
use Rattle.wh_minwork.proofs.Ranks.{kinds_have_no_cycle}
use Rattle.wh_minwork.proofs.Views.{couple_view}
use Rattle.wh_minwork.proofs.minwork.ordered_strategy.Goals as goal

pub returns-in_err-decided-clause-some : goal.returns-in_err-decided-clause-some
returns-in_err-decided-clause-some c =
    let couple = c.in_err-decided.ensures.err in
    on_err _ (couple_view c.args.shape.now.children couple.0 couple.1 couple.2.1)

pub returns-in-Err-Cycle-clause-never_cyclic : goal.returns-in-Err-Cycle-clause-never_cyclic
returns-in-Err-Cycle-clause-never_cyclic c kind =
    let shape = c.args.shape.now.children in
    let unsorted = rw (c.of.ensures.children, c.of.ensures.decided) at c.in-Err-Cycle.ensures.err in
    let cycle = subst (λ z. IsUnsorted shape c.in_ok-decided.decided z) c.in-Err-Cycle.field-0-is unsorted in
    absurd (kinds_have_no_cycle shape (sizes_of c.args.sizes.now) c.of.ensures.shape kind c.in_ok-decided.decided c.in_ok-decided.ensures.ordered c.in-Err-Cycle.cycle.items cycle.cycle)
