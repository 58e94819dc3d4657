use Rattle.std.proofs.Common.{◌≡◌, sym, ap, ◌∙◌, subst}
use Rattle.wh_strategy.specs.Prices.{prices_of}
use Rattle.wh_strategy.specs.Rules.{IsOneWay, IsReason}
use Rattle.wh_strategy.specs.Sizes.{sizes_of}
use Rattle.wh_strategy.specs.Work.{work_of}
use Rattle.wh_strategy.proofs.Agreeing.{refused}
use Rattle.wh_cert.specs.Bound.{pair_bound_of}
use Rattle.wh_minwork.proofs.Ordering.{sorted_is_acyclic}
use Rattle.wh_dag.proofs.SiblingLists.{on_err}
use Rattle.wh_minwork.proofs.Views.{pair_view}
use Rattle.wh_minwork.proofs.Sorting.{sorted_is_correct, sorted_is_one_way, sorted_costs}
use Rattle.wh_minwork.proofs.minwork.min_work.Goals as goal

pub returns-in_ok-pair_mins-in-Ok-clause-acyclic : goal.returns-in_ok-pair_mins-in-Ok-clause-acyclic
returns-in_ok-pair_mins-in-Ok-clause-acyclic c = sorted_is_acyclic c.args.shape.now.children (sizes_of c.args.sizes.now) c.in_ok-strategy.strategy c.in_ok-strategy.ensures.sorted

pub returns-in_ok-pair_mins-in-Ok-clause-one_way : goal.returns-in_ok-pair_mins-in-Ok-clause-one_way
returns-in_ok-pair_mins-in-Ok-clause-one_way c =
    let so = c.in_ok-strategy.ensures.sorted in
    subst (λ list. IsOneWay list) (sym c.in-Ok.ensures.ok.1) (sorted_is_one_way c.args.shape.now.children so.0 c.in_ok-strategy.strategy so.2)

pub returns-in_ok-pair_mins-in-Ok-clause-least : goal.returns-in_ok-pair_mins-in-Ok-clause-least
returns-in_ok-pair_mins-in-Ok-clause-least c =
    let shape = c.args.shape.now.children in
    let sizes = sizes_of c.args.sizes.now in
    let so = c.in_ok-strategy.ensures.sorted in
    let w : c.work.result ≡ work_of shape sizes (prices_of c.args.costs) c.in-Ok.correct.list = c.work.ensures in
    w ∙ ap (work_of shape sizes (prices_of c.args.costs)) c.in-Ok.ensures.ok.1
    ∙ sorted_costs shape sizes (prices_of c.args.costs) so.0 c.in_ok-strategy.strategy c.in_ok-strategy.ensures.shape so.2 so.1.0 so.1.1

pub returns-in_ok-pair_mins-in-Ok-clause-accepted : goal.returns-in_ok-pair_mins-in-Ok-clause-accepted
returns-in_ok-pair_mins-in-Ok-clause-accepted c =
    let shape = c.args.shape.now.children in
    let sizes = sizes_of c.args.sizes.now in
    let so = c.in_ok-strategy.ensures.sorted in
    let w : c.work.result ≡ work_of shape sizes (prices_of c.args.costs) c.in-Ok.correct.list = c.work.ensures in
    let reached : c.work.result ≡ pair_bound_of shape sizes (prices_of c.args.costs) = w ∙ ap (work_of shape sizes (prices_of c.args.costs)) c.in-Ok.ensures.ok.1
    ∙ sorted_costs shape sizes (prices_of c.args.costs) so.0 c.in_ok-strategy.strategy c.in_ok-strategy.ensures.shape so.2 so.1.0 so.1.1 in
    record {
      right = c.in_ok-pair_mins-in-Ok.ensures.lines;
      reached = reached;
    }

pub unreachable-requires : goal.unreachable-requires
unreachable-requires c =
    let shape = c.args.shape.now.children in
    let so = c.in_ok-strategy.ensures.sorted in
    let r = subst (λ z. IsReason shape c.in_ok-strategy.strategy z) c.in-Err-Broken.field-0-is c.in-Err-Broken.ensures.err in
    refused c.in-Err-Broken.field-0-0 shape c.in_ok-strategy.strategy c.in-Err-Broken.field-0-1 c.in_ok-strategy.ensures.shape r (sorted_is_correct shape so.0 c.in_ok-strategy.strategy c.in_ok-strategy.ensures.shape so.2 so.1.0)

pub returns-in_err-pair_mins-in-Ok-clause-some : goal.returns-in_err-pair_mins-in-Ok-clause-some
returns-in_err-pair_mins-in-Ok-clause-some c = on_err _ (pair_view c.args.shape.now.children c.in_err-pair_mins-in-Ok.ensures.memory)
