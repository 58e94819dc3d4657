use Rattle.std.proofs.Common.{◌≡◌, length, ap, ◌∙◌, subst, arith, rules}
use Rattle.std.proofs.lemmas.Result.{err_from_is_err_and}
use Rattle.wh_dag.specs.Siblings.{couples_of}
use Rattle.wh_strategy.specs.Prices.{prices_of}
use Rattle.wh_strategy.specs.Rules.{IsReason}
use Rattle.wh_strategy.specs.Sizes.{sizes_of}
use Rattle.wh_strategy.proofs.Agreeing.{refused}
use Rattle.wh_prune.proofs.Exploring.{why_stopped}
use Rattle.wh_prune.proofs.search.prune.Goals as goal

pub unreachable-requires : goal.unreachable-requires
unreachable-requires c =
    let shape = c.args.shape.now.children in
    let r = subst (λ z. IsReason shape c.explore.new.self.list z) c.in-Err-Broken.field-0-is c.in-Err-Broken.ensures.err in
    refused c.in-Err-Broken.field-0-0 shape c.explore.new.self.list c.in-Err-Broken.field-0-1 c.in_ok-search.ensures.shape r c.explore.ensures.held.correct

pub returns-in_err-explore-clause-err : goal.returns-in_err-explore-clause-err
returns-in_err-explore-clause-err c =
    let shape = c.args.shape.now.children in
    let sizes = sizes_of c.args.sizes.now in
    let none = ap length c.in_ok-search.ensures.nodes in
    let size : c.len.result ≡ length c.in_ok-couples.couples.items = search rules in
    let many : c.len.result ≡ length (couples_of shape) = size ∙ ap length c.in_ok-couples.ensures.couples in
    let given = err_from_is_err_and c.from_residual-in_err-explore.result c.from_residual-in_err-explore.ensures.1 in
    let stopped = rw (c.in_ok-search.ensures.nodes, c.in_ok-search.ensures.decided) at c.in_err-explore.ensures.err in
    rw (given.1, given.2) (why_stopped shape sizes (prices_of c.args.costs) c.args.budget _ c.explore.new.self.best c.in_ok-search.search.best c.explore.new.self.list c.explore.new.self.nodes.items c.in_err-explore.field-0.0 stopped
    (rw many (omega arith)) c.explore.ensures.held c.in_ok-search.ensures.begins)
