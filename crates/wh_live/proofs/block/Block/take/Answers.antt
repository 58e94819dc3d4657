use Rattle.std.proofs.Common.{arith, ◌≤◌, drop, length, sym, ap, subst, ◌∙◌}
use Rattle.wh_live.proofs.HandedOut.{left_after, within_block}
use Rattle.wh_live.proofs.block.Block.take.Goals as goal

pub returns : goal.returns
returns c =
    let b = c.self.inside in
    let few = subst (λ left. c.args.count ≤ length left) (sym c.self.view_is) c.requires in
    left_after b.bytes.items b.from b.to c.args.count (within_block b.bytes.items b.from b.to c.args.count c.self.invariant.1 (omega (arith, c.self.invariant.2, b.bytes.ok.0)) few)
    ∙ ap (drop c.args.count) c.self.view_is
