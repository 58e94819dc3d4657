use Rattle.std.proofs.Common.{◌-◌, ◌≤◌, length, drop, take, arith}
use Rattle.wh_minwork.specs.Draft.{completed}
use Rattle.wh_minwork.specs.Inner.Nodes.{is_node, leads}
use Rattle.wh_minwork.specs.declared.node.Node.TheVariants.{Comp}
use Rattle.wh_minwork.proofs.OpenAlong.{first_node, last_is, later_is, next_is, next_pass, pass_end, pass_next, round_from, round_whole, told_more}
use Rattle.wh_minwork.proofs.draft.Draft.first_open.Goals as goal

pub returns-in-Some : goal.returns-in-Some
returns-in-Some c =
    let d = c.args.self.now in
    let xs = c.args.cycle.now in
    let edge = leads d.children d.decided in
    let couple = c.in-Some.couple in
    let some : 1 ≤ length xs = c.in-len1-up.len_at_least in (
      c.in-Some.ensures.0,
      round_from edge couple (Comp 0 0) xs some
          (c.loop-next.invariant.found couple (next_is edge couple c.loop-next.last _ (Comp 0 0) (take (length xs - 1) (drop 1 xs)) c.loop-next.next-index c.loop-next-test.true c.in-Some.ensures.1)),
    )

pub loop-next-preserved : goal.loop-next-preserved
loop-next-preserved c =
    let d = c.args.self.now in
    let xs = c.args.cycle.now in
    let rest = take (length xs - 1) (drop 1 xs) in
    let k = c.loop-next.next-index in
    let l = c.loop-next-test.true in
    let last = c.loop-next.last in
    let next = next_pass (leads d.children (completed d.ordered d.decided)) (is_node d.children) last _ (Comp 0 0) rest k l c.loop-next.invariant.ahead in
    record {
      ahead = next.2;
      behind = λ h. c.loop-next.invariant.behind (pass_next (leads d.children d.decided) (is_node d.children) last _ (Comp 0 0) rest k l (next.0, c.in_default-open_between.ensures, h));
      found = λ couple h. c.loop-next.invariant.found couple (later_is (leads d.children d.decided) couple last _ (Comp 0 0) rest k l c.in_default-open_between.ensures h);
    }

pub returns : goal.returns
returns c =
    let d = c.args.self.now in
    let xs = c.args.cycle.now in
    let rest = take (length xs - 1) (drop 1 xs) in
    let k = c.loop-next.next-index in
    let last = c.loop-next.last in
    let some : 1 ≤ length xs = c.in-len1-up.len_at_least in
    let end : length rest ≤ k = omega arith in
    told_more c.open_between-2.result _ _ _ _
    (λ e. round_whole (leads d.children d.decided) (is_node d.children) (Comp 0 0) xs some (first_node _ _ (Comp 0 0) xs c.requires) (c.loop-next.invariant.behind (pass_end (leads d.children d.decided) (is_node d.children) last _ rest k end e)))
    (λ couple h. (h.0, round_from (leads d.children d.decided) couple (Comp 0 0) xs some (c.loop-next.invariant.found couple (last_is (leads d.children d.decided) couple last _ rest k end h.1))))
    c.open_between-2.ensures
