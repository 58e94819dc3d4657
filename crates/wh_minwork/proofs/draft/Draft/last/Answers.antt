use Rattle.std.proofs.Common.{◌≡◌, ◌-◌, ◌+◌, length, ap, arith}
use Rattle.wh_minwork.specs.Draft.{Drafted}
use Rattle.wh_minwork.proofs.Drafting.{decision_small, last_split}
use Rattle.wh_minwork.proofs.draft.Draft.last.Goals as goal

pub returns-clause-last : goal.returns-clause-last
returns-clause-last c =
    let ds = c.args.self.now.decided in
    let e : c.self.inside.decided ≡ ds = ap (λ (z : Drafted). z.decided) c.self.view_is in
    let n : length ds - 1 + 1 ≡ length ds = omega arith in
    rw (c.as_slice-decided.ensures.couples, e) (last_split ds (length ds - 1) (0, 0) n)

pub returns-clause-first : goal.returns-clause-first
returns-clause-first c =
    let ds = c.self.inside.decided in
    let e : ds ≡ c.args.self.now.decided = ap (λ (z : Drafted). z.decided) c.self.view_is in
    let l = ap length e in
    let n : length ds - 1 + 1 ≡ length ds = omega arith in
    rw c.as_slice-decided.ensures.couples (decision_small c.self.inside.children.now ds (length ds - 1) (0, 0) c.self.invariant.edges.shape_is c.self.invariant.decided_couples n).0

pub returns-clause-second : goal.returns-clause-second
returns-clause-second c =
    let ds = c.self.inside.decided in
    let e : ds ≡ c.args.self.now.decided = ap (λ (z : Drafted). z.decided) c.self.view_is in
    let l = ap length e in
    let n : length ds - 1 + 1 ≡ length ds = omega arith in
    rw c.as_slice-decided.ensures.couples (decision_small c.self.inside.children.now ds (length ds - 1) (0, 0) c.self.invariant.edges.shape_is c.self.invariant.decided_couples n).1
