use Rattle.std.proofs.Common.{◌≡◌, ◌<◌, ◌≤◌, ℕ, List, false, length, ⊎_elim, arith, rules}
use Rattle.std.proofs.lemmas.Bool.{cases_lt}
use Rattle.wh_minwork.specs.Inner.Left.{is_left}
use Rattle.wh_minwork.specs.Inner.Sets.{in_set, in_rows}
use Rattle.wh_minwork.specs.declared.node.Node.{Node}
use Rattle.wh_minwork.specs.declared.node.Node.TheVariants.{Comp, Inst}
use Rattle.wh_minwork.proofs.Bits.{in_past}
use Rattle.wh_minwork.proofs.edge_sets.Rest.smallest.Goals as goal

none : (comps : List ℕ) (insts v : ℕ) → length comps ≤ v → ((a u : ℕ) → a < v → in_rows comps a u ≡ false) → ((w : ℕ) → in_set insts w ≡ false) → (x : Node) → is_left comps insts x ≡ false
none comps insts v l rows set (Comp a u) = ⊎_elim (λ lt. rows a u lt) (λ ge. in_past comps a u (omega arith)) (cases_lt a v)
none comps insts v l rows set (Inst w) = set w

pub returns-in-None : goal.returns-in-None
returns-in-None c =
    let long : length c.args.self.now.comps ≡ 64 = search rules in
    let end : 64 ≤ c.loop-v.v = omega arith in
    none c.args.self.now.comps c.args.self.now.insts c.loop-v.v (omega arith) c.loop-v.invariant c.in-None.ensures
