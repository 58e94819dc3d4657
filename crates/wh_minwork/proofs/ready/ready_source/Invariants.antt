use Rattle.std.proofs.Common.{◌≡◌, ◌⊎◌, ℕ, true}
use Rattle.wh_minwork.specs.Inner.Left.{IsLed}
use Rattle.wh_minwork.specs.Inner.Sets.{in_set, in_rows}
use Rattle.wh_minwork.specs.declared.node.Node.TheVariants.{Comp}
use Rattle.wh_minwork.proofs.ready.ready_source.Given as goal

abbrev pub invariant-loop-u : goal.invariant-loop-u
invariant-loop-u l = record {
  among : (u : ℕ) → in_set l.sources u ≡ true → in_rows l.rest.comps l.v u ≡ true;
  past : (u : ℕ) → in_rows l.rest.comps l.v u ≡ true → (in_set l.sources u ≡ true) ⊎ IsLed l.edges.over l.edges.before l.rest.comps l.rest.insts (Comp l.v u);
}

abbrev pub decreases-loop-u : goal.decreases-loop-u
decreases-loop-u l = l.sources
