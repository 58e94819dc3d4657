use Rattle.std.proofs.Common.{◌≡◌, ◌+◌, ◌<◌, ◌&&◌, ◌||◌, ℕ, eqb, ltb, take}
use Rattle.wh_dag.specs.Shape.{has, children_of}
use Rattle.wh_cert.specs.Graph.{decides}
use Rattle.wh_minwork.specs.Inner.Sets.{in_set, in_rows}
use Rattle.wh_minwork.proofs.edge_sets.Edges.of.Given as goal

abbrev pub invariant-loop-v : goal.invariant-loop-v
invariant-loop-v l = record {
  views : (a : ℕ) → in_set l.edges.views a ≡ ltb a l.v;
  over : (a b : ℕ) → in_rows l.edges.over a b ≡ (ltb a l.v && has (children_of l.children a) b);
  under : (a b : ℕ) → in_rows l.edges.under b a ≡ (ltb a l.v && has (children_of l.children a) b);
  before : (u w : ℕ) → u < 64 → w < 64 → in_rows l.edges.before w u ≡ decides l.decided u w;
}

abbrev pub invariant-loop-u : goal.invariant-loop-u
invariant-loop-u l = record {
  views : (a : ℕ) → in_set l.edges.views a ≡ ltb a (l.v + 1);
  over : (a b : ℕ) → in_rows l.edges.over a b ≡ ((eqb l.v a && has (take l.u-index l.u-items) b) || (ltb a l.v && has (children_of l.children a) b));
  under : (a b : ℕ) → in_rows l.edges.under b a ≡ ((eqb l.v a && has (take l.u-index l.u-items) b) || (ltb a l.v && has (children_of l.children a) b));
  before : (u w : ℕ) → u < 64 → w < 64 → in_rows l.edges.before w u ≡ decides l.decided u w;
}
