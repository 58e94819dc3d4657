use Rattle.std.proofs.Common.{◌≡◌, ◌≤◌, ◌*◌, ◌^◌, take}
use Rattle.std.specs.List.{sum_by}
use Rattle.wh_strategy.specs.Sizes.{sizes_of}
use Rattle.wh_strategy.specs.Work.{state}
use Rattle.wh_strategy.specs.Inner.Work.{read_of}
use Rattle.wh_strategy.proofs.terms.term_rows.Given as goal

abbrev pub invariant-loop-child : goal.invariant-loop-child
invariant-loop-child l = record {
  sum : l.total ≡ sum_by (λ u. read_of (sizes_of l.sizes u).change (state (sizes_of l.sizes) l.list l.place u) u l.sources) (take l.child-index l.children);
  small : l.total ≤ l.child-index * 2 ^ 56;
}
