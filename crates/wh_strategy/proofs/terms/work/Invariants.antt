use Rattle.std.proofs.Common.{◌≡◌, ◌≤◌, ◌*◌, ◌^◌, take}
use Rattle.wh_strategy.specs.Earlier.{TellsInstalled}
use Rattle.wh_strategy.specs.Prices.{prices_of}
use Rattle.wh_strategy.specs.Sizes.{sizes_of}
use Rattle.wh_strategy.specs.Sums.{sum_below}
use Rattle.wh_strategy.specs.Work.{cost_at}
use Rattle.wh_strategy.proofs.terms.work.Given as goal

abbrev pub invariant-loop-place : goal.invariant-loop-place
invariant-loop-place l = record {
  sum : l.total ≡ sum_below (cost_at l.children (sizes_of l.sizes) (prices_of l.costs) l.list) l.place;
  small : l.total ≤ l.place * 2 ^ 79;
  told : TellsInstalled l.installed.flags (take l.place l.list);
}
