-- What a row costs, as every sum takes it.
use Rattle.std.specs.Prelude.{ℕ}
use Rattle.wh_strategy.specs.declared.costs.Costs.{Costs}

-- what a row costs that a Comp reads, and one that an Inst writes
pub record Prices : Type 0 where
  pub comp : ℕ
  pub inst : ℕ

-- the prices that these costs are
abbrev pub prices_of : Costs → Prices
prices_of costs = record { comp = costs.comp; inst = costs.inst }
