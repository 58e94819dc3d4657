-- The numbers of refusals.
use Rattle.std.specs.Prelude.{ℕ}
use Rattle.wh_prune.specs.declared.fault.PruneFault.{PruneFault}
use Rattle.wh_prune.specs.declared.fault.PruneFault.TheVariants.{Budget, Memory}

-- the number of a refusal: 1 is for a budget that was spent, 2 for memory
abbrev pub fault_number : PruneFault → ℕ
fault_number (Budget opened best) = 1
fault_number Memory = 2
