-- The numbers of refusals: what only proofs and private contracts use.
use Rattle.std.specs.Prelude.{ℕ}
use Rattle.wh_row.specs.declared.fault.BagFault as bag
use Rattle.wh_row.specs.declared.fault.BagFault.TheVariants as bag_fault
use Rattle.wh_maint.specs.declared.fault.MaintFault as maint
use Rattle.wh_maint.specs.declared.fault.MaintFault.TheVariants as maint_fault

-- and where a bag of it was not changed
abbrev pub bag_fault_of : ℕ → bag.BagFault → maint.MaintFault
bag_fault_of view bag_fault.Memory = maint_fault.Memory
bag_fault_of view bag_fault.Large = maint_fault.Large view
