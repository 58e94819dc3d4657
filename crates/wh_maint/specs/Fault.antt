-- The numbers of refusals.
use Rattle.std.specs.Prelude.{ℕ}
use Rattle.wh_maint.specs.declared.fault.MaintFault as maint
use Rattle.wh_maint.specs.declared.fault.MaintFault.TheVariants as maint_fault
use Rattle.wh_maint.specs.declared.fault.RowFault as rows
use Rattle.wh_maint.specs.declared.fault.RowFault.TheVariants as rows_fault

-- 1 is for numbers that leave their range, 2 for values that do, 3 for memory, 4 for a row that is not there
abbrev pub fault_number : maint.MaintFault → ℕ
fault_number (maint_fault.Large view) = 1
fault_number (maint_fault.Range view) = 2
fault_number maint_fault.Memory = 3
fault_number (maint_fault.Absent view row) = 4

-- the view's fault where combined rows were not added up
abbrev pub fault_of : ℕ → rows.RowFault → maint.MaintFault
fault_of view rows_fault.Memory = maint_fault.Memory
fault_of view rows_fault.Range = maint_fault.Range view
