-- Why an operation is refused.
use Rattle.std.specs.Prelude.{ℕ, ◌+◌, ◌^◌, ◌==◌, length, Option, Some, None, is_some, nat_lt, if◌then◌else◌}
use Rattle.wh_row.specs.Weigh.{Counted}
use Rattle.wh_store.specs.Operations.{Operation, Opens, Writes, Commits, Gives_up}
use Rattle.wh_store.specs.Pages.{Contents, is_page}
use Rattle.wh_store.specs.Windows.{Window}
use Rattle.wh_store.specs.declared.fault.StoreFault.{StoreFault}
use Rattle.wh_store.specs.declared.fault.StoreFault.TheVariants.{NightOpen, NoNight, NoView, BadPage, LastVersion, Memory}

-- why new counts of a view are refused, where these contents are being written
abbrev pub page_refusal : Option Contents → ℕ → Counted → Option StoreFault
page_refusal None view rows = Some NoNight
page_refusal (Some draft) view rows = if nat_lt view (length draft) then (if is_page rows then None else Some BadPage) else Some NoView

-- why an operation is refused, by the first reason that holds: a night is open or none is, there is no such view, what is written is no page, or the numbers of versions are used up
abbrev pub refusal : Window → Operation → Option StoreFault
refusal w Opens = if is_some w.draft then Some NightOpen else (if w.number + 1 == 2 ^ 64 then Some LastVersion else None)
refusal w (Writes view rows) = page_refusal w.draft view rows
refusal w Commits = if is_some w.draft then None else Some NoNight
refusal w Gives_up = if is_some w.draft then None else Some NoNight

-- the numbers of refusals
abbrev pub fault_number : StoreFault → ℕ
fault_number NightOpen = 1
fault_number NoNight = 2
fault_number NoView = 3
fault_number BadPage = 4
fault_number LastVersion = 5
fault_number Memory = 6
