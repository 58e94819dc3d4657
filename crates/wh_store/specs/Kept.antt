-- Contents that are tables.
use Rattle.std.specs.List.{AllByRecursion}
use Rattle.wh_row.specs.Bag.{IsTable}
use Rattle.wh_store.specs.Pages.{Contents}

-- no count of a table in them is below zero
abbrev pub AreTables : Contents → Type 0
AreTables contents = AllByRecursion IsTable contents
