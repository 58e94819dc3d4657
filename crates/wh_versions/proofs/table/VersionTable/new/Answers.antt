use Rattle.std.proofs.Common.{arith, sym, subst, List}
use Rattle.wh_pieces.specs.Row.{Row}
use Rattle.wh_row.specs.Bag.{written as written_out}
use Rattle.wh_row.proofs.WrittenLaws.{written_lists}
use Rattle.wh_versions.specs.Rows.{Pairs}
use Rattle.wh_versions.specs.Inner.Tables.{AreKept}
use Rattle.wh_versions.proofs.OpeningLaws.{opening_kept, size_small}
use Rattle.wh_versions.proofs.table.VersionTable.new.Goals as goal

pub first_rows-requires : goal.first_rows-requires
first_rows-requires g c = (size_small g.row.N c.requires.few, (omega arith, c.requires.table))

pub invariant_of-result : goal.invariant_of-result
invariant_of-result g c =
    let table = c.args.table.now in
    let sets = c.loop.touched.items in
    subst (λ (rows : List (Row × Pairs)). AreKept g.row.N 0 rows sets) (sym c.in_ok-rows.ensures)
    (opening_kept g.row.N table (written_out table) sets c.requires.versions c.requires.few (omega arith) (written_lists table).counted)
