use Rattle.std.proofs.Common.{◌≡◌, ◌≤◌, List, ◌++◌, length, map}
use Rattle.wh_row.specs.Bag.{count, written}
use Rattle.wh_row.specs.Stored.{plain}
use Rattle.wh_row.specs.Weigh.{Counted}
use Rattle.wh_carry.specs.NightList.{pages_of}
use Rattle.wh_carry.specs.Inner.Standing.{PutsPages}
use Rattle.wh_carry.proofs.inst.put_pages.Given as goal

abbrev pub invariant-loop-row : goal.invariant-loop-row
invariant-loop-row l =
    record {
      few : length l.page.items ≤ l.keys;
      told : (done : List Counted) × PutsPages l.view done l.fn.parts.items l.parts.items
          × (done ++ pages_of l.keys (plain l.page.items ++ map (λ e. (e.0, count l.table e.0)) l.row-iterator) ≡ pages_of l.keys (map (λ e. (e.0, count l.table e.0)) (written l.change)));
    }
