use Rattle.std.proofs.Common.{◌≡◌, ◌≤◌, List, ◌++◌, length, map, None}
use Rattle.wh_row.specs.Bag.{count, written}
use Rattle.wh_row.specs.Stored.{plain}
use Rattle.wh_row.specs.Weigh.{Counted}
use Rattle.wh_store.specs.Operations.{Writes}
use Rattle.wh_carry.specs.NightList.{pages_of}
use Rattle.wh_night.specs.Tonight.{goes_out}
use Rattle.wh_night.proofs.pages.publish_change.Given as goal

abbrev pub invariant-loop-row : goal.invariant-loop-row
invariant-loop-row g l =
    record {
      home : g.P.Publish.home l.writer ≡ g.P.Publish.home l.fn.writer;
      refused_ends : g.P.Publish.refused_ends l.writer ≡ g.P.Publish.refused_ends l.fn.writer;
      few : length l.page.items ≤ l.pages.keys;
      told : (done : List Counted) × (g.P.Publish.kept l.writer ≡ goes_out (g.P.Publish.kept l.fn.writer) (map (Writes l.view) done) None)
          × (done ++ pages_of l.pages.keys (plain l.page.items ++ map (λ e. (e.0, count l.table e.0)) l.row-iterator) ≡ pages_of l.pages.keys (map (λ e. (e.0, count l.table e.0)) (written l.change)));
    }
