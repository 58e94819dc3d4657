use Rattle.std.proofs.Common.{◌≡◌, List, ◌++◌, length, All, IsSome}
use Rattle.std.specs.Vec.Iter.{into_iter_items, into_iter_len}
use Rattle.wh_row.specs.Bag.{bag_of}
use Rattle.wh_row.specs.Weigh.{Counted}
use Rattle.wh_row.specs.Inner.Parts.{AreBagsOf}
use Rattle.wh_row.specs.Records.{joined}
use Rattle.wh_row.proofs.parts.together.Given as goal

abbrev pub invariant-loop-bag : goal.invariant-loop-bag
invariant-loop-bag l =
    record {
      bag : (lists : List Counted) → AreBagsOf lists l.yielded → l.all ≡ bag_of (joined lists);
      some : All IsSome l.yielded;
      every : l.yielded ++ into_iter_items l.bag-iterator ≡ l.fn.bags.items;
      left : into_iter_len l.bag-iterator ≡ length (into_iter_items l.bag-iterator);
    }
