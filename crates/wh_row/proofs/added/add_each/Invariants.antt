use Rattle.std.proofs.Common.{◌++◌, take}
use Rattle.wh_row.specs.Weigh.{Counted}
use Rattle.wh_row.specs.Inner.Added.{AreAddedUp}
use Rattle.wh_row.proofs.added.add_each.Given as goal

abbrev pub invariant-loop-place : goal.invariant-loop-place
invariant-loop-place l = (es : Counted) → AreAddedUp es l.initial.bag → AreAddedUp (es ++ take l.place l.records) l.bag
