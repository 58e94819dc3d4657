use Rattle.std.proofs.Common.{sym, ◌∙◌, subst, take}
use Rattle.wh_strategy.specs.Earlier.{Tells}
use Rattle.wh_strategy.proofs.Marks.{place_next, take_next}
use Rattle.wh_strategy.proofs.prefix.first_place.Goals as goal

pub loop-i-preserved : goal.loop-i-preserved
loop-i-preserved c = record {
  places = sym (place_next c.args.rule c.args.children.now c.args.list.now c.loop-i.i c.index-list-i.result c.loop-i-test.true c.index-list-i.is (sym c.broken.ensures ∙ c.if-broken.false))
      ∙ c.loop-i.invariant.places;
  tells = subst (Tells c.note.new.self) (take_next c.args.list.now c.loop-i.i c.index-list-i.result c.loop-i-test.true c.index-list-i.is)
      (c.note.ensures (take c.loop-i.i c.args.list.now) c.loop-i.invariant.tells);
}
