use Rattle.wh_dag.proofs.Dealing.{one_more, no_more, left_after, from_item, width_defined, width_given}
use Rattle.wh_dag.proofs.dealt.widths.Goals as goal
use Rattle.wh_dag.proofs.dealt.widths.Goals.{in-Some, in-None}

pub loop-definition-preserved : goal.loop-definition-preserved
loop-definition-preserved g c =
    let here = from_item c.args.definitions.now c.loop-definition.definition-index c.definition-item.result c.loop-definition-test.true c.definition-item.is in
    record {
      all =
          one_more c.loop-definition.dealt.items c.push.new.self.items c.match-definition.width _ _ _ c.loop-definition.invariant.all
          (elim c.match-definition.branch [
            | in-Some w ↦
                rw (w.width-is, w.given-is, w.columns-width.ensures.columns)
                (width_defined _ _ c.definition-item.result w.in-Some.definition c.loop-definition.given.rest.items here w.in-Some.is)
            | in-None w ↦
                rw (w.width-is, w.given-is, w.unwrap_or-width.ensures)
                (width_given _ _ c.definition-item.result c.loop-definition.given.rest.items _ w.next.result here w.in-None.is w.next.ensures.items
                (no_more w.next.result _ _ w.next.ensures.variant c.loop-definition.invariant.left))
          ])
          c.in_ok-push.ensures.items;
      left = elim c.match-definition.branch [
        | in-Some w ↦ rw w.given-is c.loop-definition.invariant.left
        | in-None w ↦
            rw w.given-is
            (left_after w.next.result _ _ _ _ w.next.ensures.len w.next.ensures.items c.loop-definition.invariant.left)
      ];
    }
