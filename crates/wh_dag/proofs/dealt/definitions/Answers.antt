use Rattle.std.proofs.Common.{◌<◌, length, ◌∙◌, sym}
use Rattle.wh_dag.proofs.Dealing.{one_more, no_more, left_after, dealt_base, dealt_derived}
use Rattle.wh_dag.proofs.dealt.definitions.Goals as goal
use Rattle.wh_dag.proofs.dealt.definitions.Goals.{then-is_empty, else-is_empty}

pub loop-view-preserved : goal.loop-view-preserved
loop-view-preserved g c =
    let lower : c.loop-view.view < length c.args.shape.now = rw (← c.len-view-end.ensures.len) c.loop-view-test.true in
    record {
      all =
          one_more c.loop-view.dealt.items c.push.new.self.items c.if-is_empty.own _ _ _ c.loop-view.invariant.all
          (elim c.if-is_empty.branch [
            | then-is_empty w ↦
                rw (w.own-is, w.given-is)
                (dealt_base c.args.shape.now c.loop-view.view c.loop-view.given.rest.items c.of.result.now lower c.of.ensures.children
                (sym c.is_empty.ensures ∙ w.if-is_empty.true))
            | else-is_empty w ↦
                rw (w.own-is, w.given-is)
                (dealt_derived c.args.shape.now c.loop-view.view c.loop-view.given.rest.items _ w.next-own.result c.of.result.now lower
                c.of.ensures.children (sym c.is_empty.ensures ∙ w.if-is_empty.false) w.next-own.ensures.items
                (no_more w.next-own.result _ _ w.next-own.ensures.variant c.loop-view.invariant.left))
          ])
          c.in_ok-push.ensures.items;
      left = elim c.if-is_empty.branch [
        | then-is_empty w ↦ rw w.given-is c.loop-view.invariant.left
        | else-is_empty w ↦
            rw w.given-is
            (left_after w.next-own.result _ _ _ _ w.next-own.ensures.len w.next-own.ensures.items c.loop-view.invariant.left)
      ];
    }
