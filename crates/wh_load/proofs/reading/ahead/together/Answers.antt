use Rattle.std.proofs.Common.{◌≡◌, ◌∙◌, ◌∷◌, [], rules, append_assoc, All, IfSome}
use Rattle.std.specs.Vec.Iter.{into_iter_items}
use Rattle.std.proofs.lemmas.List.Elements.{All-append, All-nil}
use Rattle.wh_load.specs.Inner.ReadingRows.{IsAheadOf}
use Rattle.wh_load.proofs.ReadingAhead.{all-middle}
use Rattle.wh_load.proofs.reading.ahead.together.Goals as goal

pub loop-group-init : goal.loop-group-init
loop-group-init c = record {
  each = λ kind parts names views are. rw c.new-all.ensures.items (All-nil (IsAheadOf kind parts names views));
  every = search rules;
}

pub loop-group-preserved : goal.loop-group-preserved
loop-group-preserved c =
    let at = c.loop-group in
    let steps : into_iter_items at.group-iterator ≡ c.in-Some.group ∷ into_iter_items c.next.new.self = c.in-Some.ensures.steps.0 in
    record {
      each = λ kind parts names views are.
          let P = IsAheadOf kind parts names views in
          let here = all-middle (λ group. IfSome group (λ own. All P own.items)) at.yielded (into_iter_items c.next.new.self) c.in-Some.group (rw (← steps, at.invariant.every) are) in
          let own : All P c.in_ok-own.own.items = rw c.in_ok-own.was at here in
          rw c.in-Ok.ensures.items (All-append P at.all.items c.in_ok-own.own.items (at.invariant.each kind parts names views are) own);
      every = append_assoc at.yielded (c.in-Some.group ∷ []) _ ∙ rw (← steps) at.invariant.every;
    }
