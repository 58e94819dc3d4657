use Rattle.std.proofs.Common.{◌≡◌, ◌+◌, ◌≤◌, cond, arith, ap, ◌∙◌}
use Rattle.wh_text_bundle.specs.RawPart.{shown}
use Rattle.wh_text_bundle.specs.Heading.{is_night}
use Rattle.wh_text_bundle.proofs.PartsRead.{IsReadTo-next}
use Rattle.wh_text_bundle.proofs.bundle.reading.read_parts.Goals as goal
use Rattle.wh_text_bundle.proofs.bundle.reading.read_parts.Goals.{then-is_night, else-is_night}

pub loop-rest-preserved : goal.loop-rest-preserved
loop-rest-preserved c =
    let so_far = c.loop-rest.invariant.read in
    let night = c.loop-rest.night in
    let h = c.in-Some.heading in
    let later : c.if-is_night.night ≡ night + cond (is_night h) 1 0 = elim c.if-is_night.branch [
      | then-is_night w ↦ w.night-is ∙ ap (λ b. night + cond b 1 0) w.if-is_night.ensures
      | else-is_night w ↦ omega (arith, w.night-is, ap (λ b. night + cond b 1 0) w.if-is_night.ensures)
    ] in
    let sound = rw c.in-Some.is at c.in_ok-heading.ensures in
    let first = c.first_part.ensures in
    let few : c.if-is_night.night ≤ night + 1 = elim c.if-is_night.branch [ then-is_night w ↦ omega arith | else-is_night w ↦ omega arith ] in
    record {
      read = rw (c.in_ok-push.ensures.items, c.new.ensures) (IsReadTo-next c.args.nights _ c.loop-rest.rest.now c.first_part.result.1.now c.loop-rest.parts.items night c.loop-rest.seen so_far (shown c.first_part.result.0) first.parts h c.if-is_night.night c.sound_heading.new.seen (sound.fault so_far.above so_far.recalls) sound.heading first.begins later (sound.seen so_far.above so_far.recalls));
      few = omega arith;
    }
