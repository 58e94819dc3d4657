use Rattle.std.proofs.Common.{rules, ◌∙◌, ◌<◌, length, sym, refl, arith}
use Rattle.wh_text_tables.specs.Inner.Cut.{state_after, state_of}
use Rattle.wh_text_tables.proofs.CutLaws.{state_after-byte}
use Rattle.wh_text_tables.proofs.cut.quoted_end.Goals as goal

pub loop-place-init : goal.loop-place-init
unfolding state_after
loop-place-init c = refl

pub loop-place-preserved : goal.loop-place-preserved
loop-place-preserved c =
    let below : c.loop-place.place < length c.args.text.now = search rules in
    c.after-standing.ensures ∙ state_after-byte c.args.text.now c.loop-place.place (state_of c.loop-place.standing) below c.loop-place.invariant

pub returns-then-begins_record : goal.returns-then-begins_record
returns-then-begins_record c =
    let text = c.args.text.now in
    let place = c.loop-place.place in
    let below : place < length text = search rules in
    record {
      within = omega (arith, below);
      between = sym (state_after-byte text place (state_of c.loop-place.standing) below c.loop-place.invariant)
          ∙ sym c.after-standing.ensures ∙ c.begins_record.ensures c.if-begins_record.true;
    }
