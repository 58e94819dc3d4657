use Rattle.std.proofs.Common.{refl, sym, ◌∙◌, arith}
use Rattle.std.specs.Prelude.{codes}
use Rattle.wh_dialogue.proofs.Steps.{at_start, counted_more, done, grown, is_refused_by, none_carried, ready, refused, some_carried}
use Rattle.wh_replies.specs.ReplyText.{line}
use Rattle.wh_stay.specs.Standing.{core_of}
use Rattle.wh_dialogue.proofs.night.carry_on.Goals as goal

pub loop-turn-init : goal.loop-turn-init
loop-turn-init g c = record { counted = omega arith; live = c.requires; standing = refl; amid = λ s log is h. at_start s log c.args.out.now.items (core_of c.args.live.now) h }

pub returns-in_default-clause-carried : goal.returns-in_default-clause-carried
returns-in_default-clause-carried g c =
    grown c.extend_from_slice.result c.loop-turn.out.items (line (codes "ready")) c.extend_from_slice.new.self.items _ c.extend_from_slice.ensures.items (λ same s log is h.
    let amid = c.loop-turn.invariant.amid s log is h in
    ready s log c.args.out.now.items c.loop-turn.out.items (core_of c.loop-turn.live) (core_of c.carry_on.new.self) amid c.extend_from_slice.new.self.items same
    (none_carried s amid.log_then (core_of c.carry_on.new.self) c.carry_on.result c.in_default.not-Some (c.carry_on.ensures.told s amid.log_then is amid.stands)))

pub returns-then-is_refusal-clause-carried : goal.returns-then-is_refusal-clause-carried
returns-then-is_refusal-clause-carried g c = λ s log is h.
    let amid = c.loop-turn.invariant.amid s log is h in
    let on = some_carried s amid.log_then (core_of c.carry_on.new.self) c.carry_on.result c.in-Some.field-0-0 c.in-Some.reply c.in-Some.is (c.carry_on.ensures.told s amid.log_then is amid.stands) in
    let why = is_refused_by c.in-Some.reply (sym c.is_refusal.ensures ∙ c.if-is_refusal.true) in
    refused s log c.args.out.now.items c.loop-turn.out.items (core_of c.loop-turn.live) (core_of c.carry_on.new.self) amid c.in-Some.field-0-0 c.in-Some.reply c.append_said.new.out.items
    c.in_ok-append_said.ensures on why.0 why.1

pub loop-turn-preserved : goal.loop-turn-preserved
loop-turn-preserved g c = record {
  counted = counted_more c.loop-turn.turn c.loop-turn.out c.append_said.new.out c.in-Some.reply c.loop-turn.invariant.counted c.in_ok-append_said.ensures;
  live = c.carry_on.ensures.live;
  standing = c.carry_on.ensures.standing ∙ c.loop-turn.invariant.standing;
  amid = λ s log is h.
      (let amid = c.loop-turn.invariant.amid s log is h in
      let on = some_carried s amid.log_then (core_of c.carry_on.new.self) c.carry_on.result c.in-Some.field-0-0 c.in-Some.reply c.in-Some.is (c.carry_on.ensures.told s amid.log_then is amid.stands) in
      done s log c.args.out.now.items c.loop-turn.out.items (core_of c.loop-turn.live) (core_of c.carry_on.new.self) amid c.in-Some.field-0-0 c.in-Some.reply c.append_said.new.out.items
      c.in_ok-append_said.ensures on (sym c.is_refusal.ensures ∙ c.if-is_refusal.false));
}
