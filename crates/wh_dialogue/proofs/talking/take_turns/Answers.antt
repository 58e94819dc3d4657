use Rattle.std.proofs.Common.{◌<◌, refl, sym, ap, subst, ◌∙◌, Some, None, Err, arith}
use Rattle.std.specs.Prelude.{option_map}
use Rattle.std.specs.Io.KnownBytes.{prepend_known}
use Rattle.wh_dialogue.proofs.Turns.{begins_at, ends_by, ends_early, ends_last, goes_on_after, memory_done, none_of, ok_read, read_done, read_memory, some_same}
use Rattle.wh_dialogue.specs.Inner.Steps.{IsLineAnswered}
use Rattle.wh_dialogue.specs.declared.talking.TalkEnd.TheVariants as ends
use Rattle.wh_live.specs.LinesRead.{HandsOut}
use Rattle.wh_stay.specs.Standing.{standing_of}
use Rattle.wh_dialogue.proofs.talking.take_turns.Goals as goal

pub loop-turn-init : goal.loop-turn-init
loop-turn-init g c = record {
  live = c.requires.live;
  amid = λ s log is h. begins_at s log (g.S.Source.remaining c.args.input.now) (g.W.Sink.contents c.args.out.now) c.args.lines.now c.args.reader.now c.args.live.now c.requires.lines c.requires.reader is h;
  read = refl;
  written = refl;
  flushed = λ none. none;
}

pub returns-in-Ok-None-clause-told : goal.returns-in-Ok-None-clause-told
returns-in-Ok-None-clause-told g c = λ write s log is h.
    let rest = prepend_known c.loop-turn.reader (g.S.Source.remaining c.loop-turn.input) in
    let rest' = prepend_known c.next_line.new.self (g.S.Source.remaining c.next_line.new.source) in
    let hands : HandsOut rest None rest' = subst (λ f. HandsOut rest (option_map (λ own. own.items) f) rest') c.in-Ok-None.field-0-is c.in-Ok-None.ensures.ok in
    ends_last s log (standing_of c.args.live.now) _ _ _ c.loop-turn.lines rest rest' c.loop-turn.live hands (c.loop-turn.invariant.amid s log is h)

pub returns-in-Err-Read-clause-told : goal.returns-in-Err-Read-clause-told
returns-in-Err-Read-clause-told g c = λ write s log is h. ends_early s log _ _ _ _ _ _ c.loop-turn.live _ read_done (c.loop-turn.invariant.amid s log is h)

pub returns-in-Err-Read-clause-read : goal.returns-in-Err-Read-clause-read
returns-in-Err-Read-clause-read g c = (
  λ e. subst (λ n. n < g.S.Source.faults c.next_line.new.source) c.loop-turn.invariant.read (c.in-Err-Read.ensures.failed (ap (λ f. Err f) c.in-Err-Read.field-0-is)),
  λ more. refl,
)

pub returns-in-Err-Memory-clause-told : goal.returns-in-Err-Memory-clause-told
returns-in-Err-Memory-clause-told g c = λ write s log is h. ends_early s log _ _ _ _ _ _ c.loop-turn.live _ memory_done (c.loop-turn.invariant.amid s log is h)

pub returns-in-Err-Memory-clause-read : goal.returns-in-Err-Memory-clause-read
returns-in-Err-Memory-clause-read g c =
    let same = c.in-Err-Memory.ensures.faultless (λ e. read_memory c.in-Err-Memory.field-0 c.in-Err-Memory.field-0-is e) in
    (λ e. cc, λ more. absurd (omega (arith, more, same, c.loop-turn.invariant.read)))

pub returns-in-Some-clause-told : goal.returns-in-Some-clause-told
returns-in-Some-clause-told g c = λ write s log is h.
    let rest = prepend_known c.loop-turn.reader (g.S.Source.remaining c.loop-turn.input) in
    let rest' = prepend_known c.next_line.new.self (g.S.Source.remaining c.next_line.new.source) in
    let hands : HandsOut rest (Some c.deref.result.now) rest' = subst (λ l. HandsOut rest (Some l) rest') (sym c.deref.ensures.value)
    (subst (λ f. HandsOut rest (option_map (λ own. own.items) f) rest') c.in-Ok-Some.field-0-is c.in-Ok-Some.ensures.ok) in
    let talk = c.loop-turn.invariant.amid s log is h in
    ends_by c.first_lines_law.ensures s log (standing_of c.args.live.now) _ _ _ c.loop-turn.lines rest rest' c.loop-turn.live c.deref.result.now hands talk
    c.answer_line.new.lines (g.W.Sink.contents c.answer_line.new.out) c.answer_line.new.live c.in-Some.end write c.in-Some.ensures.read
    (λ e. ap g.W.Sink.contents (c.in-Some.ensures.memory e))
    (λ memory wrote. c.in-Some.ensures.answered memory wrote talk.setup talk.log_then talk.is_setup talk.stands)

pub returns-in-Some-clause-flushed : goal.returns-in-Some-clause-flushed
returns-in-Some-clause-flushed g c = λ none write. c.in-Some.ensures.flushed (c.loop-turn.invariant.flushed none) (λ e. write (some_same c.in-Some.end ends.Write e))

pub returns-in-Some-clause-faultless : goal.returns-in-Some-clause-faultless
returns-in-Some-clause-faultless g c = λ write. c.in-Some.ensures.faultless (λ e. write (some_same c.in-Some.end ends.Write e)) ∙ c.loop-turn.invariant.written

pub loop-turn-preserved : goal.loop-turn-preserved
loop-turn-preserved g c = record {
  live = c.answer_line.ensures.live;
  amid = λ s log is h.
      (let rest = prepend_known c.loop-turn.reader (g.S.Source.remaining c.loop-turn.input) in
      let rest' = prepend_known c.next_line.new.self (g.S.Source.remaining c.next_line.new.source) in
      let hands : HandsOut rest (Some c.deref.result.now) rest' = subst (λ l. HandsOut rest (Some l) rest') (sym c.deref.ensures.value)
      (subst (λ f. HandsOut rest (option_map (λ own. own.items) f) rest') c.in-Ok-Some.field-0-is c.in-Ok-Some.ensures.ok) in
      let talk = c.loop-turn.invariant.amid s log is h in
      let none = none_of c.answer_line.result c.in_default.not-Some in
      let answered = c.answer_line.ensures.answered (c.in_default.not-Some ends.Memory) (c.in_default.not-Some ends.Write) talk.setup talk.log_then talk.is_setup talk.stands in
      goes_on_after c.first_lines_law.ensures s log (standing_of c.args.live.now) _ _ _ c.loop-turn.lines rest rest' c.loop-turn.live c.deref.result.now hands talk
      c.answer_line.new.lines (g.W.Sink.contents c.answer_line.new.out) c.answer_line.new.live
      (subst (λ r. IsLineAnswered talk.setup talk.log_then (standing_of c.loop-turn.live) c.loop-turn.lines c.deref.result.now c.answer_line.new.lines (g.W.Sink.contents c.loop-turn.out)
      (g.W.Sink.contents c.answer_line.new.out) r c.answer_line.new.live) none answered));
  read = c.in-Ok-Some.ensures.faultless (λ e. ok_read c.in-Ok-Some.field-0 e) ∙ c.loop-turn.invariant.read;
  written = c.answer_line.ensures.faultless (c.in_default.not-Some ends.Write) ∙ c.loop-turn.invariant.written;
  flushed = λ none. c.answer_line.ensures.flushed (c.loop-turn.invariant.flushed none) (c.in_default.not-Some ends.Write);
}

pub returns-clause-told : goal.returns-clause-told
returns-clause-told g c = λ write s log is h. ends_early s log _ _ _ _ _ _ c.loop-turn.live _ memory_done (c.loop-turn.invariant.amid s log is h)
