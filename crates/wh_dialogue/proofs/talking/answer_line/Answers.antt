use Rattle.std.proofs.Common.{refl, sym, ap, ◌∙◌}
use Rattle.std.specs.Prelude.{option_map}
use Rattle.wh_dialogue.proofs.Steps.{false_true}
use Rattle.wh_dialogue.proofs.Turns.{goes_on_by, known_ok, quits_by}
use Rattle.wh_dialogue.specs.Inner.Steps.{a_command, no_command}
use Rattle.wh_live.specs.Commands.{shown_command, taken}
use Rattle.wh_dialogue.proofs.talking.answer_line.Goals as goal

pub returns-in-Ok-None-clause-answered : goal.returns-in-Ok-None-clause-answered
returns-in-Ok-None-clause-answered g c = λ memory write s log is h.
    no_command c.take.new.self (g.W.Sink.contents c.args.out.now) c.args.live.now
    (ap (λ names. taken names c.args.lines.now c.args.line.now) (sym c.names.ensures) ∙ sym c.in-Ok-None.ensures.ok ∙ ap (λ f. (c.take.new.self, option_map shown_command f)) c.in-Ok-None.field-0-is)
    refl h

pub returns-then-quits-clause-answered : goal.returns-then-quits-clause-answered
returns-then-quits-clause-answered g c = λ memory write s log is h.
    a_command c.take.new.self (g.W.Sink.contents c.args.out.now) (g.W.Sink.contents c.put.new.self) c.answer.new.live (shown_command c.in-Ok-Some.command) c.in-Ok.text.items _
    (ap (λ names. taken names c.args.lines.now c.args.line.now) (sym c.names.ensures) ∙ sym c.in-Ok-Some.ensures.ok ∙ ap (λ f. (c.take.new.self, option_map shown_command f)) c.in-Ok-Some.field-0-is)
    (c.in-Ok.ensures.answered s log is h)
    (known_ok c.put.result (g.W.Sink.contents c.args.out.now) (g.W.Sink.contents c.put.new.self) c.deref.result.now c.in-Ok.text.items c.if-is_err.ensures.value c.put.ensures.bytes c.deref.ensures.value)
    (quits_by c.in-Ok-Some.command (c.if-quits.ensures.0 refl))

pub returns-clause-answered : goal.returns-clause-answered
returns-clause-answered g c = λ memory write s log is h.
    a_command c.take.new.self (g.W.Sink.contents c.args.out.now) (g.W.Sink.contents c.put.new.self) c.answer.new.live (shown_command c.in-Ok-Some.command) c.in-Ok.text.items _
    (ap (λ names. taken names c.args.lines.now c.args.line.now) (sym c.names.ensures) ∙ sym c.in-Ok-Some.ensures.ok ∙ ap (λ f. (c.take.new.self, option_map shown_command f)) c.in-Ok-Some.field-0-is)
    (c.in-Ok.ensures.answered s log is h)
    (known_ok c.put.result (g.W.Sink.contents c.args.out.now) (g.W.Sink.contents c.put.new.self) c.deref.result.now c.in-Ok.text.items c.if-is_err.ensures.value c.put.ensures.bytes c.deref.ensures.value)
    (goes_on_by c.in-Ok-Some.command (λ e. false_true (c.if-quits.ensures.1 e)))
