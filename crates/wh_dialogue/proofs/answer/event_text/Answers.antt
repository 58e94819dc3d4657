use Rattle.std.proofs.Common.{◌++◌, refl, sym, ap, ◌∙◌, length}
use Rattle.wh_dialogue.proofs.Steps.{event_in, if_ok, strange_in}
use Rattle.wh_dialogue.specs.Dialogue.{not_asked}
use Rattle.wh_dialogue.specs.Said.{said_of}
use Rattle.wh_live.specs.Commands as command
use Rattle.wh_replies.specs.Events.{event_of}
use Rattle.wh_stay.specs.Standing.{standing_of}
use Rattle.wh_dialogue.proofs.answer.event_text.Goals as goal

pub returns-then-not-is_asked-clause-answered : goal.returns-then-not-is_asked-clause-answered
returns-then-not-is_asked-clause-answered g c =
    if_ok c.unknown.result _ _ c.unknown.ensures (λ text same s log is h.
    strange_in s log (standing_of c.args.live.now) (command.Event c.args.event) text.items c.args.live.now is h refl (not_asked c.args.event (sym c.if-not-is_asked.ensures)) same)

pub returns-clause-answered : goal.returns-clause-answered
returns-clause-answered g c = λ s log is h.
    event_in s log (standing_of c.args.live.now) c.args.event c.event_of-asked.result c.answer-reply.result c.append_reply.new.out.items c.answer-reply.new.self is
    (sym c.if-not-is_asked.ensures)
    (c.event_of-asked.ensures ∙ ap (λ n. event_of n c.args.event) (c.len.ensures ∙ ap length c.names.ensures))
    (c.answer-reply.ensures.reply s log is h)
    c.answer-reply.ensures.standing
    (c.in_ok-append_reply.ensures ∙ ap (λ t. t ++ said_of (standing_of c.answer-reply.new.self) c.args.event c.answer-reply.result) c.new-text.ensures.items
    ∙ ap (λ stood. said_of stood c.args.event c.answer-reply.result) c.answer-reply.ensures.standing)
