use Rattle.std.proofs.Common.{◌++◌, refl, ap, ◌∙◌}
use Rattle.wh_dialogue.proofs.Steps.{false_true, has_carried, not_begun}
use Rattle.wh_dialogue.specs.Said.{told_text}
use Rattle.wh_stay.specs.Standing.{standing_of}
use Rattle.wh_dialogue.proofs.night.night_text.Goals as goal

pub returns-then-not-has_begun-clause-answered : goal.returns-then-not-has_begun-clause-answered
returns-then-not-has_begun-clause-answered g c = λ s log is h.
    not_begun s log (standing_of c.args.live.now) c.args.parts.now c.begin_night-told.result c.append_told.new.out.items c.begin_night-told.new.self (c.begin_night-told.ensures.told s log is h)
    (λ e. false_true (c.if-not-has_begun.ensures.1 e))
    (c.in_ok-append_told.ensures ∙ ap (λ t. t ++ told_text c.begin_night-told.result) c.new-text.ensures.items)

pub returns-clause-answered : goal.returns-clause-answered
returns-clause-answered g c = λ s log is h.
    has_carried s log (standing_of c.args.live.now) c.args.parts.now c.begin_night-told.result c.append_told.new.out.items c.carry_on.new.out.items c.begin_night-told.new.self c.carry_on.new.live
    (c.begin_night-told.ensures.told s log is h) (c.if-not-has_begun.ensures.0 refl)
    (c.in_ok-append_told.ensures ∙ ap (λ t. t ++ told_text c.begin_night-told.result) c.new-text.ensures.items)
    c.in_ok-carry_on.ensures.carried c.carry_on.ensures.standing
