use Rattle.std.proofs.Common.{refl, sym, ap, subst}
use Rattle.wh_dialogue.proofs.Steps.{changes_in, end_in, if_ok, strange_in, tables_in}
use Rattle.wh_dialogue.specs.Dialogue.{IsStrange, not_known}
use Rattle.wh_live.specs.Commands.{shown_command}
use Rattle.wh_stay.specs.Standing.{standing_of}
use Rattle.wh_dialogue.proofs.answer.answer.Goals as goal

pub returns-in-Quit-clause-answered : goal.returns-in-Quit-clause-answered
returns-in-Quit-clause-answered g c = λ s log is h.
    end_in s log (standing_of c.args.live.now) (shown_command c.args.command) c.new.result.items c.args.live.now is h refl (ap shown_command c.in-Quit.is) c.new.ensures.items

pub returns-in-Unknown-clause-answered : goal.returns-in-Unknown-clause-answered
returns-in-Unknown-clause-answered g c =
    if_ok c.unknown.result _ _ c.unknown.ensures (λ text same s log is h.
    strange_in s log (standing_of c.args.live.now) (shown_command c.args.command) text.items c.args.live.now is h refl (subst IsStrange (sym (ap shown_command c.in-Unknown.is)) not_known) same)

pub returns-in-Tables-clause-answered : goal.returns-in-Tables-clause-answered
returns-in-Tables-clause-answered g c =
    if_ok c.tables_text.result _ _ c.tables_text.ensures (λ text so s log is h.
    tables_in s log (standing_of c.args.live.now) (shown_command c.args.command) text.items c.args.live.now is h refl (ap shown_command c.in-Tables.is) (so s log h))

pub returns-in-Changes-clause-answered : goal.returns-in-Changes-clause-answered
returns-in-Changes-clause-answered g c =
    if_ok c.changes_text.result _ _ c.changes_text.ensures (λ text so s log is h.
    changes_in s log (standing_of c.args.live.now) (shown_command c.args.command) text.items c.args.live.now is h refl (ap shown_command c.in-Changes.is) (so s log is h))
