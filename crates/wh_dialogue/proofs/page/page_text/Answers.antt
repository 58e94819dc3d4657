use Rattle.std.proofs.Common.{◌++◌, sym, ap, subst, ◌∙◌}
use Rattle.std.specs.Prelude.{option_map}
use Rattle.wh_core.specs.Standing.{StandsWith}
use Rattle.wh_dialogue.proofs.Steps.{page_in}
use Rattle.wh_dialogue.specs.Said.{page_told_text}
use Rattle.wh_stay.specs.Standing.{standing_of}
use Rattle.wh_dialogue.proofs.page.page_text.Goals as goal

pub returns-clause-answered : goal.returns-clause-answered
returns-clause-answered g c = λ s log is h.
    page_in s log (standing_of c.args.live.now) c.args.desk c.args.view c.args.limit (option_map (λ own. own.now) c.args.after) c.page-told.result c.append_page_told.new.out.items
    c.page-told.new.self is (subst (StandsWith s log) (sym c.page-told.ensures.core) h) c.page-told.ensures.standing (c.page-told.ensures.told s log h)
    (c.in_ok-append_page_told.ensures ∙ ap (λ t. t ++ page_told_text (standing_of c.page-told.new.self) c.args.view c.page-told.result) c.new-text.ensures.items
    ∙ ap (λ stood. page_told_text stood c.args.view c.page-told.result) c.page-told.ensures.standing)
