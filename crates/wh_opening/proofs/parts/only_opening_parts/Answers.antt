use Rattle.std.proofs.Common.{inr, map, ap, sym, ◌∙◌}
use Rattle.wh_text_catalogue.specs.Definitions.{shown_view}
use Rattle.wh_opening.specs.OpeningRead.{first_foreign}
use Rattle.wh_opening.proofs.FirstForeign.{foreign_named}
use Rattle.wh_opening.proofs.parts.only_opening_parts.Goals as goal

pub returns-in_ok-new-in-Some-clause-err : goal.returns-in_ok-new-in-Some-clause-err
returns-in_ok-new-in-Some-clause-err c =
    let names = c.args.opened.now.names.now in
    let views = map shown_view c.args.opened.now.views.now in
    inr (
    ap (first_foreign names views) (sym c.parts.ensures)
    ∙ foreign_named names views c.parts.result.now c.in-Some.part.now c.in_ok-new-in-Some.field-0 c.in-Some.ensures (c.in_ok-new-in-Some.ensures.word ∙ c.word.ensures)
    )
