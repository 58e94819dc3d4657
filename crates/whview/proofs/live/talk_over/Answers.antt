use Rattle.std.proofs.Common.{◌≡◌, [], ap, sym, subst}
use Rattle.std.specs.Prelude.{IfOk, option_map}
use Rattle.wh_dag.specs.Catalog.{CatalogOf}
use Rattle.wh_dag.specs.Shape.{Views}
use Rattle.wh_load.specs.ReadingShown.{shown_opening}
use Rattle.wh_stay.specs.Standing.{StandingOf}
use Rattle.whview.specs.LiveOutput.{IsTalkTold}
use Rattle.whview.specs.NightOutput.{refused_text}
use Rattle.whview.proofs.Opened.{machine_over, opened_none, opened_setup, opened_talk}
use Rattle.whview.proofs.live.talk_over.Goals as goal

pub new-requires-clause-setup : goal.new-requires-clause-setup
new-requires-clause-setup g c κs within =
    opened_setup c.args.catalog c.requires.catalogue c.args.given.opening.tables.items c.in-Ok.contents.items c.requires.tables c.in-Ok.ensures.bags c.in-Ok.ensures.contents c.in-Ok.ensures.valued c.args.how

pub new-requires-clause-widths : goal.new-requires-clause-widths
new-requires-clause-widths g c κs within = sym (ap (λ (k : CatalogOf). k.widths) c.requires.shown)

pub returns-in-Err-clause-told : goal.returns-in-Err-clause-told
returns-in-Err-clause-told g c written =
    let told = c.tell.ensures.told written in
    opened_none c.args.how c.args.catalog (shown_opening c.args.given.opening) (option_map (λ own. own.items) c.args.given.strategy) c.requires.shown
    c.in-Err.fault c.without_contents-answer.result _ _ _ _ c.tell.result c.in-Err.ensures.refused
    (subst (λ (v : Views). IfOk c.without_contents-answer.result (λ a. a.text ≡ refused_text v.names c.in-Err.fault)) c.shape.ensures.views c.without_contents-answer.ensures.text)
    c.without_contents-answer.ensures.status c.without_contents-answer.ensures.told told.0 told.1 told.2

pub returns-in-Ok-new-clause-told : goal.returns-in-Ok-new-clause-told
returns-in-Ok-new-clause-told g c written =
    let is = opened_setup c.args.catalog c.requires.catalogue c.args.given.opening.tables.items c.in-Ok.contents.items c.requires.tables c.in-Ok.ensures.bags c.in-Ok.ensures.contents c.in-Ok.ensures.valued c.args.how in
    opened_talk c.args.how c.args.catalog (shown_opening c.args.given.opening) (option_map (λ own. own.items) c.args.given.strategy) c.requires.shown
    c.in-Ok.contents.items _ _ _ _ _ c.talk_to_end.result c.in-Ok.ensures.bags.each c.in-Ok.ensures.contents c.in-Ok.ensures.valued is
    (subst
    (λ (w : StandingOf). IsTalkTold (machine_over c.args.catalog c.args.how c.in-Ok.contents.items) [] w (g.S.Source.remaining c.args.input.now) (g.S.Source.faults c.args.input.now)
    (g.S.Source.faults c.talk_to_end.new.input) (g.W.Sink.contents c.args.out.now) (g.W.Sink.contents c.talk_to_end.new.out) c.talk_to_end.result)
    c.in-Ok-new.ensures.standing (c.talk_to_end.ensures.told written (machine_over c.args.catalog c.args.how c.in-Ok.contents.items) [] is c.in-Ok-new.ensures.stands))
