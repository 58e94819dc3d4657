use Rattle.std.proofs.Common.{sym, ◌∙◌}
use Rattle.wh_text_catalogue.proofs.JoinSteps.{unknown_in_links-found, unknown_in_links-known}
use Rattle.wh_text_catalogue.proofs.definitions.join.unknown_in_links.Goals as goal

pub returns-in-Some : goal.returns-in-Some
returns-in-Some c =
    unknown_in_links-found c.args.header.now.columns c.args.links.now c.loop-link.link-index _ c.in-Some.text.now c.loop-link-test.true c.in-Some.ensures ∙ sym c.loop-link.invariant

pub loop-link-preserved : goal.loop-link-preserved
loop-link-preserved c =
    c.loop-link.invariant ∙ unknown_in_links-known c.args.header.now.columns c.args.links.now c.loop-link.link-index _ c.loop-link-test.true c.in_default.ensures
