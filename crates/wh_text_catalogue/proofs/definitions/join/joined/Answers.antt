use Rattle.std.proofs.Common.{ap, sym, drop, map, ◌+◌, ◌∙◌}
use Rattle.wh_text_catalogue.specs.Join.{joined}
use Rattle.wh_text_catalogue.specs.Inner.Join.{seen_link}
use Rattle.wh_text_catalogue.proofs.JoinSteps.{joined-more}
use Rattle.wh_text_catalogue.proofs.definitions.join.joined.Goals as goal

pub loop-link-preserved : goal.loop-link-preserved
loop-link-preserved c =
    c.loop-link.invariant
    ∙ joined-more c.args.header.now c.loop-link.places.items c.args.links.now c.loop-link.link-index _ c.in_ok-own.own c.loop-link-test.true c.in_ok-own.ensures.ok
    ∙ ap (λ found. joined c.args.header.now found (map seen_link (drop (c.loop-link.link-index + 1) c.args.links.now))) (sym c.in_ok-push.ensures.items)
