use Rattle.std.proofs.Common.{◌∙◌, [], ap, length, map, subst}
use Rattle.wh_core.specs.Headline.{ComesTrue}
use Rattle.wh_core.specs.Replies.{IsLegalRun}
use Rattle.wh_core.specs.Standing.{StandsWith, nights_of}
use Rattle.wh_dag.specs.Shape.{Views}
use Rattle.wh_replies.specs.Events.{event_of}
use Rattle.whview.specs.ReplayOutput.{machine_of}
use Rattle.whview.proofs.ReplayDecided.{of_schedule, ready_setup}
use Rattle.whview.proofs.replay.replies_to.Goals as goal

pub returns-clause-setup : goal.returns-clause-setup
returns-clause-setup g c =
    ready_setup c.args.catalog c.args.schedule.now c.args.tables.items (nights_of c.args.nights.items) c.requires.ready c.desks.result c.desks.ensures.value c.desks.ensures.some c.desks.ensures.most
    c.workers.result c.workers.ensures.value c.workers.ensures.some c.workers.ensures.most c.keys.result c.keys.ensures.value c.keys.ensures.some c.keys.ensures.most
    c.versions.result c.versions.ensures.value c.versions.ensures.some c.versions.ensures.most

pub returns-clause-legal : goal.returns-clause-legal
returns-clause-legal g c =
    let nights = nights_of c.args.nights.items in
    let setup = machine_of c.args.catalog c.args.schedule.now c.args.tables.items nights in
    let is = ready_setup c.args.catalog c.args.schedule.now c.args.tables.items nights c.requires.ready c.desks.result c.desks.ensures.value c.desks.ensures.some c.desks.ensures.most
    c.workers.result c.workers.ensures.value c.workers.ensures.some c.workers.ensures.most c.keys.result c.keys.ensures.value c.keys.ensures.some c.keys.ensures.most
    c.versions.result c.versions.ensures.value c.versions.ensures.some c.versions.ensures.most in
    let stands = of_schedule c.args.catalog c.args.schedule.now c.args.tables.items nights c.desks.result c.workers.result c.keys.result c.versions.result
    c.desks.ensures.value c.workers.ensures.value c.keys.ensures.value c.versions.ensures.value (λ s. StandsWith s [] c.in_ok-core.core) c.in_ok-core.ensures.stands in
    let events = c.deref.ensures.value ∙ c.in_ok-events.ensures
    ∙ ap (λ n. map (event_of n) c.events.result.now) (c.len.ensures.len ∙ ap (λ (v : Views). length v.children) c.shape.ensures.views)
    ∙ ap (map (event_of (length c.args.catalog.views.children))) c.events.ensures in
    subst (λ es. IsLegalRun setup es c.in_ok-replies.replies.items) events ((c.in_ok-replies.ensures.replies setup is stands).0)

pub returns-clause-comes_true : goal.returns-clause-comes_true
returns-clause-comes_true g c =
    let nights = nights_of c.args.nights.items in
    let setup = machine_of c.args.catalog c.args.schedule.now c.args.tables.items nights in
    let is = ready_setup c.args.catalog c.args.schedule.now c.args.tables.items nights c.requires.ready c.desks.result c.desks.ensures.value c.desks.ensures.some c.desks.ensures.most
    c.workers.result c.workers.ensures.value c.workers.ensures.some c.workers.ensures.most c.keys.result c.keys.ensures.value c.keys.ensures.some c.keys.ensures.most
    c.versions.result c.versions.ensures.value c.versions.ensures.some c.versions.ensures.most in
    let stands = of_schedule c.args.catalog c.args.schedule.now c.args.tables.items nights c.desks.result c.workers.result c.keys.result c.versions.result
    c.desks.ensures.value c.workers.ensures.value c.keys.ensures.value c.versions.ensures.value (λ s. StandsWith s [] c.in_ok-core.core) c.in_ok-core.ensures.stands in
    let events = c.deref.ensures.value ∙ c.in_ok-events.ensures
    ∙ ap (λ n. map (event_of n) c.events.result.now) (c.len.ensures.len ∙ ap (λ (v : Views). length v.children) c.shape.ensures.views)
    ∙ ap (map (event_of (length c.args.catalog.views.children))) c.events.ensures in
    subst (λ es. ComesTrue setup es c.in_ok-replies.replies.items) events (c.in_ok-replies.ensures.comes_true setup is stands)
