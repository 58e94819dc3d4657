use Rattle.std.proofs.Common.{rules, ◌≡◌, true}
use Rattle.wh_carry.specs.Kept.{kept}
use Rattle.wh_carry.specs.Standing.{is_source}
use Rattle.std.proofs.Common.{ap}
use Rattle.wh_carry.proofs.Sources.{after_source, fit_after, known_after, outcome_after, source_known, stands_after}
use Rattle.wh_carry.proofs.wave.finish_for.Goals as goal

pub returns-clause-fit : goal.returns-clause-fit
returns-clause-fit g c =
    fit_after c.args.catalog.now (kept c.args.state.now) (kept c.finish_source.new.state) c.args.view c.in_ok-refusal.refusal c.requires.fit
    (after_source c.args.catalog.now (kept c.args.state.now) (kept c.finish_source.new.state) c.args.view c.in_ok-refusal.refusal c.in_ok-refusal.ensures.done c.in_ok-refusal.ensures.passed (λ r e. ap kept (c.in_ok-refusal.ensures.stays r e)) c.in_ok-refusal.ensures.refused)

pub returns-clause-known : goal.returns-clause-known
returns-clause-known g c =
    known_after c.args.catalog.now (kept c.args.state.now) (kept c.finish_source.new.state) c.args.view c.in_ok-refusal.refusal
    (after_source c.args.catalog.now (kept c.args.state.now) (kept c.finish_source.new.state) c.args.view c.in_ok-refusal.refusal c.in_ok-refusal.ensures.done c.in_ok-refusal.ensures.passed (λ r e. ap kept (c.in_ok-refusal.ensures.stays r e)) c.in_ok-refusal.ensures.refused)

pub returns-clause-stands : goal.returns-clause-stands
returns-clause-stands g c =
    let source : is_source c.args.jobs.now c.args.view ≡ true = search rules in
    stands_after c.args.catalog.now c.args.jobs.now (kept c.args.state.now) (kept c.finish_source.new.state) c.args.view c.in_ok-refusal.refusal source
    (after_source c.args.catalog.now (kept c.args.state.now) (kept c.finish_source.new.state) c.args.view c.in_ok-refusal.refusal c.in_ok-refusal.ensures.done c.in_ok-refusal.ensures.passed (λ r e. ap kept (c.in_ok-refusal.ensures.stays r e)) c.in_ok-refusal.ensures.refused)

pub returns-clause-outcome : goal.returns-clause-outcome
returns-clause-outcome g c = λ n place wave stands source.
    outcome_after c.args.catalog.now c.args.jobs.now (kept c.args.state.now) (kept c.finish_source.new.state) c.args.view c.in_ok-refusal.refusal c.requires.view
    (after_source c.args.catalog.now (kept c.args.state.now) (kept c.finish_source.new.state) c.args.view c.in_ok-refusal.refusal c.in_ok-refusal.ensures.done c.in_ok-refusal.ensures.passed (λ r e. ap kept (c.in_ok-refusal.ensures.stays r e)) c.in_ok-refusal.ensures.refused) n place wave stands

pub returns-clause-source : goal.returns-clause-source
returns-clause-source g c = λ source.
    source_known c.args.catalog.now (kept c.args.state.now) (kept c.finish_source.new.state) c.args.view c.in_ok-refusal.refusal
    (after_source c.args.catalog.now (kept c.args.state.now) (kept c.finish_source.new.state) c.args.view c.in_ok-refusal.refusal c.in_ok-refusal.ensures.done c.in_ok-refusal.ensures.passed (λ r e. ap kept (c.in_ok-refusal.ensures.stays r e)) c.in_ok-refusal.ensures.refused)
