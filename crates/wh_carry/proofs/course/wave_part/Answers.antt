use Rattle.std.proofs.Common.{refl, ap, ◌∙◌}
use Rattle.std.specs.Prelude.{is_none}
use Rattle.std.specs.List.{list_all}
use Rattle.wh_carry.specs.Kept.{kept}
use Rattle.wh_carry.specs.Stages.{place_behind}
use Rattle.wh_carry.specs.Inner.Standing.{IsWaveAt}
use Rattle.wh_carry.proofs.Parts.{wave_at, wave_goes}
use Rattle.wh_carry.proofs.course.wave_part.Goals as goal

pub returns-clause-goes : goal.returns-clause-goes
returns-clause-goes g c = λ n before after same split stands.
    let jobs = c.args.jobs.now in
    let k = kept c.args.state.now in
    let own = wave_at n before after jobs k stands split in
    let wave : IsWaveAt c.args.catalog.now jobs n (place_behind before) = record { same = same; are = own.are; side = own.side } in
    let outcomes = c.in_ok-outcomes.outcomes in
    wave_goes n before after jobs k stands split (kept c.wave_of.new.state) c.args.course.now (record { parts = c.push.new.self; stop = c.args.course.now.stop }) outcomes c.none_refused-goes.result c.in_ok-outcomes.ensures.each
    (c.in_ok-outcomes.ensures.outcomes n (place_behind before) wave stands) (c.in_ok-outcomes.ensures.stands n (place_behind before) wave stands)
    (c.none_refused-goes.ensures ∙ ap (list_all is_none) c.as_slice.ensures.value)
    c.in_ok-push.ensures.items
    refl
