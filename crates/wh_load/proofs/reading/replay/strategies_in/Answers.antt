use Rattle.std.proofs.Common.{◌≡◌, rules, ◌++◌, ◌∷◌, [], ap, sym, ◌∙◌, ◌-◌, ◌+◌, length, map}
use Rattle.std.proofs.lemmas.List.{length-map, map-append}
use Rattle.std.proofs.lemmas.Result.{err_from_is_err_and}
use Rattle.std.specs.Cow.{cow_slice_items}
use Rattle.wh_load.specs.ReadingReplay.{strategies_after}
use Rattle.wh_load.proofs.ReadingNights.{next_strategy, no_strategy}
use Rattle.wh_load.proofs.reading.replay.strategies_in.Goals as goal

pub returns-in_err-text-clause-err : goal.returns-in_err-text-clause-err
returns-in_err-text-clause-err c =
    let before = map cow_slice_items c.loop-night.texts.items in
    let same : length before ≡ c.loop-night.night = length-map c.loop-night.texts.items cow_slice_items ∙ sym c.loop-night.texts.ok.0 ∙ c.loop-night.invariant.numbered in
    let p = err_from_is_err_and c.from_residual.result c.from_residual.ensures.1 in
    rw (p.1, p.2) (no_strategy c.args.bundle.now before c.loop-night.night c.nights-night-end.result c.in_err-text.field-0.0 c.loop-night-test.true same c.loop-night.invariant.read c.in_err-text.ensures.err)

pub loop-night-preserved : goal.loop-night-preserved
loop-night-preserved c =
    let before = map cow_slice_items c.loop-night.texts.items in
    let same : length before ≡ c.loop-night.night = length-map c.loop-night.texts.items cow_slice_items ∙ sym c.loop-night.texts.ok.0 ∙ c.loop-night.invariant.numbered in
    let pushed : before ++ cow_slice_items c.in_ok-text.text ∷ [] ≡ map cow_slice_items c.push.new.self.items =
    sym (ap (map cow_slice_items) c.in_ok-push.ensures.items ∙ map-append cow_slice_items c.loop-night.texts.items (c.in_ok-text.text ∷ [])) in
    record {
      read = c.loop-night.invariant.read
          ∙ next_strategy c.args.bundle.now before c.loop-night.night c.nights-night-end.result (cow_slice_items c.in_ok-text.text) c.loop-night-test.true same c.in_ok-text.ensures.ok
          ∙ ap (λ texts. strategies_after c.args.bundle.now texts (c.nights-night-end.result - (c.loop-night.night + 1))) pushed;
      numbered = search rules;
    }
