use Rattle.std.proofs.Common.{rules, ◌≡◌, ◌∙◌, [], ◌+◌, ◌<◌, arith, length, map, drop, get_or, ap, sym, subst}
use Rattle.std.specs.Prelude.{◌⊎◌, Ok, Err, option_copied}
use Rattle.wh_text.specs.declared.fault.LoadFault.TheVariants.{Memory}
use Rattle.std.proofs.lemmas.Result.{err_from_is_err_and}
use Rattle.wh_dag.specs.Written.{name_of}
use Rattle.wh_text_catalogue.specs.Definitions.{shown_view}
use Rattle.wh_load.specs.Inner.ReadingRows.{part_found, shown_rows}
use Rattle.wh_load.specs.ReadingNight.{rows_after, rows_written}
use Rattle.wh_load.proofs.ReadingAhead.{next-ahead, next-rows, no-rows, view-left}
use Rattle.wh_load.proofs.reading.rows.rows_of_views.Goals as goal

pub rows_written-requires : goal.rows_written-requires
rows_written-requires g c =
    let kind = shown_rows c.args.rows in
    let names = c.args.known.now.names.now in
    let views = c.args.known.now.views.now in
    let number = c.len-number.result in
    let view = c.view-item.result in
    let same : number ≡ c.loop-view.view-index = search rules in
    let here : c.loop-view.view-index < length views = search rules in
    let below : number < length views = omega (arith, same, here) in
    let is : view ≡ get_or views number view = rw same c.view-item.is in
    let found : option_copied c.part_of-part.result ≡ part_found kind c.args.bundle.now (name_of names number) (shown_view view) = rw (c.as_bytes.ensures.value, c.name.ensures) at c.part_of-part.ensures in
    (search rules, (next-ahead kind c.args.bundle.now names views number view (option_copied c.part_of-part.result) c.loop-view.ahead.items c.take_next-own.new.ahead.items c.take_next-own.result below is found c.take_next-own.ensures c.loop-view.invariant.ahead).1)

pub loop-view-preserved : goal.loop-view-preserved
loop-view-preserved g c =
    let kind = shown_rows c.args.rows in
    let parts = c.args.bundle.now in
    let names = c.args.known.now.names.now in
    let views = c.args.known.now.views.now in
    let number = c.len-number.result in
    let view = c.view-item.result in
    let before = c.loop-view.all.items in
    let same : number ≡ c.loop-view.view-index = search rules in
    let count : number ≡ length before = search rules in
    let here : c.loop-view.view-index < length views = search rules in
    let below : number < length views = omega (arith, same, here) in
    let is : view ≡ get_or views number view = rw same c.view-item.is in
    let found : option_copied c.part_of-part.result ≡ part_found kind parts (name_of names number) (shown_view view) = rw (c.as_bytes.ensures.value, c.name.ensures) at c.part_of-part.ensures in
    let own = found ∙ ap (λ n. part_found kind parts (name_of names n) (shown_view view)) count in
    let written = subst (λ p. rows_written kind (shown_view view).columns p c.loop-view.texts ≡ Ok (c.in_ok-bag.bag, c.rows_written.new.texts)) own c.in_ok-bag.ensures.ok in
    let rest = map shown_view (drop (c.loop-view.view-index + 1) views) in
    record {
      read = c.loop-view.invariant.read
          ∙ next-rows kind parts names before (map shown_view (drop c.loop-view.view-index views)) rest (shown_view view) c.loop-view.texts c.rows_written.new.texts c.in_ok-bag.bag (view-left views c.loop-view.view-index view here c.view-item.is) written
          ∙ ap (λ bags. rows_after kind parts names bags rest c.rows_written.new.texts) (sym c.in_ok-push.ensures.items);
      numbered = search rules;
      ahead = (next-ahead kind parts names views number view (option_copied c.part_of-part.result) c.loop-view.ahead.items c.take_next-own.new.ahead.items c.take_next-own.result below is found c.take_next-own.ensures c.loop-view.invariant.ahead).0;
    }

pub returns-in_err-bag-clause-err : goal.returns-in_err-bag-clause-err
returns-in_err-bag-clause-err g c =
    let kind = shown_rows c.args.rows in
    let parts = c.args.bundle.now in
    let names = c.args.known.now.names.now in
    let views = c.args.known.now.views.now in
    let number = c.len-number.result in
    let view = c.view-item.result in
    let before = c.loop-view.all.items in
    let count : number ≡ length before = search rules in
    let here : c.loop-view.view-index < length views = search rules in
    let found : option_copied c.part_of-part.result ≡ part_found kind parts (name_of names number) (shown_view view) = rw (c.as_bytes.ensures.value, c.name.ensures) at c.part_of-part.ensures in
    let own = found ∙ ap (λ n. part_found kind parts (name_of names n) (shown_view view)) count in
    let fault = c.in_err-bag.field-0.0 in
    let failed = subst (λ p. (fault ≡ Memory) ⊎ (rows_written kind (shown_view view).columns p c.loop-view.texts ≡ Err fault)) own c.in_err-bag.ensures.err in
    let p = err_from_is_err_and c.from_residual.result c.from_residual.ensures.1 in
    rw (p.1, p.2)
    (no-rows kind parts names before (map shown_view (drop c.loop-view.view-index views)) (map shown_view (drop (c.loop-view.view-index + 1) views)) (shown_view view) c.loop-view.texts fault (rows_after kind parts names [] (map shown_view views) c.args.texts.now)
    (view-left views c.loop-view.view-index view here c.view-item.is) c.loop-view.invariant.read failed)
