use Rattle.std.proofs.Common.{rules, ◌≡◌, ◌∙◌, [], ◌+◌, ◌<◌, length, map, drop, ap, sym, subst}
use Rattle.std.specs.Prelude.{◌⊎◌, Ok, Err, option_copied}
use Rattle.std.proofs.lemmas.Result.{err_from_is_err_and}
use Rattle.wh_dag.specs.Written.{name_of}
use Rattle.wh_text.specs.declared.fault.LoadFault.TheVariants.{Memory}
use Rattle.wh_text_catalogue.specs.Definitions.{shown_view}
use Rattle.wh_load.specs.Inner.ReadingRows.{part_found}
use Rattle.wh_load.specs.ReadingNight.{TableRows, rows_after, rows_written}
use Rattle.wh_load.proofs.ReadingAhead.{next-rows, no-rows, view-left}
use Rattle.wh_opening.proofs.tables.rows_of_views.Goals as goal

pub loop-view-preserved : goal.loop-view-preserved
loop-view-preserved g c =
    let parts = c.args.bundle.now in
    let names = c.args.opened.now.names.now in
    let views = c.args.opened.now.views.now in
    let number = c.len-number.result in
    let view = c.view-item.result in
    let before = c.loop-view.all.items in
    let count : number ≡ length before = search rules in
    let here : c.loop-view.view-index < length views = search rules in
    let found : option_copied c.table_part-part.result ≡ part_found TableRows parts (name_of names number) (shown_view view) = rw (c.as_bytes.ensures.value, c.name.ensures) at c.table_part-part.ensures in
    let own = found ∙ ap (λ n. part_found TableRows parts (name_of names n) (shown_view view)) count in
    let written = subst (λ p. rows_written TableRows (shown_view view).columns p c.loop-view.texts ≡ Ok (c.in_ok-bag.bag, c.rows_written.new.texts)) own c.in_ok-bag.ensures.ok in
    let rest = map shown_view (drop (c.loop-view.view-index + 1) views) in
    record {
      read = c.loop-view.invariant.read
          ∙ next-rows TableRows parts names before (map shown_view (drop c.loop-view.view-index views)) rest (shown_view view) c.loop-view.texts c.rows_written.new.texts c.in_ok-bag.bag (view-left views c.loop-view.view-index view here c.view-item.is) written
          ∙ ap (λ bags. rows_after TableRows parts names bags rest c.rows_written.new.texts) (sym c.in_ok-push.ensures.items);
      numbered = search rules;
    }

pub returns-in_err-bag-clause-err : goal.returns-in_err-bag-clause-err
returns-in_err-bag-clause-err g c =
    let parts = c.args.bundle.now in
    let names = c.args.opened.now.names.now in
    let views = c.args.opened.now.views.now in
    let number = c.len-number.result in
    let view = c.view-item.result in
    let before = c.loop-view.all.items in
    let count : number ≡ length before = search rules in
    let here : c.loop-view.view-index < length views = search rules in
    let found : option_copied c.table_part-part.result ≡ part_found TableRows parts (name_of names number) (shown_view view) = rw (c.as_bytes.ensures.value, c.name.ensures) at c.table_part-part.ensures in
    let own = found ∙ ap (λ n. part_found TableRows parts (name_of names n) (shown_view view)) count in
    let fault = c.in_err-bag.field-0.0 in
    let failed = subst (λ p. (fault ≡ Memory) ⊎ (rows_written TableRows (shown_view view).columns p c.loop-view.texts ≡ Err fault)) own c.in_err-bag.ensures.err in
    let p = err_from_is_err_and c.from_residual.result c.from_residual.ensures.1 in
    rw (p.1, p.2)
    (no-rows TableRows parts names before (map shown_view (drop c.loop-view.view-index views)) (map shown_view (drop (c.loop-view.view-index + 1) views)) (shown_view view) c.loop-view.texts fault (rows_after TableRows parts names [] (map shown_view views) c.args.texts.now)
    (view-left views c.loop-view.view-index view here c.view-item.is) c.loop-view.invariant.read failed)
