use Rattle.std.proofs.Common.{◌∙◌, ap, sym, length, Some, None}
use Rattle.std.specs.Prelude.{option_map, unwrap_or}
use Rattle.std.proofs.lemmas.Result.{err_from_is_err_and}
use Rattle.wh_stay.specs.Standing.{StandingOf, standing_of}
use Rattle.wh_stay.proofs.RowsNamed.{told_fault, told_reply}
use Rattle.wh_stay.proofs.standing.Live.page.Goals as goal

pub returns-in_err-after-clause-told : goal.returns-in_err-after-clause-told
returns-in_err-after-clause-told g c = λ s log h.
    let p = err_from_is_err_and c.from_residual.result c.from_residual.ensures.1 in
    rw (p.1, p.2) (told_fault s log (standing_of c.args.self.now) c.args.desk c.args.view c.args.limit (option_map (λ own. own.now) c.args.cells) c.in_err-after.field-0.0 c.in_err-after.ensures.err)

pub returns-in-Some-clause-told : goal.returns-in-Some-clause-told
returns-in-Some-clause-told g c = λ s log h.
    told_reply s log (standing_of c.args.self.now) c.args.desk c.args.view c.args.limit (option_map (λ own. own.now) c.args.cells) c.unwrap_or-number.result
    (option_map (λ own. own.items) c.in_ok-after.after) (Some c.as_slice.result.now) c.page.result c.in_ok-after.ensures.ok
    (c.unwrap_or-number.ensures ∙ ap (λ n. unwrap_or c.args.view n) c.len.ensures ∙ ap (λ (w : StandingOf). unwrap_or c.args.view (length w.names)) c.row_asked.ensures.same)
    (ap Some c.as_slice.ensures.value ∙ ap (option_map (λ own. own.items)) (sym c.in-Some.is)) (c.page.ensures s log h)

pub returns-clause-told : goal.returns-clause-told
returns-clause-told g c = λ s log h.
    told_reply s log (standing_of c.args.self.now) c.args.desk c.args.view c.args.limit (option_map (λ own. own.now) c.args.cells) c.unwrap_or-number.result
    (option_map (λ own. own.items) c.in_ok-after.after) None c.page-in-None.result c.in_ok-after.ensures.ok
    (c.unwrap_or-number.ensures ∙ ap (λ n. unwrap_or c.args.view n) c.len.ensures ∙ ap (λ (w : StandingOf). unwrap_or c.args.view (length w.names)) c.row_asked.ensures.same)
    (ap (option_map (λ own. own.items)) (sym c.in-None.is)) (c.page-in-None.ensures s log h)
