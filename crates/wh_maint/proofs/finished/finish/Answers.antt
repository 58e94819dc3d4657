use Rattle.std.proofs.Common.{rules, ◌≡◌, ap, sym, subst, ◌∙◌, length}
use Rattle.std.specs.Prelude.{Err}
use Rattle.std.proofs.lemmas.List.{length-map}
use Rattle.wh_dag.specs.Output.{output_of}
use Rattle.wh_maint.specs.View.{Kind, Summed}
use Rattle.wh_maint.specs.Definition.{view_of, kind_of}
use Rattle.wh_maint.specs.Comp.{bag_at}
use Rattle.wh_maint.specs.Summary.{change_of}
use Rattle.wh_maint.specs.Value.{ChangeHasValue}
use Rattle.wh_maint.specs.Finishing.{kind_in}
use Rattle.wh_maint.proofs.TermSums.{err_same}
use Rattle.wh_maint.proofs.NoRows.{memory_alone}
use Rattle.wh_maint.proofs.finished.finish.Goals as goal

pub returns-in-Ok-summary_change-clause-change : goal.returns-in-Ok-summary_change-clause-change
returns-in-Ok-summary_change-clause-change g c =
    let len : length c.in-Sums.sums.items ≡ c.len-in-Sums.result = search rules in
    let kind : kind_in c.args.catalog.now c.args.view ≡ Summed c.len-in-Sums.result =
    ap (λ d. (view_of d).kind) c.derived.ensures.definition ∙ ap kind_of (sym c.output.ensures.output) ∙ ap (λ o. kind_of (output_of o)) c.in-Sums.is
    ∙ ap Summed (length-map c.in-Sums.sums.items _ ∙ len) in
    c.in-Ok-summary_change.ensures.change ∙ ap (λ (k : Kind). change_of k c.args.table.now (bag_at c.args.pending.now.columns)) (sym kind)

pub returns-in-Ok-summary_change-clause-sums : goal.returns-in-Ok-summary_change-clause-sums
returns-in-Ok-summary_change-clause-sums g c =
    let len : length c.in-Sums.sums.items ≡ c.len-in-Sums.result = search rules in
    let kind : kind_in c.args.catalog.now c.args.view ≡ Summed c.len-in-Sums.result =
    ap (λ d. (view_of d).kind) c.derived.ensures.definition ∙ ap kind_of (sym c.output.ensures.output) ∙ ap (λ o. kind_of (output_of o)) c.in-Sums.is
    ∙ ap Summed (length-map c.in-Sums.sums.items _ ∙ len) in
    subst (λ (k : Kind). ChangeHasValue k c.args.table.now (bag_at c.args.pending.now.columns)) (sym kind) c.in-Ok-summary_change.ensures.sums

pub returns-in-Err-clause-memory : goal.returns-in-Err-clause-memory
returns-in-Err-clause-memory g c = λ _ none. c.in-Err.ensures.memory c.in-Err.ensures.err (c.counts.ensures ∙ none 0)

pub returns-in-Err-summary_change-clause-memory : goal.returns-in-Err-summary_change-clause-memory
returns-in-Err-summary_change-clause-memory g c = λ e.
    c.in-Err-summary_change.ensures.memory (ap Err (memory_alone c.args.view c.in-Err-summary_change.fault c.of.result c.of.ensures (err_same c.of.result _ e)))
