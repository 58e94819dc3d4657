use Rattle.std.proofs.Common.{rules, ◌≡◌, ◌↔◌, ap, sym, subst, ◌∙◌, length, Bool}
use Rattle.std.specs.Prelude.{IsTrue, IfOk, OnErr}
use Rattle.std.proofs.lemmas.List.{length-map}
use Rattle.wh_dag.specs.Output.{output_of}
use Rattle.wh_maint.specs.View.{Kind, Summed}
use Rattle.wh_maint.specs.Definition.{view_of, kind_of}
use Rattle.wh_maint.specs.Fit.{IsFitTable, HasGroups}
use Rattle.wh_maint.specs.Finishing.{kind_in}
use Rattle.wh_maint.proofs.asked.is_fit.Goals as goal

pub returns-in-Sums-clause-fit : goal.returns-in-Sums-clause-fit
returns-in-Sums-clause-fit g c =
    let len : length c.in-Sums.sums.items ≡ c.len.result = search rules in
    let kind : kind_in c.args.catalog.now c.args.view ≡ Summed c.len.result =
    ap (λ d. (view_of d).kind) c.derived.ensures.definition ∙ ap kind_of (sym c.output.ensures.output) ∙ ap (λ o. kind_of (output_of o)) c.in-Sums.is
    ∙ ap Summed (length-map c.in-Sums.sums.items _ ∙ len) in
    subst (λ (k : Kind). IfOk c.is_summary_table.result (λ (fit : Bool). IsTrue fit ↔ IsFitTable k c.args.table.now)) (sym kind) c.is_summary_table.ensures.fit

pub returns-in-Sums-clause-memory : goal.returns-in-Sums-clause-memory
returns-in-Sums-clause-memory g c =
    let len : length c.in-Sums.sums.items ≡ c.len.result = search rules in
    let kind : kind_in c.args.catalog.now c.args.view ≡ Summed c.len.result =
    ap (λ d. (view_of d).kind) c.derived.ensures.definition ∙ ap kind_of (sym c.output.ensures.output) ∙ ap (λ o. kind_of (output_of o)) c.in-Sums.is
    ∙ ap Summed (length-map c.in-Sums.sums.items _ ∙ len) in
    subst (λ (k : Kind). OnErr c.is_summary_table.result (HasGroups k c.args.table.now)) (sym kind) c.is_summary_table.ensures.memory
