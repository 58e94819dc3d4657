use Rattle.std.proofs.Common.{rules, sym, ap, ◌∙◌, ℕ, List, false}
use Rattle.wh_dag.specs.Shape.{children_of}
use Rattle.wh_maint.specs.Size.{operand_rows_of}
use Rattle.wh_carry.specs.Kept.{Kept, kept}
use Rattle.wh_carry.proofs.Storing.{added_computes, can_finish_computed}
use Rattle.wh_night.proofs.Comes.{finished_known}
use Rattle.wh_night.proofs.waves.add_one.Goals as goal

pub returns-in-Ok-clause-fit : goal.returns-in-Ok-clause-fit
returns-in-Ok-clause-fit g c =
    let cat = c.args.catalog.now in
    let k : Kept = kept c.args.state.now in
    let v : ℕ = c.args.job.now.view in
    let ys : List ℕ = c.args.job.now.from in
    let added = c.requires.added in
    can_finish_computed cat k (kept c.add.new.self) v ys (λ _. false) c.requires.fit
    (c.in_ok-add.ensures.sum ∙ added_computes cat k v ys c.args.added.now added.is_in.for_view.of_view added.value)

pub returns-in-Ok-clause-reported : goal.returns-in-Ok-clause-reported
returns-in-Ok-clause-reported g c =
    let cat = c.args.catalog.now in
    let k : Kept = kept c.args.state.now in
    let v : ℕ = c.args.job.now.view in
    let ys : List ℕ = c.args.job.now.from in
    let us : List ℕ = children_of cat.views.children v in
    record {
      told = c.operand_rows-rows.result;
      is = c.operand_rows-rows.ensures ∙ ap (λ zs. operand_rows_of us zs k.tables k.changes) c.as_slice.ensures ∙ ap (λ (x : Kept). operand_rows_of us ys k.tables x.changes) (sym (finished_known cat k ys c.requires.known));
      few = search rules;
      steps = c.in-Ok.ensures;
    }
