use Rattle.std.proofs.Common.{◌≡◌, ◌<◌, ◌≤◌, length, take, false, refl, sym, ◌∙◌, arith, replicate}
use Rattle.std.proofs.lemmas.List.{length-set}
use Rattle.std.proofs.lemmas.List.Elements.{All-set}
use Rattle.std.proofs.lemmas.Bool.{both_ways}
use Rattle.wh_dag.proofs.Within.{small_columns}
use Rattle.wh_dag.proofs.Remaining.{stuck_width, stuck_definition, next_width, next_definition, bad_columns, pass_width, pass_definition}
use Rattle.wh_dag.proofs.FitRest.{to_rest, of_rest, total_before, children_within}
use Rattle.wh_dag.specs.Catalog.{columns}
use Rattle.wh_dag.proofs.fitting.fits.Goals as goal
use Rattle.wh_dag.proofs.fitting.fits.Goals.{then-is_empty+in-Some, else-is_empty+in-Some-next+else-width-total_width}

pub loop-view-init : goal.loop-view-init
loop-view-init g c = record {
  rest =
      rw (c.iter-widths.ensures.rest, c.iter-definitions.ensures.rest) (
        to_rest c.args.shape.now c.args.widths.now c.args.definitions.now,
        of_rest c.args.shape.now c.args.widths.now c.args.definitions.now c.len-view-end.ensures.shape,
      );
  few = (small_columns (replicate 64 0)).0 refl;
  long = refl;
}

pub returns-in_default : goal.returns-in_default
returns-in_default g c = (
  λ t. absurd (both_ways false refl t),
  λ fit. stuck_width c.args.shape.now.children c.loop-view.view (take c.loop-view.view c.loop-view.seen) c.children-children.result.now _ _
      (rw (← c.len-view-end.ensures.len) c.loop-view-test.true) c.children-children.ensures.children (sym c.is_empty.ensures ∙ c.if-is_empty.true)
      c.in_default.ensures.steps.0 (c.loop-view.invariant.rest.0 fit),
)

pub returns-in_default-next : goal.returns-in_default-next
returns-in_default-next g c = (
  λ t. absurd (both_ways false refl t),
  λ fit. stuck_definition c.args.shape.now.children c.loop-view.view (take c.loop-view.view c.loop-view.seen) c.children-children.result.now _ _
      (rw (← c.len-view-end.ensures.len) c.loop-view-test.true) c.children-children.ensures.children (sym c.is_empty.ensures ∙ c.if-is_empty.false)
      c.in_default-next.ensures.steps.0 (c.loop-view.invariant.rest.0 fit),
)

pub total_width-requires-clause-within : goal.total_width-requires-clause-within
total_width-requires-clause-within g c =
    children_within c.args.shape.now.children c.len-view-end.ensures.shape c.loop-view.view (length c.loop-view.seen) c.children-children.result.now
    (rw (← c.len-view-end.ensures.len) c.loop-view-test.true) c.loop-view.invariant.long c.children-children.ensures.children

pub returns-then-width-total_width : goal.returns-then-width-total_width
returns-then-width-total_width g c =
    let lower : c.loop-view.view < length c.args.shape.now.children = rw (← c.len-view-end.ensures.len) c.loop-view-test.true in
    let few : length c.args.shape.now.children ≤ 64 = c.len-view-end.ensures.shape.few_views in
    let long : length c.loop-view.seen ≡ 64 = c.loop-view.invariant.long in
    let before =
    total_before c.args.shape.now.children c.len-view-end.ensures.shape c.loop-view.view c.loop-view.seen c.children-children.result.now
    (omega arith) c.children-children.ensures.children in (
      λ t. absurd (both_ways false refl t),
      λ fit.
          let step =
          next_definition c.args.shape.now.children c.loop-view.view (take c.loop-view.view c.loop-view.seen) c.children-children.result.now _ _
          c.in-Some-next.definition.now _ lower c.children-children.ensures.children (sym c.is_empty.ensures ∙ c.if-is_empty.false)
          c.in-Some-next.ensures.steps in
          absurd
          (c.if-width-total_width.true
          (c.width.ensures.width ∙ (step.0 (c.loop-view.invariant.rest.0 fit)).0.width ∙ sym before ∙ sym c.total_width.ensures)),
    )

pub returns-then-columns-lt1 : goal.returns-then-columns-lt1
returns-then-columns-lt1 g c =
    let lower : c.loop-view.view < length c.args.shape.now.children = rw (← c.len-view-end.ensures.len) c.loop-view-test.true in (
      λ t. absurd (both_ways false refl t),
      λ fit. elim c.if-is_empty.branch [
        | then-is_empty+in-Some w ↦
            let step =
            next_width c.args.shape.now.children c.loop-view.view (take c.loop-view.view c.loop-view.seen) c.children-children.result.now _
            w.in-Some.width.now _ _ lower c.children-children.ensures.children (sym c.is_empty.ensures ∙ w.if-is_empty.true)
            w.in-Some.ensures.steps in
            let rest = step.0 (c.loop-view.invariant.rest.0 fit) in
            bad_columns c.if-is_empty.columns w.in-Some.width.now w.columns-is c.then-columns-lt1.either rest.0 rest.1
        | else-is_empty+in-Some-next+else-width-total_width w ↦
            let step =
            next_definition c.args.shape.now.children c.loop-view.view (take c.loop-view.view c.loop-view.seen) c.children-children.result.now _ _
            w.in-Some-next.definition.now _ lower c.children-children.ensures.children (sym c.is_empty.ensures ∙ w.if-is_empty.false)
            w.in-Some-next.ensures.steps in
            let rest = step.0 (c.loop-view.invariant.rest.0 fit) in
            bad_columns c.if-is_empty.columns (columns w.in-Some-next.definition.now.output) (w.columns-is ∙ w.columns-columns.ensures.columns)
            c.then-columns-lt1.either rest.0.some rest.0.few
      ],
    )

pub loop-view-preserved : goal.loop-view-preserved
loop-view-preserved g c =
    let lower : c.loop-view.view < length c.args.shape.now.children = rw (← c.len-view-end.ensures.len) c.loop-view-test.true in
    let few : length c.args.shape.now.children ≤ 64 = c.len-view-end.ensures.shape.few_views in
    let long : length c.loop-view.seen ≡ 64 = c.loop-view.invariant.long in
    let some-columns : 1 ≤ c.if-is_empty.columns = c.if-columns-lt1.false in
    let few-columns : c.if-is_empty.columns ≤ 64 = c.if-columns-gt-MAX_COLUMNS.false in
    let before =
    total_before c.args.shape.now.children c.len-view-end.ensures.shape c.loop-view.view c.loop-view.seen c.children-children.result.now
    (omega arith) c.children-children.ensures.children in
    record {
      rest = elim c.if-is_empty.branch [
        | then-is_empty+in-Some w ↦
            rw (w.widths-is, w.definitions-is, w.columns-is)
            (pass_width c.args.shape.now.children c.loop-view.view c.loop-view.seen c.children-children.result.now _ w.in-Some.width.now _ _ lower
            (omega arith) c.children-children.ensures.children (sym c.is_empty.ensures ∙ w.if-is_empty.true) w.in-Some.ensures.steps
            (rw w.columns-is at some-columns) (rw w.columns-is at few-columns) c.loop-view.invariant.rest)
        | else-is_empty+in-Some-next+else-width-total_width w ↦
            let same : c.if-is_empty.columns ≡ columns w.in-Some-next.definition.now.output = w.columns-is ∙ w.columns-columns.ensures.columns in
            rw (w.widths-is, w.definitions-is, same)
            (pass_definition c.args.shape.now.children c.loop-view.view c.loop-view.seen c.children-children.result.now _ _
            w.in-Some-next.definition.now _ lower (omega arith) c.children-children.ensures.children
            (sym c.is_empty.ensures ∙ w.if-is_empty.false) w.in-Some-next.ensures.steps
            (record {
              width = sym w.width.ensures.width ∙ w.if-width-total_width.false ∙ w.total_width.ensures ∙ before;
              some = rw same at some-columns;
              few = rw same at few-columns;
              within = w.width.ensures.within;
            })
            c.loop-view.invariant.rest)
      ];
      few = All-set (λ n. n ≤ 64) c.loop-view.seen c.loop-view.view c.if-is_empty.columns few-columns c.loop-view.invariant.few;
      long = length-set c.loop-view.seen c.loop-view.view c.if-is_empty.columns ∙ long;
    }
