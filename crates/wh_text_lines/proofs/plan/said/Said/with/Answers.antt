use Rattle.std.proofs.Common.{◌≡◌, ◌++◌, ◌∷◌, [], Some, None, ap, sym, ◌∙◌}
use Rattle.std.specs.Prelude.{◌||◌}
use Rattle.std.specs.List.{list_any}
use Rattle.wh_text_lines.specs.ListedLines.{if_follows}
use Rattle.wh_text_lines.specs.PlanText.{is_certifying, may_follow, nodes_of}
use Rattle.wh_text_lines.specs.TreeGrowth.{places_after}
use Rattle.wh_text_lines.proofs.PlanLines.{certifying-line, if_follows-places}
use Rattle.wh_text_lines.proofs.TreeGrowths.{places-line}
use Rattle.wh_text_lines.proofs.plan.said.Said.with.Goals as goal

pub returns-in_default-2 : goal.returns-in_default-2
returns-in_default-2 c =
    let left : places_after (nodes_of c.args.self) ≡ Some c.self.inside.places = ap (λ lines. places_after (nodes_of lines)) (sym c.self.view_is) ∙ c.self.invariant.1 in
    sym (
    ap (if_follows may_follow c.args.self) c.in-Some.is
    ∙ if_follows-places c.args.self c.in-Some.line c.self.inside.places None c.if-not-may_take.ensures left (sym c.in_default-2.is ∙ c.in_ok-places.ensures)
    )

pub invariant_of-result : goal.invariant_of-result
invariant_of-result c =
    let before = c.self.inside.lines.items in
    let line = c.in-Some.line in (
      c.certifying_with-certifying.ensures ∙ ap (λ b. b || is_certifying line) c.self.invariant.0 ∙ sym (certifying-line before line) ∙ ap (list_any is_certifying) (sym c.in_ok-push.ensures.items),
      ap (λ lines. places_after (nodes_of lines)) c.in_ok-push.ensures.items
          ∙ places-line before line c.self.inside.places c.self.invariant.1
          ∙ sym c.in_ok-places.ensures ∙ c.in-Some-2.is,
    )

pub returns : goal.returns
returns c =
    let left : places_after (nodes_of c.args.self) ≡ Some c.self.inside.places = ap (λ lines. places_after (nodes_of lines)) (sym c.self.view_is) ∙ c.self.invariant.1 in
    ap Some (c.in_ok-push.ensures.items ∙ ap (λ before. before ++ c.in-Some.line ∷ []) c.self.view_is)
    ∙ sym (
    ap (if_follows may_follow c.args.self) c.in-Some.is
    ∙ if_follows-places c.args.self c.in-Some.line c.self.inside.places (Some c.in-Some-2.places) c.if-not-may_take.ensures left (sym c.in-Some-2.is ∙ c.in_ok-places.ensures)
    )
