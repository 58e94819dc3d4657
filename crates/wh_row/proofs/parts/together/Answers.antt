use Rattle.std.proofs.Common.{rules, ◌≡◌, ◌∙◌, sym, ap, subst, List, [], ◌∷◌, ◌++◌, length, append_assoc, Option, Some, IsSome, is_some, All, arith}
use Rattle.std.specs.Vec.Iter.{into_iter_items}
use Rattle.std.proofs.lemmas.List.{append-nil, nil_from_length}
use Rattle.std.proofs.lemmas.List.Elements.{All-push}
use Rattle.wh_row.specs.Bag.{Bag, bag_of, sum_of}
use Rattle.wh_row.specs.Weigh.{Counted}
use Rattle.wh_row.specs.Inner.Parts.{AreBagsOf}
use Rattle.wh_row.specs.Records.{joined}
use Rattle.wh_row.proofs.PartLaws.{bag_next, none_listed, told}
use Rattle.wh_row.proofs.parts.together.Goals as goal

pub loop-bag-init : goal.loop-bag-init
loop-bag-init c = record {
  bag = λ lists are. c.new-all.ensures ∙ ap (λ (ls : List Counted). bag_of (joined ls)) (sym (none_listed lists are));
  some = λ k d below. absurd (omega (arith, below));
  every = search rules;
  left = search rules;
}

pub loop-bag-preserved : goal.loop-bag-preserved
loop-bag-preserved c =
    let at = c.loop-bag in
    let steps : into_iter_items at.bag-iterator ≡ c.in-Some.bag ∷ into_iter_items c.next.new.self = c.in-Some.ensures.steps.0 in
    let here : c.in-Some.bag ≡ Some c.in_ok-bag.field-0 = c.in_ok-bag.was in
    let taken : c.absorb.new.self ≡ sum_of at.all c.in_ok-bag.field-0 = told c.absorb.result c.in_ok-ok.field-0 c.in_ok-ok.ensures.value c.absorb.ensures.ok in
    record {
      bag = λ lists are. bag_next at.yielded at.all c.in_ok-bag.field-0 c.absorb.new.self at.invariant.bag taken lists (subst (λ (bag : Option Bag). AreBagsOf lists (at.yielded ++ bag ∷ [])) here are);
      some = All-push IsSome at.yielded c.in-Some.bag at.invariant.some (ap is_some here);
      every = append_assoc at.yielded (c.in-Some.bag ∷ []) _ ∙ rw (← steps) at.invariant.every;
      left = omega (arith, ap length steps, c.in-Some.ensures.steps.1, at.invariant.left);
    }

pub returns-clause-bag : goal.returns-clause-bag
returns-clause-bag c = λ lists are.
    let at = c.loop-bag in
    let none : into_iter_items at.bag-iterator ≡ [] = nil_from_length _ (omega (arith, at.invariant.left, c.in-None.ensures.steps.0)) in
    let whole : at.yielded ≡ c.args.bags.items = sym (append-nil at.yielded) ∙ ap (λ (bags : List (Option Bag)). at.yielded ++ bags) (sym none) ∙ at.invariant.every in
    at.invariant.bag lists (subst (λ (bags : List (Option Bag)). AreBagsOf lists bags) (sym whole) are)

pub returns-clause-all : goal.returns-clause-all
returns-clause-all c = λ _.
    let at = c.loop-bag in
    let none : into_iter_items at.bag-iterator ≡ [] = nil_from_length _ (omega (arith, at.invariant.left, c.in-None.ensures.steps.0)) in
    let whole : at.yielded ≡ c.args.bags.items = sym (append-nil at.yielded) ∙ ap (λ (bags : List (Option Bag)). at.yielded ++ bags) (sym none) ∙ at.invariant.every in
    subst (λ (bags : List (Option Bag)). All IsSome bags) whole at.invariant.some
