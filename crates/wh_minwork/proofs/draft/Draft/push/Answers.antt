use Rattle.std.proofs.Common.{◌≡◌, ◌||◌, ◌&&◌, false, eqb, sym, ap, ◌∙◌, subst}
use Rattle.wh_dag.specs.Siblings.{IsCouple}
use Rattle.wh_cert.specs.Graph.{decides}
use Rattle.wh_minwork.specs.Draft.{Drafted}
use Rattle.wh_minwork.specs.Inner.Sets.{in_rows}
use Rattle.wh_minwork.proofs.Drafting.{couple_small, couples_push, completed_push, settled_push}
use Rattle.wh_minwork.proofs.draft.Draft.push.Goals as goal

pub add-requires-clause-row : goal.add-requires-clause-row
add-requires-clause-row c =
    (couple_small c.self.inside.children.now c.args.first c.args.second c.self.invariant.edges.shape_is (subst (λ (z : Drafted). IsCouple z.children c.args.first c.args.second) (sym c.self.view_is) c.requires.couple)).0

pub add-requires-clause-view : goal.add-requires-clause-view
add-requires-clause-view c =
    (couple_small c.self.inside.children.now c.args.first c.args.second c.self.invariant.edges.shape_is (subst (λ (z : Drafted). IsCouple z.children c.args.first c.args.second) (sym c.self.view_is) c.requires.couple)).1

pub add-requires-2-clause-row : goal.add-requires-2-clause-row
add-requires-2-clause-row c =
    (couple_small c.self.inside.children.now c.args.first c.args.second c.self.invariant.edges.shape_is (subst (λ (z : Drafted). IsCouple z.children c.args.first c.args.second) (sym c.self.view_is) c.requires.couple)).1

pub invariant_of-self-2 : goal.invariant_of-self-2
invariant_of-self-2 c =
    let d = c.self.inside in
    let i = c.self.invariant in
    let a = c.args.first in
    let b = c.args.second in
    let couple : IsCouple d.children.now a b = subst (λ (z : Drafted). IsCouple z.children a b) (sym c.self.view_is) c.requires.couple in
    let o : decides d.decided a b ≡ false = subst (λ (z : Drafted). decides z.decided a b ≡ false) (sym c.self.view_is) c.requires.open in
    let o' : decides d.decided b a ≡ false = subst (λ (z : Drafted). decides z.decided b a ≡ false) (sym c.self.view_is) c.requires.open_too in
    rw c.in_ok-push.ensures.ok
    (record {
      edges = record {
        shape_is = i.edges.shape_is;
        views_are = i.edges.views_are;
        over_are = i.edges.over_are;
        under_are = i.edges.under_are;
        before_are = λ u w x y.
            completed_push d.ordered d.decided (λ w u. in_rows d.edges.before w u) (λ w u. in_rows c.add-3.new.rows w u) a b couple.0 o o'
            (λ w u. c.add-3.ensures w u ∙ ap (λ z. (eqb b w && eqb a u) || z) (c.remove.ensures.rest w u)) u w (i.edges.before_are u w x y);
      };
      desired_are = i.desired_are;
      settled_are =
          settled_push d.decided (λ u w. in_rows d.settled u w) (λ u w. in_rows c.add-2.new.rows u w) a b i.settled_are
          (λ u w. c.add-2.ensures u w ∙ ap (λ z. (eqb b u && eqb a w) || z) (c.add.ensures u w));
      ordered_all = i.ordered_all;
      ordered_once = i.ordered_once;
      decided_couples = couples_push d.children.now d.decided a b couple i.decided_couples;
    })
