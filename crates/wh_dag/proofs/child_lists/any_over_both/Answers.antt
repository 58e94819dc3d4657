use Rattle.std.proofs.Common.{rules, tests, ◌≡◌, ◌&&◌, sym, ◌∙◌}
use Rattle.std.specs.List.{list_any}
use Rattle.std.proofs.lemmas.Iterator.{YieldsList-from_slice}
use Rattle.std.proofs.lemmas.Iterator.Search.{any_from_yields_List}
use Rattle.wh_dag.specs.Shape.{has}
use Rattle.wh_dag.specs.Siblings.{have_parent}
use Rattle.wh_dag.proofs.Texts.{list_any-map}
use Rattle.wh_dag.proofs.child_lists.any_over_both.Goals as goal

pub returns : goal.returns
unfolding have_parent
returns c =
    let found : c.any.result ≡ list_any (λ own. has own.items c.args.first && has own.items c.args.second) c.args.lists.now =
    any_from_yields_List (λ own. has own.items c.args.first && has own.items c.args.second) _ _ c.any.result c.any.ensures.ran (YieldsList-from_slice _ c.iter.ensures.rest) (λ x b q k. search (rules, tests)) in
    found ∙ sym (list_any-map (λ own. has own c.args.first && has own c.args.second) (λ own. own.items) c.args.lists.now)
