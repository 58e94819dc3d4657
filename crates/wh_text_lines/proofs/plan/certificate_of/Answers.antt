use Rattle.std.proofs.Common.{◌≡◌, true, ap, sym, ◌∙◌}
use Rattle.wh_text_lines.specs.PlanText.{has_its_tree}
use Rattle.wh_text_lines.specs.TreeGrowth.{is_tree}
use Rattle.wh_text_lines.proofs.WholeTrees.{tree_from}
use Rattle.wh_text_lines.proofs.plan.certificate_of.Goals as goal

pub unreachable-requires : goal.unreachable-requires
unreachable-requires c =
    let whole : is_tree c.args.nodes.items ≡ true = ap (λ scope. has_its_tree scope c.args.nodes.items) (sym c.in-OneWay.is) ∙ c.requires in
    let found = tree_from c.args.nodes.items whole in
    c.in-None.ensures found.0 found.1
