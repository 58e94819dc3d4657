use Rattle.std.proofs.Common.{◌≡◌, ◌++◌, drop, option_map}
use Rattle.wh_text_lines.specs.NodeLine.{expressions_of}
use Rattle.wh_text_lines.proofs.CycleParts.{parted}
use Rattle.wh_text_lines.proofs.plan.node.with_parts.Given as goal

abbrev pub invariant-loop-part : goal.invariant-loop-part
invariant-loop-part l =
    option_map (λ more. l.fn.list.items ++ more) (expressions_of l.names (parted l.parts))
    ≡ option_map (λ more. l.list.items ++ more) (expressions_of l.names (parted (drop l.part-index l.parts)))
