use Rattle.std.proofs.Common.{◌≡◌, ◌++◌, take}
use Rattle.std.specs.List.{flat_map}
use Rattle.wh_text_lines.specs.PlanText.{line_text, pair_words}
use Rattle.wh_text_lines.proofs.plan.append_pairs.Given as goal

abbrev pub invariant-loop-pair : goal.invariant-loop-pair
invariant-loop-pair l = l.out.items ≡ l.initial.out.items ++ flat_map (λ pair. line_text (pair_words l.names pair)) (take l.pair-index l.pairs)
