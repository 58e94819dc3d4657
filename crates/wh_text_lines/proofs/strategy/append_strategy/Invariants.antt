use Rattle.std.proofs.Common.{◌≡◌, ◌++◌, take}
use Rattle.wh_text_lines.specs.StrategyText.{strategy_text}
use Rattle.wh_text_lines.proofs.strategy.append_strategy.Given as goal

abbrev pub invariant-loop-expression : goal.invariant-loop-expression
invariant-loop-expression l = l.out.items ≡ l.initial.out.items ++ strategy_text l.names (take l.expression-index l.expression-items)
