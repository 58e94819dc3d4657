-- A strategy as text: an expression a line.
use Rattle.std.specs.Prelude.{◌++◌, ℕ, true, List, [], ◌∷◌, Option, option_map, Result}
use Rattle.std.specs.List.{flat_map}
use Rattle.wh_text_lines.specs.ExpressionText.{expression_of, expression_text}
use Rattle.wh_text_lines.specs.LineGrammar.{LineGrammar, read_by}
use Rattle.wh_strategy.specs.declared.expression.Expression.{Expression}
use Rattle.wh_text.specs.declared.fault.LoadFault.{LoadFault}
use Rattle.wh_text.specs.declared.fault.LoadFault.TheVariants.{Strategy}

-- a list and the expression that a line of these words says, if it says one
abbrev pub with_expression : List (List ℕ) → List Expression → List (List ℕ) → Option (List Expression)
with_expression names list words = option_map (λ expression. list ++ expression ∷ []) (expression_of names words)

-- the lines of a strategy over views of these names: an expression each, and any number of them
abbrev pub strategy_grammar : List (List ℕ) → LineGrammar (List Expression)
strategy_grammar names = record { nothing = []; with_line = λ list line words. with_expression names list words; may_end = λ list. true; fault = Strategy }

-- the strategy that a text is, over views of these names, or its first fault
abbrev pub strategy_of : List (List ℕ) → List ℕ → Result (List Expression) LoadFault
strategy_of names text = read_by (strategy_grammar names) text

-- a list as it is written: a line for each expression
abbrev pub strategy_text : List (List ℕ) → List Expression → List ℕ
strategy_text names list = flat_map (λ expression. expression_text names expression ++ 10 ∷ []) list
