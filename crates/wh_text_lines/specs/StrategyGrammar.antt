-- Which texts are strategies, by all their lines at once.
use Rattle.std.specs.Prelude.{◌≡◌, ◌+◌, ℕ, List, [], ◌∷◌, map, not, Option, Some, None, option_map, is_some, unwrap_or, position, Result, Ok, Err}
use Rattle.std.specs.List.{flat_map}
use Rattle.wh_text_lines.specs.ExpressionText.{expression_of}
use Rattle.wh_text_lines.specs.StrategyText.{strategy_of}
use Rattle.wh_text_lines.specs.Words.{lines_of, words_of}
use Rattle.wh_strategy.specs.declared.expression.Expression.{Expression}
use Rattle.wh_text.specs.declared.fault.LoadFault.{LoadFault}
use Rattle.wh_text.specs.declared.fault.LoadFault.TheVariants.{Strategy}

-- what the words of a line say: nothing where there are none, else an expression; and None where they are no expression
abbrev pub said_by : List (List ℕ) → List (List ℕ) → Option (List Expression)
said_by names [] = Some []
said_by names (word ∷ words) = option_map (λ expression. expression ∷ []) (expression_of names (word ∷ words))

-- what each line of a text says
abbrev pub said_in : List (List ℕ) → List ℕ → List (Option (List Expression))
said_in names text = map (λ line. said_by names (words_of line)) (lines_of text)

-- the expressions, or the number of the first line that says none, counted from 1: the place is that line's, counted from 0
abbrev pub all_or_first_bad : Option ℕ → List Expression → Result (List Expression) LoadFault
all_or_first_bad None expressions = Ok expressions
all_or_first_bad (Some place) expressions = Err (Strategy (place + 1))

-- what lines that say this make together
abbrev pub said_together : List (Option (List Expression)) → Result (List Expression) LoadFault
said_together lines = all_or_first_bad (position (λ line. not (is_some line)) lines) (flat_map (λ line. unwrap_or line []) lines)

-- a text is the strategy of all that its lines say, and else is at fault at the first line that has words and says no expression
abbrev pub StrategyGrammar : Type 0
StrategyGrammar = (names : List (List ℕ)) (text : List ℕ) → strategy_of names text ≡ said_together (said_in names text)
