-- Reading what was written.
use Rattle.std.specs.Prelude.{◌≡◌, ◌≢◌, ◌<◌, ◌==◌, ◌&&◌, ◌||◌, ℕ, Bool, true, not, List, length, AllPairs, Ok}
use Rattle.std.specs.List.{All, list_all}
use Rattle.wh_strategy.specs.declared.expression.Expression.{Expression}
use Rattle.wh_strategy.specs.declared.expression.Expression.TheVariants.{Comp, Inst}
use Rattle.wh_text.specs.Line.{is_blank}
use Rattle.wh_text_lines.specs.Words.{is_word}
use Rattle.wh_text_lines.specs.StrategyText.{strategy_of, strategy_text}

-- the name is a word of a line: not empty, and without a space, a tab or an LF
abbrev pub is_plain : List ℕ → Bool
is_plain name = is_word name && list_all (λ b. not (is_blank b || b == 10)) name

-- the expression is of views below this number, and a Comp has a source
abbrev pub IsWithin : ℕ → Expression → Type 0
IsWithin views (Comp target sources) = (target < views) × (0 < length sources) × All (λ source. source < views) sources
IsWithin views (Inst target) = target < views

-- where the names are plain and distinct, a list that was written is read back
abbrev pub ReadsBack : Type 0
ReadsBack =
    (names : List (List ℕ)) (list : List Expression) → All (λ name. is_plain name ≡ true) names → AllPairs (λ first second. first ≢ second) names →
    All (IsWithin (length names)) list → strategy_of names (strategy_text names list) ≡ Ok list
