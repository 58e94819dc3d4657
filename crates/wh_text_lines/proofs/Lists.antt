-- What the lines of a strategy make together, from the first line down.
use Rattle.std.proofs.Common.{◌≡◌, ◌≢◌, ℕ, ◌+◌, ◌==◌, Bool, true, false, List, [], ◌∷◌, ◌++◌, length, map, Option, Some, None, option_map, Result, Ok, Err, ◌⊎◌, inl, inr, if◌then◌else◌, refl, ap, sym, ◌∙◌, append_assoc, arith}
use Rattle.std.specs.Prelude.{not, is_some, unwrap_or}
use Rattle.std.specs.List.{position_from, flat_map}
use Rattle.std.proofs.lemmas.Bool.Decides.{eqb_tells}
use Rattle.std.proofs.lemmas.List.{append-nil}
use Rattle.std.proofs.lemmas.Iterator.Adapters.{position_from-zero}
use Rattle.wh_strategy.specs.declared.expression.Expression.{Expression}
use Rattle.wh_text.specs.declared.fault.LoadFault.{LoadFault}
use Rattle.wh_text.specs.declared.fault.LoadFault.TheVariants.{Strategy}
use Rattle.wh_text_lines.specs.ExpressionText.{expression_of}
use Rattle.wh_text_lines.specs.LineGrammar.{if_stands, read_below}
use Rattle.wh_text_lines.specs.StrategyGrammar.{StrategyGrammar, all_or_first_bad, said_by, said_in, said_together}
use Rattle.wh_text_lines.specs.StrategyText.{strategy_grammar, with_expression}
use Rattle.wh_text_lines.specs.Words.{lines_of, words_of}

-- what further lines make of a list, after so many lines
abbrev pub after : ℕ → List Expression → List (Option (List Expression)) → Result (List Expression) LoadFault
after number list [] = Ok list
after number list (None ∷ lines) = Err (Strategy (number + 1))
after number list (Some own ∷ lines) = after (number + 1) (list ++ own) lines

after-together : (number : ℕ) (list : List Expression) (lines : List (Option (List Expression)))
    → all_or_first_bad (position_from (λ line. not (is_some line)) number lines) (list ++ flat_map (λ line. unwrap_or line []) lines) ≡ after number list lines
after-together number list [] = ap Ok (append-nil list)
after-together number list (None ∷ lines) = refl
after-together number list (Some own ∷ lines) =
    ap (all_or_first_bad (position_from (λ line. not (is_some line)) (number + 1) lines)) (sym (append_assoc list own (flat_map (λ line. unwrap_or line []) lines)))
    ∙ after-together (number + 1) (list ++ own) lines

pub said_together-after : (lines : List (Option (List Expression))) → said_together lines ≡ after 0 [] lines
said_together-after lines =
    ap (λ place. all_or_first_bad place (flat_map (λ line. unwrap_or line []) lines)) (position_from-zero (λ line. not (is_some line)) lines) ∙ after-together 0 [] lines

-- ---- the same, read line by line

some_words : (word : List ℕ) (words : List (List ℕ)) → (length (word ∷ words) == 0) ≡ false
some_words word words = by (eqb_tells (length (word ∷ words)) 0)
  where
    by : ((length (word ∷ words) == 0) ≡ true) × (length (word ∷ words) ≡ 0) ⊎ ((length (word ∷ words) == 0) ≡ false) × (length (word ∷ words) ≢ 0) → (length (word ∷ words) == 0) ≡ false
    by (inl e) = absurd (omega (arith, e.1))
    by (inr e) = e.0

-- one line, by its words and what is made of all
line-read : (names : List (List ℕ)) (words : List (List ℕ)) (number : ℕ) (list : List Expression) (lines : List (Option (List Expression))) (next : List Expression → Result (List Expression) LoadFault)
    → ((more : List Expression) → after (number + 1) more lines ≡ next more)
    → after number list (said_by names words ∷ lines) ≡ if_stands (strategy_grammar names) (number + 1) (if length words == 0 then Some list else with_expression names list words) next
line-read names [] number list lines next each = ap (λ more. after (number + 1) more lines) (append-nil list) ∙ each list
line-read names (word ∷ words) number list lines next each =
    by (expression_of names (word ∷ words))
    ∙ sym (ap (λ (b : Bool). if_stands (strategy_grammar names) (number + 1) (if b then Some list else with_expression names list (word ∷ words)) next) (some_words word words))
  where
    by : (own : Option Expression) → after number list (option_map (λ e. e ∷ []) own ∷ lines) ≡ if_stands (strategy_grammar names) (number + 1) (option_map (λ e. list ++ e ∷ []) own) next
    by None = refl
    by (Some e) = each (list ++ e ∷ [])

lines-read : (names : List (List ℕ)) (lines : List (List ℕ)) (number : ℕ) (list : List Expression)
    → after number list (map (λ line. said_by names (words_of line)) lines) ≡ read_below (strategy_grammar names) number list lines
lines-read names [] = λ number list. refl
lines-read names (line ∷ lines) = λ number list.
    line-read names (words_of line) number list (map (λ line. said_by names (words_of line)) lines) (λ more. read_below (strategy_grammar names) (number + 1) more lines)
    (lines-read names lines (number + 1))

pub strategy_read : StrategyGrammar
strategy_read names text = sym (said_together-after (said_in names text) ∙ lines-read names (lines_of text) 0 [])
