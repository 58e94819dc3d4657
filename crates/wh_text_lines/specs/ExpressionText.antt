-- Expressions as words: `comp V from U ..` and `inst V`, where views stand by name.
use Rattle.std.specs.Prelude.{◌&&◌, ℕ, Bool, false, List, [], ◌∷◌, Option, Some, None, option_map, option_and_then, codes, drop, map, slice_index_or, if◌then◌else◌}
use Rattle.std.specs.Option.{option_or}
use Rattle.std.specs.List.{join_with_byte}
use Rattle.std.specs.Str.{bytes_eq}
use Rattle.wh_dag.specs.Written.{name_of, number_of}
use Rattle.wh_strategy.specs.declared.expression.Expression.{Expression}
use Rattle.wh_strategy.specs.declared.expression.Expression.TheVariants.{Comp, Inst}

-- the numbers of the views of these names, where each is a view's
abbrev pub views_of : List (List ℕ) → List (List ℕ) → Option (List ℕ)
views_of names [] = Some []
views_of names (word ∷ words) = option_and_then (λ view. option_map (λ views. view ∷ views) (views_of names words)) (number_of names word)

-- the words have the form `comp V from U ..`, with one U or more
abbrev pub is_comp : List (List ℕ) → Bool
is_comp (first ∷ target ∷ from ∷ source ∷ sources) = bytes_eq first (codes "comp") && bytes_eq from (codes "from")
is_comp _ = false

-- the words have the form `inst V`
abbrev pub is_inst : List (List ℕ) → Bool
is_inst (first ∷ target ∷ []) = bytes_eq first (codes "inst")
is_inst _ = false

-- V in `comp V from U ..` and in `inst V`
abbrev pub target_in : List (List ℕ) → List ℕ
target_in words = slice_index_or words 1 []

-- the U in `comp V from U ..`
abbrev pub sources_in : List (List ℕ) → List (List ℕ)
sources_in words = drop 3 words

-- a Comp of these, where all are views
abbrev pub comp_from : Option ℕ → Option (List ℕ) → Option Expression
comp_from target sources = option_and_then (λ view. option_map (Comp view) sources) target

-- the Comp that these words are, if they are one
abbrev pub comp_of : List (List ℕ) → List (List ℕ) → Option Expression
comp_of names words = if is_comp words then comp_from (number_of names (target_in words)) (views_of names (sources_in words)) else None

-- the Inst that these words are, if they are one
abbrev pub inst_of : List (List ℕ) → List (List ℕ) → Option Expression
inst_of names words = if is_inst words then option_map Inst (number_of names (target_in words)) else None

-- the expression that these words are, if they are one
abbrev pub expression_of : List (List ℕ) → List (List ℕ) → Option Expression
expression_of names words = option_or (comp_of names words) (inst_of names words)

-- the words that say an expression; a number that is no view's has no name
abbrev pub words_for : List (List ℕ) → Expression → List (List ℕ)
words_for names (Comp target sources) = codes "comp" ∷ name_of names target ∷ codes "from" ∷ map (name_of names) sources
words_for names (Inst target) = codes "inst" ∷ name_of names target ∷ []

-- an expression as it is written: its words, with a space between each two
abbrev pub expression_text : List (List ℕ) → Expression → List ℕ
expression_text names expression = join_with_byte 32 (words_for names expression)
