-- The lines of a plan's tree, each by itself.
use Rattle.std.specs.Prelude.{◌==◌, ℕ, Bool, false, List, [], ◌∷◌, map, drop, Option, Some, None, option_map, option_and_then, codes, if◌then◌else◌}
use Rattle.std.specs.List.{slice_split}
use Rattle.std.specs.Option.{option_or}
use Rattle.std.specs.Str.{bytes_eq}
use Rattle.wh_cert.specs.declared.tree.TreeNode.{TreeNode}
use Rattle.wh_cert.specs.declared.tree.TreeNode.TheVariants.{Bound, Cycle, Branch}
use Rattle.wh_dag.specs.Written.{number_of}
use Rattle.wh_dag.specs.declared.siblings.Couple.{Couple}
use Rattle.wh_strategy.specs.declared.expression.Expression.{Expression}
use Rattle.wh_text_lines.specs.ExpressionText.{expression_of}
use Rattle.wh_text_lines.specs.Words.{word_at, words_of}

-- the words have the form `bound`
abbrev pub is_bound : List (List ℕ) → Bool
is_bound (first ∷ []) = bytes_eq first (codes "bound")
is_bound _ = false

-- the words have the form `branch U W`
abbrev pub is_branch : List (List ℕ) → Bool
is_branch (first ∷ second ∷ third ∷ []) = bytes_eq first (codes "branch")
is_branch _ = false

-- the words begin with `cycle`
abbrev pub is_cycle : List (List ℕ) → Bool
is_cycle [] = false
is_cycle (first ∷ rest) = bytes_eq first (codes "cycle")

-- a couple of these, where both are views
abbrev pub couple_from : Option ℕ → Option ℕ → Option Couple
couple_from lower higher = option_and_then (λ l. option_map (λ h. record { lower = l; higher = h }) higher) lower

-- the couple in `branch U W`, where U and W are views
abbrev pub couple_in : List (List ℕ) → List (List ℕ) → Option Couple
couple_in names words = couple_from (number_of names (word_at words 1)) (number_of names (word_at words 2))

-- the expressions that these lists of words say, where each says one
abbrev pub expressions_of : List (List ℕ) → List (List (List ℕ)) → Option (List Expression)
expressions_of names [] = Some []
expressions_of names (words ∷ more) =
    option_and_then (λ expression. option_map (λ expressions. expression ∷ expressions) (expressions_of names more)) (expression_of names words)

-- a semicolon parts the expressions of a cycle
abbrev pub is_parting : ℕ → Bool
is_parting b = b == 59

-- the expressions in these parts, the first of which has the word `cycle` before its own
abbrev pub cycle_from : List (List ℕ) → List ℕ → List (List ℕ) → Option (List Expression)
cycle_from names part parts = if is_cycle (words_of part) then expressions_of names (drop 1 (words_of part) ∷ map words_of parts) else None

-- the expressions in `cycle E; E; ..`, whose text is parted so
abbrev pub cycle_in : List (List ℕ) → List (List ℕ) → Option (List Expression)
cycle_in names [] = None
cycle_in names (part ∷ parts) = cycle_from names part parts

-- the node that a line says in each of the three forms, if it has it
abbrev pub bounded_by : List (List ℕ) → Option TreeNode
bounded_by words = if is_bound words then Some Bound else None

abbrev pub branched_by : List (List ℕ) → List (List ℕ) → Option TreeNode
branched_by names words = if is_branch words then option_map Branch (couple_in names words) else None

abbrev pub cycled_by : List (List ℕ) → List ℕ → Option TreeNode
cycled_by names line = option_map Cycle (cycle_in names (slice_split is_parting line))

-- the node that a line of these words says, over views of these names, if it says one
abbrev pub node_of : List (List ℕ) → List ℕ → List (List ℕ) → Option TreeNode
node_of names line words = option_or (bounded_by words) (option_or (branched_by names words) (cycled_by names line))
