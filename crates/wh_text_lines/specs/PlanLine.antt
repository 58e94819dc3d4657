-- The lines of a plan, each by itself.
use Rattle.std.specs.Prelude.{ℕ, Bool, false, List, [], ◌∷◌, Option, Some, None, option_map, option_and_then, codes, if◌then◌else◌}
use Rattle.std.specs.Option.{option_or}
use Rattle.std.specs.Str.{bytes_eq}
use Rattle.wh_dag.specs.Written.{number_of}
use Rattle.wh_cert.specs.declared.certificate.PairMin.{PairMin}
use Rattle.wh_cert.specs.declared.certificate.Scope.{Scope}
use Rattle.wh_cert.specs.declared.certificate.Scope.TheVariants as scope
use Rattle.wh_text_lines.specs.ExpressionText.{expression_of}
use Rattle.wh_text_lines.specs.Natural.{natural}
use Rattle.wh_text_lines.specs.NodeLine.{node_of}
use Rattle.wh_text_lines.specs.Words.{word_at}
use Rattle.wh_text_lines.specs.declared.plan.line.PlanLine.{PlanLine}
use Rattle.wh_text_lines.specs.declared.plan.line.PlanLine.TheVariants.{Scoped, Worked, Listed, Paired, Searched}

-- the scope of this name
abbrev pub scope_named : List ℕ → Option Scope
scope_named word = if bytes_eq word (codes "all") then Some scope.All else (if bytes_eq word (codes "one-way") then Some scope.OneWay else None)

-- the words have the form `scope S`
abbrev pub is_scope : List (List ℕ) → Bool
is_scope (first ∷ second ∷ []) = bytes_eq first (codes "scope")
is_scope _ = false

-- the words have the form `work N`
abbrev pub is_work : List (List ℕ) → Bool
is_work (first ∷ second ∷ []) = bytes_eq first (codes "work")
is_work _ = false

-- the words have the form `pair V U W N`
abbrev pub is_pair : List (List ℕ) → Bool
is_pair (first ∷ second ∷ third ∷ fourth ∷ fifth ∷ []) = bytes_eq first (codes "pair")
is_pair _ = false

-- a pair of these, where all are views and a number
abbrev pub pair_from : Option ℕ → Option ℕ → Option ℕ → Option ℕ → Option PairMin
pair_from parent first second least =
    option_and_then (λ p. option_and_then (λ f. option_and_then (λ s. option_map (λ n. record { parent = p; first = f; second = s; least = n }) least) second) first) parent

-- the pair in `pair V U W N`, where V, U and W are views, the first to be installed before the second
abbrev pub pair_in : List (List ℕ) → List (List ℕ) → Option PairMin
pair_in names words =
    pair_from (number_of names (word_at words 1)) (number_of names (word_at words 2)) (number_of names (word_at words 3)) (natural (word_at words 4))

-- what these words say in a form, if they have it
abbrev pub scoped_by : List (List ℕ) → Option PlanLine
scoped_by words = if is_scope words then option_map Scoped (scope_named (word_at words 1)) else None

abbrev pub worked_by : List (List ℕ) → Option PlanLine
worked_by words = if is_work words then option_map Worked (natural (word_at words 1)) else None

abbrev pub listed_by : List (List ℕ) → List (List ℕ) → Option PlanLine
listed_by names words = option_map Listed (expression_of names words)

abbrev pub paired_by : List (List ℕ) → List (List ℕ) → Option PlanLine
paired_by names words = if is_pair words then option_map Paired (pair_in names words) else None

-- a node of the tree, if a line of these words says one
abbrev pub searched_by : List (List ℕ) → List ℕ → List (List ℕ) → Option PlanLine
searched_by names line words = option_map Searched (node_of names line words)

-- what a line of these words says in a plan over views of these names, if it says anything there: no two forms have one first word
abbrev pub plan_line_of : List (List ℕ) → List ℕ → List (List ℕ) → Option PlanLine
plan_line_of names line words =
    option_or (scoped_by words)
    (option_or (worked_by words) (option_or (listed_by names words) (option_or (paired_by names words) (searched_by names line words))))
