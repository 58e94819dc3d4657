-- A plan as text: its scope, its work, the list of the strategy, and the lines of its certificate.
use Rattle.std.specs.Prelude.{◌++◌, ◌==◌, ◌&&◌, ℕ, Bool, true, false, not, nat_lt, List, [], ◌∷◌, length, Result, Ok, Err, codes, decimal}
use Rattle.std.specs.List.{flat_map, join_with_byte, list_any}
use Rattle.wh_dag.specs.Written.{name_of}
use Rattle.wh_cert.specs.declared.certificate.Certificate.{Certificate}
use Rattle.wh_cert.specs.declared.certificate.Certificate.TheVariants.{Pairs, Search}
use Rattle.wh_cert.specs.declared.certificate.PairMin.{PairMin}
use Rattle.wh_cert.specs.declared.certificate.Scope.{Scope}
use Rattle.wh_cert.specs.declared.certificate.Scope.TheVariants as scope
use Rattle.wh_cert.specs.declared.tree.TreeNode.{TreeNode}
use Rattle.wh_strategy.specs.declared.expression.Expression.{Expression}
use Rattle.wh_text.specs.declared.fault.LoadFault.{LoadFault}
use Rattle.wh_text.specs.declared.fault.LoadFault.TheVariants.{Plan as PlanFault}
use Rattle.wh_text_lines.specs.LineGrammar.{LineGrammar, read_by}
use Rattle.wh_text_lines.specs.ListedLines.{listed_grammar}
use Rattle.wh_text_lines.specs.PlanLine.{plan_line_of}
use Rattle.wh_text_lines.specs.StrategyText.{strategy_text}
use Rattle.wh_text_lines.specs.TreeGrowth.{begins_tree, is_tree}
use Rattle.wh_text_lines.specs.TreeText.{tree_text}
use Rattle.wh_text_lines.specs.declared.plan.Plan.{Plan}
use Rattle.wh_text_lines.specs.declared.plan.line.PlanLine.{PlanLine}
use Rattle.wh_text_lines.specs.declared.plan.line.PlanLine.TheVariants.{Scoped, Worked, Listed, Paired, Searched}

-- the line is one of the certificate
abbrev pub is_certifying : PlanLine → Bool
is_certifying (Paired pair) = true
is_certifying (Searched own) = true
is_certifying _ = false

-- the scope that the first line says
abbrev pub scope_in : List PlanLine → Scope
scope_in (Scoped s ∷ lines) = s
scope_in _ = scope.All

-- the node that a line says, if it does
abbrev pub nodes_in : PlanLine → List TreeNode
nodes_in (Searched own) = own ∷ []
nodes_in _ = []

-- the nodes that lines say
abbrev pub nodes_of : List PlanLine → List TreeNode
nodes_of lines = flat_map nodes_in lines

-- pairs are the certificate of this scope, and not a tree
abbrev pub has_pairs : Scope → Bool
has_pairs scope.All = true
has_pairs scope.OneWay = false

-- A line of this kind may stand after these. The scope is first, the work second, then comes the list, and at the end the certificate that
-- fits the scope.
abbrev pub may_stand : List PlanLine → PlanLine → Bool
may_stand before (Scoped s) = length before == 0
may_stand before (Worked n) = length before == 1
may_stand before (Listed e) = nat_lt 1 (length before) && not (list_any is_certifying before)
may_stand before (Paired p) = nat_lt 1 (length before) && has_pairs (scope_in before)
may_stand before (Searched own) = nat_lt 1 (length before) && not (has_pairs (scope_in before))

-- the line may stand after these, and the nodes with its own begin a tree
abbrev pub may_follow : List PlanLine → PlanLine → Bool
may_follow before line = may_stand before line && begins_tree (nodes_of (before ++ line ∷ []))

-- the nodes are those of a whole tree, where the scope asks for one
abbrev pub has_its_tree : Scope → List TreeNode → Bool
has_its_tree scope.All nodes = true
has_its_tree scope.OneWay nodes = is_tree nodes

-- lines may end where the scope and the work are said, and the whole tree where the scope asks for one
abbrev pub may_end : List PlanLine → Bool
may_end said = nat_lt 1 (length said) && has_its_tree (scope_in said) (nodes_of said)

-- the lines of a plan over views of these names: each says something that may stand after what those above it say
abbrev pub plan_grammar : List (List ℕ) → LineGrammar (List PlanLine)
plan_grammar names = listed_grammar (plan_line_of names) may_follow may_end PlanFault

-- the work that the second line says
abbrev pub work_in : List PlanLine → ℕ
work_in (first ∷ Worked n ∷ lines) = n
work_in _ = 0

-- the expression that a line says, if it does
abbrev pub listed_in : PlanLine → List Expression
listed_in (Listed e) = e ∷ []
listed_in _ = []

-- the pair that a line says, if it does
abbrev pub pairs_in : PlanLine → List PairMin
pairs_in (Paired p) = p ∷ []
pairs_in _ = []

-- the certificate of these pairs or of the tree of these nodes, as the scope asks
abbrev pub certificate_of : Scope → List PairMin → List TreeNode → Certificate
certificate_of scope.All pairs nodes = Pairs pairs
certificate_of scope.OneWay pairs nodes = Search nodes

-- the plan that lines say
abbrev pub plan_from : List PlanLine → Plan
plan_from lines =
    record { scope = scope_in lines; work = work_in lines; strategy = flat_map listed_in lines; certificate = certificate_of (scope_in lines) (flat_map pairs_in lines) (nodes_of lines) }

-- the plan that lines say, where they say one
abbrev pub plan_said : Result (List PlanLine) LoadFault → Result Plan LoadFault
plan_said (Ok lines) = Ok (plan_from lines)
plan_said (Err fault) = Err fault

-- the plan that a text is, over views of these names, or its first fault
abbrev pub plan_of : List (List ℕ) → List ℕ → Result Plan LoadFault
plan_of names text = plan_said (read_by (plan_grammar names) text)

-- a scope as it is written
abbrev pub scope_text : Scope → List ℕ
scope_text scope.All = codes "all"
scope_text scope.OneWay = codes "one-way"

-- the words that say a pair; a number that is no view's has no name
abbrev pub pair_words : List (List ℕ) → PairMin → List (List ℕ)
pair_words names pair =
    codes "pair" ∷ name_of names pair.parent ∷ name_of names pair.first ∷ name_of names pair.second ∷ decimal pair.least ∷ []

-- a line of words as it is written, with a space between each two and an LF
abbrev pub line_text : List (List ℕ) → List ℕ
line_text words = join_with_byte 32 words ++ 10 ∷ []

-- a certificate as it is written: a line for each pair, or for each node of its tree
abbrev pub certificate_text : List (List ℕ) → Certificate → List ℕ
certificate_text names (Pairs pairs) = flat_map (λ pair. line_text (pair_words names pair)) pairs
certificate_text names (Search nodes) = tree_text names nodes

-- a plan of this scope, work, list and certificate as it is written
abbrev pub plan_text : List (List ℕ) → Scope → ℕ → List Expression → Certificate → List ℕ
plan_text names scope work list certificate =
    line_text (codes "scope" ∷ scope_text scope ∷ []) ++ (line_text (codes "work" ∷ decimal work ∷ []) ++ (strategy_text names list ++ certificate_text names certificate))
