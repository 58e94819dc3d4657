-- Trees node by node: the places that nodes leave.
use Rattle.std.proofs.Common.{◌≡◌, ℕ, List, [], ◌∷◌, ◌++◌, Option, Some, None, refl, ap, sym, ◌∙◌}
use Rattle.std.specs.Prelude.{option_and_then}
use Rattle.std.proofs.lemmas.List.{append-nil, append_assoc}
use Rattle.wh_cert.specs.declared.tree.TreeNode.{TreeNode}
use Rattle.wh_text_lines.specs.PlanText.{nodes_in, nodes_of}
use Rattle.wh_text_lines.specs.TreeGrowth.{after_node, after_nodes, places_after}
use Rattle.wh_text_lines.specs.declared.plan.line.PlanLine.{PlanLine}

and_then-chain : (more : List TreeNode) (nodes : List TreeNode) (places : Option (List ℕ))
    → ((own : List ℕ) → after_nodes (nodes ++ more) own ≡ option_and_then (after_nodes more) (after_nodes nodes own))
    → option_and_then (after_nodes (nodes ++ more)) places ≡ option_and_then (after_nodes more) (option_and_then (after_nodes nodes) places)
and_then-chain more nodes None each = refl
and_then-chain more nodes (Some own) each = each own

-- nodes one after another
pub after_nodes-append : (nodes more : List TreeNode) (places : List ℕ) → after_nodes (nodes ++ more) places ≡ option_and_then (after_nodes more) (after_nodes nodes places)
after_nodes-append [] more places = refl
after_nodes-append (own ∷ nodes) more places = and_then-chain more nodes (after_node own places) (after_nodes-append nodes more)

nodes_of-line : (before : List PlanLine) (line : PlanLine) → nodes_of (before ++ line ∷ []) ≡ nodes_of before ++ nodes_in line
nodes_of-line [] line = append-nil (nodes_in line)
nodes_of-line (first ∷ before) line = ap (λ nodes. nodes_in first ++ nodes) (nodes_of-line before line) ∙ sym (append_assoc (nodes_in first) (nodes_of before) (nodes_in line))

-- the places after one line more
pub places-line : (before : List PlanLine) (line : PlanLine) (places : List ℕ) → places_after (nodes_of before) ≡ Some places
    → places_after (nodes_of (before ++ line ∷ [])) ≡ after_nodes (nodes_in line) places
places-line before line places left =
    ap places_after (nodes_of-line before line) ∙ after_nodes-append (nodes_of before) (nodes_in line) (1 ∷ []) ∙ ap (option_and_then (after_nodes (nodes_in line))) left
