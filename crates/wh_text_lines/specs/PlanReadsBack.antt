-- Reading a plan that was written.
use Rattle.std.specs.Prelude.{◌≡◌, ◌≢◌, ◌<◌, ◌^◌, ℕ, Bool, true, not, List, length, AllPairs, Ok}
use Rattle.std.specs.List.{All, list_all}
use Rattle.wh_cert.specs.Tree.{CaseTree, IsTreeOf}
use Rattle.wh_cert.specs.declared.certificate.Certificate.{Certificate}
use Rattle.wh_cert.specs.declared.certificate.Certificate.TheVariants.{Pairs, Search}
use Rattle.wh_cert.specs.declared.certificate.PairMin.{PairMin}
use Rattle.wh_cert.specs.declared.certificate.Scope.{Scope}
use Rattle.wh_cert.specs.declared.certificate.Scope.TheVariants as scope
use Rattle.wh_cert.specs.declared.tree.TreeNode.{TreeNode}
use Rattle.wh_cert.specs.declared.tree.TreeNode.TheVariants.{Bound, Cycle, Branch}
use Rattle.wh_strategy.specs.declared.expression.Expression.{Expression}
use Rattle.wh_text_lines.specs.NodeLine.{is_parting}
use Rattle.wh_text_lines.specs.PlanText.{plan_of, plan_text}
use Rattle.wh_text_lines.specs.ReadsBack.{IsWithin, is_plain}

-- the pair is of views below this number, and its value is one of 128 bits
pub record IsPairWithin (views : ℕ) (pair : PairMin) : Type 0 where
  pub parent : pair.parent < views
  pub first : pair.first < views
  pub second : pair.second < views
  pub least : pair.least < 2 ^ 128

-- the node is of views below this number, and a cycle has an expression
abbrev pub IsNodeWithin : ℕ → TreeNode → Type 0
IsNodeWithin views Bound = Unit {0}
IsNodeWithin views (Cycle list) = (0 < length list) × All (IsWithin views) list
IsNodeWithin views (Branch couple) = (couple.lower < views) × (couple.higher < views)

-- the name has no semicolon
abbrev pub is_unparted : List ℕ → Bool
is_unparted name = list_all (λ b. not (is_parting b)) name

-- A tree over views of these names that can be written and read back. The names have no semicolon, and the nodes are of views and those of
-- a tree at most 1,000 deep.
pub record IsTreeWritable (names : List (List ℕ)) (nodes : List TreeNode) : Type 0 where
  pub unparted : All (λ name. is_unparted name ≡ true) names
  pub within : All (IsNodeWithin (length names)) nodes
  pub tree : CaseTree
  pub whole : IsTreeOf nodes tree

-- a certificate that can be written and read back: for all, pairs of views; for one-way, a tree
abbrev pub IsCertificateWritable : List (List ℕ) → Scope → Certificate → Type 0
IsCertificateWritable names scope.All (Pairs pairs) = All (IsPairWithin (length names)) pairs
IsCertificateWritable names scope.OneWay (Search nodes) = IsTreeWritable names nodes
IsCertificateWritable names scope.All (Search nodes) = ⊥
IsCertificateWritable names scope.OneWay (Pairs pairs) = ⊥

-- A plan over views of these names that can be written and read back. The names are plain and distinct, and the list and the certificate
-- are of views. The certificate fits the scope, and numbers have 128 bits.
pub record IsWritable (names : List (List ℕ)) (own : Scope) (work : ℕ) (list : List Expression) (certificate : Certificate) : Type 0 where
  pub plain : All (λ name. is_plain name ≡ true) names
  pub distinct : AllPairs (λ first second. first ≢ second) names
  pub work_fits : work < 2 ^ 128
  pub list_within : All (IsWithin (length names)) list
  pub certified : IsCertificateWritable names own certificate

-- a plan that was written is read back
abbrev pub PlanReadsBack : Type 0
PlanReadsBack =
    (names : List (List ℕ)) (own : Scope) (work : ℕ) (list : List Expression) (certificate : Certificate) → IsWritable names own work list certificate →
    plan_of names (plan_text names own work list certificate) ≡ Ok (record { scope = own; work = work; strategy = list; certificate = certificate })

-- two plans that are written alike are one
abbrev pub TextsDiffer : Type 0
TextsDiffer =
    (names : List (List ℕ)) (own other : Scope) (work other_work : ℕ) (list other_list : List Expression) (certificate other_certificate : Certificate) →
    IsWritable names own work list certificate → IsWritable names other other_work other_list other_certificate →
    plan_text names own work list certificate ≡ plan_text names other other_work other_list other_certificate →
    (own ≡ other) × (work ≡ other_work) × (list ≡ other_list) × (certificate ≡ other_certificate)
