-- What a certificate of a strategy says, and when it is accepted.
use Rattle.std.specs.Prelude.{◌≡◌, ◌≢◌, ℕ, ◌+◌, List, map, take, slice_get, if◌then◌else◌}
use Rattle.wh_dag.specs.Siblings.{sibling_pairs_of}
use Rattle.wh_dag.specs.declared.siblings.SiblingPair.{SiblingPair}
use Rattle.wh_strategy.specs.Prices.{Prices}
use Rattle.wh_strategy.specs.declared.sizes.Size.{Size}
use Rattle.wh_cert.specs.Bound.{pair_min, pair_bound_of}
use Rattle.wh_cert.specs.Order.{comes_first}
use Rattle.wh_cert.specs.Search.{IsAcceptedTree, IsFirstBad}
use Rattle.wh_cert.specs.Tree.{IsTreeOf, tree_of}
use Rattle.wh_cert.specs.declared.certificate.Certificate.{Certificate}
use Rattle.wh_cert.specs.declared.certificate.Certificate.TheVariants.{Pairs, Search}
use Rattle.wh_cert.specs.declared.certificate.PairMin.{PairMin}
use Rattle.wh_cert.specs.declared.certificate.Verdict.{Verdict}
use Rattle.wh_cert.specs.declared.certificate.Verdict.TheVariants.{All, OneWay, Rejected}

-- the line of two views under a parent, of which the first is to be installed first
abbrev pub line_in_order : (ℕ → Size) → ℕ → ℕ → ℕ → PairMin
line_in_order sizes parent first second = record { parent = parent; first = first; second = second; least = pair_min sizes first second }

-- the line of a sibling pair: its two views in the desired order, and its minimum
abbrev pub line_of : (ℕ → Size) → SiblingPair → PairMin
line_of sizes pair =
    if comes_first sizes pair.lower pair.higher then line_in_order sizes pair.parent pair.lower pair.higher
    else line_in_order sizes pair.parent pair.higher pair.lower

-- the lines that a certificate by pairs is to have: those of the sibling pairs, rising
abbrev pub lines_of : List (List ℕ) → (ℕ → Size) → List PairMin
lines_of shape sizes = map (line_of sizes) (sibling_pairs_of shape)

-- the lists differ first at this line, counted from 1; a line that is missing, or is one too many, differs
pub record DifferFirst (lines right : List PairMin) (line : ℕ) : Type 0 where
  pub index : ℕ
  pub counted : line ≡ index + 1
  pub same : take index lines ≡ take index right
  pub differ : slice_get lines index ≢ slice_get right index

-- a certificate by pairs is accepted where its lines are right and the work is the pair bound
pub record IsAccepted (shape : List (List ℕ)) (sizes : ℕ → Size) (work bound : ℕ) (lines : List PairMin) : Type 0 where
  pub right : lines ≡ lines_of shape sizes
  pub reached : work ≡ bound

-- where a certificate by pairs is rejected: at the first line that differs, and at 0 where the lines are right and the work is not the
-- bound
pub data IsRejected (shape : List (List ℕ)) (sizes : ℕ → Size) (work bound : ℕ) (lines : List PairMin) (line : ℕ) : Type 0 where
  wrong_line : DifferFirst lines (lines_of shape sizes) line → IsRejected shape sizes work bound lines line
  other_work : line ≡ 0 → lines ≡ lines_of shape sizes → work ≢ bound → IsRejected shape sizes work bound lines line

-- What the verdict on a certificate says, at these costs and this work of the strategy. A certificate by a tree is the nodes of one tree
-- and nothing after them: what is no such tree gets no verdict.
abbrev pub IsJudged : List (List ℕ) → (ℕ → Size) → Prices → ℕ → Certificate → Verdict → Type 0
IsJudged shape sizes prices work (Pairs lines) All = IsAccepted shape sizes work (pair_bound_of shape sizes prices) lines
IsJudged shape sizes prices work (Pairs lines) OneWay = ⊥
IsJudged shape sizes prices work (Pairs lines) (Rejected line) = IsRejected shape sizes work (pair_bound_of shape sizes prices) lines line
IsJudged shape sizes prices work (Search nodes) All = ⊥
IsJudged shape sizes prices work (Search nodes) OneWay = IsTreeOf nodes (tree_of nodes) × IsAcceptedTree shape sizes prices work (tree_of nodes)
IsJudged shape sizes prices work (Search nodes) (Rejected place) = IsTreeOf nodes (tree_of nodes) × IsFirstBad shape sizes prices work (tree_of nodes) place
