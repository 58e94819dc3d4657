-- The rules of a strategy over a shape, said by places in the list. Places count from 0 here; a fault counts them from 1.
use Rattle.std.specs.Prelude.{◌≡◌, ℕ, ◌+◌, ◌<◌, ◌≤◌, List, [], length, true, false}
use Rattle.wh_dag.specs.Shape.{has, Distinct, children_of}
use Rattle.wh_strategy.specs.declared.expression.Expression.{Expression}
use Rattle.wh_strategy.specs.declared.expression.Expression.TheVariants.{Comp, Inst}
use Rattle.wh_strategy.specs.declared.rule.Rule.{Rule}
use Rattle.wh_strategy.specs.declared.rule.Rule.TheVariants.{S1, S2, S3, S4, S5, S6}
use Rattle.wh_strategy.specs.declared.correct.CheckFault.{CheckFault}
use Rattle.wh_strategy.specs.declared.correct.CheckFault.TheVariants.{Broken, Memory}
use Rattle.wh_strategy.specs.Expression.{At}

-- the list that a check accepted, and the child lists of the shape that it was judged over
pub record Judged : Type 0 where
  pub children : List (List ℕ)
  pub list : List Expression

-- What the rules say. Over a shape this is that no rule is broken at any place. Where a view could be its own child, a Comp from its own
-- target would break no rule and yet not stand before itself.
pub record IsCorrect (shape : List (List ℕ)) (list : List Expression) : Type 0 where
  -- S1: a Comp is of a view, from one child of it or more, none twice
  pub allowed : (p v : ℕ) (ys : List ℕ) → At list p (Comp v ys) → (v < length shape) × (1 ≤ length ys) × Distinct ys × ((u : ℕ) → has ys u ≡ true → has (children_of shape v) u ≡ true)
  -- S1: no two Comps of a view have a child in common
  pub once : (p q v u : ℕ) (ys zs : List ℕ) → At list p (Comp v ys) → At list q (Comp v zs) → has ys u ≡ true → has zs u ≡ true → p ≡ q
  -- S1: each child of a view stands in a Comp of it
  pub each : (v u : ℕ) → has (children_of shape v) u ≡ true → (p : ℕ) × (ys : List ℕ) × At list p (Comp v ys) × (has ys u ≡ true)
  -- S2: an Inst is of a view
  pub views : (p v : ℕ) → At list p (Inst v) → v < length shape
  -- S2: no view has two Insts
  pub one_inst : (p q v : ℕ) → At list p (Inst v) → At list q (Inst v) → p ≡ q
  -- S2: each view has an Inst
  pub an_inst : (v : ℕ) → v < length shape → (p : ℕ) × At list p (Inst v)
  -- S3: a Comp stands before the Inst of each view that it is from
  pub before_inst : (p q v u : ℕ) (ys : List ℕ) → At list p (Comp v ys) → has ys u ≡ true → At list q (Inst u) → p < q
  -- S4: between two Comps of a view stand the Insts of those that the earlier one is from
  pub between : (p r v u : ℕ) (ys zs : List ℕ) → At list p (Comp v ys) → At list r (Comp v zs) → p < r → has ys u ≡ true → (q : ℕ) × At list q (Inst u) × (q < r)
  -- S5: a Comp stands before the Inst of its view
  pub own_inst : (p q v : ℕ) (ys : List ℕ) → At list p (Comp v ys) → At list q (Inst v) → p < q
  -- S6: the Comps of a view stand before each Comp that is from it
  pub changes_first : (p q v w : ℕ) (ys zs : List ℕ) → At list p (Comp v ys) → At list q (Comp w zs) → has zs v ≡ true → p < q

-- each Comp is from one view
abbrev pub IsOneWay : List Expression → Type 0
IsOneWay list = (p v : ℕ) (ys : List ℕ) → At list p (Comp v ys) → length ys ≡ 1

-- Where a rule is broken. A missing expression is missed at the place after the last.

-- why no Comp of v from ys may stand at this place
pub data IsStray (shape : List (List ℕ)) (list : List Expression) (place v : ℕ) (ys : List ℕ) : Type 0 where
  base_view : children_of shape v ≡ [] → IsStray shape list place v ys
  no_source : ys ≡ [] → IsStray shape list place v ys
  no_child : (u : ℕ) → has ys u ≡ true → has (children_of shape v) u ≡ false → IsStray shape list place v ys
  twice : (Distinct ys → ⊥) → IsStray shape list place v ys
  again : (earlier u : ℕ) (zs : List ℕ) → earlier < place → At list earlier (Comp v zs) → has zs u ≡ true → has ys u ≡ true → IsStray shape list place v ys

pub data BreaksS1 (shape : List (List ℕ)) (list : List Expression) (place : ℕ) : Type 0 where
  stray_comp : (v : ℕ) (ys : List ℕ) → At list place (Comp v ys) → IsStray shape list place v ys → BreaksS1 shape list place
  missing_comp : (v u : ℕ) → has (children_of shape v) u ≡ true → ((p : ℕ) (ys : List ℕ) → At list p (Comp v ys) → has ys u ≡ false) → place ≡ length list → BreaksS1 shape list place

pub data BreaksS2 (shape : List (List ℕ)) (list : List Expression) (place : ℕ) : Type 0 where
  no_view : (v : ℕ) → At list place (Inst v) → length shape ≤ v → BreaksS2 shape list place
  second_inst : (v earlier : ℕ) → At list place (Inst v) → earlier < place → At list earlier (Inst v) → BreaksS2 shape list place
  missing_inst : (v : ℕ) → v < length shape → ((p : ℕ) → At list p (Inst v) → ⊥) → place ≡ length list → BreaksS2 shape list place

-- the Comp at this place is from a view whose Inst stands earlier
pub record BreaksS3 (list : List Expression) (place : ℕ) : Type 0 where
  pub target : ℕ
  pub sources : List ℕ
  pub comp : At list place (Comp target sources)
  pub source : ℕ
  pub among : has sources source ≡ true
  pub earlier : ℕ
  pub before : earlier < place
  pub inst : At list earlier (Inst source)

-- an earlier Comp of the same view is from a view whose Inst does not stand before this place
pub record BreaksS4 (list : List Expression) (place : ℕ) : Type 0 where
  pub target : ℕ
  pub sources : List ℕ
  pub comp : At list place (Comp target sources)
  pub earlier : ℕ
  pub before : earlier < place
  pub from : List ℕ
  pub first : At list earlier (Comp target from)
  pub source : ℕ
  pub among : has from source ≡ true
  pub still_old : (q : ℕ) → At list q (Inst source) → place ≤ q

-- the Inst of the Comp's view stands earlier
pub record BreaksS5 (list : List Expression) (place : ℕ) : Type 0 where
  pub target : ℕ
  pub sources : List ℕ
  pub comp : At list place (Comp target sources)
  pub earlier : ℕ
  pub before : earlier < place
  pub inst : At list earlier (Inst target)

-- a Comp that is from this Comp's view stands earlier
pub record BreaksS6 (list : List Expression) (place : ℕ) : Type 0 where
  pub target : ℕ
  pub sources : List ℕ
  pub comp : At list place (Comp target sources)
  pub earlier : ℕ
  pub before : earlier < place
  pub reader : ℕ
  pub from : List ℕ
  pub reads : At list earlier (Comp reader from)
  pub among : has from target ≡ true

-- the rule is broken at this place
abbrev pub Breaks : Rule → List (List ℕ) → List Expression → ℕ → Type 0
Breaks S1 shape list place = BreaksS1 shape list place
Breaks S2 shape list place = BreaksS2 shape list place
Breaks S3 shape list place = BreaksS3 list place
Breaks S4 shape list place = BreaksS4 list place
Breaks S5 shape list place = BreaksS5 list place
Breaks S6 shape list place = BreaksS6 list place

-- the number of the rule: 1 for S1
abbrev pub number_of : Rule → ℕ
number_of S1 = 1
number_of S2 = 2
number_of S3 = 3
number_of S4 = 4
number_of S5 = 5
number_of S6 = 6

-- the list breaks the rule nowhere
abbrev pub Keeps : Rule → List (List ℕ) → List Expression → Type 0
Keeps rule shape list = (p : ℕ) → Breaks rule shape list p → ⊥

-- this is the first place at which the rule is broken, counted from 1
pub record IsFirstPlace (rule : Rule) (shape : List (List ℕ)) (list : List Expression) (place : ℕ) : Type 0 where
  pub index : ℕ
  pub counted : place ≡ index + 1
  pub broken : Breaks rule shape list index
  pub first : (p : ℕ) → p < index → Breaks rule shape list p → ⊥

-- this is the first rule that is broken, at its first place
pub record IsFirstBroken (shape : List (List ℕ)) (list : List Expression) (rule : Rule) (place : ℕ) : Type 0 where
  pub there : IsFirstPlace rule shape list place
  pub kept : (earlier : Rule) → number_of earlier < number_of rule → Keeps earlier shape list

-- why a list was refused: the first broken rule, or, of a correct list alone, want of memory
abbrev pub IsReason : List (List ℕ) → List Expression → CheckFault → Type 0
IsReason shape list (Broken rule place) = IsFirstBroken shape list rule place
IsReason shape list Memory = IsCorrect shape list
