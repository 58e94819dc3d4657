-- The rules once more, as tests of an expression and those that stand before it, which a check runs along the list.
use Rattle.std.specs.Prelude.{◌≡◌, ℕ, ◌+◌, List, [], ◌∷◌, ◌++◌, length, Option, Some, None, Bool, false, not, ◌&&◌, ◌||◌, ◌==◌, nat_le, if◌then◌else◌}
use Rattle.std.specs.List.{list_any}
use Rattle.wh_dag.specs.Shape.{has, children_of}
use Rattle.wh_strategy.specs.declared.expression.Expression.{Expression}
use Rattle.wh_strategy.specs.declared.expression.Expression.TheVariants.{Comp, Inst}
use Rattle.wh_strategy.specs.declared.rule.Rule.{Rule}
use Rattle.wh_strategy.specs.declared.rule.Rule.TheVariants.{S1, S2, S3, S4, S5, S6}
use Rattle.wh_strategy.specs.Expression.{is_inst}

-- a view stands twice in the list
unfoldable pub is_doubled : List ℕ → Bool
is_doubled [] = false
is_doubled (u ∷ us) = has us u || is_doubled us

-- one of these installs u
abbrev pub is_installed : List Expression → ℕ → Bool
is_installed before u = list_any (is_inst u) before

-- the expression is a Comp of v from u and perhaps others
abbrev pub takes : ℕ → ℕ → Expression → Bool
takes v u (Comp w ys) = (w == v) && has ys u
takes v u (Inst w) = false

abbrev pub is_taken : List Expression → ℕ → ℕ → Bool
is_taken before v u = list_any (takes v u) before

-- the expression is a Comp of v from a view that none of these installs
abbrev pub leaves_open : List Expression → ℕ → Expression → Bool
leaves_open before v (Comp w ys) = (w == v) && list_any (λ u. not (is_installed before u)) ys
leaves_open before v (Inst w) = false

-- the expression is a Comp from v
abbrev pub reads : ℕ → Expression → Bool
reads v (Comp w ys) = has ys v
reads v (Inst w) = false

-- no Comp of v, which is over own, from ys may stand after these
abbrev pub is_stray : List Expression → List ℕ → ℕ → List ℕ → Bool
is_stray before own v ys =
    (length ys == 0) || (list_any (λ u. not (has own u)) ys || (is_doubled ys || list_any (is_taken before v) ys))

-- the rule is broken by this expression after these
abbrev pub is_broken : Rule → List (List ℕ) → List Expression → Expression → Bool
is_broken S1 shape before (Comp v ys) = is_stray before (children_of shape v) v ys
is_broken S1 shape before (Inst v) = false
is_broken S2 shape before (Comp v ys) = false
is_broken S2 shape before (Inst v) = nat_le (length shape) v || is_installed before v
is_broken S3 shape before (Comp v ys) = list_any (is_installed before) ys
is_broken S3 shape before (Inst v) = false
is_broken S4 shape before (Comp v ys) = list_any (leaves_open before v) before
is_broken S4 shape before (Inst v) = false
is_broken S5 shape before (Comp v ys) = is_installed before v
is_broken S5 shape before (Inst v) = false
is_broken S6 shape before (Comp v ys) = list_any (reads v) before
is_broken S6 shape before (Inst v) = false

-- a view from v on has a child that no Comp of it is from
unfoldable pub lacks_comp : List Expression → ℕ → List (List ℕ) → Bool
lacks_comp all v [] = false
lacks_comp all v (own ∷ rest) = list_any (λ u. not (is_taken all v u)) own || lacks_comp all (v + 1) rest

-- a view from v on has no Inst
unfoldable pub lacks_inst : List Expression → ℕ → List (List ℕ) → Bool
lacks_inst all v [] = false
lacks_inst all v (own ∷ rest) = not (is_installed all v) || lacks_inst all (v + 1) rest

-- an expression that the rule asks for is missing
abbrev pub lacks : Rule → List (List ℕ) → List Expression → Bool
lacks S1 shape all = lacks_comp all 0 shape
lacks S2 shape all = lacks_inst all 0 shape
lacks S3 shape all = false
lacks S4 shape all = false
lacks S5 shape all = false
lacks S6 shape all = false

-- the first place, counted from 1, at which the rule is broken
unfoldable pub place_from : Rule → List (List ℕ) → List Expression → List Expression → Option ℕ
place_from rule shape before [] = if lacks rule shape before then Some (length before + 1) else None
place_from rule shape before (e ∷ rest) =
    if is_broken rule shape before e then Some (length before + 1)
    else place_from rule shape (before ++ e ∷ []) rest

-- no test of the rule fails along the list
abbrev pub Passes : List (List ℕ) → List Expression → Rule → Type 0
Passes shape list rule = place_from rule shape [] list ≡ None
