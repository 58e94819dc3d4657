-- What a stored closure knows: that it answers an expression on each row of a width: what only proofs and private contracts use.
use Rattle.std.specs.Prelude.{ℕ, refl}
use Rattle.std.specs.Coded.{Coded, code_by, coded×, coded_ℕ}
use Rattle.wh_formula.specs.Expr.{ExprTree}
use Rattle.wh_formula.specs.Inner.ExprCode.{expr_code}
use Rattle.wh_formula.specs.Combiner.{CombinerOf}

-- it is stored as the pair of its fields
abbrev pub combiner_code : Coded CombinerOf
combiner_code = code_by (ExprTree × ℕ) (coded× expr_code coded_ℕ) (λ c. (c.expr, c.width)) (λ p. record { expr = p.0; width = p.1 }) (λ _. refl)
