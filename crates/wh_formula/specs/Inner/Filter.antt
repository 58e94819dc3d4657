-- What a stored closure knows: that it answers a test on each row of a width: what only proofs and private contracts use.
use Rattle.std.specs.Prelude.{ℕ, refl}
use Rattle.std.specs.Coded.{Coded, code_by, coded×, coded_ℕ}
use Rattle.wh_formula.specs.Pred.{PredTree}
use Rattle.wh_formula.specs.Inner.PredCode.{pred_code}
use Rattle.wh_formula.specs.Filter.{FilterOf}

-- it is stored as the pair of its fields
abbrev pub filter_code : Coded FilterOf
filter_code = code_by (PredTree × ℕ) (coded× pred_code coded_ℕ) (λ f. (f.pred, f.width)) (λ p. record { pred = p.0; width = p.1 }) (λ _. refl)
