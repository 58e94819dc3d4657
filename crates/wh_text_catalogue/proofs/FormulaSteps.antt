-- One level of a formula whose kinds are looked at.
use Rattle.std.proofs.Common.{◌≡◌, ℕ, suc, Some, Result, Ok, Err, refl, inl, inr}
use Rattle.std.specs.Prelude.{◌⊎◌, IfOk, IfErr}
use Rattle.toml.specs.Data.{Data}
use Rattle.wh_text.specs.declared.fault.LoadFault.{LoadFault}
use Rattle.wh_text.specs.declared.fault.LoadFault.TheVariants.{Memory}
use Rattle.wh_text_catalogue.specs.ExprForm.{WrittenExpr, expr_form}
use Rattle.wh_text_catalogue.specs.FormulaKinds.{Texts, keeping, typed_expr, typed_form, typed_pred, typed_test}
use Rattle.wh_text_catalogue.specs.Header.{HeaderOf}
use Rattle.wh_text_catalogue.specs.PredForm.{WrittenPred, pred_form}
use Rattle.wh_text_catalogue.specs.declared.definitions.formula_kinds.TypedExpr.{TypedExpr}

-- an expression of this first level
pub typed_expr-level : (header : HeaderOf) (levels below : ℕ) (value : Data) (texts : Texts) (form : WrittenExpr) → levels ≡ suc below → Some form ≡ expr_form value
    → typed_expr header levels value texts ≡ typed_form header (typed_expr header below) (Some form) texts
typed_expr-level header levels below value texts form more same = rw (more, ← same) refl

-- a predicate of this first level
pub typed_pred-level : (header : HeaderOf) (levels below : ℕ) (value : Data) (texts : Texts) (form : WrittenPred) → levels ≡ suc below → Some form ≡ pred_form value
    → typed_pred header levels value texts ≡ typed_test header (typed_expr header below) (typed_pred header below) (Some form) texts
typed_pred-level header levels below value texts form more same = rw (more, ← same) refl

-- a column leaves the texts as they are
pub keeping-ok : (answer outcome : Result TypedExpr LoadFault) (texts : Texts) → IfOk answer (λ typed. outcome ≡ Ok typed) → IfOk answer (λ typed. keeping texts outcome ≡ Ok (typed, texts))
keeping-ok (Ok typed) outcome texts same = rw same refl
keeping-ok (Err fault) outcome texts same = tt

pub keeping-err : (answer outcome : Result TypedExpr LoadFault) (texts : Texts) → IfErr answer (λ f. (f ≡ Memory) ⊎ (outcome ≡ Err f)) → IfErr answer (λ f. (f ≡ Memory) ⊎ (keeping texts outcome ≡ Err f))
keeping-err (Ok typed) outcome texts same = tt
keeping-err (Err fault) outcome texts same = elim same [ inl memory ↦ inl memory | inr other ↦ inr (rw other refl) ]
