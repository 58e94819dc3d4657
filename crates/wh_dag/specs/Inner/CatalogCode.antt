-- The parts of a catalogue as numbers and lists, by which proofs tell two of them apart.
use Rattle.std.specs.Prelude.{◌≡◌, ℕ, List, ◌⊎◌, Option, refl}
use Rattle.std.specs.Coded.{Coded, code_by, coded×, coded⊎, coded_list, coded_option, coded_ℕ}
use Rattle.std.proofs.Common.{inl, inr}
use Rattle.wh_formula.specs.Expr.{ExprTree}
use Rattle.wh_formula.specs.Inner.ExprCode.{expr_code}
use Rattle.wh_formula.specs.Pred.{PredTree}
use Rattle.wh_formula.specs.Inner.PredCode.{pred_code}
use Rattle.wh_dag.specs.Shape.{Views}
use Rattle.wh_dag.specs.Catalog.{OutputOf, Keep, Sums, DefinitionOf, CatalogOf}

-- kept columns, or groups and sums
abbrev OutputParts : Type 0
OutputParts = List ExprTree ⊎ (List ℕ × List ExprTree)

abbrev parts : OutputOf → OutputParts
parts (Keep kept) = inl kept
parts (Sums group sums) = inr (group, sums)

abbrev output : OutputParts → OutputOf
output (inl kept) = Keep kept
output (inr summary) = Sums summary.0 summary.1

pub output-parts : (o : OutputOf) → output (parts o) ≡ o
output-parts (Keep kept) = refl
output-parts (Sums group sums) = refl

-- an output is stored as its parts
abbrev pub output_code : Coded OutputOf
output_code = code_by OutputParts (coded⊎ (coded_list expr_code) (coded× (coded_list coded_ℕ) (coded_list expr_code))) parts output output-parts

-- a definition is stored as the tuple of its fields
abbrev pub definition_code : Coded DefinitionOf
definition_code =
    code_by (ℕ × (List (ℕ × ℕ) × (PredTree × OutputOf)))
    (coded× coded_ℕ (coded× (coded_list (coded× coded_ℕ coded_ℕ)) (coded× pred_code output_code)))
    (λ d. (d.width, (d.join, (d.filter, d.output))))
    (λ p. record { width = p.0; join = p.1.0; filter = p.1.1.0; output = p.1.1.1 })
    (λ _. refl)

-- the views of a shape are stored as the pair of their fields
abbrev views_code : Coded Views
views_code =
    code_by (List (List ℕ) × List (List ℕ))
    (coded× (coded_list (coded_list coded_ℕ)) (coded_list (coded_list coded_ℕ)))
    (λ v. (v.names, v.children))
    (λ p. record { names = p.0; children = p.1 })
    (λ _. refl)

-- a catalogue is stored as the tuple of its fields
abbrev pub catalog_code : Coded CatalogOf
catalog_code =
    code_by (Views × (List ℕ × List (Option DefinitionOf)))
    (coded× views_code (coded× (coded_list coded_ℕ) (coded_list (coded_option definition_code))))
    (λ c. (c.views, (c.widths, c.definitions)))
    (λ p. record { views = p.0; widths = p.1.0; definitions = p.1.1 })
    (λ _. refl)
