-- What outputs and definitions are made of, and what they are seen as.
use Rattle.std.specs.Prelude.{◌≡◌, ℕ, List, map, All}
use Rattle.wh_formula.specs.Expr.{ExprTree}
use Rattle.wh_formula.specs.Filter.{FilterOf}
use Rattle.wh_formula.specs.Combiner.{CombinerOf}
use Rattle.wh_dag.specs.Catalog.{OutputOf, FitsOutput, DefinitionOf, IsDefinition}
use Rattle.wh_dag.specs.Catalog as shown
use Rattle.wh_dag.specs.declared.output.Output.{Output}
use Rattle.wh_dag.specs.declared.output.Output.TheVariants.{Keep, Sums}

-- the expressions that combiners answer
abbrev pub exprs_of : List CombinerOf → List ExprTree
exprs_of combiners = map (λ c. c.expr) combiners

-- an output with expressions in place of combiners
abbrev pub output_of : {G : Type 0} → Output G → OutputOf
output_of (Keep kept) = shown.Keep (exprs_of kept.items)
output_of (Sums group sums) = shown.Sums group.items (exprs_of sums.items)

-- the combiners of an output
abbrev pub combiners_of : {G : Type 0} → Output G → List CombinerOf
combiners_of (Keep kept) = kept.items
combiners_of (Sums group sums) = sums.items

-- each combiner of the output is for rows of that width, in which each place that it reads lies
pub record IsOver {G : Type 0} (width : ℕ) (out : Output G) : Type 0 where
  pub combiners : All (λ c. c.width ≡ width) (combiners_of out)
  pub places : FitsOutput width (output_of out)

-- the definition of these parts, over rows of the filter's width
abbrev pub definition_from : {G : Type 0} → List (ℕ × ℕ) → FilterOf → Output G → DefinitionOf
definition_from join filter out = record { width = filter.width; join = join; filter = filter.pred; output = output_of out }

-- the combiners are for rows of the filter's width, in which each place that the parts read lies
pub record OfOneWidth {G : Type 0} (join : List (ℕ × ℕ)) (filter : FilterOf) (out : Output G) : Type 0 where
  pub combiners : All (λ c. c.width ≡ filter.width) (combiners_of out)
  pub places : IsDefinition (definition_from join filter out)
