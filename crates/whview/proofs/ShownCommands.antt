-- What commands have in common that are shown alike.
use Rattle.std.proofs.Common.{◌≡◌, ◌∙◌, ℕ, zero, suc, codes, cond, sym, List, [], ◌∷◌, Option, None, Some}
use Rattle.std.specs.Str.{bytes_eq}
use Rattle.clap.specs.Words.{Row, Text}
use Rattle.wh_strategy.specs.Prices.{prices_of}
use Rattle.wh_strategy.specs.declared.costs.Costs.{Costs}
use Rattle.whview.specs.CommandLine.{IsAsked, OfFile, OfNumber, OfPrint, Worth, shown, usual_limit}
use Rattle.whview.specs.declared.command_line.Asked.{Asked}
use Rattle.whview.specs.declared.night_options.Printed.{Printed}
use Rattle.whview.specs.declared.night_options.Printed.TheVariants.{Tables}

-- what a command is shown as
abbrev pub Shown : Type 0
Shown = Text × List Worth

-- the number at this place
abbrev pub number_at : ℕ → List Worth → ℕ
number_at place [] = 0
number_at zero (OfNumber n ∷ rest) = n
number_at zero (OfPrint what ∷ rest) = 0
number_at zero (OfFile path ∷ rest) = 0
number_at (suc place) (w ∷ rest) = number_at place rest

-- what is to be printed
abbrev pub print_in : List Worth → Printed
print_in [] = Tables
print_in (OfPrint what ∷ rest) = what
print_in (OfNumber n ∷ rest) = print_in rest
print_in (OfFile path ∷ rest) = print_in rest

-- the file
abbrev pub file_in : List Worth → Option Text
file_in [] = None
file_in (OfFile path ∷ rest) = path
file_in (OfNumber n ∷ rest) = file_in rest
file_in (OfPrint what ∷ rest) = file_in rest

-- the most bytes of the input
abbrev pub limit_in : Shown → ℕ
limit_in s =
    cond (bytes_eq s.0 (codes "night")) (number_at 5 s.1)
    (cond (bytes_eq s.0 (codes "replay")) (number_at 1 s.1) (cond (bytes_eq s.0 (codes "live")) (number_at 5 s.1) usual_limit))

-- two commands that are asked for by the same words are shown alike
pub shown_alike : (found : Option (Text × List Row)) (command other : Asked) → IsAsked found command → IsAsked found other → shown other ≡ shown command
shown_alike found command other f g = inside (shown other) (shown command) (sym g ∙ f)
  where
    inside : (s t : Shown) → Some s ≡ Some t → s ≡ t
    inside s t e = cc

pub prices_alike : (costs costs' : Costs) → costs'.comp ≡ costs.comp → costs'.inst ≡ costs.inst → prices_of costs' ≡ prices_of costs
prices_alike costs costs' comp inst = λ i. record { comp = comp i; inst = inst i }
