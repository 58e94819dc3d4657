-- Words that are taken are of the table.
use Rattle.std.proofs.Common.{◌≡◌, ◌≤◌, arith, codes, refl, sym, subst, List, [], ◌∷◌, Option, None, Some}
use Rattle.std.specs.Prelude.{IsSome, IsSomeAnd, find}
use Rattle.std.specs.List.{AllByRecursion}
use Rattle.std.specs.Str.{bytes_eq}
use Rattle.clap.specs.Words.{Row, Text, fault_of, first_of, subcommand_of}
use Rattle.whview.specs.CommandLine.{Amount, File, Number, Print, Takes, options_of, print_fault, table, whview_app, worth}
use Rattle.whview.specs.CommandTaken.{MayBeWorth, TakenWordsAreOfTheTable}
use Rattle.whview.specs.Inner.CommandLine.{AreTaken, Fits, IsCommand, NamesCommand, check, certify, live, night, plan, replay}
use Rattle.whview.proofs.Commands.{faultless_names}
use Rattle.whview.proofs.LeafRows.{nil_parts}
use Rattle.whview.proofs.NumberTexts.{number_text}

-- its default is within its bounds, and an amount is 1 at least
abbrev IsSound : Takes → Type 0
IsSound (Number least most default) = (least ≤ default) × (default ≤ most)
IsSound (Amount least most default) = (1 ≤ least) × (least ≤ default) × (default ≤ most)
IsSound Print = Unit {0}
IsSound File = Unit {0}

option_within : (takes : Takes) (text : Option Text) → IsSound takes → Fits takes text → MayBeWorth takes (worth takes text)
option_within (Number least most default) None sound fits = sound
option_within (Number least most default) (Some t) sound fits = (fits.2, fits.3)
option_within (Amount least most default) None sound fits = (sound.1, sound.2)
option_within (Amount least most default) (Some t) sound fits = let is = number_text least most t sound.0 fits in (is.no_less, is.most)
option_within Print text sound fits = tt
option_within File text sound fits = tt

options_within : (rows : List Row) (options : List (Text × Takes)) → AllByRecursion (λ o. IsSound o.1) options → AreTaken rows options
    → AllByRecursion (λ o. MayBeWorth o.1 (worth o.1 (first_of o.0 rows))) options
options_within rows [] sound taken = tt
options_within rows (o ∷ options) sound taken = (option_within o.1 (first_of o.0 rows) sound.0 taken.0, options_within rows options sound.1 taken.1)

abbrev IsOfTheTable : Text × List Row → Type 0
IsOfTheTable found = IsSome (find (λ c. bytes_eq c.0 found.0) table) × AllByRecursion (λ o. MayBeWorth o.1 (worth o.1 (first_of o.0 found.1))) (options_of found.0)

-- a command of this name
named : (found : Text × List Row) (name : Text) → found.0 ≡ name → IsSome (find (λ c. bytes_eq c.0 name) table) → AllByRecursion (λ o. IsSound o.1) (options_of name)
    → AreTaken found.1 (options_of name) → IsOfTheTable found
named found name same known sound taken =
    subst (λ (n : Text). IsOfTheTable (n, found.1)) (sym same) (known, options_within found.1 (options_of name) sound taken)

abbrev IsPriced : Type 0
IsPriced = AllByRecursion (λ (o : Text × Takes). IsSound o.1) (options_of (codes "check"))

priced_sound : IsPriced
priced_sound = ((omega arith, omega arith, omega arith), ((omega arith, omega arith, omega arith), (tt, tt)))

command_within : (found : Text × List Row) → IsCommand found → IsOfTheTable found
command_within found (check is taken) = named found (codes "check") is refl priced_sound taken
command_within found (plan is taken) = named found (codes "plan") is refl
    ((omega arith, omega arith, omega arith), ((omega arith, omega arith, omega arith), (tt, ((omega arith, omega arith, omega arith), tt)))) taken
command_within found (certify is taken) = named found (codes "certify") is refl priced_sound taken
command_within found (night is taken) = named found (codes "night") is refl
    ((omega arith, omega arith), ((omega arith, omega arith), ((omega arith, omega arith), (tt, (tt, ((omega arith, omega arith), tt)))))) taken
command_within found (replay is taken) = named found (codes "replay") is refl (tt, ((omega arith, omega arith), tt)) taken
command_within found (live is taken) = named found (codes "live") is refl
    ((omega arith, omega arith), ((omega arith, omega arith), ((omega arith, omega arith), ((omega arith, omega arith), (tt, ((omega arith, omega arith), tt)))))) taken

found_within : (found : Option (Text × List Row)) → NamesCommand found → IsSomeAnd found IsOfTheTable
found_within None is = is
found_within (Some found) is = command_within found is

pub taken_words : TakenWordsAreOfTheTable
taken_words words none = found_within (subcommand_of whview_app words) (faultless_names words (nil_parts (fault_of whview_app words) (print_fault (subcommand_of whview_app words)) none).0)
