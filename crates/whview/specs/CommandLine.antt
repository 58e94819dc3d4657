-- The command line of the program: the words that it takes, and what they ask for.
use Rattle.std.specs.Prelude.{◌≡◌, ◌||◌, ℕ, Bool, List, [], ◌∷◌, ◌++◌, Option, None, Some, codes, cond, find, fold, map, true, option_map, pos}
use Rattle.std.specs.Option.{option_map_or}
use Rattle.std.specs.Str.{bytes_eq}
use Rattle.std.specs.Str.Parse.{digits_value, without_leading_plus}
use Rattle.clap.specs.Kinds.{or_else}
use Rattle.clap.specs.Words.{App, Kinds, Row, Rule, Text, fault_of, first_of, new_app, new_rule, subcommand_of, with_rule, with_subcommand}
use Rattle.clap.specs.declared.builder.value_parser.ValueParser.{ValueParser}
use Rattle.clap.specs.declared.builder.value_parser.ValueParser.TheVariants as parser
use Rattle.clap.specs.declared.error.kind.ErrorKind.TheVariants as kind
use Rattle.whview.specs.declared.command_line.Asked.{Asked}
use Rattle.whview.specs.declared.night_options.Printed.{Printed}
use Rattle.whview.specs.declared.night_options.Printed.TheVariants.{Changes, Tables}
use Rattle.whview.specs.declared.command_line.Asked.TheVariants as asked

-- ---- the table

-- What an option takes, and what it is worth where it is left out. It takes a whole number from `least` to `most`, with or without a plus,
-- and else is `default`. Or it takes `tables` or `changes`, and else is tables; or a file, and else none. Of an amount, a number with a
-- minus is refused as one below the least, and not as no number.
pub data Takes : Type 0 where
  Number : (least most default : ℕ) → Takes
  Amount : (least most default : ℕ) → Takes
  Print : Takes
  File : Takes

-- the options of a command that has costs, each by the name that stands behind `--`
abbrev pub priced : List (Text × Takes)
priced = (codes "comp-cost", Amount 1 1000000 1) ∷ (codes "inst-cost", Amount 1 1000000 1) ∷ (codes "input", File) ∷ []

-- the most bytes that an input may have where nothing else is said
abbrev pub usual_limit : ℕ
usual_limit = 67108864

-- each command with its options: each is given once at most, and in any order
abbrev pub table : List (Text × List (Text × Takes))
table =
    (codes "check", priced)
    ∷ (codes "plan", priced ++ (codes "budget", Amount 1 9223372036854775807 1000000) ∷ [])
    ∷ (codes "certify", priced)
    ∷ (
      codes "night",
      (codes "workers", Number 1 16 1) ∷ (codes "readers", Number 0 16 0) ∷ (codes "page-keys", Number 1 256 256)
          ∷ (codes "print", Print) ∷ (codes "input", File) ∷ (codes "most", Number 1 1099511627776 usual_limit) ∷ [],
    )
    ∷ (codes "replay", (codes "input", File) ∷ (codes "most", Number 1 1099511627776 usual_limit) ∷ [])
    ∷ (
      codes "live",
      (codes "workers", Number 1 16 1) ∷ (codes "desks", Number 1 16 16) ∷ (codes "versions", Number 2 4 2)
          ∷ (codes "page-keys", Number 1 256 256) ∷ (codes "input", File) ∷ (codes "most", Number 1 1099511627776 usual_limit) ∷ [],
    )
    ∷ []

-- the options of the command of this name
abbrev pub options_of : Text → List (Text × Takes)
options_of name = option_map_or (λ c. c.1) (find (λ c. bytes_eq c.0 name) table) []

-- ---- the words, as `clap` is to read them by the table

abbrev pub parser_of : Takes → Option ValueParser
parser_of (Number least most default) = Some (parser.Unsigned least most)
parser_of (Amount least most default) = Some (parser.Signed (pos least) (pos most))
parser_of _ = None

-- the rule of an option with its value: `--NAME VALUE`
abbrev pub rule_for : Text × Takes → Rule
rule_for o = record (new_rule o.0) { long = Some o.0; value_names = 1; parser = parser_of o.1 }

-- a command with these options
abbrev pub command_of : Text → List (Text × Takes) → App
command_of name options = fold with_rule (new_app name) (map rule_for options)

-- the program with these commands: the words begin with one of them, and not with the program's name
abbrev pub program_of : List (Text × List (Text × Takes)) → App
program_of commands = fold (λ a c. with_subcommand a (command_of c.0 c.1).top)
    (record (new_app (codes "whview")) { top = record (new_app (codes "whview")).top { no_binary_name = true; subcommand_required = true } }) commands

abbrev pub whview_app : App
whview_app = program_of table

-- the word of `--print`, where it is given, is one of two
abbrev pub is_printable : Option Text → Bool
is_printable None = true
is_printable (Some word) = bytes_eq word (codes "tables") || bytes_eq word (codes "changes")

-- what is wrong with a command that `clap` has found: that its `--print` has another word
abbrev pub print_fault : Option (Text × List Row) → Kinds
print_fault None = []
print_fault (Some command) = cond (is_printable (first_of (codes "print") command.1)) [] (kind.InvalidValue ∷ [])

-- what is wrong with words: what `clap` finds in them, or, where that is nothing, the word of their `--print`
abbrev pub words_fault : List Text → Kinds
words_fault words = or_else (fault_of whview_app words) (print_fault (subcommand_of whview_app words))

-- ---- what they ask for

-- what an option is worth
pub data Worth : Type 0 where
  OfNumber : ℕ → Worth
  OfPrint : Printed → Worth
  OfFile : Option Text → Worth

-- the number that a text of digits writes
abbrev pub number_of : Text → ℕ
number_of text = digits_value 10 (without_leading_plus text)

-- what an option is worth by its text, where it is given
abbrev pub worth : Takes → Option Text → Worth
worth (Number least most default) text = OfNumber (option_map_or number_of text default)
worth (Amount least most default) text = OfNumber (option_map_or number_of text default)
worth Print text = OfPrint (option_map_or (λ t. cond (bytes_eq t (codes "changes")) Changes Tables) text Tables)
worth File text = OfFile text

-- a command with what its options are worth, in the order of the table
abbrev pub shown : Asked → Text × List Worth
shown (asked.Check costs input) = (codes "check", OfNumber costs.comp ∷ OfNumber costs.inst ∷ OfFile (option_map (λ f. f.now) input) ∷ [])
shown (asked.Plan costs budget input) =
    (codes "plan", OfNumber costs.comp ∷ OfNumber costs.inst ∷ OfFile (option_map (λ f. f.now) input) ∷ OfNumber budget.nodes ∷ [])
shown (asked.Certify costs input) = (codes "certify", OfNumber costs.comp ∷ OfNumber costs.inst ∷ OfFile (option_map (λ f. f.now) input) ∷ [])
shown (asked.Night how input) = (
  codes "night",
  OfNumber how.workers ∷ OfNumber how.readers ∷ OfNumber how.page_keys ∷ OfPrint how.print
      ∷ OfFile (option_map (λ f. f.now) input.file) ∷ OfNumber input.limit ∷ [],
)
shown (asked.Replay input) = (codes "replay", OfFile (option_map (λ f. f.now) input.file) ∷ OfNumber input.limit ∷ [])
shown (asked.Live how input) = (
  codes "live",
  OfNumber how.workers ∷ OfNumber how.desks ∷ OfNumber how.versions ∷ OfNumber how.page_keys
      ∷ OfFile (option_map (λ f. f.now) input.file) ∷ OfNumber input.limit ∷ [],
)

-- the command that was found in the words, with its options, is asked for
abbrev pub IsAsked : Option (Text × List Row) → Asked → Type 0
IsAsked found a = option_map (λ c. (c.0, map (λ o. worth o.1 (first_of o.0 c.1)) (options_of c.0))) found ≡ Some (shown a)
