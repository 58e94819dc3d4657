-- The command line of the program: the words that it takes, and what they ask for: what only proofs and private contracts use.
use Rattle.std.specs.Prelude.{◌≡◌, List, Option, IfSome, IsSomeAnd, codes, false}
use Rattle.std.specs.List.{AllByRecursion}
use Rattle.clap.specs.Words.{Accepts, Row, Text, first_of}
use Rattle.whview.specs.CommandLine.{Takes, options_of, parser_of}

-- the text of an option, where it is given, is such as it takes
abbrev pub Fits : Takes → Option Text → Type 0
Fits takes text = IfSome (parser_of takes) (λ parser. IfSome text (Accepts false parser))

-- what was found of each of these options is such as it takes
abbrev pub AreTaken : List Row → List (Text × Takes) → Type 0
AreTaken found = AllByRecursion (λ o. Fits o.1 (first_of o.0 found))

-- the command is one of the program's, and its options are such as it takes
pub data IsCommand (found : Text × List Row) : Type 0 where
  check : found.0 ≡ codes "check" → AreTaken found.1 (options_of (codes "check")) → IsCommand found
  plan : found.0 ≡ codes "plan" → AreTaken found.1 (options_of (codes "plan")) → IsCommand found
  certify : found.0 ≡ codes "certify" → AreTaken found.1 (options_of (codes "certify")) → IsCommand found
  night : found.0 ≡ codes "night" → AreTaken found.1 (options_of (codes "night")) → IsCommand found
  replay : found.0 ≡ codes "replay" → AreTaken found.1 (options_of (codes "replay")) → IsCommand found
  live : found.0 ≡ codes "live" → AreTaken found.1 (options_of (codes "live")) → IsCommand found

-- there is a command, and it is one of the program's
abbrev pub NamesCommand : Option (Text × List Row) → Type 0
NamesCommand found = IsSomeAnd found IsCommand
