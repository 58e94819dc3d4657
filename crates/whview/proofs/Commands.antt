-- What a parse of the program's words without a fault leaves: one of its commands, with options that it takes.
use Rattle.std.proofs.Common.{◌≡◌, ◌≢◌, ◌||◌, ℕ, Bool, codes, true, false, refl, sym, subst, List, [], Option, Some, None}
use Rattle.std.specs.Prelude.{IfSome, pos}
use Rattle.std.specs.Str.{bytes_eq}
use Rattle.std.proofs.lemmas.Slice.Eq.{bytes_eq-Decides}
use Rattle.clap.specs.Words.{Accepts, Rule, Text, built, fault_of, first_of, subcommand_of}
use Rattle.clap.specs.Facts.{parser_of_value}
use Rattle.clap.specs.Faults.{level_fault}
use Rattle.clap.specs.Simple.{Shape, built_leaf, inherited}
use Rattle.clap.specs.Takes.{value_passes}
use Rattle.clap.specs.ValueTests.{accepts}
use Rattle.clap.specs.Walk.{action_of, answers_to, arg_by_id, nothing_held, rows_after}
use Rattle.clap.specs.declared.builder.action.ArgAction.TheVariants as action
use Rattle.clap.specs.declared.builder.value_parser.ValueParser.{ValueParser}
use Rattle.clap.specs.declared.builder.value_parser.ValueParser.TheVariants as parser
use Rattle.clap.proofs.ValueTestLemmas.{accepts-Accepts}
use Rattle.whview.specs.CommandLine.{Takes, command_of, options_of, priced, program_of, whview_app}
use Rattle.whview.specs.Inner.CommandLine.{AreTaken, IsCommand, NamesCommand, check, certify, live, night, plan, replay}
use Rattle.whview.proofs.Entered.{EachCommand, IsNotHelp, entered_command}
use Rattle.whview.proofs.LeafRows.{AreOptionsOf, IsOptionOf, PassesIn, first_of_good}

IfSome-weaker : {X : Type 0} (o : Option X) (P Q : X → Type 0) → ((x : X) → P x → Q x) → IfSome o P → IfSome o Q
IfSome-weaker None P Q more h = h
IfSome-weaker (Some x) P Q more h = more x h

not_help : (word : Text) → answers_to word (codes "help", []) ≡ true → IsNotHelp word → ⊥
not_help word answers named = go (bytes_eq (codes "help") word) (bytes_eq-Decides (codes "help") word).0 answers
  where
    go : (b : Bool) → (b ≡ true → codes "help" ≡ word) → b || false ≡ true → ⊥
    go true same e =
        let is : bytes_eq (codes "help") (codes "help") ≡ false = subst IsNotHelp (sym (same refl)) named in
        cc
    go false same e = cc

-- a command as it is built
abbrev command_shape : Text → List (Text × Takes) → Shape
command_shape name options = built_leaf (inherited (program_of []).top (command_of name options).top)

option_known : (c : List Rule) (a : Rule) → arg_by_id c a.id ≡ Some a → action_of a ≢ action.Count → a.index ≡ None → a.defaults ≡ [] → IsOptionOf c a
option_known c a own uncounted unplaced undefaulted = record { own = own; uncounted = uncounted; unplaced = unplaced; undefaulted = undefaulted }

-- its costs, its file and its help
command_options : (name : Text) → AreOptionsOf (command_shape name priced).rules (command_shape name priced).rules
command_options name = (
  option_known _ _ refl (λ e. cc) refl refl,
  (
    option_known _ _ refl (λ e. cc) refl refl,
    (
      option_known _ _ refl (λ e. cc) refl refl,
      (option_known _ _ refl (λ e. cc) refl refl, tt),
    ),
  ),
)

-- its costs, its file, its budget and its help
plan_options : AreOptionsOf (command_shape (codes "plan") (options_of (codes "plan"))).rules (command_shape (codes "plan") (options_of (codes "plan"))).rules
plan_options = (
  option_known _ _ refl (λ e. cc) refl refl,
  (
    option_known _ _ refl (λ e. cc) refl refl,
    (
      option_known _ _ refl (λ e. cc) refl refl,
      (
        option_known _ _ refl (λ e. cc) refl refl,
        (option_known _ _ refl (λ e. cc) refl refl, tt),
      ),
    ),
  ),
)

-- its workers, its readers, its rows of a page, what it prints, its file, its length and its help
night_options : AreOptionsOf (command_shape (codes "night") (options_of (codes "night"))).rules (command_shape (codes "night") (options_of (codes "night"))).rules
night_options = (
  option_known _ _ refl (λ e. cc) refl refl,
  (
    option_known _ _ refl (λ e. cc) refl refl,
    (
      option_known _ _ refl (λ e. cc) refl refl,
      (
        option_known _ _ refl (λ e. cc) refl refl,
        (
          option_known _ _ refl (λ e. cc) refl refl,
          (
            option_known _ _ refl (λ e. cc) refl refl,
            (option_known _ _ refl (λ e. cc) refl refl, tt),
          ),
        ),
      ),
    ),
  ),
)

-- its file, its length and its help
replay_options : AreOptionsOf (command_shape (codes "replay") (options_of (codes "replay"))).rules (command_shape (codes "replay") (options_of (codes "replay"))).rules
replay_options = (
  option_known _ _ refl (λ e. cc) refl refl,
  (
    option_known _ _ refl (λ e. cc) refl refl,
    (option_known _ _ refl (λ e. cc) refl refl, tt),
  ),
)

-- its workers, its desks, its versions, its rows of a page, its file, its length and its help
live_options : AreOptionsOf (command_shape (codes "live") (options_of (codes "live"))).rules (command_shape (codes "live") (options_of (codes "live"))).rules
live_options = (
  option_known _ _ refl (λ e. cc) refl refl,
  (
    option_known _ _ refl (λ e. cc) refl refl,
    (
      option_known _ _ refl (λ e. cc) refl refl,
      (
        option_known _ _ refl (λ e. cc) refl refl,
        (
          option_known _ _ refl (λ e. cc) refl refl,
          (
            option_known _ _ refl (λ e. cc) refl refl,
            (option_known _ _ refl (λ e. cc) refl refl, tt),
          ),
        ),
      ),
    ),
  ),
)

-- an option that has a parser has a value that it takes
option_value : (s : Shape) → AreOptionsOf s.rules s.rules → (name : Text) (p : ValueParser) (a : Rule) → arg_by_id s.rules name ≡ Some a → a.ignore_case ≡ false → a.parser ≡ Some p
    → (words : List Text) → level_fault s [] nothing_held words false [] ≡ [] → IfSome (first_of name (rows_after s.rules [] words)) (Accepts false p)
option_value s options name p a known cased parser words e =
    IfSome-weaker (first_of name (rows_after s.rules [] words)) (PassesIn s.rules name) (Accepts false p)
    (λ text passes. accepts-Accepts false p text (value_taken text (passes a known)))
    (first_of_good s options [] words false [] e name)
  where
    value_taken : (text : Text) → value_passes a text ≡ true → accepts false p text ≡ true
    value_taken text h =
        let by_parser = subst (λ (o : Option ValueParser). accepts a.ignore_case (parser_of_value o) text ≡ true) parser h in
        subst (λ (b : Bool). accepts b p text ≡ true) cased by_parser

abbrev amounts : ℕ → ValueParser
amounts most = parser.Signed (pos 1) (pos most)

-- its options, but that it is such a command, are taken
command_taken : (name : Text) (words : List Text) → level_fault (command_shape name priced) [] nothing_held words false [] ≡ []
    → AreTaken (rows_after (command_shape name priced).rules [] words) priced
command_taken name words e = (
  option_value (command_shape name priced) (command_options name) (codes "comp-cost") (amounts 1000000) _ refl refl refl words e,
  (option_value (command_shape name priced) (command_options name) (codes "inst-cost") (amounts 1000000) _ refl refl refl words e, (tt, tt)),
)

abbrev plan_shape : Shape
plan_shape = command_shape (codes "plan") (options_of (codes "plan"))

plan_taken : (words : List Text) → level_fault plan_shape [] nothing_held words false [] ≡ [] → AreTaken (rows_after plan_shape.rules [] words) (options_of (codes "plan"))
plan_taken words e = (
  option_value plan_shape plan_options (codes "comp-cost") (amounts 1000000) _ refl refl refl words e,
  (
    option_value plan_shape plan_options (codes "inst-cost") (amounts 1000000) _ refl refl refl words e,
    (tt, (option_value plan_shape plan_options (codes "budget") (amounts 9223372036854775807) _ refl refl refl words e, tt)),
  ),
)

abbrev night_shape : Shape
night_shape = command_shape (codes "night") (options_of (codes "night"))

night_taken : (words : List Text) → level_fault night_shape [] nothing_held words false [] ≡ [] → AreTaken (rows_after night_shape.rules [] words) (options_of (codes "night"))
night_taken words e = (
  option_value night_shape night_options (codes "workers") (parser.Unsigned 1 16) _ refl refl refl words e,
  (
    option_value night_shape night_options (codes "readers") (parser.Unsigned 0 16) _ refl refl refl words e,
    (
      option_value night_shape night_options (codes "page-keys") (parser.Unsigned 1 256) _ refl refl refl words e,
      (tt, (tt, (option_value night_shape night_options (codes "most") (parser.Unsigned 1 1099511627776) _ refl refl refl words e, tt))),
    ),
  ),
)

abbrev replay_shape : Shape
replay_shape = command_shape (codes "replay") (options_of (codes "replay"))

replay_taken : (words : List Text) → level_fault replay_shape [] nothing_held words false [] ≡ [] → AreTaken (rows_after replay_shape.rules [] words) (options_of (codes "replay"))
replay_taken words e = (tt, (option_value replay_shape replay_options (codes "most") (parser.Unsigned 1 1099511627776) _ refl refl refl words e, tt))

abbrev live_shape : Shape
live_shape = command_shape (codes "live") (options_of (codes "live"))

live_taken : (words : List Text) → level_fault live_shape [] nothing_held words false [] ≡ [] → AreTaken (rows_after live_shape.rules [] words) (options_of (codes "live"))
live_taken words e = (
  option_value live_shape live_options (codes "workers") (parser.Unsigned 1 16) _ refl refl refl words e,
  (
    option_value live_shape live_options (codes "desks") (parser.Unsigned 1 16) _ refl refl refl words e,
    (
      option_value live_shape live_options (codes "versions") (parser.Unsigned 2 4) _ refl refl refl words e,
      (
        option_value live_shape live_options (codes "page-keys") (parser.Unsigned 1 256) _ refl refl refl words e,
        (tt, (option_value live_shape live_options (codes "most") (parser.Unsigned 1 1099511627776) _ refl refl refl words e, tt)),
      ),
    ),
  ),
)

each_command : EachCommand IsCommand (built whview_app).subs
each_command = (
  λ word words answers named e. check refl (command_taken (codes "check") words e),
  (
    λ word words answers named e. plan refl (plan_taken words e),
    (
      λ word words answers named e. certify refl (command_taken (codes "certify") words e),
      (
        λ word words answers named e. night refl (night_taken words e),
        (
          λ word words answers named e. replay refl (replay_taken words e),
          (λ word words answers named e. live refl (live_taken words e), (λ word words answers named e. absurd (not_help word answers named), tt)),
        ),
      ),
    ),
  ),
)

-- words without a fault name a command, and its costs are costs
pub faultless_names : (words : List Text) → fault_of whview_app words ≡ [] → NamesCommand (subcommand_of whview_app words)
faultless_names words e = entered_command IsCommand (built whview_app) refl refl each_command words e
