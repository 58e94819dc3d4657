use Rattle.std.proofs.Common.{◌≡◌, ◌∙◌, ap, inl, inr, map, subst, sym, true, List, [], ◌∷◌, Option, Result, Ok, Err}
use Rattle.std.specs.Prelude.{IfErr, IfOk, MatchResult}
use Rattle.clap.specs.Kinds.{or_else}
use Rattle.clap.specs.Words.{App, HasKind, Kinds, Row, Text, fault_of, is_simple, is_simple_and_free, subcommand_of, subcommand_rows_of, takes}
use Rattle.whview.specs.CommandFault.{FailsAs}
use Rattle.whview.specs.CommandLine.{IsAsked, print_fault, whview_app, words_fault}
use Rattle.whview.specs.Inner.CommandLine.{NamesCommand}
use Rattle.whview.specs.declared.command_line.Asked.{Asked}
use Rattle.whview.specs.declared.command_line.fault.CommandFault.{CommandFault}
use Rattle.whview.specs.declared.command_line.fault.CommandFault.TheVariants as fault
use Rattle.whview.proofs.Commands.{faultless_names}
use Rattle.whview.proofs.Faults.{fails_as, memory_fault}
use Rattle.whview.proofs.command_line.parse.Goals as goal

is_whview_simple : (a : App) → a ≡ whview_app → is_simple a ≡ true
is_whview_simple a same = ap is_simple same

is_whview_free : (a : App) → a ≡ whview_app → is_simple_and_free a ≡ true
is_whview_free a same = ap is_simple_and_free same

-- where `clap` finds nothing, what is wrong is the word to be printed alone
only_printed : (words : List Text) → fault_of whview_app words ≡ [] → print_fault (subcommand_of whview_app words) ≡ words_fault words
only_printed words none = sym (ap (λ (kinds : Kinds). or_else kinds (print_fault (subcommand_of whview_app words))) none)

none_else : (r : Result Asked CommandFault) (kinds : Kinds) → kinds ≡ [] → MatchResult r (λ _. kinds ≡ []) (FailsAs kinds) → IfErr r (λ f. f ≡ fault.Memory)
none_else (Ok a) kinds e h = tt
none_else (Err f) [] e (inl memory) = memory
none_else (Err f) [] e (inr kind) = absurd kind.1
none_else (Err f) (k ∷ kinds) e h = cc

pub taken-requires : goal.taken-requires
taken-requires c =
    let words : List Text = map (λ w. w.now) c.args.words.now in
    let same = c.in_ok-command.ensures in
    let faultless : fault_of whview_app words ≡ [] = ap (λ (a : App). fault_of a words) (sym same) ∙ c.in-Ok.ensures.kinds (is_whview_free _ same) in
    let found = (c.in-Ok.ensures.matches (is_whview_simple _ same)).1 ∙ ap (λ (a : App). subcommand_of a words) same in
    subst NamesCommand (sym found) (faultless_names words faultless)

pub returns-in-Ok-clause-asked : goal.returns-in-Ok-clause-asked
returns-in-Ok-clause-asked c =
    let words : List Text = map (λ w. w.now) c.args.words.now in
    let same = c.in_ok-command.ensures in
    let found = (c.in-Ok.ensures.matches (is_whview_simple _ same)).1 ∙ ap (λ (a : App). subcommand_of a words) same in
    subst (λ (o : Option (Text × List Row)). IfOk c.taken.result (IsAsked o)) found c.taken.ensures.asked

pub returns-in-Ok-clause-fails : goal.returns-in-Ok-clause-fails
returns-in-Ok-clause-fails c =
    let words : List Text = map (λ w. w.now) c.args.words.now in
    let same = c.in_ok-command.ensures in
    let faultless : fault_of whview_app words ≡ [] = ap (λ (a : App). fault_of a words) (sym same) ∙ c.in-Ok.ensures.kinds (is_whview_free _ same) in
    let found = (c.in-Ok.ensures.matches (is_whview_simple _ same)).1 ∙ ap (λ (a : App). subcommand_of a words) same in
    subst (λ (kinds : Kinds). MatchResult c.taken.result (λ _. kinds ≡ []) (FailsAs kinds)) (ap print_fault found ∙ only_printed words faultless) c.taken.ensures.fails

pub returns-in-Ok-clause-taken : goal.returns-in-Ok-clause-taken
returns-in-Ok-clause-taken c taken printable =
    let words : List Text = map (λ w. w.now) c.args.words.now in
    let same = c.in_ok-command.ensures in
    let found = (c.in-Ok.ensures.matches (is_whview_simple _ same)).1 ∙ ap (λ (a : App). subcommand_of a words) same in
    none_else c.taken.result (print_fault (subcommand_rows_of c.in-Ok.matches)) (ap print_fault found ∙ printable) c.taken.ensures.fails

-- what fails by a kind that `clap` has found, fails so whatever else is wrong
fails_first : (kinds others : Kinds) (f : CommandFault) → FailsAs kinds f → FailsAs (or_else kinds others) f
fails_first [] others f (inl memory) = inl memory
fails_first [] others f (inr kind) = absurd kind.1
fails_first (k ∷ kinds) others f fails = fails

pub returns-in-Err-clause-fails : goal.returns-in-Err-clause-fails
returns-in-Err-clause-fails c =
    let words : List Text = map (λ w. w.now) c.args.words.now in
    let same = c.in_ok-command.ensures in
    let kinds = subst (λ (a : App). HasKind (fault_of a words) c.in-Err.error) same (c.in-Err.ensures.kinds (is_whview_free _ same)) in
    fails_first (fault_of whview_app words) (print_fault (subcommand_of whview_app words)) c.of.result (fails_as (fault_of whview_app words) c.in-Err.error c.of.result kinds c.of.ensures)

pub returns-in-Err-clause-taken : goal.returns-in-Err-clause-taken
returns-in-Err-clause-taken c taken printable =
    let words : List Text = map (λ w. w.now) c.args.words.now in
    let same = c.in_ok-command.ensures in
    memory_fault c.in-Err.error c.of.result c.of.ensures (c.in-Err.ensures.passes (ap (λ (a : App). takes a words) same ∙ taken))
