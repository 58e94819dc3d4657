-- The command that a parse without a fault enters: one of the program's own, since `help` answers with a text.
use Rattle.std.proofs.Common.{◌≡◌, ◌&&◌, ℕ, Bool, cond, codes, true, false, not, refl, List, [], ◌∷◌, Option, Some, None, is_some}
use Rattle.std.specs.Prelude.{IsSomeAnd, find, fold, option_map}
use Rattle.std.specs.Option.{option_map_or}
use Rattle.std.specs.Str.{bytes_eq}
use Rattle.clap.specs.Kinds.{Kinds, check_kinds, or_else}
use Rattle.clap.specs.Lexer.{long_of, short_of}
use Rattle.clap.specs.Faults.{built_fault, defaults_fault, entered_fault, level_fault, other_fault, settle_fault, step_fault, turn_fault, walk_fault, word_fault}
use Rattle.clap.specs.Simple.{App, Shape, entered, label_of, names_of, rows_at}
use Rattle.clap.specs.Walk.{Held, Names, Outcome, Row, Rule, Step, Text, Waiting, Walk, after_flag, after_step, answers_to, arg_by_index, done, idle, long_or_other, next, nothing_held, option, plain, plain_word, positional, refused, settled, short_or_plain, stop_after, subcommand, subcommand_met, subcommand_or_other, to_positional, trailing, value, waits, walk, walk_from, walked, walked_from, word_met}
use Rattle.clap.specs.declared.error.kind.ErrorKind.{ErrorKind}
use Rattle.whview.proofs.LeafRows.{nil_parts}

-- the word is another one than `help`
abbrev pub IsNotHelp : Text → Type 0
IsNotHelp word = bytes_eq word (codes "help") ≡ false

abbrev StepFine : Step → Type 0
StepFine (subcommand name) = IsNotHelp name
StepFine (next waiting) = Unit {0}
StepFine (trailing position) = Unit {0}
StepFine value = Unit {0}

abbrev StopFine : Option (Text × List Text) → Type 0
StopFine None = Unit {0}
StopFine (Some p) = IsNotHelp p.0

-- ---- one word

plain_fine : (c : List Rule) (waiting : Waiting) (word : Text) (h : Held) → StepFine (plain_word c waiting word h).1
plain_fine c idle word h = tt
plain_fine c positional word h = tt
plain_fine c (option id) word h = tt

flag_fine : (c : List Rule) (waiting : Waiting) (word : Text) (h : Held) (out : Outcome) → StepFine (after_flag c waiting word h out).1
flag_fine c waiting word h done = tt
flag_fine c waiting word h (waits id) = tt
flag_fine c waiting word h plain = plain_fine c waiting word h
flag_fine c waiting word h refused = plain_fine c waiting word h

long_fine : (c : List Rule) (waiting : Waiting) (word : Text) (o : Option (Text × Option Text)) (h : Held) → StepFine (long_or_other c waiting word o h).1
long_fine c waiting word (Some p) h = flag_fine c waiting word _ _
long_fine c waiting word None h = go (short_of word)
  where
    go : (o : Option Text) → StepFine (short_or_plain c waiting word o h).1
    go None = plain_fine c waiting word h
    go (Some flags) = flag_fine c waiting word _ _

not_help : (b d : Bool) (k : ErrorKind) (ks : Kinds) → d ≡ false → cond (b && not d) (k ∷ ks) [] ≡ [] → b ≡ false
not_help true true k ks off e = cc
not_help true false k ks off e = cc
not_help false d k ks off e = refl

module _ (s : Shape) (helps : s.disable_help_subcommand ≡ false) (names : Names) where
  other_fine : (o : Option Text) (waiting : Waiting) (position : ℕ) (word : Text) (h : Held) → other_fault s o word h ≡ []
      → StepFine (subcommand_or_other s.rules o waiting position word h).1
  other_fine (Some name) waiting position word h e = not_help (bytes_eq name (codes "help")) s.disable_help_subcommand _ _ helps e
  other_fine None waiting position word h e = go (bytes_eq word (45 ∷ 45 ∷ []))
    where
      go : (b : Bool) → StepFine (cond b (h, trailing position) (long_or_other s.rules waiting word (long_of word) h)).1
      go true = tt
      go false = long_fine s.rules waiting word (long_of word) h

  met_fine : (ends : Bool) (waiting : Waiting) (position : ℕ) (word : Text) (h : Held) → word_fault s names ends waiting word h ≡ []
      → StepFine (word_met s.rules names ends waiting position word h).1
  met_fine true waiting position word h e = tt
  met_fine false waiting position word h e = other_fine (subcommand_met names waiting word) waiting position word h e

  -- ---- the words in turn

  step_fine : (word : Text) (w : Walk) (h : Held) (step : Step) → StepFine step → StopFine w.stopped → StopFine (after_step s.rules word w h step).stopped
  step_fine word w h (next waiting) fine stop = stop
  step_fine word w h (trailing position) fine stop = stop
  step_fine word w h (subcommand name) fine stop = fine
  step_fine word w h value fine stop = go (arg_by_index s.rules w.position)
    where
      go : (o : Option Rule) → StopFine (to_positional s.rules o word w h).stopped
      go None = stop
      go (Some a) = tt

  turn_fine : (w : Walk) (word : Text) → turn_fault s names w word ≡ [] → StopFine w.stopped → StopFine (walked s.rules names w word).stopped
  unfolding walked
  turn_fine w word e stop = go w.stopped e stop
    where
      go : (o : Option (Text × List Text))
          → cond (is_some o) [] (or_else (word_fault s names w.is_trailing w.waiting word w.held)
          (step_fault s w.position (word_met s.rules names w.is_trailing w.waiting w.position word w.held).0 (word_met s.rules names w.is_trailing w.waiting w.position word w.held).1)) ≡ []
          → StopFine o → StopFine (walked_from s.rules names o w word).stopped
      go (Some p) f fine = fine
      go None f fine = step_fine word w _ _ (met_fine w.is_trailing w.waiting w.position word w.held (nil_parts _ _ f).0) stop

  walk_fine : (words : List Text) (w : Walk) → walk_fault s names w words ≡ [] → StopFine w.stopped → StopFine (fold (walked s.rules names) w words).stopped
  unfolding walk_fault
  walk_fine [] w e stop = stop
  walk_fine (word ∷ words) w e stop =
      let parts = nil_parts (turn_fault s names w word) (walk_fault s names (walked s.rules names w word) words) e in
      walk_fine words (walked s.rules names w word) parts.1 (turn_fine w word parts.0 stop)

-- ---- the command

-- what is to be shown of each command that the words may name: what its matches are worth, once it fails by nothing
abbrev pub EachCommand : (Text × List Row → Type 0) → List Shape → Type 0
EachCommand Q [] = Unit {0}
EachCommand Q (s ∷ rest) =
    ((word : Text) (words : List Text) → answers_to word (label_of s) ≡ true → IsNotHelp word → level_fault s [] nothing_held words false [] ≡ [] → Q (rows_at s words))
    × EachCommand Q rest

command_wanted : (help has required argument : Bool) → required ≡ true → check_kinds help (not has && required) argument ≡ [] → has ≡ true
command_wanted true has required argument wants e = cc
command_wanted false true required argument wants e = refl
command_wanted false false true argument wants e = cc
command_wanted false false false argument wants e = cc

module _ (Q : Text × List Row → Type 0) (word : Text) (words : List Text) (named : IsNotHelp word) where
  found_command : (subs : List Shape) → EachCommand Q subs → option_map_or (λ s. level_fault s [] nothing_held words false []) (find (λ s. answers_to word (label_of s)) subs) [] ≡ []
      → is_some (option_map (λ s. rows_at s words) (find (λ s. answers_to word (label_of s)) subs)) ≡ true
      → IsSomeAnd (option_map (λ s. rows_at s words) (find (λ s. answers_to word (label_of s)) subs)) Q
  found_command [] each e some = let bad : ⊥ = cc in absurd bad
  found_command (s ∷ rest) each e some = go (answers_to word (label_of s)) (each.0 word words) e some (found_command rest each.1)
    where
      go : (b : Bool) → (b ≡ true → IsNotHelp word → level_fault s [] nothing_held words false [] ≡ [] → Q (rows_at s words))
          → option_map_or (λ x. level_fault x [] nothing_held words false []) (cond b (Some s) (find (λ x. answers_to word (label_of x)) rest)) [] ≡ []
          → is_some (option_map (λ x. rows_at x words) (cond b (Some s) (find (λ x. answers_to word (label_of x)) rest))) ≡ true
          → (option_map_or (λ x. level_fault x [] nothing_held words false []) (find (λ x. answers_to word (label_of x)) rest) [] ≡ []
          → is_some (option_map (λ x. rows_at x words) (find (λ x. answers_to word (label_of x)) rest)) ≡ true
          → IsSomeAnd (option_map (λ x. rows_at x words) (find (λ x. answers_to word (label_of x)) rest)) Q)
          → IsSomeAnd (option_map (λ x. rows_at x words) (cond b (Some s) (find (λ x. answers_to word (label_of x)) rest))) Q
      go true shows f g others = shows refl named f
      go false shows f g others = others f g

-- a built command that wants a subcommand and fails by nothing enters one of which Q holds
pub entered_command : (Q : Text × List Row → Type 0) (a : App) → a.top.disable_help_subcommand ≡ false → a.top.subcommand_required ≡ true → EachCommand Q a.subs
    → (words : List Text) → built_fault a nothing_held words ≡ [] → IsSomeAnd (entered a (stop_after a.top.rules (names_of a) words)) Q
entered_command Q a helps required each words e =
    let walk_part = nil_parts (walk_fault a.top (names_of a) (walk_from nothing_held) words) _ e in
    let below_part = nil_parts (entered_fault a (stop_after a.top.rules (names_of a) words)) _ walk_part.1 in
    let settle_part = nil_parts (settle_fault a.top.rules a.top.args_override_self (walk a.top.rules (names_of a) nothing_held words).held) _ below_part.1 in
    let default_part = nil_parts (defaults_fault (settled a.top.rules (walk a.top.rules (names_of a) nothing_held words).held).rows a.top.rules) _ settle_part.1 in
    go (stop_after a.top.rules (names_of a) words) below_part.0 (command_wanted _ _ a.top.subcommand_required _ required default_part.1)
    (walk_fine a.top helps (names_of a) words (walk_from nothing_held) walk_part.0 tt)
  where
    go : (stop : Option (Text × List Text)) → entered_fault a stop ≡ [] → is_some (entered a stop) ≡ true → StopFine stop → IsSomeAnd (entered a stop) Q
    go None f some fine = let bad : ⊥ = cc in absurd bad
    go (Some p) f some fine = found_command Q p.0 p.1 fine a.subs each f some
