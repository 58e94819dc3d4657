-- All words of the table are taken.
use Rattle.std.proofs.Common.{◌≡◌, ◌∙◌, ◌<◌, ◌^◌, ℤ, arith, drop, ◌++◌, ◌==◌, ◌||◌, ◌&&◌, ℕ, Bool, cond, codes, true, false, not, refl, sym, ap, subst, List, [], ◌∷◌, Option, Some, None, is_some, ⊎_elim}
use Rattle.std.specs.Prelude.{FitsSigned, IsSome, IsSomeAnd, find, fold, nat_lt, neg_ℤ, option_and_then, option_map, pos, slice_get, ◌≤ℤ◌}
use Rattle.std.specs.Option.{option_map_or}
use Rattle.std.specs.List.{AllByRecursion}
use Rattle.std.specs.Str.{bytes_eq}
use Rattle.std.specs.Str.Parse.{IsNumeral, digits_value, starts_with_minus, without_leading_plus}
use Rattle.std.proofs.lemmas.Bool.{eqb-true}
use Rattle.std.proofs.lemmas.Int.{ints}
use Rattle.std.proofs.lemmas.List.{append-nil, append_assoc}
use Rattle.std.proofs.lemmas.List.Sums.{fold-append}
use Rattle.std.proofs.lemmas.Slice.Eq.{bytes_eq-Decides}
use mir.Syntax.{w64}
use Rattle.clap.specs.Kinds.{Kinds, or_else, range_kinds, value_kinds}
use Rattle.clap.specs.ValueTests.{accepts}
use Rattle.clap.specs.Facts.{parser_of_value, unwrap_or_range}
use Rattle.clap.specs.Lexer.{long_of, long_of_rest, short_of, short_of_rest, strip_byte}
use Rattle.clap.specs.Faults.{action_fault, built_fault, bundle_fault, check_fault, default_fault, defaults_fault, entered_fault, flag_word_fault, given_default_fault, level_fault, long_fault, option_fault, react_fault, settle_fault, step_fault, turn_fault, use_fault, values_fault, walk_fault}
use Rattle.clap.specs.Simple.{App, Shape, built, built_leaf, entered, inherited, label_of, names_of, rows_at}
use Rattle.clap.specs.Words.{fault_of, subcommand_of}
use Rattle.clap.specs.Values.{refused_kind}
use Rattle.clap.specs.Walk.{Held, Names, Outcome, Row, Rule, Step, Text, Waiting, Walk, action_of, after_flag, after_step, answers_to, arg_by_id, arg_by_long, at_row, default_rows, finished, first_of, flag_met, has_row, idle, is_empty, long_met, long_or_other, more_values, next, nothing_held, option, option_met, option_word, reacted, reading_by, rows_after, settled, short_or_plain, stop_after, takes_values, trailing, used, used_as, used_by_id, walk, walk_from, walked, with_default, with_values, without}
use Rattle.clap.specs.declared.builder.action.ArgAction.{ArgAction}
use Rattle.clap.specs.declared.builder.action.ArgAction.TheVariants as action
use Rattle.clap.specs.declared.builder.range.ValueRange.{ValueRange}
use Rattle.clap.specs.declared.builder.value_parser.ValueParser.{ValueParser}
use Rattle.clap.specs.declared.builder.value_parser.ValueParser.TheVariants as parser
use Rattle.clap.specs.declared.error.kind.ErrorKind.TheVariants as kind
use Rattle.clap.specs.declared.parser.matches.ValueSource.TheVariants.{CommandLine}
use Rattle.clap.proofs.ValueTestLemmas.{Accepts-accepts}
use Rattle.whview.specs.CommandLine.{Amount, File, Number, Print, Takes, command_of, is_printable, options_of, parser_of, print_fault, program_of, table, whview_app, words_fault}
use Rattle.whview.specs.CommandTaken.{AreWordsOf, Give, MayBeGiven, WordsOfTheTableAreTaken, begins_with_hyphen, given_to, in_one, in_two, nothing, one_more, taken_by}
use Rattle.whview.proofs.LeafRows.{nil_parts}

-- ---- rows

-- the rows of what was given, in its order
abbrev AreRowsOf : List Row → List (Text × Text) → Type 0
AreRowsOf [] [] = Unit {0}
AreRowsOf (r ∷ rows) (g ∷ given) = (r.id ≡ g.0) × (r.values ≡ g.1 ∷ []) × AreRowsOf rows given
AreRowsOf _ _ = ⊥

has_given : (id : Text) (rows : List Row) (given : List (Text × Text)) → AreRowsOf rows given → has_row id rows ≡ is_some (given_to id given)
has_given id [] [] are = refl
has_given id [] (g ∷ given) are = absurd are
has_given id (r ∷ rows) [] are = absurd are
has_given id (r ∷ rows) (g ∷ given) are = ap (λ n. bytes_eq n id || has_row id rows) are.0 ∙ by (bytes_eq g.0 id) (has_given id rows given are.2)
  where
    by : (b : Bool) → has_row id rows ≡ is_some (given_to id given) → b || has_row id rows ≡ is_some (option_map (λ x. x.1) (cond b (Some g) (find (λ x. bytes_eq x.0 id) given)))
    by true e = refl
    by false e = e

first_given : (id : Text) (rows : List Row) (given : List (Text × Text)) → AreRowsOf rows given → first_of id rows ≡ given_to id given
first_given id [] [] are = refl
first_given id [] (g ∷ given) are = absurd are
first_given id (r ∷ rows) [] are = absurd are
first_given id (r ∷ rows) (g ∷ given) are = ap (λ n. option_and_then (λ (x : Row). slice_get x.values 0) (cond (bytes_eq n id) (Some r) (find (λ (x : Row). bytes_eq x.id id) rows))) are.0 ∙ by (bytes_eq g.0 id) (first_given id rows given are.2)
  where
    by : (b : Bool) → first_of id rows ≡ given_to id given → option_and_then (λ (x : Row). slice_get x.values 0) (cond b (Some r) (find (λ (x : Row). bytes_eq x.id id) rows))
        ≡ option_map (λ x. x.1) (cond b (Some g) (find (λ x. bytes_eq x.0 id) given))
    by true e = ap (λ vs. slice_get vs 0) are.1
    by false e = e

-- a row that is not there comes last
no_row : (id : Text) (change : Row → List Row) (missing rows : List Row) → has_row id rows ≡ false → at_row id change missing rows ≡ rows ++ missing
no_row id change missing [] none = refl
no_row id change missing (r ∷ rows) none = by (bytes_eq r.id id) none (no_row id change missing rows)
  where
    by : (b : Bool) → b || has_row id rows ≡ false → (has_row id rows ≡ false → at_row id change missing rows ≡ rows ++ missing) → cond b (change r ++ rows) (r ∷ at_row id change missing rows) ≡ r ∷ rows ++ missing
    by true e rest = cc
    by false e rest = ap (λ rs. r ∷ rs) (rest e)

one_row : (rows : List Row) (given : List (Text × Text)) (r : Row) (name text : Text) → AreRowsOf rows given → r.id ≡ name → r.values ≡ text ∷ [] → AreRowsOf (rows ++ r ∷ []) (given ++ (name, text) ∷ [])
one_row [] [] r name text are id values = (id, values, tt)
one_row [] (g ∷ given) r name text are id values = absurd are
one_row (own ∷ rows) [] r name text are id values = absurd are
one_row (own ∷ rows) (g ∷ given) r name text are id values = (are.0, are.1, one_row rows given r name text are.2 id values)

-- ---- an option of a command

-- the argument has one text, which the words name by this long name; its rule is found by it and by its id
record IsOption (c : List Rule) (name : Text) (a : Rule) : Type 0 where
  pub id : a.id ≡ name
  pub by_long : arg_by_long c name ≡ Some a
  pub by_id : arg_by_id c a.id ≡ Some a
  pub sets : action_of a ≡ action.Set
  pub one : unwrap_or_range a.range ≡ record { start_inclusive = 1; end_inclusive = 1 }
  pub cased : a.ignore_case ≡ false
  pub joined : (text : Text) → long_of (codes "--" ++ (name ++ (codes "=" ++ text))) ≡ Some (name, Some text)
  pub alone : long_of (codes "--" ++ name) ≡ Some (name, None)
  pub joined_goes_on : (text : Text) → bytes_eq (codes "--" ++ (name ++ (codes "=" ++ text))) (45 ∷ 45 ∷ []) ≡ false
  pub alone_goes_on : bytes_eq (codes "--" ++ name) (45 ∷ 45 ∷ []) ≡ false

module _ (c : List Rule) (again : Bool) (name : Text) (a : Rule) (is : IsOption c name a) (text : Text) (taken : accepts false (parser_of_value a.parser) text ≡ true) where
  passes : values_fault a (text ∷ []) ≡ []
  passes = ap (λ b. or_else (value_kinds b (parser_of_value a.parser) text) []) is.cased ∙ ap (λ b. or_else (cond b [] (refused_kind (parser_of_value a.parser) ∷ [])) []) taken

  -- used for the first time it has no fault
  used_well : (rows : List Row) → has_row a.id rows ≡ false → use_fault again a (text ∷ []) rows ≡ []
  used_well rows none =
      ap (λ (r : ValueRange). or_else (range_kinds r.start_inclusive r.end_inclusive 1) (action_fault (action_of a) again a (text ∷ []) rows)) is.one
      ∙ ap (λ (x : ArgAction). action_fault x again a (text ∷ []) rows) is.sets
      ∙ ap (λ b. or_else (cond (b && not again) (kind.ArgumentConflict ∷ []) []) (values_fault a (text ∷ []))) none
      ∙ passes

  -- and gives its text
  used_rows : (rows : List Row) (given : List (Text × Text)) → has_row a.id rows ≡ false → AreRowsOf rows given → AreRowsOf (used a (text ∷ []) rows) (given ++ (name, text) ∷ [])
  used_rows rows given none are =
      subst (λ rs. AreRowsOf rs (given ++ (name, text) ∷ []))
      (sym (ap (λ (x : ArgAction). used_as x a.id (reading_by a) (text ∷ []) rows) is.sets ∙ ap (with_values a.id (reading_by a) CommandLine (text ∷ [])) gone
      ∙ no_row a.id (more_values CommandLine (text ∷ [])) (row ∷ []) rows none))
      (one_row rows given row name text are is.id refl)
    where
      row : Row
      row = record { id = a.id; values = text ∷ []; count = None; source = Some CommandLine; reading = reading_by a }

      gone : without a.id rows ≡ rows
      gone = no_row a.id (λ _. []) [] rows none ∙ append-nil rows

-- ---- the walk

-- the walk between two words, where nothing waits for a text
abbrev at : ℕ → Held → Walk
at p h = record { held = h; waiting = idle; position = p; is_trailing = false; stopped = None }

-- it has read what was given, and its last option is still to be used
record Stands (c : List Rule) (again : Bool) (given : List (Text × Text)) (h : Held) : Type 0 where
  pub settles : settle_fault c again h ≡ []
  pub rows : AreRowsOf (settled c h).rows given

or_nothing : (a b : Kinds) → a ≡ [] → b ≡ [] → or_else a b ≡ []
or_nothing a b e f = ap (λ k. or_else k b) e ∙ f

-- a text that does not begin with a hyphen is no option, and no end of them
plain_text : (text : Text) → begins_with_hyphen text ≡ false → ◌≡◌ {A = Bool × Option (Text × Option Text)} (bytes_eq text (45 ∷ 45 ∷ []), long_of text) (false, None)
plain_text [] plain = refl
plain_text (x ∷ xs) plain = λ i. (plain i && bytes_eq xs (45 ∷ []), option_and_then long_of_rest (option_and_then (strip_byte 45) (cond (plain i) (Some xs) None)))

no_flags : (text : Text) → begins_with_hyphen text ≡ false → short_of text ≡ None
no_flags [] plain = refl
no_flags (x ∷ xs) plain = ap (λ b. option_and_then short_of_rest (cond b (Some xs) None)) plain

same_text : (text : Text) → bytes_eq text text ≡ true
same_text text = (bytes_eq-Decides text text).1 refl

-- a step from one such place to the next, by these words
record Steps (s : Shape) (p : ℕ) (more : List (Text × Text)) (words : List Text) (h : Held) : Type 0 where
  pub after : Held
  pub faultless : walk_fault s [] (at p h) words ≡ []
  pub leads : fold (walked s.rules []) (at p h) words ≡ at p after
  pub stands : Stands s.rules s.args_override_self more after

module _ (s : Shape) (p : ℕ) (name : Text) (a : Rule) (is : IsOption s.rules name a) (text : Text) (taken : accepts false (parser_of_value a.parser) text ≡ true)
    (given : List (Text × Text)) (h : Held) (stands : Stands s.rules s.args_override_self given h) (new : is_some (given_to name given) ≡ false) where
  abbrev c : List Rule
  c = s.rules

  abbrev again : Bool
  again = s.args_override_self

  takes_one : takes_values a ≡ true
  takes_one = ap (λ (r : ValueRange). not (r.end_inclusive == 0)) is.one

  unused : has_row a.id (settled c h).rows ≡ false
  unused = ap (λ n. has_row n (settled c h).rows) is.id ∙ (has_given name (settled c h).rows given stands.rows ∙ new)

  reacts : react_fault c again a (text ∷ []) h ≡ []
  reacts = or_nothing (settle_fault c again h) (use_fault again a (text ∷ []) (settled c h).rows) stands.settles (used_well c again name a is text taken (settled c h).rows unused)

  -- what a long word comes to, by what is found of it
  abbrev word_faults : Waiting → Text → Held → Bool → Option (Text × Option Text) → Kinds
  word_faults waiting word g ends long =
      or_else (cond ends [] (flag_word_fault c again long word g))
      (step_fault s p (cond ends (g, trailing p) (long_or_other c waiting word long g)).0 (cond ends (g, trailing p) (long_or_other c waiting word long g)).1)

  abbrev word_walk : Waiting → Text → Held → Bool → Option (Text × Option Text) → Walk
  word_walk waiting word g ends long =
      after_step c word (record { held = g; waiting = waiting; position = p; is_trailing = false; stopped = None })
      (cond ends (g, trailing p) (long_or_other c waiting word long g)).0 (cond ends (g, trailing p) (long_or_other c waiting word long g)).1

  abbrev joined_word : Text
  joined_word = codes "--" ++ (name ++ (codes "=" ++ text))

  in_one_fault : turn_fault s [] (at p h) joined_word ≡ []
  in_one_fault =
      (λ i. word_faults idle joined_word h (is.joined_goes_on text i) (is.joined text i))
      ∙ ap (λ o. or_else (long_fault c again o (Some text) h) (step_fault s p (long_word' o).0 (long_word' o).1)) is.by_long
      ∙ ap (λ b. or_else (cond b (option_fault c again a (Some text) h) (cond true (kind.TooManyValues ∷ []) (react_fault c again a [] h))) (step_fault s p (met' b).0 (met' b).1)) takes_one
      ∙ or_nothing (react_fault c again a (text ∷ []) h) [] reacts refl
    where
      long_word' : Option Rule → Held × Step
      long_word' o = after_flag c idle joined_word (long_met c o (Some text) h).0 (long_met c o (Some text) h).1

      met' : Bool → Held × Step
      met' b = (let m : Held × Outcome = cond b (option_met c a (Some text) h) (flag_met c a (Some text) h) in after_flag c idle joined_word m.0 m.1)

  in_one_walk : walked c [] (at p h) joined_word ≡ at p (reacted c a (text ∷ []) h)
  unfolding walked
  in_one_walk =
      (λ i. word_walk idle joined_word h (is.joined_goes_on text i) (is.joined text i))
      ∙ ap (λ o. after_step c joined_word (at p h) (after_flag c idle joined_word (long_met c o (Some text) h).0 (long_met c o (Some text) h).1).0 (after_flag c idle joined_word (long_met c o (Some text) h).0 (long_met c o (Some text) h).1).1) is.by_long
      ∙ ap (λ b. after_step c joined_word (at p h) (after_flag c idle joined_word (cond b (option_met c a (Some text) h) (flag_met c a (Some text) h)).0 (cond b (option_met c a (Some text) h) (flag_met c a (Some text) h)).1).0
      (after_flag c idle joined_word (cond b (option_met c a (Some text) h) (flag_met c a (Some text) h)).0 (cond b (option_met c a (Some text) h) (flag_met c a (Some text) h)).1).1) takes_one

  in_one_step : Steps s p (given ++ (name, text) ∷ []) (joined_word ∷ []) h
  unfolding walk_fault
  in_one_step = record {
    after = reacted c a (text ∷ []) h;
    faultless = or_nothing (turn_fault s [] (at p h) joined_word) [] in_one_fault refl;
    leads = in_one_walk;
    stands = record {
      settles = refl;
      rows = used_rows c again name a is text taken (settled c h).rows given unused stands.rows;
    };
  }

  abbrev lone_word : Text
  lone_word = codes "--" ++ name

  -- the option waits for its text
  abbrev waiting : Held
  waiting = record (settled c h) { pending = Some (a.id, []) }

  abbrev waits_at : Walk
  waits_at = record { held = waiting; waiting = option a.id; position = p; is_trailing = false; stopped = None }

  lone_fault : turn_fault s [] (at p h) lone_word ≡ []
  lone_fault =
      (λ i. word_faults idle lone_word h (is.alone_goes_on i) (is.alone i))
      ∙ ap (λ o. or_else (long_fault c again o None h) (step_fault s p (long_word' o).0 (long_word' o).1)) is.by_long
      ∙ ap (λ b. or_else (cond b (option_fault c again a None h) (cond false (kind.TooManyValues ∷ []) (react_fault c again a [] h))) (step_fault s p (met' b).0 (met' b).1)) takes_one
      ∙ or_nothing (settle_fault c again h) [] stands.settles refl
    where
      long_word' : Option Rule → Held × Step
      long_word' o = after_flag c idle lone_word (long_met c o None h).0 (long_met c o None h).1

      met' : Bool → Held × Step
      met' b = (let m : Held × Outcome = cond b (option_met c a None h) (flag_met c a None h) in after_flag c idle lone_word m.0 m.1)

  lone_walk : walked c [] (at p h) lone_word ≡ waits_at
  unfolding walked
  lone_walk =
      (λ i. word_walk idle lone_word h (is.alone_goes_on i) (is.alone i))
      ∙ ap (λ o. after_step c lone_word (at p h) (after_flag c idle lone_word (long_met c o None h).0 (long_met c o None h).1).0 (after_flag c idle lone_word (long_met c o None h).0 (long_met c o None h).1).1) is.by_long
      ∙ ap (λ b. after_step c lone_word (at p h) (after_flag c idle lone_word (cond b (option_met c a None h) (flag_met c a None h)).0 (cond b (option_met c a None h) (flag_met c a None h)).1).0
      (after_flag c idle lone_word (cond b (option_met c a None h) (flag_met c a None h)).0 (cond b (option_met c a None h) (flag_met c a None h)).1).1) takes_one

  -- and has it
  abbrev holding : Held
  holding = record (settled c h) { pending = Some (a.id, text ∷ []) }

  module _ (plain : begins_with_hyphen text ≡ false) where
    text_fault : turn_fault s [] waits_at text ≡ []
    text_fault = (λ i. word_faults (option a.id) text waiting (plain_text text plain i).0 (plain_text text plain i).1)
        ∙ ap (λ o. or_else (option_map_or (λ flags. bundle_fault c again flags waiting) o [])
        (step_fault s p (short_or_plain c (option a.id) text o waiting).0 (short_or_plain c (option a.id) text o waiting).1)) (no_flags text plain)

    text_walk : walked c [] waits_at text ≡ at p holding
    unfolding walked
    text_walk =
        (λ i. word_walk (option a.id) text waiting (plain_text text plain i).0 (plain_text text plain i).1)
        ∙ ap (λ o. after_step c text waits_at (short_or_plain c (option a.id) text o waiting).0 (short_or_plain c (option a.id) text o waiting).1) (no_flags text plain)
        ∙ ap (λ o. after_step c text waits_at (option_word o a.id text waiting).0 (next (option_word o a.id text waiting).1)) is.by_id
        ∙ (λ i. record { held = holding; waiting = cond (nat_lt (cond (same_text a.id i) 1 0) (is.one i).end_inclusive) (option a.id) idle; position = p; is_trailing = false; stopped = None })

    in_two_step : Steps s p (given ++ (name, text) ∷ []) (lone_word ∷ text ∷ []) h
    unfolding walk_fault
    in_two_step = record {
      after = holding;
      faultless =
          or_nothing (turn_fault s [] (at p h) lone_word) (walk_fault s [] (walked c [] (at p h) lone_word) (text ∷ [])) lone_fault
          (ap (λ w. walk_fault s [] w (text ∷ [])) lone_walk ∙ or_nothing (turn_fault s [] waits_at text) [] text_fault refl);
      leads = ap (λ w. walked c [] w text) lone_walk ∙ text_walk;
      stands = record {
        settles = ap (λ o. option_map_or (λ x. use_fault again x (text ∷ []) (settled c h).rows) o []) is.by_id ∙ used_well c again name a is text taken (settled c h).rows unused;
        rows = subst (λ o. AreRowsOf (used_by_id o (text ∷ []) (settled c h).rows) (given ++ (name, text) ∷ [])) (sym is.by_id)
            (used_rows c again name a is text taken (settled c h).rows given unused stands.rows);
      };
    }

-- ---- all words of a command

walk_both : (s : Shape) (names : Names) (w : Walk) (xs ys : List Text) → walk_fault s names w xs ≡ [] → walk_fault s names (fold (walked s.rules names) w xs) ys ≡ [] → walk_fault s names w (xs ++ ys) ≡ []
unfolding walk_fault
walk_both s names w [] ys e f = f
walk_both s names w (x ∷ xs) ys e f =
    let parts = nil_parts (turn_fault s names w x) (walk_fault s names (walked s.rules names w x) xs) e in
    or_nothing (turn_fault s names w x) (walk_fault s names (walked s.rules names w x) (xs ++ ys)) parts.0 (walk_both s names (walked s.rules names w x) xs ys parts.1 f)

both_steps : (s : Shape) (p : ℕ) (given more : List (Text × Text)) (before words : List Text) (h : Held) (first : Steps s p given before h) → Steps s p more words first.after → Steps s p more (before ++ words) h
both_steps s p given more before words h first last = record {
  after = last.after;
  faultless = walk_both s [] (at p h) before words first.faultless (ap (λ w. walk_fault s [] w words) first.leads ∙ last.faultless);
  leads = fold-append (walked s.rules []) (at p h) before words ∙ (ap (λ w. fold (walked s.rules []) w words) first.leads ∙ last.leads);
  stands = last.stands;
}

-- the parser of an option's texts
abbrev value_parser : Takes → ValueParser
value_parser takes = option_map_or (λ p. p) (parser_of takes) parser.String

-- its numbers are of the machine
abbrev IsSmall : Takes → Type 0
IsSmall (Number least most default) = most < 2 ^ 64
IsSmall (Amount least most default) = most < 2 ^ 63
IsSmall Print = Unit {0}
IsSmall File = Unit {0}

no_minus : (text : Text) → IsNumeral 10 (without_leading_plus text) → starts_with_minus text ≡ false
no_minus [] numeral = refl
no_minus (x ∷ xs) numeral = by (x == 45) refl
  where
    by : (b : Bool) → (x == 45) ≡ b → b ≡ false
    by false e = refl
    by true e =
        let same : x ≡ 45 = eqb-true x 45 e in
        let digit : IsNumeral 10 (without_leading_plus (45 ∷ xs)) = subst (λ y. IsNumeral 10 (without_leading_plus (y ∷ xs))) same numeral in
        let low = digit.1.0 in
        absurd (omega (arith, low))

-- the digits of a text, and the number that it is read as, by whether it begins with a minus
abbrev digits_of : Text → Bool → Text
digits_of text minus = cond minus (drop 1 text) (without_leading_plus text)

abbrev read_so : Text → Bool → ℤ
read_so text minus = cond minus (neg_ℤ (pos (digits_value 10 (digits_of text minus)))) (pos (digits_value 10 (digits_of text minus)))

abbrev ReadsWithin : ℕ → ℕ → Text → Bool → Type 0
ReadsWithin least most text minus = IsNumeral 10 (digits_of text minus) × FitsSigned w64 (read_so text minus) × (pos least ≤ℤ read_so text minus) × (read_so text minus ≤ℤ pos most)

may_be_given : (takes : Takes) (text : Text) → IsSmall takes → MayBeGiven takes text → accepts false (value_parser takes) text ≡ true
may_be_given (Number least most default) text small may =
    let within = may.2 in
    Accepts-accepts false (parser.Unsigned least most) text (may.0, omega (arith, within, small), may.1, may.2)
may_be_given (Amount least most default) text small may =
    let no_less = may.1 in
    let within = may.2 in
    let read : ReadsWithin least most text false = (may.0, record { sfits = omega (arith, within, small) }, omega (arith, ints, no_less), omega (arith, ints, within)) in
    Accepts-accepts false (parser.Signed (pos least) (pos most)) text (subst (ReadsWithin least most text) (sym (no_minus text may.0)) read)
may_be_given Print text small may = refl
may_be_given File text small may = refl

-- the command's rules have the option
record IsKnown (c : List Rule) (o : Text × Takes) : Type 0 where
  pub small : IsSmall o.1
  pub rule : Rule
  pub is : IsOption c o.0 rule
  pub parser : parser_of_value rule.parser ≡ value_parser o.1

option_of : (P : Text × Takes → Type 0) (options : List (Text × Takes)) (name : Text) (takes : Takes) → AllByRecursion P options → taken_by name options ≡ Some takes → P (name, takes)
option_of P [] name takes all is = absurd (cc is)
option_of P (o ∷ options) name takes all is = by (bytes_eq o.0 name) (bytes_eq-Decides o.0 name).0 is (option_of P options name takes all.1)
  where
    by : (b : Bool) → (b ≡ true → o.0 ≡ name) → option_map (λ (x : Text × Takes). x.1) (cond b (Some o) (find (λ (x : Text × Takes). bytes_eq x.0 name) options)) ≡ Some takes
        → (taken_by name options ≡ Some takes → P (name, takes)) → P (name, takes)
    by true same e rest = (let takes_so : o.1 ≡ takes = cc e in subst P (λ i. (same refl i, takes_so i)) all.0)
    by false same e rest = rest e

words_steps : (s : Shape) (p : ℕ) (name text : Text) (a : Rule) → IsOption s.rules name a → accepts false (parser_of_value a.parser) text ≡ true → (given : List (Text × Text)) (h : Held)
    → Stands s.rules s.args_override_self given h → is_some (given_to name given) ≡ false → (words : List Text) → AreWordsOf name text words → Steps s p (given ++ (name, text) ∷ []) words h
words_steps s p name text a is taken given h stands new _ in_one = in_one_step s p name a is text taken given h stands new
words_steps s p name text a is taken given h stands new _ (in_two plain) = in_two_step s p name a is text taken given h stands new plain

all_steps : (s : Shape) (p : ℕ) (options : List (Text × Takes)) → AllByRecursion (IsKnown s.rules) options → (given : List (Text × Text)) (words : List Text) → Give options given words → Steps s p given words nothing_held
unfolding walk_fault
all_steps s p options known _ _ nothing = record { after = nothing_held; faultless = refl; leads = refl; stands = record { settles = refl; rows = tt } }
all_steps s p options known _ _ (one_more given before words name text takes give is new may are) =
    let first = all_steps s p options known given before give in
    let has : IsKnown s.rules (name, takes) = option_of (IsKnown s.rules) options name takes known is in
    let taken = ap (λ q. accepts false q text) has.parser ∙ may_be_given takes text has.small may in
    both_steps s p given (given ++ (name, text) ∷ []) before words nothing_held first (words_steps s p name text has.rule has.is taken given first.after first.stands new words are)

-- ---- a command

-- of each argument nothing is put in that the words leave out
abbrev AreUndefaulted : List Rule → Type 0
AreUndefaulted = AllByRecursion (λ a. a.defaults ≡ [])

or_true : (b : Bool) → b || true ≡ true
or_true true = refl
or_true false = refl

one_undefaulted : (rows : List Row) (a : Rule) → a.defaults ≡ [] → (default_fault rows a ≡ []) × (with_default rows a ≡ rows)
one_undefaulted rows a none = (
  ap (λ vs. cond (has_row a.id rows || is_empty vs) [] (given_default_fault a vs)) none ∙ ap (λ b. cond b [] (given_default_fault a [])) (or_true (has_row a.id rows)),
  ap (λ vs. cond (has_row a.id rows) rows (default_rows a.id (reading_by a) vs rows)) none ∙ same (has_row a.id rows),
)
  where
    same : (b : Bool) → cond b rows rows ≡ rows
    same true = refl
    same false = refl

undefaulted : (rows : List Row) (rules : List Rule) → AreUndefaulted rules → (defaults_fault rows rules ≡ []) × (fold with_default rows rules ≡ rows)
unfolding defaults_fault
undefaulted rows [] none = (refl, refl)
undefaulted rows (a ∷ rules) none =
    let here = one_undefaulted rows a none.0 in
    let rest = undefaulted rows rules none.1 in
    (or_nothing (default_fault rows a) (defaults_fault (with_default rows a) rules) here.0 (ap (λ rs. defaults_fault rs rules) here.1 ∙ rest.0), ap (λ rs. fold with_default rs rules) here.1 ∙ rest.1)

-- the command has these options, none of which it must be given
record IsCommandOf (s : Shape) (options : List (Text × Takes)) : Type 0 where
  pub known : AllByRecursion (IsKnown s.rules) options
  pub undefaulted : AreUndefaulted s.rules
  pub wants_none : (rows : List Row) → check_fault s rows false ≡ []

module _ (s : Shape) (options : List (Text × Takes)) (is : IsCommandOf s options) (given : List (Text × Text)) (words : List Text) (give : Give options given words) where
  steps : Steps s 1 given words nothing_held
  steps = all_steps s 1 options is.known given words give

  level_faultless : level_fault s [] nothing_held words false [] ≡ []
  level_faultless =
      or_nothing (walk_fault s [] (walk_from nothing_held) words) _ steps.faultless
      (ap (λ w. or_else (settle_fault s.rules s.args_override_self w.held) (or_else (defaults_fault (settled s.rules w.held).rows s.rules) (check_fault s (finished s.rules w.held) false))) steps.leads
      ∙ or_nothing (settle_fault s.rules s.args_override_self steps.after) _ steps.stands.settles
      (or_nothing (defaults_fault (settled s.rules steps.after).rows s.rules) _ (undefaulted (settled s.rules steps.after).rows s.rules is.undefaulted).0 (is.wants_none (finished s.rules steps.after))))

  rows_found : (name : Text) → first_of name (rows_after s.rules [] words) ≡ given_to name given
  rows_found name =
      ap (λ w. first_of name (finished s.rules w.held)) steps.leads
      ∙ (ap (first_of name) (undefaulted (settled s.rules steps.after).rows s.rules is.undefaulted).1 ∙ first_given name (settled s.rules steps.after).rows given steps.stands.rows)

-- what `--print` is given is one of its words, where it takes no other
module _ (options : List (Text × Takes)) (prints : (takes : Takes) → taken_by (codes "print") options ≡ Some takes → takes ≡ Print) where
  abbrev IsPrintable : Text × Text → Type 0
  IsPrintable g = bytes_eq g.0 (codes "print") ≡ true → is_printable (Some g.1) ≡ true

  one_printable : (name text : Text) (takes : Takes) → taken_by name options ≡ Some takes → MayBeGiven takes text → IsPrintable (name, text)
  one_printable name text takes is may e =
      let same : name ≡ codes "print" = (bytes_eq-Decides name (codes "print")).0 e in
      let of_print : takes ≡ Print = prints takes (subst (λ n. taken_by n options ≡ Some takes) same is) in
      let one : MayBeGiven Print text = subst (λ t. MayBeGiven t text) of_print may in
      ⊎_elim (λ tables. ap (λ t. is_printable (Some t)) tables) (λ changes. ap (λ t. is_printable (Some t)) changes) one

  more_printable : (given : List (Text × Text)) (g : Text × Text) → AllByRecursion IsPrintable given → IsPrintable g → AllByRecursion IsPrintable (given ++ g ∷ [])
  more_printable [] g all one = (one, tt)
  more_printable (own ∷ given) g all one = (all.0, more_printable given g all.1 one)

  all_printable : (given : List (Text × Text)) (words : List Text) → Give options given words → AllByRecursion IsPrintable given
  all_printable _ _ nothing = tt
  all_printable _ _ (one_more given before words name text takes give is new may are) = more_printable given (name, text) (all_printable given before give) (one_printable name text takes is may)

  first_printable : (given : List (Text × Text)) → AllByRecursion IsPrintable given → is_printable (given_to (codes "print") given) ≡ true
  first_printable [] all = refl
  first_printable (g ∷ given) all = by (bytes_eq g.0 (codes "print")) all.0 (first_printable given all.1)
    where
      by : (b : Bool) → (b ≡ true → is_printable (Some g.1) ≡ true) → is_printable (given_to (codes "print") given) ≡ true
          → is_printable (option_map (λ (x : Text × Text). x.1) (cond b (Some g) (find (λ (x : Text × Text). bytes_eq x.0 (codes "print")) given))) ≡ true
      by true here rest = here refl
      by false here rest = rest

-- ---- the program

-- the walk of the program's own words, once it has met a command
abbrev stopped_at : Text → List Text → Walk
stopped_at name words = record { held = nothing_held; waiting = idle; position = 1; is_trailing = false; stopped = Some (name, words) }

stays : (c : List Rule) (names : Names) (name : Text) (before words : List Text) → fold (walked c names) (stopped_at name before) words ≡ stopped_at name (before ++ words)
unfolding walked
stays c names name before [] = ap (stopped_at name) (sym (append-nil before))
stays c names name before (word ∷ words) = stays c names name (before ++ word ∷ []) words ∙ ap (stopped_at name) (append_assoc before (word ∷ []) words)

stays_faultless : (s : Shape) (names : Names) (name : Text) (before words : List Text) → walk_fault s names (stopped_at name before) words ≡ []
unfolding walk_fault walked
stays_faultless s names name before [] = refl
stays_faultless s names name before (word ∷ words) = stays_faultless s names name (before ++ word ∷ []) words

-- the program meets this command by its name, and asks for nothing else
record MeetsCommand (a : App) (name : Text) (s : Shape) : Type 0 where
  pub faultless : turn_fault a.top (names_of a) (walk_from nothing_held) name ≡ []
  pub stops : walked a.top.rules (names_of a) (walk_from nothing_held) name ≡ stopped_at name []
  pub is : find (λ s. answers_to name (label_of s)) a.subs ≡ Some s
  pub named : s.name ≡ name
  pub undefaulted : AreUndefaulted a.top.rules
  pub wants_none : (rows : List Row) → check_fault a.top rows true ≡ []

module _ (a : App) (name : Text) (s : Shape) (meets : MeetsCommand a name s) (words : List Text) where
  walk_stops : walk a.top.rules (names_of a) nothing_held (name ∷ words) ≡ stopped_at name words
  walk_stops = ap (λ w. fold (walked a.top.rules (names_of a)) w words) meets.stops ∙ stays a.top.rules (names_of a) name [] words

  walk_faultless : walk_fault a.top (names_of a) (walk_from nothing_held) (name ∷ words) ≡ []
  unfolding walk_fault
  walk_faultless =
      or_nothing (turn_fault a.top (names_of a) (walk_from nothing_held) name) _ meets.faultless
      (ap (λ w. walk_fault a.top (names_of a) w words) meets.stops ∙ stays_faultless a.top (names_of a) name [] words)

  enters : entered a (Some (name, words)) ≡ Some (rows_at s words)
  enters = ap (option_map (λ x. rows_at x words)) meets.is

  built_faultless : level_fault s [] nothing_held words false [] ≡ [] → built_fault a nothing_held (name ∷ words) ≡ []
  built_faultless below =
      or_nothing (walk_fault a.top (names_of a) (walk_from nothing_held) (name ∷ words)) _ walk_faultless
      (ap (λ w. or_else (entered_fault a w.stopped) (or_else (settle_fault a.top.rules a.top.args_override_self w.held)
      (or_else (defaults_fault (settled a.top.rules w.held).rows a.top.rules) (check_fault a.top (finished a.top.rules w.held) (is_some (entered a w.stopped)))))) walk_stops
      ∙ or_nothing (entered_fault a (Some (name, words))) _ (ap (λ o. option_map_or (λ x. level_fault x [] nothing_held words false []) o []) meets.is ∙ below)
      (or_nothing (defaults_fault [] a.top.rules) _ (undefaulted [] a.top.rules meets.undefaulted).0
      (ap (λ o. check_fault a.top (finished a.top.rules nothing_held) (is_some o)) enters ∙ meets.wants_none (finished a.top.rules nothing_held))))

  found : entered a (stop_after a.top.rules (names_of a) (name ∷ words)) ≡ Some (rows_at s words)
  found = ap (λ w. entered a w.stopped) walk_stops ∙ enters

-- what is to be shown of a command
abbrev IsTaken : Text → Type 0
IsTaken name = (given : List (Text × Text)) (words : List Text) → Give (options_of name) given words
    → (words_fault (name ∷ words) ≡ []) × IsSomeAnd (subcommand_of whview_app (name ∷ words))
    (λ found. (found.0 ≡ name) × AllByRecursion (λ o. first_of o.0 found.1 ≡ given_to o.0 given) (options_of name))

taken_so : (name : Text) (s : Shape) → MeetsCommand (built whview_app) name s → IsCommandOf s (options_of name) → ((takes : Takes) → taken_by (codes "print") (options_of name) ≡ Some takes → takes ≡ Print) → IsTaken name
taken_so name s meets is prints given words give = (
  or_nothing (fault_of whview_app (name ∷ words)) _ (built_faultless (built whview_app) name s meets words (level_faultless s (options_of name) is given words give))
      (ap print_fault (found (built whview_app) name s meets words) ∙ ap (λ o. cond (is_printable o) [] (kind.InvalidValue ∷ [])) (rows_found s (options_of name) is given words give (codes "print"))
      ∙ ap (λ b. cond b [] (kind.InvalidValue ∷ [])) (first_printable (options_of name) prints given (all_printable (options_of name) prints given words give))),
  subst (λ o. IsSomeAnd o (λ found. (found.0 ≡ name) × AllByRecursion (λ o. first_of o.0 found.1 ≡ given_to o.0 given) (options_of name))) (sym (found (built whview_app) name s meets words))
      (meets.named, each (options_of name)),
)
  where
    each : (options : List (Text × Takes)) → AllByRecursion (λ o. first_of o.0 (rows_after s.rules [] words) ≡ given_to o.0 given) options
    each [] = tt
    each (o ∷ options) = (rows_found s (options_of name) is given words give o.0, each options)

named : (Q : Text → Type 0) (commands : List (Text × List (Text × Takes))) → AllByRecursion (λ c. Q c.0) commands → (name : Text) → IsSome (find (λ c. bytes_eq c.0 name) commands) → Q name
named Q [] all name is = absurd (cc is)
named Q (own ∷ commands) all name is = by (bytes_eq own.0 name) (bytes_eq-Decides own.0 name).0 is (named Q commands all.1 name)
  where
    by : (b : Bool) → (b ≡ true → own.0 ≡ name) → IsSome (cond b (Some own) (find (λ (x : Text × List (Text × Takes)). bytes_eq x.0 name) commands))
        → (IsSome (find (λ (x : Text × List (Text × Takes)). bytes_eq x.0 name) commands) → Q name) → Q name
    by true same e rest = subst Q (same refl) all.0
    by false same e rest = rest e

-- ---- each command

-- a command as it is built
abbrev built_command : Text → Shape
built_command name = built_leaf (inherited (program_of []).top (command_of name (options_of name)).top)

known_option : (c : List Rule) (name : Text) (takes : Takes) (a : Rule) → IsSmall takes → a.id ≡ name → arg_by_long c name ≡ Some a → arg_by_id c a.id ≡ Some a → action_of a ≡ action.Set
    → unwrap_or_range a.range ≡ record { start_inclusive = 1; end_inclusive = 1 } → a.ignore_case ≡ false → parser_of_value a.parser ≡ value_parser takes
    → ((text : Text) → long_of (codes "--" ++ (name ++ (codes "=" ++ text))) ≡ Some (name, Some text)) → long_of (codes "--" ++ name) ≡ Some (name, None)
    → ((text : Text) → bytes_eq (codes "--" ++ (name ++ (codes "=" ++ text))) (45 ∷ 45 ∷ []) ≡ false) → bytes_eq (codes "--" ++ name) (45 ∷ 45 ∷ []) ≡ false → IsKnown c (name, takes)
known_option c name takes a small id by_long by_id sets one cased parser joined alone joined_goes_on alone_goes_on = record {
  small = small;
  rule = a;
  is = record {
    id = id;
    by_long = by_long;
    by_id = by_id;
    sets = sets;
    one = one;
    cased = cased;
    joined = joined;
    alone = alone;
    joined_goes_on = joined_goes_on;
    alone_goes_on = alone_goes_on;
  };
  parser = parser;
}

check_known : AllByRecursion (IsKnown (built_command (codes "check")).rules) (options_of (codes "check"))
check_known = (
  known_option _ _ _ _ (omega arith) refl refl refl refl refl refl refl (λ text. refl) refl (λ text. refl) refl,
  (
    known_option _ _ _ _ (omega arith) refl refl refl refl refl refl refl (λ text. refl) refl (λ text. refl) refl,
    (known_option _ _ _ _ tt refl refl refl refl refl refl refl (λ text. refl) refl (λ text. refl) refl, tt),
  ),
)

plan_known : AllByRecursion (IsKnown (built_command (codes "plan")).rules) (options_of (codes "plan"))
plan_known = (
  known_option _ _ _ _ (omega arith) refl refl refl refl refl refl refl (λ text. refl) refl (λ text. refl) refl,
  (
    known_option _ _ _ _ (omega arith) refl refl refl refl refl refl refl (λ text. refl) refl (λ text. refl) refl,
    (
      known_option _ _ _ _ tt refl refl refl refl refl refl refl (λ text. refl) refl (λ text. refl) refl,
      (known_option _ _ _ _ (omega arith) refl refl refl refl refl refl refl (λ text. refl) refl (λ text. refl) refl, tt),
    ),
  ),
)

certify_known : AllByRecursion (IsKnown (built_command (codes "certify")).rules) (options_of (codes "certify"))
certify_known = (
  known_option _ _ _ _ (omega arith) refl refl refl refl refl refl refl (λ text. refl) refl (λ text. refl) refl,
  (
    known_option _ _ _ _ (omega arith) refl refl refl refl refl refl refl (λ text. refl) refl (λ text. refl) refl,
    (known_option _ _ _ _ tt refl refl refl refl refl refl refl (λ text. refl) refl (λ text. refl) refl, tt),
  ),
)

night_known : AllByRecursion (IsKnown (built_command (codes "night")).rules) (options_of (codes "night"))
night_known = (
  known_option _ _ _ _ (omega arith) refl refl refl refl refl refl refl (λ text. refl) refl (λ text. refl) refl,
  (
    known_option _ _ _ _ (omega arith) refl refl refl refl refl refl refl (λ text. refl) refl (λ text. refl) refl,
    (
      known_option _ _ _ _ (omega arith) refl refl refl refl refl refl refl (λ text. refl) refl (λ text. refl) refl,
      (
        known_option _ _ _ _ tt refl refl refl refl refl refl refl (λ text. refl) refl (λ text. refl) refl,
        (
          known_option _ _ _ _ tt refl refl refl refl refl refl refl (λ text. refl) refl (λ text. refl) refl,
          (known_option _ _ _ _ (omega arith) refl refl refl refl refl refl refl (λ text. refl) refl (λ text. refl) refl, tt),
        ),
      ),
    ),
  ),
)

replay_known : AllByRecursion (IsKnown (built_command (codes "replay")).rules) (options_of (codes "replay"))
replay_known = (
  known_option _ _ _ _ tt refl refl refl refl refl refl refl (λ text. refl) refl (λ text. refl) refl,
  (known_option _ _ _ _ (omega arith) refl refl refl refl refl refl refl (λ text. refl) refl (λ text. refl) refl, tt),
)

live_known : AllByRecursion (IsKnown (built_command (codes "live")).rules) (options_of (codes "live"))
live_known = (
  known_option _ _ _ _ (omega arith) refl refl refl refl refl refl refl (λ text. refl) refl (λ text. refl) refl,
  (
    known_option _ _ _ _ (omega arith) refl refl refl refl refl refl refl (λ text. refl) refl (λ text. refl) refl,
    (
      known_option _ _ _ _ (omega arith) refl refl refl refl refl refl refl (λ text. refl) refl (λ text. refl) refl,
      (
        known_option _ _ _ _ (omega arith) refl refl refl refl refl refl refl (λ text. refl) refl (λ text. refl) refl,
        (
          known_option _ _ _ _ tt refl refl refl refl refl refl refl (λ text. refl) refl (λ text. refl) refl,
          (known_option _ _ _ _ (omega arith) refl refl refl refl refl refl refl (λ text. refl) refl (λ text. refl) refl, tt),
        ),
      ),
    ),
  ),
)

command_is : (name : Text) → AllByRecursion (IsKnown (built_command name).rules) (options_of name) → AreUndefaulted (built_command name).rules → ((rows : List Row) → check_fault (built_command name) rows false ≡ [])
    → IsCommandOf (built_command name) (options_of name)
command_is name known undefaulted wants_none = record { known = known; undefaulted = undefaulted; wants_none = wants_none }

meets : (name : Text) → turn_fault (built whview_app).top (names_of (built whview_app)) (walk_from nothing_held) name ≡ [] → walked (built whview_app).top.rules (names_of (built whview_app)) (walk_from nothing_held) name ≡ stopped_at name []
    → find (λ s. answers_to name (label_of s)) (built whview_app).subs ≡ Some (built_command name) → (built_command name).name ≡ name → MeetsCommand (built whview_app) name (built_command name)
meets name faultless stops is named = record { faultless = faultless; stops = stops; is = is; named = named; undefaulted = (refl, tt); wants_none = λ rows. refl }

all_commands : AllByRecursion (λ c. IsTaken c.0) table
unfolding walked
all_commands = (
  taken_so (codes "check") _ (meets (codes "check") refl refl refl refl) (command_is (codes "check") check_known (refl, (refl, (refl, (refl, tt)))) (λ rows. refl)) (λ takes e. cc),
  (
    taken_so (codes "plan") _ (meets (codes "plan") refl refl refl refl) (command_is (codes "plan") plan_known (refl, (refl, (refl, (refl, (refl, tt))))) (λ rows. refl)) (λ takes e. cc),
    (
      taken_so (codes "certify") _ (meets (codes "certify") refl refl refl refl) (command_is (codes "certify") certify_known (refl, (refl, (refl, (refl, tt)))) (λ rows. refl)) (λ takes e. cc),
      (
        taken_so (codes "night") _ (meets (codes "night") refl refl refl refl) (command_is (codes "night") night_known (refl, (refl, (refl, (refl, (refl, (refl, (refl, tt))))))) (λ rows. refl)) (λ takes e. cc),
        (
          taken_so (codes "replay") _ (meets (codes "replay") refl refl refl refl) (command_is (codes "replay") replay_known (refl, (refl, (refl, tt))) (λ rows. refl)) (λ takes e. cc),
          (taken_so (codes "live") _ (meets (codes "live") refl refl refl refl) (command_is (codes "live") live_known (refl, (refl, (refl, (refl, (refl, (refl, (refl, tt))))))) (λ rows. refl)) (λ takes e. cc), tt),
        ),
      ),
    ),
  ),
)

pub all_words_taken : WordsOfTheTableAreTaken
all_words_taken name given words known = named IsTaken table all_commands name known given words
