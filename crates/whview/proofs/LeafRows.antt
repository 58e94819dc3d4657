-- What a parse without a fault leaves at a command whose arguments are options: each value that it found passes the parser of its option.
use Rattle.std.proofs.Common.{◌≡◌, ◌∙◌, ◌≢◌, ℕ, Bool, cond, true, false, zero, suc, refl, sym, ap, subst, List, [], ◌∷◌, ◌++◌, length, drop, Option, Some, None, is_some}
use Rattle.std.specs.Prelude.{IfSome, encode_utf8, find, fold, option_and_then, slice_get, ◌==◌}
use Rattle.std.specs.Option.{option_map_or}
use Rattle.std.specs.Str.{bytes_eq, chars}
use Rattle.std.proofs.lemmas.Slice.Eq.{bytes_eq-Decides}
use Rattle.clap.specs.Kinds.{Kinds, or_else, range_kinds, value_kinds}
use Rattle.clap.specs.ValueTests.{accepts}
use Rattle.clap.specs.Facts.{parser_of_value, unwrap_or_range}
use Rattle.clap.specs.Lexer.{long_of, short_of}
use Rattle.clap.specs.Takes.{value_passes}
use Rattle.clap.specs.Faults.{action_fault, bundle_fault, bundle_step_fault, flag_word_fault, flags_fault, level_fault, long_fault, option_fault, react_fault, settle_fault, short_fault, step_fault, turn_fault, use_fault, values_fault, walk_fault, word_fault, other_fault}
use Rattle.clap.specs.Simple.{Shape}
use Rattle.clap.specs.Walk.{Held, Names, Outcome, Row, Rule, Step, Text, Waiting, Walk, action_of, after_flag, after_step, arg_by_id, arg_by_index, arg_by_long, arg_by_short, at_row, attached_value, bundle_met, bundle_step, default_rows, done, first_of, flag_met, has_row, idle, long_met, long_or_other, more_values, most_values, next, nothing_held, option, option_met, option_word, plain, plain_word, positional, reacted, reading_by, refused, rows_after, settled, settled_rows, short_met, short_or_plain, subcommand, subcommand_met, subcommand_or_other, takes_values, to_positional, trailing, used, used_as, used_by_id, value, values_or_missing, waits, walk, walk_from, walked, walked_from, with_default, with_values, without, word_met}
use Rattle.clap.specs.declared.builder.action.ArgAction.{ArgAction}
use Rattle.clap.specs.declared.builder.action.ArgAction.TheVariants as action
use Rattle.clap.specs.declared.builder.value_parser.Reading.{Reading}
use Rattle.clap.specs.declared.builder.value_parser.ValueParser.{ValueParser}
use Rattle.clap.specs.declared.parser.matches.ValueSource.{ValueSource}
use Rattle.clap.specs.declared.error.kind.ErrorKind.{ErrorKind}

-- two steps in turn pass where each does
pub nil_parts : (a b : Kinds) → or_else a b ≡ [] → (a ≡ []) × (b ≡ [])
nil_parts [] b e = (refl, e)
nil_parts (k ∷ ks) b e = (cc, cc)

-- ---- rows whose values pass

module _ (V : Text → Text → Type 0) where
  abbrev pub EachPasses : Text → List Text → Type 0
  EachPasses id [] = Unit {0}
  EachPasses id (v ∷ vs) = V id v × EachPasses id vs

  abbrev pub RowsPass : List Row → Type 0
  RowsPass [] = Unit {0}
  RowsPass (r ∷ rs) = EachPasses r.id r.values × RowsPass rs

  each-append : (id : Text) (xs ys : List Text) → EachPasses id xs → EachPasses id ys → EachPasses id (xs ++ ys)
  each-append id [] ys hx hy = hy
  each-append id (x ∷ xs) ys hx hy = (hx.0, each-append id xs ys hx.1 hy)

  rows-append : (xs ys : List Row) → RowsPass xs → RowsPass ys → RowsPass (xs ++ ys)
  rows-append [] ys hx hy = hy
  rows-append (x ∷ xs) ys hx hy = (hx.0, rows-append xs ys hx.1 hy)

  rows-at_row : (id : Text) (change : Row → List Row) (missing rows : List Row) → ((r : Row) → r.id ≡ id → EachPasses r.id r.values → RowsPass (change r))
      → RowsPass missing → RowsPass rows → RowsPass (at_row id change missing rows)
  rows-at_row id change missing [] keeps none h = none
  rows-at_row id change missing (r ∷ rs) keeps none h =
      go (bytes_eq r.id id) (λ e. keeps r ((bytes_eq-Decides r.id id).0 e) h.0) (rows-at_row id change missing rs keeps none h.1)
    where
      go : (b : Bool) → (b ≡ true → RowsPass (change r)) → RowsPass (at_row id change missing rs) → RowsPass (cond b (change r ++ rs) (r ∷ at_row id change missing rs))
      go true here rest = rows-append (change r) rs (here refl) h.1
      go false here rest = (h.0, rest)

  rows-without : (id : Text) (rows : List Row) → RowsPass rows → RowsPass (without id rows)
  rows-without id rows h = rows-at_row id (λ _. []) [] rows (λ r e p. tt) tt h

  rows-with_values : (id : Text) (how : Reading) (s : ValueSource) (values : List Text) (rows : List Row) → EachPasses id values → RowsPass rows
      → RowsPass (with_values id how s values rows)
  rows-with_values id how s values rows given h =
      rows-at_row id (more_values s values) _ rows
      (λ r e p. (each-append r.id r.values values p (subst (λ (t : Text). EachPasses t values) (sym e) given), tt)) (given, tt) h

  first_passes : (id : Text) (rows : List Row) → RowsPass rows → IfSome (first_of id rows) (V id)
  first_passes id [] h = tt
  first_passes id (r ∷ rs) h = go (bytes_eq r.id id) (λ e. at_row_values r.values (subst (λ (t : Text). EachPasses t r.values) ((bytes_eq-Decides r.id id).0 e) h.0)) (first_passes id rs h.1)
    where
      at_row_values : (vs : List Text) → EachPasses id vs → IfSome (slice_get vs 0) (V id)
      at_row_values [] p = tt
      at_row_values (v ∷ vs) p = p.0

      go : (b : Bool) → (b ≡ true → IfSome (slice_get r.values 0) (V id)) → IfSome (first_of id rs) (V id)
          → IfSome (option_and_then (λ (x : Row). slice_get x.values 0) (cond b (Some r) (find (λ (x : Row). bytes_eq x.id id) rs))) (V id)
      go true here rest = here refl
      go false here rest = rest

-- ---- options

-- the argument has values alone or asks for help; the arguments know it by its id
pub record IsOptionOf (c : List Rule) (a : Rule) : Type 0 where
  pub own : arg_by_id c a.id ≡ Some a
  pub uncounted : action_of a ≢ action.Count
  pub unplaced : a.index ≡ None
  pub undefaulted : a.defaults ≡ []

abbrev pub AreOptionsOf : List Rule → List Rule → Type 0
AreOptionsOf c [] = Unit {0}
AreOptionsOf c (a ∷ rest) = IsOptionOf c a × AreOptionsOf c rest

-- a value passes the parser of the argument of this id
abbrev pub PassesIn : List Rule → Text → Text → Type 0
PassesIn c id v = (a : Rule) → arg_by_id c id ≡ Some a → value_passes a v ≡ true

found_option : (c xs : List Rule) → AreOptionsOf c xs → (test : Rule → Bool) (a : Rule) → find test xs ≡ Some a → IsOptionOf c a
found_option c [] options test a found = let bad : ⊥ = cc in absurd bad
found_option c (x ∷ xs) options test a found = go (test x) found (found_option c xs options.1 test a)
  where
    go : (b : Bool) → cond b (Some x) (find test xs) ≡ Some a → (find test xs ≡ Some a → IsOptionOf c a) → IsOptionOf c a
    go true e rest = let same : x ≡ a = cc in subst (IsOptionOf c) same options.0
    go false e rest = rest e

no_positional : (c xs : List Rule) → AreOptionsOf c xs → (i : ℕ) → arg_by_index xs i ≡ None
no_positional c [] options i = refl
no_positional c (x ∷ xs) options i =
    ap (λ (o : Option ℕ). cond (option_map_or (λ k. k == i) o false) (Some x) (arg_by_index xs i)) options.0.unplaced ∙ no_positional c xs options.1 i

-- ---- one use

taken : (again : Bool) (p : ValueParser) (v : Text) → value_kinds again p v ≡ [] → accepts again p v ≡ true
taken again p v e = go (accepts again p v) _ e
  where
    go : (b : Bool) (k : ErrorKind) → cond b [] (k ∷ []) ≡ [] → b ≡ true
    go true k e = refl
    go false k e = cc

module _ (c : List Rule) (all : AreOptionsOf c c) where
  abbrev Good : List Row → Type 0
  Good = RowsPass (PassesIn c)

  each_taken : (a : Rule) → IsOptionOf c a → (vs : List Text) → values_fault a vs ≡ [] → EachPasses (PassesIn c) a.id vs
  each_taken a fits [] e = tt
  each_taken a fits (v ∷ vs) e =
      let parts = nil_parts (value_kinds a.ignore_case (parser_of_value a.parser) v) (values_fault a vs) e in (
        λ b found.
            let same : a ≡ b = cc (fits.own) in
            subst (λ (x : Rule). value_passes x v ≡ true) same (taken a.ignore_case (parser_of_value a.parser) v parts.0),
        each_taken a fits vs parts.1,
      )

  by_action : (a : Rule) → IsOptionOf c a → (x : ArgAction) → x ≢ action.Count → (again : Bool) (vs : List Text) (rows : List Row) → action_fault x again a vs rows ≡ []
      → Good rows → Good (used_as x a.id (reading_by a) vs rows)
  by_action a fits action.Set x again vs rows e h =
      rows-with_values _ _ _ _ vs _ (each_taken a fits vs (nil_parts _ _ e).1) (rows-without _ a.id rows h)
  by_action a fits action.SetTrue x again vs rows e h =
      rows-with_values _ _ _ _ vs _ (each_taken a fits vs (nil_parts _ _ e).1) (rows-without _ a.id rows h)
  by_action a fits action.SetFalse x again vs rows e h =
      rows-with_values _ _ _ _ vs _ (each_taken a fits vs (nil_parts _ _ e).1) (rows-without _ a.id rows h)
  by_action a fits action.Append x again vs rows e h = rows-with_values _ _ _ _ vs _ (each_taken a fits vs e) h
  by_action a fits action.Count x again vs rows e h = absurd (x refl)
  by_action a fits action.Help x again vs rows e h = h
  by_action a fits action.HelpShort x again vs rows e h = h
  by_action a fits action.HelpLong x again vs rows e h = h
  by_action a fits action.Version x again vs rows e h = h

  used_good : (a : Rule) → IsOptionOf c a → (again : Bool) (vs : List Text) (rows : List Row) → use_fault again a vs rows ≡ [] → Good rows → Good (used a vs rows)
  used_good a fits again vs rows e h =
      by_action a fits (action_of a) fits.uncounted again (values_or_missing a vs) rows
      (nil_parts (range_kinds (unwrap_or_range a.range).start_inclusive (most_values a) (length vs)) _ e).1 h

  by_id_good : (again : Bool) (o : Option Rule) → ((a : Rule) → o ≡ Some a → IsOptionOf c a) → (vs : List Text) (rows : List Row)
      → option_map_or (λ a. use_fault again a vs rows) o [] ≡ [] → Good rows → Good (used_by_id o vs rows)
  by_id_good again None known vs rows e h = h
  by_id_good again (Some a) known vs rows e h = used_good a (known a refl) again vs rows e h

  settled_good : (again : Bool) (h : Held) → settle_fault c again h ≡ [] → Good h.rows → Good (settled c h).rows
  settled_good again h e good = go h.pending e
    where
      go : (o : Option (Text × List Text)) → option_map_or (λ p. option_map_or (λ a. use_fault again a p.1 h.rows) (arg_by_id c p.0) []) o [] ≡ []
          → Good (settled_rows c o h.rows)
      go None f = good
      go (Some p) f = by_id_good again (arg_by_id c p.0) (λ a. found_option c c all _ a) p.1 h.rows f good

  reacted_good : (again : Bool) (a : Rule) → IsOptionOf c a → (vs : List Text) (h : Held) → react_fault c again a vs h ≡ [] → Good h.rows → Good (reacted c a vs h).rows
  reacted_good again a fits vs h e good =
      let parts = nil_parts (settle_fault c again h) (use_fault again a vs (settled c h).rows) e in
      used_good a fits again vs (settled c h).rows parts.1 (settled_good again h parts.0 good)

  -- ---- one word

  option_good : (again : Bool) (a : Rule) → IsOptionOf c a → (v : Option Text) (h : Held) → option_fault c again a v h ≡ [] → Good h.rows
      → Good (option_met c a v h).0.rows
  option_good again a fits None h e good = settled_good again h e good
  option_good again a fits (Some v) h e good = reacted_good again a fits (v ∷ []) h e good

  flag_good : (again : Bool) (a : Rule) → IsOptionOf c a → (v : Option Text) (h : Held) (k : ErrorKind) → cond (is_some v) (k ∷ []) (react_fault c again a [] h) ≡ []
      → Good h.rows → Good (flag_met c a v h).0.rows
  flag_good again a fits None h k e good = reacted_good again a fits [] h e good
  flag_good again a fits (Some v) h k e good = good

  long_good : (again : Bool) (o : Option Rule) → ((a : Rule) → o ≡ Some a → IsOptionOf c a) → (v : Option Text) (h : Held) → long_fault c again o v h ≡ []
      → Good h.rows → Good (long_met c o v h).0.rows
  long_good again None known v h e good = good
  long_good again (Some a) known v h e good = go (takes_values a) _ e
    where
      go : (b : Bool) (k : ErrorKind) → cond b (option_fault c again a v h) (cond (is_some v) (k ∷ []) (react_fault c again a [] h)) ≡ []
          → Good (cond b (option_met c a v h) (flag_met c a v h)).0.rows
      go true k f = option_good again a (known a refl) v h f good
      go false k f = flag_good again a (known a refl) v h k f good

  plain_good : (waiting : Waiting) (word : Text) (h : Held) → Good h.rows → Good (plain_word c waiting word h).0.rows
  plain_good idle word h good = good
  plain_good positional word h good = good
  plain_good (option id) word h good = go (arg_by_id c id)
    where
      go : (o : Option Rule) → Good (option_word o id word h).0.rows
      go None = good
      go (Some a) = good

  after_good : (waiting : Waiting) (word : Text) (h : Held) (out : Outcome) → Good h.rows → Good (after_flag c waiting word h out).0.rows
  after_good waiting word h done good = good
  after_good waiting word h (waits id) good = good
  after_good waiting word h plain good = plain_good waiting word h good
  after_good waiting word h refused good = plain_good waiting word h good

  short_good : (again : Bool) (o : Option Rule) → ((a : Rule) → o ≡ Some a → IsOptionOf c a) → (rest : Text) (h : Held) (faults : Held → Kinds) (after : Held → Held × Outcome)
      → ((g : Held) → faults g ≡ [] → Good g.rows → Good (after g).0.rows) → short_fault c again o rest h faults ≡ [] → Good h.rows
      → Good (short_met c o rest h after).0.rows
  short_good again None known rest h faults after keeps e good = good
  short_good again (Some a) known rest h faults after keeps e good = go (takes_values a) e
    where
      go : (b : Bool) → cond b (option_fault c again a (attached_value rest) h) (or_else (react_fault c again a [] h) (faults (reacted c a [] h))) ≡ []
          → Good (cond b (option_met c a (attached_value rest) h) (after (reacted c a [] h))).0.rows
      go true f = option_good again a (known a refl) (attached_value rest) h f good
      go false f =
          let parts = nil_parts (react_fault c again a [] h) (faults (reacted c a [] h)) f in
          keeps (reacted c a [] h) parts.1 (reacted_good again a (known a refl) [] h parts.0 good)

  bundle_step_good : (again : Bool) (first : Option ℕ) (flags : Text) (skip : ℕ) (so_far : Outcome) (h : Held) (faults : Text → ℕ → Held → Kinds)
      (after : Text → ℕ → Outcome → Held → Held × Outcome) → ((t : Text) (n : ℕ) (out : Outcome) (g : Held) → faults t n g ≡ [] → Good g.rows → Good (after t n out g).0.rows)
      → bundle_step_fault c again first flags skip h faults ≡ [] → Good h.rows → Good (bundle_step c first flags skip so_far h after).0.rows
  bundle_step_good again None flags skip so_far h faults after keeps e good = good
  bundle_step_good again (Some x) flags zero so_far h faults after keeps e good =
      let rest : Text = drop (length (encode_utf8 x)) flags in
      short_good again (arg_by_short c x) (λ a. found_option c c all _ a) rest h (faults rest 0) (after rest 0 done) (keeps rest 0 done) e good
  bundle_step_good again (Some x) flags (suc skip) so_far h faults after keeps e good = keeps _ skip so_far h e good

  bundle_good : (again : Bool) (k : ℕ) (flags : Text) (skip : ℕ) (so_far : Outcome) (h : Held) → flags_fault c again k flags skip h ≡ [] → Good h.rows
      → Good (bundle_met c k flags skip so_far h).0.rows
  unfolding flags_fault bundle_met
  bundle_good again zero flags skip so_far h e good = good
  bundle_good again (suc k) flags skip so_far h e good =
      bundle_step_good again (slice_get (chars flags) 0) flags skip so_far h (flags_fault c again k) (bundle_met c k) (λ t n out g f p. bundle_good again k t n out g f p) e good

  flag_word_good : (again : Bool) (waiting : Waiting) (long : Option (Text × Option Text)) (word : Text) (h : Held) → flag_word_fault c again long word h ≡ [] → Good h.rows
      → Good (long_or_other c waiting word long h).0.rows
  flag_word_good again waiting (Some p) word h e good =
      after_good waiting word _ _ (long_good again (arg_by_long c p.0) (λ a. found_option c c all _ a) p.1 h e good)
  flag_word_good again waiting None word h e good = go (short_of word) e
    where
      go : (o : Option Text) → option_map_or (λ flags. bundle_fault c again flags h) o [] ≡ [] → Good (short_or_plain c waiting word o h).0.rows
      go None f = plain_good waiting word h good
      go (Some flags) f = after_good waiting word _ _ (bundle_good again (length flags) flags h.skip plain (record h { skip = 0 }) f good)

-- ---- the words in turn

module _ (s : Shape) (all : AreOptionsOf s.rules s.rules) (names : Names) where
  abbrev Fine : List Row → Type 0
  Fine = RowsPass (PassesIn s.rules)

  other_good : (o : Option Text) (waiting : Waiting) (position : ℕ) (word : Text) (h : Held) → other_fault s o word h ≡ [] → Fine h.rows
      → Fine (subcommand_or_other s.rules o waiting position word h).0.rows
  other_good (Some name) waiting position word h e good = good
  other_good None waiting position word h e good = go (bytes_eq word (45 ∷ 45 ∷ [])) e
    where
      go : (b : Bool) → cond b [] (flag_word_fault s.rules s.args_override_self (long_of word) word h) ≡ []
          → Fine (cond b (h, trailing position) (long_or_other s.rules waiting word (long_of word) h)).0.rows
      go true f = good
      go false f = flag_word_good s.rules all s.args_override_self waiting (long_of word) word h f good

  met_good : (ends : Bool) (waiting : Waiting) (position : ℕ) (word : Text) (h : Held) → word_fault s names ends waiting word h ≡ [] → Fine h.rows
      → Fine (word_met s.rules names ends waiting position word h).0.rows
  met_good true waiting position word h e good = good
  met_good false waiting position word h e good = other_good (subcommand_met names waiting word) waiting position word h e good

  step_good : (word : Text) (w : Walk) (h : Held) (step : Step) → Fine h.rows → Fine (after_step s.rules word w h step).held.rows
  step_good word w h (next waiting) good = good
  step_good word w h (trailing position) good = good
  step_good word w h (subcommand name) good = good
  step_good word w h value good =
      subst (λ (o : Option Rule). Fine (to_positional s.rules o word w h).held.rows) (sym (no_positional s.rules s.rules all w.position)) good

  turn_good : (w : Walk) (word : Text) → turn_fault s names w word ≡ [] → Fine w.held.rows → Fine (walked s.rules names w word).held.rows
  unfolding walked
  turn_good w word e good = go w.stopped e
    where
      go : (o : Option (Text × List Text))
          → cond (is_some o) [] (or_else (word_fault s names w.is_trailing w.waiting word w.held)
          (step_fault s w.position (word_met s.rules names w.is_trailing w.waiting w.position word w.held).0 (word_met s.rules names w.is_trailing w.waiting w.position word w.held).1)) ≡ []
          → Fine (walked_from s.rules names o w word).held.rows
      go (Some p) f = good
      go None f = step_good word w _ _ (met_good w.is_trailing w.waiting w.position word w.held (nil_parts _ _ f).0 good)

  walk_good : (words : List Text) (w : Walk) → walk_fault s names w words ≡ [] → Fine w.held.rows → Fine (fold (walked s.rules names) w words).held.rows
  unfolding walk_fault
  walk_good [] w e good = good
  walk_good (word ∷ words) w e good =
      let parts = nil_parts (turn_fault s names w word) (walk_fault s names (walked s.rules names w word) words) e in
      walk_good words (walked s.rules names w word) parts.1 (turn_good w word parts.0 good)

  default_good : (a : Rule) → IsOptionOf s.rules a → (rows : List Row) → Fine rows → Fine (with_default rows a)
  default_good a fits rows good = go (has_row a.id rows)
    where
      go : (b : Bool) → Fine (cond b rows (default_rows a.id (reading_by a) a.defaults rows))
      go true = good
      go false = subst (λ (vs : List Text). Fine (default_rows a.id (reading_by a) vs rows)) (sym fits.undefaulted) good

  defaults_good : (xs : List Rule) → AreOptionsOf s.rules xs → (rows : List Row) → Fine rows → Fine (fold with_default rows xs)
  defaults_good [] options rows good = good
  defaults_good (x ∷ xs) options rows good = defaults_good xs options.1 (with_default rows x) (default_good x options.0 rows good)

  -- the rows of a level that passes
  pub level_good : (words : List Text) (has : Bool) (below : Kinds) → level_fault s names nothing_held words has below ≡ [] → RowsPass (PassesIn s.rules) (rows_after s.rules names words)
  level_good words has below e =
      let walk_part = nil_parts (walk_fault s names (walk_from nothing_held) words) _ e in
      let below_part = nil_parts below _ walk_part.1 in
      let settle_part = nil_parts (settle_fault s.rules s.args_override_self (walk s.rules names nothing_held words).held) _ below_part.1 in
      defaults_good s.rules all _
      (settled_good s.rules all s.args_override_self (walk s.rules names nothing_held words).held settle_part.0
      (walk_good words (walk_from nothing_held) walk_part.0 tt))

-- the first value of an argument in such rows passes its parser
pub first_of_good : (s : Shape) → AreOptionsOf s.rules s.rules → (names : Names) (words : List Text) (has : Bool) (below : Kinds) → level_fault s names nothing_held words has below ≡ []
    → (id : Text) → IfSome (first_of id (rows_after s.rules names words)) (PassesIn s.rules id)
first_of_good s all names words has below e id = first_passes (PassesIn s.rules) id (rows_after s.rules names words) (level_good s all names words has below e)
