-- That a night which runs while readers ask is one legal run with them.
use Rattle.std.proofs.Common.{◌≡◌, refl, sym, ap, ◌∙◌, subst, ℕ, ◌+◌, ◌<◌, ◌≤◌, List, [], ◌++◌, length, map, Bool, true, false, arith, Option, Some, None, ⊎_elim, inl, inr}
use Rattle.std.specs.Prelude.{Result, Ok, Err, IfErr, IfSome, MatchOption, MatchResult, option_map, slice_get, slice_index_or}
use Rattle.std.specs.Global.{Vec}
use Rattle.std.proofs.lemmas.List.{length-map}
use Rattle.std.proofs.lemmas.Option.{get_or_from_slice_get, same_Some, slice_get-map, slice_get_cases, slice_get_within}
use Rattle.wh_dag.specs.Catalog.{CatalogOf}
use Rattle.wh_store.specs.Operations.{Opens}
use Rattle.wh_store.specs.Faults.{publish_refusal}
use Rattle.wh_store.specs.declared.publish_fault.PublishFault.{PublishFault}
use Rattle.wh_store.specs.Ledgers.{Ledger}
use Rattle.wh_carry.specs.Night.{Night}
use Rattle.wh_carry.specs.declared.report.Carried.{Carried}
use Rattle.wh_desk.specs.Askers.{AreAnswered, IsAnswered, IsHad}
use Rattle.wh_desk.specs.Desks.{Sitting}
use Rattle.wh_desk.specs.Known.{Known}
use Rattle.wh_store.specs.Readers.{Bookmark}
use Rattle.wh_desk.specs.Reading.{Call, stand_of}
use Rattle.wh_desk.specs.Writers.{Writing, published}
use Rattle.wh_desk.specs.declared.askers.Answered.{Answered}
use Rattle.wh_desk.specs.declared.askers.Asker.{Asker}
use Rattle.wh_night.specs.Beside.{AreHad, HasRun}
use Rattle.wh_night.specs.Causes.{CannotBegin}
use Rattle.wh_night.specs.Refusals.{IsRefused}
use Rattle.wh_night.specs.Tonight.{Leaves, tonight}
use Rattle.wh_night.specs.declared.beside.Beside.{Beside}
use Rattle.wh_night.specs.declared.cause.NightCause.{NightCause}
use Rattle.wh_night.specs.declared.left.Aftermath.{Aftermath}
use Rattle.wh_night.specs.declared.left.Aftermath.TheVariants.{Untouched, GivenUp, StillOpen}
use Rattle.wh_night.specs.declared.left.NightFault.{NightFault}
use Rattle.wh_core.specs.Laws.{IsSetup}
use Rattle.wh_core.specs.Nights.{GivenNight, Setup}
use Rattle.wh_headline.specs.OneLog.{IsReaderOf}
use Rattle.wh_headline.specs.RunningNights.{AreEndedNights, AreRunningNights, GoOn, all_ended, set_up_warehouse}
use Rattle.wh_headline.specs.WithReaders.{AreInOneRun, CameTo, HasMade, HaveBegun, HaveMade, IsInTurn, IsRunOfAll}
use Rattle.wh_headline.proofs.GoOn.{go_on}
use Rattle.wh_headline.proofs.OneRun.{one_run}
use Rattle.wh_headline.proofs.Rounds.{rounds}

-- ---- what the night leaves

module _ (s : Setup) (n keys : ℕ) (given : GivenNight) (before after : Writing) (turn : IsInTurn s n given before.ledger) (some : 1 ≤ keys) where
  abbrev night : Night
  night = tonight s.catalog given.list before.ledger given.changes keys

  -- running nights, as this tells
  record Since (Tells : ℕ → Bool → Type 0) : Type 0 where
    nights : ℕ
    active : Bool
    tells : Tells nights active
    running : AreRunningNights s nights active after.ledger.list
    of : after.ledger.of ≡ set_up_warehouse s

  untouched : after.ledger ≡ before.ledger → Since (HaveBegun n Untouched)
  untouched same = record {
    nights = n;
    active = false;
    tells = (refl, refl);
    running = all_ended n after.ledger.list (subst (λ (l : Ledger). AreEndedNights s n l.list) (sym same) turn.ended);
    of = ap (λ (l : Ledger). l.of) same ∙ turn.of;
  }

  goes : publish_refusal before.ledger Opens ≡ None → GoOn s n keys given before.ledger after.ledger
  goes free = go_on s n keys given before.ledger after.ledger (record { of = turn.of; ended = turn.ended; is = turn.is; free = free; some_keys = some })

  left : GoOn s n keys given before.ledger after.ledger → (cause : NightCause) (how : Aftermath) → Leaves night cause before.ledger how after.ledger → Since (HaveBegun n how)
  left goes cause Untouched same = untouched same
  left goes cause GivenUp is = record {
    nights = n + 1;
    active = false;
    tells = (refl, refl);
    running = all_ended (n + 1) after.ledger.list (goes.left cause GivenUp is);
    of = ap (λ (l : Ledger). l.of) is.now ∙ turn.of;
  }
  left goes cause StillOpen is =
      let of : after.ledger.of ≡ set_up_warehouse s = ap (λ (l : Ledger). l.of) is.now ∙ turn.of in
      ⊎_elim
      (λ none. record { nights = n; active = false; tells = inl (refl, refl); running = none; of = of })
      (λ one. record { nights = n + 1; active = true; tells = inr (refl, refl); running = one; of = of })
      (goes.left cause StillOpen is)

  abbrev Tells : Result Carried NightFault → ℕ → Bool → Type 0
  Tells answer nights active = MatchResult answer (λ _. (nights ≡ n + 1) × (active ≡ false)) (λ f. HaveBegun n f.left nights active)

  abbrev Has : Result Carried NightFault → Type 0
  Has answer = HasRun s.catalog given.list before given.changes keys answer after

  -- a night that can begin is done or refused, and one that cannot leaves all as it was
  since : (refusal : Option PublishFault) (answer : Result Carried NightFault) → publish_refusal before.ledger Opens ≡ refusal → Has answer
      → MatchOption refusal (IfErr answer (IsRefused night)) (λ fault. CannotBegin fault answer)
      → Since (Tells answer)
  since None (Ok c) free has why = record {
    nights = n + 1;
    active = false;
    tells = (refl, refl);
    running = all_ended (n + 1) after.ledger.list ((goes free).done has.published.done has.published.allowed has.published.passed);
    of = ap (λ (l : Ledger). l.of) has.published.done.now ∙ turn.of;
  }
  since None (Err f) free has why = left (goes free) f.cause f.left has.leaves
  since (Some fault) (Ok c) held has why = absurd why
  since (Some fault) (Err f) held has why =
      subst (λ how. Since (HaveBegun n how)) (sym why.1) (untouched (subst (λ how. Leaves night f.cause before.ledger how after.ledger) why.1 has.leaves))

-- ---- what the readers were answered

module _ (s : Setup) (earlier : ℕ → List Call) (readers : List Asker) (answers : List Answered) (told : Known) (after : Writing) (made : HaveMade s earlier readers)
    (are : AreAnswered told readers (map Some answers)) (had : AreHad after (map Some answers)) where
  -- what this desk's reader was answered, and that it is a reader of what is published
  record Round (d : ℕ) : Type 0 where
    calls : List Call
    here : Sitting
    end : Option Bookmark
    came : (asker : Asker) (a : Answered) → slice_get readers d ≡ Some asker → slice_get answers d ≡ Some a → CameTo asker a calls here end
    reads : d < s.desks → IsReaderOf after (earlier d ++ calls) here end

  same_length : length answers ≡ length readers
  same_length = sym (length-map answers Some) ∙ are.each

  past : {X : Type 0} (xs : List X) (d : ℕ) → slice_get xs d ≡ None → ¬ (d < length xs)
  past xs d none within = ⊎_elim (λ some. none_some some.0 (sym none ∙ some.2)) (λ over. let o = over.0 in omega (arith, within, o)) (slice_get_cases xs d).1
    where
      none_some : {X : Type 0} (x : X) → ¬ (◌≡◌ {A = Option X} None (Some x))
      none_some x e = cc

  no_reader : (d : ℕ) → ¬ (d < s.desks) → ((asker : Asker) (a : Answered) → slice_get readers d ≡ Some asker → slice_get answers d ≡ Some a → d < s.desks) → Round d
  no_reader d none within = record {
    calls = [];
    here = record { book = after.book; of = after.ledger.of; list = []; session = None };
    end = None;
    came = λ asker a i j. absurd (none (within asker a i j));
    reads = λ l. absurd (none l);
  }

  some_desk : (d : ℕ) (asker : Asker) (a : Answered) → slice_get readers d ≡ Some asker → slice_get answers d ≡ Some a → d < s.desks
  some_desk d asker a i j = subst (λ m. d < m) (sym made.desks) (slice_get_within readers d asker i)

  one : (d : ℕ) (asker : Asker) (a : Answered) → slice_get readers d ≡ Some asker → slice_get answers d ≡ Some a → Round d
  one d asker a i j =
      let there : slice_get (map Some answers) d ≡ Some (Some a) = slice_get-map Some answers d ∙ ap (option_map Some) j in
      let got : slice_index_or (map Some answers) d None ≡ Some a = get_or_from_slice_get (map Some answers) d (Some a) None there in
      let asks : slice_index_or readers d asker ≡ asker = get_or_from_slice_get readers d asker asker i in
      let is : IsAnswered told asker a =
      subst (λ x. IsAnswered told x a) asks (subst (λ o. IfSome o (IsAnswered told (slice_index_or readers d asker))) got (are.are d asker None (slice_get_within readers d asker i))) in
      let has : IsHad after a.reader.desk = subst (λ o. IfSome o (λ x. IsHad after x.reader.desk)) got (had d None (slice_get_within (map Some answers) d (Some a) there)) in
      let came : HasMade (earlier d) asker = made.each d asker i in
      let round = rounds came.first None (earlier d) told asker a came.answered is in
      let end : Option Bookmark = option_map stand_of a.reader.place in
      record {
        calls = round.0;
        here = a.reader.desk;
        end = end;
        came = λ other b k l.
            subst (λ x. CameTo x b round.0 a.reader.desk end) (same_Some asker other (sym i ∙ k))
            (subst (λ y. CameTo asker y round.0 a.reader.desk end) (same_Some a b (sym j ∙ l)) (record { come = round.1; sits = refl; stands = refl }));
        reads = λ l. record {
          first = came.first;
          comes = came.comes;
          answered = round.2;
          had = has;
        };
      }

  at : (d : ℕ) (asker : Option Asker) (a : Option Answered) → slice_get readers d ≡ asker → slice_get answers d ≡ a → Round d
  at d None a i j = no_reader d (λ l. past readers d i (subst (λ m. d < m) made.desks l)) (some_desk d)
  at d (Some asker) None i j = no_reader d (λ l. past answers d j (subst (λ m. d < m) (made.desks ∙ sym same_length) l)) (some_desk d)
  at d (Some asker) (Some a) i j = one d asker a i j

  round_of : (d : ℕ) → Round d
  round_of d = at d (slice_get readers d) (slice_get answers d) refl refl

-- ---- all of it

run_of_all : (s : Setup) (n keys : ℕ) (given : GivenNight) (earlier : ℕ → List Call) (readers : List Asker) (answers : List Answered) (night : Result Carried NightFault) (before after : Writing)
    → IsSetup s → IsInTurn s n given before.ledger → 1 ≤ keys → HaveMade s earlier readers → HasRun s.catalog given.list before given.changes keys night after
    → AreAnswered (published before) readers (map Some answers) → AreHad after (map Some answers) → IsRunOfAll s n night earlier readers answers after
run_of_all s n keys given earlier readers answers night before after setup turn some made has are had =
    let now = since s n keys given before after turn some (publish_refusal before.ledger Opens) night refl has has.refused in
    let round = round_of s earlier readers answers (published before) after made are had in
    record {
      nights = now.nights;
      active = now.active;
      calls = λ d. (round d).calls;
      here = λ d. (round d).here;
      ends = λ d. (round d).end;
      begun = now.tells;
      running = now.running;
      came = λ d. (round d).came;
      run = one_run s now.nights now.active after (λ d. earlier d ++ (round d).calls) (λ d. (round d).here) (λ d. (round d).end) setup now.of now.running (λ d. (round d).reads);
    }

pub in_one_run : (catalog : CatalogOf) (given : GivenNight) (keys : ℕ) (before after : Writing) (readers : List Asker) (told : Beside) → 1 ≤ keys
    → HasRun catalog given.list before given.changes keys told.night after → IfSome told.answered (λ all. AreAnswered (published before) readers all.items)
    → IfSome told.answered (λ all. AreHad after all.items) → AreInOneRun catalog given before readers told after
in_one_run catalog given keys before after readers told some has are had s n earlier answers setup same turn made =
    each told.answered are had
  where
    ran : HasRun s.catalog given.list before given.changes keys told.night after
    ran = subst (λ c. HasRun c given.list before given.changes keys told.night after) (sym same) has

    each : (answered : Option (Vec (Option Answered))) → IfSome answered (λ all. AreAnswered (published before) readers all.items) → IfSome answered (λ all. AreHad after all.items)
        → IfSome answered (λ all. all.items ≡ map Some answers → IsRunOfAll s n told.night earlier readers answers after)
    each None are had = tt
    each (Some all) are had = λ e.
        run_of_all s n keys given earlier readers answers told.night before after setup turn some made ran
        (subst (λ xs. AreAnswered (published before) readers xs) e are) (subst (λ xs. AreHad after xs) e had)
