-- That the log of nights that ended goes on to one in which the next is open, and the log of an open night to one in which it has ended.
use Rattle.std.proofs.Common.{None, ◌≡◌, ◌≢◌, refl, sym, ap, ◌∙◌, subst, ℕ, ◌+◌, ◌<◌, ◌^◌, List, [], ◌∷◌, ◌++◌, length, Bool, true, false, not, arith, Some, ⊎_elim, inl}
use Rattle.std.specs.Prelude.{nat_le, ◌==◌}
use Rattle.std.proofs.lemmas.List.{append_assoc}
use Rattle.wh_maint.specs.Definition.{graph_of}
use Rattle.wh_carry.specs.Carry.{at_first}
use Rattle.wh_carry.specs.NightList.{IsCutNight, puts_of}
use Rattle.wh_carry.specs.Refused.{ArePassedBelow}
use Rattle.wh_carry.proofs.NewValues.{passed_have_values}
use Rattle.wh_carry.proofs.Prefixes.{place_within}
use Rattle.wh_carry.specs.Night.{AreAllowed, HasEnded, IsPassedAt, IsWhole, Night}
use Rattle.wh_carry.specs.Legs.{Over, Remaining, turn_of}
use Rattle.wh_store.specs.Operations.{Operation, Opens, Commits, Gives_up}
use Rattle.wh_store.specs.Versions.{Versions, after, number, opened, versions_from, versions_of}
use Rattle.wh_night.specs.Tonight.{Begin_it}
use Rattle.wh_core.specs.declared.event.Event.TheVariants as event
use Rattle.wh_core.specs.declared.reply.Cause.TheVariants as cause
use Rattle.wh_core.specs.declared.reply.Reply.TheVariants as reply
use Rattle.wh_core.specs.Laws.{IsSetup}
use Rattle.wh_core.specs.Log.{Log, Began, Committed, Gave_up, holding, is_open, last_begun, nights_begun, pages}
use Rattle.wh_core.specs.Nights.{GivenNight, Setup, next_night, night, night_from, published, remaining, remaining_in, turn, versions}
use Rattle.wh_core.specs.Replies.{IsReply, IsRuled, commit_ruling, more}
use Rattle.wh_core.proofs.Deeds.{AreDeeds, deeds_of}
use Rattle.wh_core.proofs.FirstTurn.{first_passed}
use Rattle.wh_core.proofs.Moves.{not_equal}
use Rattle.wh_core.proofs.NightLogs.{night_ops}
use Rattle.wh_core.proofs.Nights.{last_is, whole_puts}
use Rattle.wh_core.proofs.Sound.{given_at}
use Rattle.wh_core.proofs.Steps.{le_false, onward}
use Rattle.wh_core.proofs.Underway.{Underway, of_legs, ops_of, start_of, underway, versions_from-append}
use Rattle.wh_headline.specs.Alike.{AreSeenAlike}
use Rattle.wh_headline.specs.Growing.{NightsGoOnAlone}
use Rattle.wh_headline.specs.RunningNights.{CanBegin, IsLogOf, night_after}
use Rattle.wh_core.specs.Standing.{IsWithin}
use Rattle.wh_headline.proofs.Going.{alone_nowhere, alone_then, goes_by_one}
use Rattle.wh_headline.proofs.PageSizes.{any_pages}
use Rattle.wh_headline.proofs.SeenAlike.{alike_back, alike_then, beginning_alike, cut_alike, given_up_alike, legs_alike, number_alike, same_alike, whole_ops}
use Rattle.wh_headline.proofs.ToTheEnd.{IsUpTo, carried_on}
use Rattle.wh_headline.proofs.Working.{FreeBelow, IsHere, free_below, rests_now}

-- a log of these operations that goes on from this one by events of the night alone
abbrev pub HasGrown : Setup → ℕ → Bool → List Operation → Log → Type 0
HasGrown s nights active ops log = (later : Log) × IsLogOf s nights active ops later × NightsGoOnAlone s log later

-- ---- a night begins

module _ (s : Setup) (setup : IsSetup s) (n keys : ℕ) (ops : List Operation) (can : CanBegin s ops n keys) where
  abbrev given_night : Night
  given_night = night_after s ops n keys

  abbrev old : Versions
  old = versions_of s.opening ops

  -- a beginning of the night leaves for readers what its Begin does
  pub begun_alike : (puts : List Operation) → Begin_it given_night (Opens ∷ puts) → AreSeenAlike (versions_of s.opening (ops ++ Opens ∷ puts)) (after old Opens)
  begun_alike puts begins =
      alike_then (versions_of s.opening (ops ++ Opens ∷ puts)) (versions_from old (Opens ∷ puts)) (after old Opens)
      (same_alike (versions_of s.opening (ops ++ Opens ∷ puts)) (versions_from old (Opens ∷ puts)) (versions_from-append (opened s.opening) ops (Opens ∷ puts)))
      (beginning_alike given_night old old puts (same_alike old old refl) begins)

  module _ (log : Log) (is : IsLogOf s n false ops log) where
    same_night : next_night s log ≡ record given_night { keys = s.keys }
    same_night = λ i. night_from s (sym is.versions.newest i) (is.begun i)

    given : nights_begun log < length s.nights
    given = subst (λ k. k < length s.nights) (sym is.begun) can.given

    numbered : number (versions s log) + 1 ≢ 2 ^ 64
    numbered = subst (λ k. k + 1 ≢ 2 ^ 64) (number_alike old (versions s log) is.versions) can.numbered

    allowed : AreAllowed (next_night s log)
    allowed = subst AreAllowed (sym same_night) can.allowed

    begins_now : IsReply s log event.Begin reply.Begun
    begins_now =
        let none : GivenNight = record { changes = []; list = [] } in
        let fits = setup.nights (nights_begun log) _ (given_at s.nights (nights_begun log) none given) in
        onward (is_open log) cause.NightOpen _ reply.Begun is.active
        (onward (nat_le (length s.nights) (nights_begun log)) cause.NoNight _ reply.Begun (le_false (length s.nights) (nights_begun log) given)
        (onward (number (versions s log) + 1 == 2 ^ 64) cause.LastVersion _ reply.Begun (not_equal (number (versions s log) + 1) (2 ^ 64) numbered)
        (inl (allowed, inl (inl (first_passed (next_night s log) fits.list allowed, refl))))))

    pub opens_more : (puts : List Operation) → Begin_it given_night (Opens ∷ puts) → HasGrown s (n + 1) true (ops ++ Opens ∷ puts) log
    unfolding Rattle.wh_core.specs.Nights.published
    opens_more puts begins =
        let now : versions s (Began ∷ log) ≡ after (versions s log) Opens = versions_from-append (opened s.opening) (published s log) (Opens ∷ []) in
        let here : AreSeenAlike (after old Opens) (after (versions s log) Opens) = record { newest = is.versions.newest; older = is.versions.older; active = refl } in (
          Began ∷ log,
          record {
            legal = more log event.Begin reply.Begun is.legal begins_now;
            versions = alike_then (versions_of s.opening (ops ++ Opens ∷ puts)) (after old Opens) (versions s (Began ∷ log)) (begun_alike puts begins)
                (alike_then (after old Opens) (after (versions s log) Opens) (versions s (Began ∷ log)) here (same_alike (after (versions s log) Opens) (versions s (Began ∷ log)) (sym now)));
            active = refl;
            begun = ap (λ k. k + 1) is.begun;
          },
          record {
            events = event.Begin ∷ [];
            replies = reply.Begun ∷ [];
            on = goes_by_one s log event.Begin reply.Begun begins_now;
            no_desk = λ d. refl;
            sessions = λ d. refl;
          },
        )

  -- ---- a night ends

  module _ (puts last : List Operation) (begins : Begin_it given_night (Opens ∷ puts)) (log : Log) (is : IsLogOf s (n + 1) true (ops ++ Opens ∷ puts) log) where
    abbrev here : Versions
    here = versions s log

    seen : AreSeenAlike here (after old Opens)
    seen = alike_then here (versions_of s.opening (ops ++ Opens ∷ puts)) (after old Opens) (alike_back (versions_of s.opening (ops ++ Opens ∷ puts)) here is.versions) (begun_alike puts begins)

    deeds : AreDeeds s log
    deeds = deeds_of s log is.legal

    same_number : last_begun log ≡ n
    same_number = let a : last_begun log + 1 ≡ nights_begun log = last_is s log deeds is.active in let b : nights_begun log ≡ n + 1 = is.begun in omega (arith, a, b)

    night_is : night s log ≡ record given_night { keys = s.keys }
    night_is = λ i. night_from s (seen.newest i) (same_number i)

    gives_up : IsReply s log event.GiveUp (reply.Version (number here + 1))
    gives_up = onward (not (is_open log)) cause.NoNight _ (reply.Version (number here + 1)) (ap not is.active) refl

    cut_short : IsCutNight given_night.catalog given_night.list given_night.tables given_night.changes given_night.keys last → HasGrown s (n + 1) false (ops ++ last) log
    unfolding Rattle.wh_core.specs.Nights.published
    cut_short cut =
        let all : Versions = versions_of s.opening (ops ++ last) in
        let short : Versions = after (after old Opens) Gives_up in
        let made : Versions = versions s (Gave_up ∷ log) in
        let now : made ≡ after here Gives_up = versions_from-append (opened s.opening) (published s log) (Gives_up ∷ []) in (
          Gave_up ∷ log,
          record {
            legal = more log event.GiveUp (reply.Version (number here + 1)) is.legal gives_up;
            versions = alike_then all (versions_from old last) made (same_alike all (versions_from old last) (versions_from-append (opened s.opening) ops last))
                (alike_then (versions_from old last) short made (cut_alike given_night old old last (same_alike old old refl) cut)
                (alike_then short (after here Gives_up) made (given_up_alike (after old Opens) here (alike_back here (after old Opens) seen)) (same_alike (after here Gives_up) made (sym now))));
            active = refl;
            begun = is.begun;
          },
          record {
            events = event.GiveUp ∷ [];
            replies = reply.Version (number here + 1) ∷ [];
            on = goes_by_one s log event.GiveUp (reply.Version (number here + 1)) gives_up;
            no_desk = λ d. refl;
            sessions = λ d. refl;
          },
        )

    -- what stood before the night is seen as what the list had before it
    under : Underway s log
    under = underway s log deeds is.active

    reopened : after (versions_of s.opening (start_of s log)) Opens ≡ after old Opens
    reopened =
        let start : Versions = versions_of s.opening (start_of s log) in
        let whole : here ≡ versions_from (after start Opens) (ops_of under.over) = ap (versions_of s.opening) under.whole ∙ versions_from-append (opened s.opening) (start_of s log) (Opens ∷ ops_of under.over) in
        let alike : AreSeenAlike (after start Opens) (after old Opens) =
        alike_then (after start Opens) (versions_from (after start Opens) (ops_of under.over)) (after old Opens)
        (alike_back (versions_from (after start Opens) (ops_of under.over)) (after start Opens) (legs_alike (after start Opens) under.over))
        (subst (λ v. AreSeenAlike v (after old Opens)) whole seen) in
        λ i. record { newest = alike.newest i; older = alike.older i; draft = Some (alike.newest i) }

    module _ (passed : ArePassedBelow given_night.catalog given_night.list given_night.tables given_night.changes (length given_night.list)) where
      each_passed : (p : ℕ) → IsPassedAt (night s log) p
      each_passed =
          let each : (p : ℕ) → IsPassedAt (record given_night { keys = s.keys }) p = λ p e at. passed p e (place_within given_night.list p e at) at in
          λ p. subst (λ m. IsPassedAt m p) (sym night_is) (each p)

      -- first each worker that has a job is done with it
      rested : FreeBelow s (night s log) each_passed log s.workers
      rested = free_below s (night s log) each_passed log s.workers log (record { legal = is.legal; opened = is.active; is = refl; start = refl; begun = refl; alone = alone_nowhere s log })

      -- then one of them does what is left
      done_with : (later : Log) → IsHere s (night s log) log later → ((w : ℕ) → w < s.workers → holding later w ≡ None) → (last : Log) × IsUpTo s (night s log) log [] 0 last
      done_with later u free =
          let v = underway s later (deeds_of s later u.legal) u.opened in
          let rests : v.drawn ≡ v.ended = ap (λ (r : Remaining). r.drawn) (sym v.is) ∙ rests_now s later u.legal u.opened free ∙ ap (λ (r : Remaining). r.done) v.is in
          let up : IsUpTo s (night s log) log v.rest v.ended later = record {
            legal = u.legal;
            opened = u.opened;
            is = u.is;
            left = sym (λ i. remaining_in (u.is i) later) ∙ v.is ∙ (λ i. of_legs (rests i) v.ended v.rest);
            free = (let some = setup.some_workers in free 0 (omega (arith, some)));
            start = u.start;
            begun = u.begun;
            alone = u.alone;
          } in
          carried_on s setup.some_workers (night s log) each_passed log v.rest v.ended v.some (subst (λ k. IsWithin v.rest k v.ended) rests v.within) later up

      last_up : (later : Log) × IsUpTo s (night s log) log [] 0 later
      last_up = done_with rested.0 rested.1 rested.2

      module _ (later : Log) (u : IsUpTo s (night s log) log [] 0 later) (whole : IsWhole given_night last) where
        over : turn s later ≡ Over
        over = (λ i. turn_of (remaining_in (u.is i) later)) ∙ ap turn_of u.left

        commits : IsReply s later event.Commit (reply.Version (number (versions s later) + 1))
        commits =
            let next : ℕ = number (versions s later) + 1 in
            onward (not (is_open later)) cause.NoNight _ (reply.Version next) (ap not u.opened)
            (subst (λ t. IsRuled (commit_ruling next t) (reply.Version next)) (sym over) refl)

        all_put : published s later ++ Commits ∷ [] ≡ start_of s log ++ night_ops (night s log)
        all_put =
            let a = underway s later (deeds_of s later u.legal) u.opened in
            let puts = (whole_puts passed_have_values (night s later) (start_of s later) (published s later) (remaining s later) (pages later) (holding later) _ _ a over).1 in
            let own : List Operation = Opens ∷ ops_of a.over ++ Commits ∷ [] in
            let these : night_ops (night s later) ≡ own = ap (λ ops. Opens ∷ ops ++ Commits ∷ []) puts in
            ap (λ ops. ops ++ Commits ∷ []) (a.whole ∙ ap (λ start. start ++ Opens ∷ ops_of a.over) u.start)
            ∙ append_assoc (start_of s log) (Opens ∷ ops_of a.over) (Commits ∷ [])
            ∙ ap (λ ops. start_of s log ++ ops) (sym these ∙ ap night_ops u.is)

        -- it makes the versions of the list
        same_made : versions_of s.opening (published s later ++ Commits ∷ []) ≡ versions_of s.opening (ops ++ last)
        same_made =
            let other : Night = record given_night { keys = s.keys } in
            let tail : Night → List Operation = λ m. puts_of (graph_of m.catalog) m.changes m.keys m.list (at_first m.tables) ++ Commits ∷ [] in
            ap (versions_of s.opening) all_put
            ∙ versions_from-append (opened s.opening) (start_of s log) (night_ops (night s log))
            ∙ (λ i. versions_from (reopened i) (tail (night_is i)))
            ∙ sym (any_pages given_night s.keys old can.some_keys setup.some_keys)
            ∙ ap (versions_from old) (sym (whole_ops given_night last passed whole.night_list))
            ∙ sym (versions_from-append (opened s.opening) ops last)

        committed : HasGrown s (n + 1) false (ops ++ last) log
        unfolding Rattle.wh_core.specs.Nights.published
        committed = (
          Committed ∷ later,
          record {
            legal = more later event.Commit (reply.Version (number (versions s later) + 1)) u.legal commits;
            versions = same_alike (versions_of s.opening (ops ++ last)) (versions s (Committed ∷ later)) (sym same_made);
            active = refl;
            begun = u.begun ∙ is.begun;
          },
          alone_then s log later (Committed ∷ later) u.alone (record {
            events = event.Commit ∷ [];
            replies = reply.Version (number (versions s later) + 1) ∷ [];
            on = goes_by_one s later event.Commit (reply.Version (number (versions s later) + 1)) commits;
            no_desk = λ d. refl;
            sessions = λ d. refl;
          }),
        )

    pub ends : HasEnded given_night last → HasGrown s (n + 1) false (ops ++ last) log
    ends ended = ⊎_elim (λ whole. let up = last_up whole.0 in committed whole.0 up.0 up.1 whole.1) (λ cut. cut_short cut) ended
