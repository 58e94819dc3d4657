-- That logs of running nights go on with what more is published.
use Rattle.std.proofs.Common.{◌≡◌, refl, sym, ap, ◌∙◌, subst, ℕ, ◌+◌, List, [], ◌∷◌, ◌++◌, Bool, true, false, arith, ⊎_elim}
use Rattle.std.proofs.lemmas.List.{append-nil}
use mathlib.Core.List.{IsPrefix}
use Rattle.wh_carry.specs.Night.{HasEnded, Night}
use Rattle.wh_carry.specs.NightList.{puts_of}
use Rattle.wh_store.specs.Operations.{Operation, Opens, Gives_up}
use Rattle.wh_store.specs.Versions.{Versions, after, is_active, number, opened, versions_from, versions_of}
use Rattle.wh_night.specs.Tonight.{Begin_it}
use Rattle.wh_core.specs.Laws.{IsSetup}
use Rattle.wh_core.specs.Log.{Log, nights_begun, nights_ended}
use Rattle.wh_core.specs.Nights.{Setup, versions}
use Rattle.wh_core.specs.Replies.{nothing}
use Rattle.wh_core.proofs.Deeds.{deeds_of}
use Rattle.wh_core.proofs.Headline.{ended_is}
use Rattle.wh_core.proofs.Moves.{active-open}
use Rattle.wh_core.proofs.NightLogs.{night_ops}
use Rattle.wh_core.proofs.Nights.{in_order}
use Rattle.wh_core.proofs.Underway.{versions_from-append}
use Rattle.wh_headline.specs.Growing.{LogsGrow}
use Rattle.wh_headline.specs.RunningNights.{AreEndedNights, AreRunningNights, CanBegin, IsLogOf, all_ended, night_after, none as no_nights, one_more as one_night_more, one_open}
use Rattle.wh_headline.proofs.Beginnings.{empty, headed, of_ended, shorter, splits}
use Rattle.wh_headline.proofs.Ending.{HasGrown, begun_alike, ends, opens_more}
use Rattle.wh_headline.proofs.Going.{alone_nowhere, alone_then}
use Rattle.wh_headline.proofs.SeenAlike.{alike_back, alike_then, cut_alike, cut_number, number_alike, same_alike, whole_ends, whole_number, whole_ops}

-- how many nights have begun in what these operations make, and whether one is open
record AreCounted (v : Versions) (nights : ℕ) (active : Bool) : Type 0 where
  same : is_active v ≡ active
  when_closed : active ≡ false → number v ≡ nights
  when_open : active ≡ true → number v + 1 ≡ nights

begins_empty : (n : Night) → Begin_it n (Opens ∷ [])
unfolding Rattle.wh_carry.specs.NightList.puts_of
begins_empty n = record { place = 0; within = omega arith; values = λ p e below at. absurd (omega (arith, below)); rest = []; begins = refl }

false_true : false ≡ true → ⊥
false_true e = cc

module _ (s : Setup) where
  -- one night more that ended
  ended_number : (n : Night) (v : Versions) (last : List Operation) → HasEnded n last → (number (versions_from v last) ≡ number v + 1) × (is_active (versions_from v last) ≡ false)
  ended_number n v last ended =
      ⊎_elim
      (λ whole.
      let same : versions_from v last ≡ versions_from v (night_ops n) = ap (versions_from v) (whole_ops n last whole.0 whole.1.night_list) in
      (ap number same ∙ whole_number n v, ap is_active same ∙ whole_ends n v))
      (λ cut.
      let short : Versions = versions_from v (Opens ∷ Gives_up ∷ []) in
      let alike = cut_alike n v v last (same_alike v v refl) cut in
      (number_alike (versions_from v last) short alike ∙ cut_number v, alike.active))
      ended

  ended_count : (n : ℕ) (ops : List Operation) → AreEndedNights s n ops → (number (versions_of s.opening ops) ≡ n) × (is_active (versions_of s.opening ops) ≡ false)
  ended_count _ _ no_nights = (refl, refl)
  ended_count _ _ (one_night_more n keys ops last before can ended) =
      let v : Versions = versions_of s.opening ops in
      let same : versions_of s.opening (ops ++ last) ≡ versions_from v last = versions_from-append (opened s.opening) ops last in
      let one = ended_number (night_after s ops n keys) v last ended in
      (ap number same ∙ one.0 ∙ ap (λ k. k + 1) (ended_count n ops before).0, ap is_active same ∙ one.1)

  -- what a log says of its list
  counts : (n : ℕ) (active : Bool) (ops : List Operation) (log : Log) → IsLogOf s n active ops log → AreCounted (versions_of s.opening ops) n active
  counts n active ops log is =
      let v : Versions = versions_of s.opening ops in
      let order = in_order s log (deeds_of s log is.legal) in
      let number_is : number v ≡ nights_ended log = number_alike v (versions s log) is.versions ∙ sym (ended_is s log) in
      let all : nights_begun log ≡ n = is.begun in
      record {
        same = is.versions.active ∙ active-open s log ∙ is.active;
        when_closed = λ e. (let c : nights_begun log ≡ nights_ended log = order.outside (is.active ∙ e) in omega (arith, number_is, all, c));
        when_open = λ e. (let c : nights_begun log ≡ nights_ended log + 1 = order.within (is.active ∙ e) in omega (arith, number_is, all, c));
      }

  as_ended : (n k : ℕ) (active : Bool) (ops : List Operation) (log : Log) → AreEndedNights s k ops → IsLogOf s n active ops log → IsLogOf s k false ops log
  as_ended n k active ops log ended is =
      let c = counts n active ops log is in
      let e = ended_count k ops ended in
      let closed : active ≡ false = sym c.same ∙ e.1 in
      let same : n ≡ k = sym (c.when_closed closed) ∙ e.0 in
      subst (λ m. IsLogOf s m false ops log) same (subst (λ b. IsLogOf s n b ops log) closed is)

  module _ (setup : IsSetup s) (k keys : ℕ) (ops : List Operation) (before : AreEndedNights s k ops) (can : CanBegin s ops k keys) where
    abbrev given : Night
    given = night_after s ops k keys

    as_open : (n : ℕ) (active : Bool) (puts : List Operation) (log : Log) → Begin_it given (Opens ∷ puts) → IsLogOf s n active (ops ++ Opens ∷ puts) log → IsLogOf s (k + 1) true (ops ++ Opens ∷ puts) log
    as_open n active puts log begins is =
        let c = counts n active (ops ++ Opens ∷ puts) log is in
        let v : Versions = versions_of s.opening ops in
        let alike = begun_alike s setup k keys ops can puts begins in
        let there : active ≡ true = sym c.same ∙ alike.active in
        let number_is : number (versions_of s.opening (ops ++ Opens ∷ puts)) ≡ number v = number_alike (versions_of s.opening (ops ++ Opens ∷ puts)) (after v Opens) alike in
        let same : n ≡ k + 1 = sym (c.when_open there) ∙ ap (λ m. m + 1) (number_is ∙ (ended_count k ops before).0) in
        subst (λ m. IsLogOf s m true (ops ++ Opens ∷ puts) log) same (subst (λ b. IsLogOf s n b (ops ++ Opens ∷ puts) log) there is)

    -- one night more
    night_more : (last : List Operation) → HasEnded given last → (log : Log) → IsLogOf s k false ops log → HasGrown s (k + 1) false (ops ++ last) log
    night_more last ended log is =
        let o = opens_more s setup k keys ops can log is [] (begins_empty given) in
        let r = ends s setup k keys ops can [] last (begins_empty given) o.0 o.1 ended in
        (r.0, r.1, alone_then s log o.0 r.0 o.2 r.2)

    -- from within the night, it ends
    from_amid : (seen last : List Operation) (n : ℕ) (active : Bool) (log : Log) → HasEnded given last → Begin_it given seen → IsLogOf s n active (ops ++ seen) log → HasGrown s (k + 1) false (ops ++ last) log
    from_amid [] last n active log ended begins is =
        night_more last ended log (as_ended n k active ops log before (subst (λ o. IsLogOf s n active o log) (append-nil ops) is))
    from_amid (op ∷ puts) last n active log ended begins is =
        let head : op ≡ Opens = headed given op puts begins in
        let these : Begin_it given (Opens ∷ puts) = subst (λ o. Begin_it given (o ∷ puts)) head begins in
        ends s setup k keys ops can puts last these log (as_open n active puts log these (subst (λ o. IsLogOf s n active (ops ++ o ∷ puts) log) head is)) ended

    from_last : (seen last : List Operation) (n : ℕ) (active : Bool) (log : Log) → HasEnded given last → IsPrefix seen last → IsLogOf s n active (ops ++ seen) log → HasGrown s (k + 1) false (ops ++ last) log
    from_last seen last n active log ended p is =
        ⊎_elim
        (λ begins. from_amid seen last n active log ended begins is)
        (λ e. (log, as_ended n (k + 1) active (ops ++ last) log (one_night_more k keys ops last before can ended) (subst (λ o. IsLogOf s n active (ops ++ o) log) e is), alone_nowhere s log))
        (of_ended given seen last ended p)

    -- it opens, or more of its pages are put, which no reader sees
    from_open : (seen puts : List Operation) (n : ℕ) (active : Bool) (log : Log) → Begin_it given (Opens ∷ puts) → Begin_it given seen → IsLogOf s n active (ops ++ seen) log → HasGrown s (k + 1) true (ops ++ Opens ∷ puts) log
    from_open [] puts n active log begins seen_begins is =
        opens_more s setup k keys ops can log (as_ended n k active ops log before (subst (λ o. IsLogOf s n active o log) (append-nil ops) is)) puts begins
    from_open (op ∷ some) puts n active log begins seen_begins is =
        let head : op ≡ Opens = headed given op some seen_begins in
        let these : Begin_it given (Opens ∷ some) = subst (λ o. Begin_it given (o ∷ some)) head seen_begins in
        let now = as_open n active some log these (subst (λ o. IsLogOf s n active (ops ++ o ∷ some) log) head is) in
        let v : Versions = versions_of s.opening (ops ++ Opens ∷ some) in
        let w : Versions = versions_of s.opening (ops ++ Opens ∷ puts) in
        let middle : Versions = after (versions_of s.opening ops) Opens in (
          log,
          record {
            legal = now.legal;
            versions = alike_then w middle (versions s log) (begun_alike s setup k keys ops can puts begins)
                (alike_then middle v (versions s log) (alike_back v middle (begun_alike s setup k keys ops can some these)) now.versions);
            active = now.active;
            begun = now.begun;
          },
          alone_nowhere s log,
        )

  module _ (setup : IsSetup s) where
    grow_ended : (k : ℕ) (ops : List Operation) → AreEndedNights s k ops → (n : ℕ) (active : Bool) (seen : List Operation) (log : Log) → IsPrefix seen ops → IsLogOf s n active seen log → HasGrown s k false ops log
    grow_ended _ _ no_nights n active seen log p is =
        (log, as_ended n 0 active [] log no_nights (subst (λ o. IsLogOf s n active o log) (empty seen p.0 p.1) is), alone_nowhere s log)
    grow_ended _ _ (one_night_more k keys ops last before can ended) n active seen log p is =
        ⊎_elim
        (λ q.
        let r = grow_ended k ops before n active seen log q is in
        let one = night_more setup k keys ops before can last ended r.0 r.1 in
        (one.0, one.1, alone_then s log r.0 one.0 r.2 one.2))
        (λ q. from_last setup k keys ops before can q.0 last n active log ended q.2 (subst (λ o. IsLogOf s n active o log) q.1 is))
        (splits seen p.0 ops last p.1)

    grow_running : (nights : ℕ) (b : Bool) (ops : List Operation) → AreRunningNights s nights b ops → (n : ℕ) (active : Bool) (seen : List Operation) (log : Log) → IsPrefix seen ops → IsLogOf s n active seen log → HasGrown s nights b ops log
    grow_running _ _ _ (all_ended k ops ended) n active seen log p is = grow_ended k ops ended n active seen log p is
    grow_running _ _ _ (one_open k keys ops puts before can begins) n active seen log p is =
        ⊎_elim
        (λ q.
        let r = grow_ended k ops before n active seen log q is in
        let one = opens_more s setup k keys ops can r.0 r.1 puts begins in
        (one.0, one.1, alone_then s log r.0 one.0 r.2 one.2))
        (λ q.
        from_open setup k keys ops before can q.0 puts n active log begins (shorter (night_after s ops k keys) q.0 (Opens ∷ puts) q.2 begins) (subst (λ o. IsLogOf s n active o log) q.1 is))
        (splits seen p.0 ops (Opens ∷ puts) p.1)

pub logs_grow : LogsGrow
logs_grow s n nights seen_open active seen ops log setup are p is = grow_running s setup nights active ops are n seen_open seen log p is

-- the log in which nothing is done is one of no nights
pub nothing_done : (s : Setup) → IsLogOf s 0 false [] []
unfolding Rattle.wh_core.specs.Nights.published
nothing_done s = record { legal = nothing; versions = same_alike (opened s.opening) (opened s.opening) refl; active = refl; begun = refl }
