-- Legal logs with one night more: begun, whole or cut.
use Rattle.std.proofs.Common.{◌≡◌, ◌≢◌, refl, sym, ap, ◌∙◌, subst, ℕ, ◌+◌, ◌<◌, ◌≤◌, ◌^◌, List, [], ◌∷◌, ◌++◌, length, Bool, true, false, not, arith, inl}
use Rattle.std.specs.Prelude.{nat_le, ◌==◌}
use Rattle.std.proofs.lemmas.List.{append_assoc}
use Rattle.wh_maint.specs.Definition.{graph_of}
use Rattle.wh_carry.specs.Carry.{at_first}
use Rattle.wh_carry.specs.NightList.{puts_of}
use Rattle.wh_carry.specs.Refused.{ArePassedBelow}
use Rattle.wh_carry.proofs.NewValues.{passed_have_values}
use Rattle.wh_carry.proofs.Prefixes.{place_within}
use Rattle.wh_store.specs.Operations.{Operation, Opens, Commits, Gives_up}
use Rattle.wh_store.specs.Versions.{number, opened as opened_by, versions_from, versions_of}
use Rattle.wh_carry.specs.Night.{Night, IsPassedAt, AreAllowed}
use Rattle.wh_carry.specs.Legs.{Over, legs_of, turn_of}
use Rattle.wh_core.specs.declared.event.Event.TheVariants as event
use Rattle.wh_core.specs.declared.reply.Cause.TheVariants as cause
use Rattle.wh_core.specs.declared.reply.Reply.TheVariants as reply
use Rattle.wh_core.specs.Laws.{IsSetup}
use Rattle.wh_core.specs.Log.{Log, Began, Committed, Gave_up, holding, is_open, nights_begun, pages, session}
use Rattle.wh_core.specs.Nights.{GivenNight, Setup, next_night, night, published, remaining, remaining_in, turn, versions}
use Rattle.wh_core.specs.Replies.{IsLegalLog, IsReply, IsRuled, commit_ruling, more}
use Rattle.wh_core.proofs.Deeds.{deeds_of}
use Rattle.wh_core.proofs.FirstTurn.{first_passed}
use Rattle.wh_core.proofs.Legs.{have_jobs}
use Rattle.wh_core.proofs.Moves.{not_equal}
use Rattle.wh_core.proofs.Nights.{whole_puts}
use Rattle.wh_core.proofs.OneWorker.{IsUpTo, carried_out}
use Rattle.wh_core.proofs.Sound.{given_at}
use Rattle.wh_core.proofs.Steps.{le_false, onward}
use Rattle.wh_core.proofs.Underway.{night-began, ops_of, start_of, underway, versions_from-append}

-- a legal log with one night more, which publishes these operations and is open or not; the desks' sessions stay
pub record IsOneMore (s : Setup) (log : Log) (ops : List Operation) (night_open : Bool) (later : Log) : Type 0 where
  pub legal : IsLegalLog s later
  pub active : is_open later ≡ night_open
  pub begun : nights_begun later ≡ nights_begun log + 1
  pub versions : versions s later ≡ versions_from (versions s log) ops
  pub sessions : (d : ℕ) → session later d ≡ session log d

-- what a night publishes that comes to its end
abbrev pub night_ops : Night → List Operation
night_ops n = Opens ∷ puts_of (graph_of n.catalog) n.changes n.keys n.list (at_first n.tables) ++ Commits ∷ []

module _ (s : Setup) (setup : IsSetup s) (log : Log) (legal : IsLegalLog s log) (closed : is_open log ≡ false) (given : nights_begun log < length s.nights) (numbered : number (versions s log) + 1 ≢ 2 ^ 64)
    (allowed : AreAllowed (next_night s log)) where
  began : IsLegalLog s (Began ∷ log)
  began =
      let none : GivenNight = record { changes = []; list = [] } in
      let fits = setup.nights (nights_begun log) _ (given_at s.nights (nights_begun log) none given) in
      let said : IsReply s log event.Begin reply.Begun =
      onward (is_open log) cause.NightOpen _ reply.Begun closed
      (onward (nat_le (length s.nights) (nights_begun log)) cause.NoNight _ reply.Begun (le_false (length s.nights) (nights_begun log) given)
      (onward (number (versions s log) + 1 == 2 ^ 64) cause.LastVersion _ reply.Begun (not_equal (number (versions s log) + 1) (2 ^ 64) numbered)
      (inl (allowed, inl (inl (first_passed (next_night s log) fits.list allowed, refl)))))) in
      more log event.Begin reply.Begun legal said

  pub open_night : IsOneMore s log (Opens ∷ []) true (Began ∷ log)
  unfolding Rattle.wh_core.specs.Nights.published
  open_night = record {
    legal = began;
    active = refl;
    begun = refl;
    versions = versions_from-append (opened_by s.opening) (published s log) (Opens ∷ []);
    sessions = λ d. refl;
  }

  pub cut_night : IsOneMore s log (Opens ∷ Gives_up ∷ []) false (Gave_up ∷ Began ∷ log)
  unfolding Rattle.wh_core.specs.Nights.published
  cut_night = record {
    legal = more (Began ∷ log) event.GiveUp (reply.Version (number (versions s (Began ∷ log)) + 1)) began refl;
    active = refl;
    begun = refl;
    versions =
        ap (versions_of s.opening) (append_assoc (published s log) (Opens ∷ []) (Gives_up ∷ []))
        ∙ versions_from-append (opened_by s.opening) (published s log) (Opens ∷ Gives_up ∷ []);
    sessions = λ d. refl;
  }

  module _ (some : 1 ≤ s.workers) (passed : ArePassedBelow (next_night s log).catalog (next_night s log).list (next_night s log).tables (next_night s log).changes (length (next_night s log).list)) where
    each_passed : (p : ℕ) → IsPassedAt (next_night s log) p
    each_passed p e at = passed p e (place_within (next_night s log).list p e at) at

    first_up : IsUpTo s (next_night s log) (Began ∷ log) (legs_of (next_night s log)) 0 (Began ∷ log)
    first_up = record {
      legal = began;
      opened = refl;
      is = night-began s log;
      left = refl;
      free = refl;
      start = refl;
      begun = refl;
      sessions = λ d. refl;
    }

    last_up : (later : Log) × IsUpTo s (next_night s log) (Began ∷ log) [] 0 later
    last_up = carried_out s some (next_night s log) each_passed (Began ∷ log) (legs_of (next_night s log)) (have_jobs (next_night s log)) (Began ∷ log) first_up

    module _ (later : Log) (u : IsUpTo s (next_night s log) (Began ∷ log) [] 0 later) where
      over : turn s later ≡ Over
      over = (λ i. turn_of (remaining_in (u.is i) later)) ∙ ap turn_of u.left

      committed : IsLegalLog s (Committed ∷ later)
      committed =
          let next : ℕ = number (versions s later) + 1 in
          let said : IsReply s later event.Commit (reply.Version next) =
          onward (not (is_open later)) cause.NoNight _ (reply.Version next) (ap not u.opened)
          (subst (λ t. IsRuled (commit_ruling next t) (reply.Version next)) (sym over) refl) in
          more later event.Commit (reply.Version next) u.legal said

      all_put : published s later ++ Commits ∷ [] ≡ published s log ++ night_ops (next_night s log)
      all_put =
          let a = underway s later (deeds_of s later u.legal) u.opened in
          let puts = (whole_puts passed_have_values (night s later) (start_of s later) (published s later) (remaining s later) (pages later) (holding later) _ _ a over).1 in
          let own : List Operation = Opens ∷ ops_of a.over ++ Commits ∷ [] in
          let these : night_ops (night s later) ≡ own = ap (λ ops. Opens ∷ ops ++ Commits ∷ []) puts in
          let list : published s later ++ Commits ∷ [] ≡ published s log ++ own =
          ap (λ ops. ops ++ Commits ∷ []) (a.whole ∙ ap (λ start. start ++ Opens ∷ ops_of a.over) u.start)
          ∙ append_assoc (published s log) (Opens ∷ ops_of a.over) (Commits ∷ []) in
          list ∙ ap (λ ops. published s log ++ ops) (sym these ∙ ap night_ops u.is)

      ends_whole : IsOneMore s log (night_ops (next_night s log)) false (Committed ∷ later)
      unfolding Rattle.wh_core.specs.Nights.published
      ends_whole = record {
        legal = committed;
        active = refl;
        begun = u.begun;
        versions = ap (versions_of s.opening) all_put ∙ versions_from-append (opened_by s.opening) (published s log) (night_ops (next_night s log));
        sessions = u.sessions;
      }

    pub whole_night : (later : Log) × IsOneMore s log (night_ops (next_night s log)) false later
    whole_night = (Committed ∷ last_up.0, ends_whole last_up.0 last_up.1)
