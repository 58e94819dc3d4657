-- The steps of a dialogue, from what calls answer.
use Rattle.std.proofs.Common.{◌≡◌, ◌≢◌, refl, sym, ap, subst, ◌∙◌, ℕ, true, false, List, [], ◌∷◌, ◌++◌, append_assoc, append-nil, arith, ◌<◌, ◌≤◌, ◌+◌, length, length-append, vec_len, Vec, Global, is_ok, if◌then◌else◌, IfOk, OnOk, Result, Ok, Err, ◌⊎◌, inl, inr}
use Rattle.std.specs.Prelude.{Option, Some, None, codes}
use Rattle.std.specs.List.{flat_map}
use Rattle.std.proofs.lemmas.Grind.{flat_map-append}
use Rattle.wh_core.specs.Changes.{change_written}
use Rattle.wh_core.specs.Laws.{IsSetup}
use Rattle.wh_core.specs.Log.{Log, logged}
use Rattle.wh_core.specs.Nights.{Setup, versions}
use Rattle.wh_core.specs.Replies.{IsReply}
use Rattle.wh_core.specs.Standing.{StandsWith}
use Rattle.wh_core.specs.Tables.{readable_now, sizes_now}
use Rattle.wh_core.specs.declared.event.Event.{Event}
use Rattle.wh_core.specs.declared.reply.Cause.{Cause}
use Rattle.wh_core.specs.declared.reply.Cause.TheVariants as cause
use Rattle.wh_core.specs.declared.reply.Reply.{Reply}
use Rattle.wh_core.specs.declared.reply.Reply.TheVariants as reply
use Rattle.wh_core.specs.declared.warehouse.Core.{Core}
use Rattle.wh_dialogue.proofs.Legal.{refused_logged}
use Rattle.wh_core.specs.declared.event.Event.TheVariants as event
use Rattle.wh_dialogue.specs.Dialogue.{GoesOn, IsAnswered, IsStrange, a_night, a_page_asked, a_stranger, all_changes, all_tables, an_event, at_first, changes_want_memory, is_ready, is_refusal, is_refused, no_night, one_more, tables_want_memory, the_end}
use Rattle.wh_dialogue.specs.Inner.Steps.{CarriedIn, IsAnsweredIn}
use Rattle.wh_dialogue.specs.Said.{changes_text, page_told_text, said_line, said_of, tables_text, told_text}
use Rattle.wh_live.specs.Commands.{Command}
use Rattle.wh_live.specs.Commands as command
use Rattle.wh_live.specs.Requests.{is_asked}
use Rattle.wh_replies.specs.Events.{event_of}
use Rattle.wh_replies.specs.ReplyText.{line, reply_text}
use Rattle.wh_stay.specs.Pages.{IsPageTold}
use Rattle.wh_stay.specs.Standing.{StandingOf, core_of, standing_of}
use Rattle.wh_stay.specs.Told.{CarriesOn, IsCarriedOn, IsNightTold, IsReady, IsTold, breaks_a_rule, has_a_fault, has_begun, wants_memory}
use Rattle.wh_stay.specs.Told as told_how
use Rattle.wh_stay.specs.declared.standing.Live.{Live}
use Rattle.wh_stay.specs.declared.told.NightTold.{NightTold}
use Rattle.wh_stay.specs.declared.told.NightTold.TheVariants as told
use Rattle.wh_text.specs.declared.fault.LoadFault.{LoadFault}
use Rattle.wh_text_lines.specs.declared.schedule.event.ScheduledEvent.{ScheduledEvent}

-- ---- a night that is carried on

-- these events were replied and printed, none of them refused, and the machine stands so
pub record IsAmid {F G : Type 0} (s : Setup) (log : Log) (before after : List ℕ) (core : Core F G) : Type 0 where
  pub events : List Event
  pub replies : List Reply
  pub log_then : Log
  pub goes_on : GoesOn s log events replies log_then
  pub printed : after ≡ before ++ flat_map said_line replies
  pub stands : StandsWith s log_then core

pub at_start : {F G : Type 0} (s : Setup) (log : Log) (before : List ℕ) (core : Core F G) → StandsWith s log core → IsAmid s log before before core
at_start s log before core h = record { events = []; replies = []; log_then = log; goes_on = at_first; printed = sym (append-nil before); stands = h }

module _ {F G : Type 0} (s : Setup) (log : Log) (before after : List ℕ) (was core : Core F G) (amid : IsAmid s log before after was) where
  -- nothing more is in turn
  pub ready : (text : List ℕ) → text ≡ after ++ line (codes "ready") → IsCarriedOn s amid.log_then None core → CarriedIn s log before text core
  ready text same on = record {
    events = amid.events ++ [];
    replies = amid.replies ++ [];
    text = flat_map said_line amid.replies ++ line (codes "ready");
    log_then = amid.log_then;
    carried = record {
      carrying = amid.events;
      carried = amid.replies;
      stopping = [];
      stopped = [];
      last = line (codes "ready");
      goes_on = amid.goes_on;
      stops = is_ready on.0;
      events_are = refl;
      replies_are = refl;
      text_is = refl;
    };
    printed = same ∙ ap (λ t. t ++ line (codes "ready")) amid.printed ∙ append_assoc before (flat_map said_line amid.replies) (line (codes "ready"));
    stands = on.1;
  }

  -- an event was replied and printed
  module _ (event : Event) (r : Reply) (text : List ℕ) (same : text ≡ after ++ said_line r) (on : IsCarriedOn s amid.log_then (Some (event, r)) core) where
    -- it was refused
    pub refused : (why : Cause) → r ≡ reply.Refused why → CarriedIn s log before text core
    refused why is =
        let carries = subst (CarriesOn s amid.log_then event) is on.0 in
        let said : IsReply s amid.log_then event (reply.Refused why) = subst (IsReply s amid.log_then event) is on.1 in
        record {
          events = amid.events ++ event ∷ [];
          replies = amid.replies ++ reply.Refused why ∷ [];
          text = flat_map said_line amid.replies ++ said_line (reply.Refused why);
          log_then = amid.log_then;
          carried = record {
            carrying = amid.events;
            carried = amid.replies;
            stopping = event ∷ [];
            stopped = reply.Refused why ∷ [];
            last = said_line (reply.Refused why);
            goes_on = amid.goes_on;
            stops = is_refused event why carries said;
            events_are = refl;
            replies_are = refl;
            text_is = refl;
          };
          printed = same ∙ ap (λ q. after ++ said_line q) is ∙ ap (λ t. t ++ said_line (reply.Refused why)) amid.printed
              ∙ append_assoc before (flat_map said_line amid.replies) (said_line (reply.Refused why));
          stands = subst (λ l. StandsWith s l core) (refused_logged s amid.log_then event r why on.0 is) on.2;
        }

    -- it was done
    pub done : is_refusal r ≡ false → IsAmid s log before text core
    done other = record {
      events = amid.events ++ event ∷ [];
      replies = amid.replies ++ r ∷ [];
      log_then = logged amid.log_then event r;
      goes_on = one_more amid.events amid.replies amid.log_then event r amid.goes_on on.0 on.1 other;
      printed = same ∙ ap (λ t. t ++ said_line r) amid.printed ∙ append_assoc before (flat_map said_line amid.replies) (said_line r)
          ∙ ap (λ t. before ++ t) (ap (λ t. flat_map said_line amid.replies ++ t) (sym (append-nil (said_line r))) ∙ sym (flat_map-append said_line amid.replies (r ∷ [])));
      stands = on.2;
    }

-- ---- what calls answer

pub on_ok : {T E : Type 0} (r : Result T E) (P Q : Type 0) → OnOk r P → (P → Q) → OnOk r Q
on_ok (Ok x) P Q p f = f p
on_ok (Err e) P Q p f = tt

-- a reply that is a refusal has a cause
pub is_refused_by : (r : Reply) → is_refusal r ≡ true → (why : Cause) × (r ≡ reply.Refused why)
is_refused_by (reply.Refused why) is = (why, refl)
is_refused_by r is = cc

module _ {F G : Type 0} (s : Setup) (log : Log) (core : Core F G) where
  pub none_carried : (found : Option (Event × Reply)) → ((pair : Event × Reply) → found ≡ Some pair → ⊥) → IsCarriedOn s log found core → IsCarriedOn s log None core
  none_carried None other on = on
  none_carried (Some pair) other on = absurd (other pair refl)

  pub some_carried : (found : Option (Event × Reply)) (event : Event) (r : Reply) → found ≡ Some (event, r) → IsCarriedOn s log found core → IsCarriedOn s log (Some (event, r)) core
  some_carried found event r is on = subst (λ f. IsCarriedOn s log f core) is on

-- a line of a reply has a byte at least
pub said_some : (r : Reply) → 0 < length (said_line r)
said_some (reply.Refused cause.Memory) = omega arith
said_some r = omega (arith, length-append (reply_text r) (10 ∷ []))

-- what is appended where there is memory for it
pub grown : {T E : Type 0} (r : Result T E) (before text after : List ℕ) (Q : Type 0) → after ≡ if is_ok r then before ++ text else before → (after ≡ before ++ text → Q) → OnOk r Q
grown (Ok x) before text after Q same f = f same
grown (Err e) before text after Q same f = tt

-- where a line is appended, there are more bytes than turns
pub counted_more : (turn : ℕ) (before after : Vec ℕ Global) (r : Reply) → turn ≤ vec_len before → after.items ≡ before.items ++ said_line r → turn + 1 ≤ vec_len after
counted_more turn before after r few same = omega (arith, few, said_some r, ap length same, length-append before.items (said_line r), before.ok.0, after.ok.0)

pub if_ok : {T E : Type 0} (r : Result T E) (P Q : T → Type 0) → IfOk r P → ((x : T) → P x → Q x) → IfOk r Q
if_ok (Ok x) P Q p f = f x p
if_ok (Err e) P Q p f = tt

-- ---- a command

-- a night that was told of has begun or not
not_begun_so : (s setup : Setup) (log after : Log) (w stands : StandingOf) (parts : List ℕ) (said : NightTold) → IsNightTold s log w parts said stands setup after
    → said ≢ told.Replied reply.Begun → IsAnswered s log w (command.Night parts) [] [] (told_text said) setup after stands
not_begun_so s _ log _ w _ parts _ (has_a_fault f read) other = no_night parts (told.Fault f) (has_a_fault f read) other
not_begun_so s _ log _ w _ parts _ (breaks_a_rule night texts rule place read broken) other = no_night parts (told.Broken rule place) (breaks_a_rule night texts rule place read broken) other
not_begun_so s _ log _ w _ parts _ (told_how.is_refused night texts r read ok no_begin is) other = no_night parts (told.Replied r) (told_how.is_refused night texts r read ok no_begin is) other
not_begun_so s _ log _ w _ parts _ wants_memory other = no_night parts (told.Replied (reply.Refused cause.Memory)) wants_memory other
not_begun_so s _ log _ w _ parts _ (has_begun night texts read ok is) other = absurd (other refl)

module _ {F G : Type 0} (s : Setup) (log : Log) (w : StandingOf) where
  pub not_begun : (parts : List ℕ) (said : NightTold) (text : List ℕ) (live : Live F G) → IsTold s log w parts said (standing_of live) (core_of live) → said ≢ told.Replied reply.Begun
      → text ≡ told_text said → IsAnsweredIn s log w (command.Night parts) text live
  not_begun parts said text live so other same = record {
    events = [];
    replies = [];
    setup = so.setup;
    log_then = so.log_then;
    answered = subst (λ t. IsAnswered s log w (command.Night parts) [] [] t so.setup so.log_then (standing_of live)) (sym same)
        (not_begun_so s so.setup log so.log_then w (standing_of live) parts said so.told_so other);
    is_setup = so.is_setup;
    stands = so.core_stands;
  }

  pub has_carried : (parts : List ℕ) (said : NightTold) (before text : List ℕ) (was live : Live F G) → IsTold s log w parts said (standing_of was) (core_of was) → said ≡ told.Replied reply.Begun
      → before ≡ told_text said → ((s' : Setup) (log' : Log) → IsSetup s' → StandsWith s' log' (core_of was) → CarriedIn s' log' before text (core_of live))
      → standing_of live ≡ standing_of was → IsAnsweredIn s log w (command.Night parts) text live
  has_carried parts said before text was live so begun same carry standing =
      let on = carry so.setup so.log_then so.is_setup so.core_stands in
      let told_so : IsNightTold s log w parts (told.Replied reply.Begun) (standing_of was) so.setup so.log_then = subst (λ q. IsNightTold s log w parts q (standing_of was) so.setup so.log_then) begun so.told_so in
      let printed : said_line reply.Begun ++ on.text ≡ text = ap (λ q. told_text q ++ on.text) (sym begun) ∙ ap (λ t. t ++ on.text) (sym same) ∙ sym on.printed in
      record {
        events = event.Begin ∷ on.events;
        replies = reply.Begun ∷ on.replies;
        setup = so.setup;
        log_then = on.log_then;
        answered = subst (λ t. IsAnswered s log w (command.Night parts) (event.Begin ∷ on.events) (reply.Begun ∷ on.replies) t so.setup on.log_then (standing_of live)) printed
            (subst (λ stood. IsAnswered s log w (command.Night parts) (event.Begin ∷ on.events) (reply.Begun ∷ on.replies) (said_line reply.Begun ++ on.text) so.setup on.log_then stood) (sym standing)
            (a_night parts (standing_of was) so.setup so.log_then on.log_then on.events on.replies on.text told_so on.carried));
        is_setup = so.is_setup;
        stands = on.stands;
      }

  -- a command that changes nothing
  pub unchanged : (asked : Command) (text : List ℕ) (live : Live F G) → IsSetup s → StandsWith s log (core_of live) → standing_of live ≡ w → IsAnswered s log w asked [] [] text s log w
      → IsAnsweredIn s log w asked text live
  unchanged asked text live is h same so = record {
    events = [];
    replies = [];
    setup = s;
    log_then = log;
    answered = subst (IsAnswered s log w asked [] [] text s log) (sym same) so;
    is_setup = is;
    stands = h;
  }

  pub strange_in : (asked : Command) (text : List ℕ) (live : Live F G) → IsSetup s → StandsWith s log (core_of live) → standing_of live ≡ w → IsStrange asked → text ≡ line (codes "unknown")
      → IsAnsweredIn s log w asked text live
  strange_in asked text live is h same strange said =
      unchanged asked text live is h same (subst (λ t. IsAnswered s log w asked [] [] t s log w) (sym said) (a_stranger asked strange))

  pub end_in : (asked : Command) (text : List ℕ) (live : Live F G) → IsSetup s → StandsWith s log (core_of live) → standing_of live ≡ w → asked ≡ command.Quit → text ≡ []
      → IsAnsweredIn s log w asked text live
  end_in asked text live is h same quits nothing =
      unchanged asked text live is h same
      (subst (λ t. IsAnswered s log w asked [] [] t s log w) (sym nothing) (subst (λ a. IsAnswered s log w a [] [] [] s log w) (sym quits) the_end))

  pub page_in : (desk : ℕ) (view : Option ℕ) (limit : ℕ) (after : Option (List ℕ)) (said : Result Reply LoadFault) (text : List ℕ) (live : Live F G) → IsSetup s
      → StandsWith s log (core_of live) → standing_of live ≡ w → IsPageTold s log w desk view limit after said → text ≡ page_told_text w view said
      → IsAnsweredIn s log w (command.Page desk view limit after) text live
  page_in desk view limit after said text live is h same so printed =
      unchanged (command.Page desk view limit after) text live is h same
      (subst (λ t. IsAnswered s log w (command.Page desk view limit after) [] [] t s log w) (sym printed) (a_page_asked desk view limit after said so))

  pub tables_in : (asked : Command) (text : List ℕ) (live : Live F G) → IsSetup s → StandsWith s log (core_of live) → standing_of live ≡ w → asked ≡ command.Tables
      → (text ≡ tables_text w.names (sizes_now s log) (readable_now s log)) ⊎ (text ≡ line (codes "memory")) → IsAnsweredIn s log w asked text live
  tables_in asked text live is h same wanted said =
      unchanged asked text live is h same (subst (λ a. IsAnswered s log w a [] [] text s log w) (sym wanted) (by_text said))
    where
      by_text : (text ≡ tables_text w.names (sizes_now s log) (readable_now s log)) ⊎ (text ≡ line (codes "memory")) → IsAnswered s log w command.Tables [] [] text s log w
      by_text (inl e) = subst (λ t. IsAnswered s log w command.Tables [] [] t s log w) (sym e) all_tables
      by_text (inr e) = subst (λ t. IsAnswered s log w command.Tables [] [] t s log w) (sym e) tables_want_memory

  pub changes_in : (asked : Command) (text : List ℕ) (live : Live F G) → IsSetup s → StandsWith s log (core_of live) → standing_of live ≡ w → asked ≡ command.Changes
      → (text ≡ changes_text w (change_written (versions s log))) ⊎ (text ≡ line (codes "memory")) → IsAnsweredIn s log w asked text live
  changes_in asked text live is h same wanted said =
      unchanged asked text live is h same (subst (λ a. IsAnswered s log w a [] [] text s log w) (sym wanted) (by_text said))
    where
      by_text : (text ≡ changes_text w (change_written (versions s log))) ⊎ (text ≡ line (codes "memory")) → IsAnswered s log w command.Changes [] [] text s log w
      by_text (inl e) = subst (λ t. IsAnswered s log w command.Changes [] [] t s log w) (sym e) all_changes
      by_text (inr e) = subst (λ t. IsAnswered s log w command.Changes [] [] t s log w) (sym e) changes_want_memory

  pub event_in : (e : ScheduledEvent) (asked : Event) (r : Reply) (text : List ℕ) (live : Live F G) → IsSetup s → is_asked e ≡ true → asked ≡ event_of (length w.names) e
      → StandsWith s (logged log asked r) (core_of live) × IsReply s log asked r → standing_of live ≡ w → text ≡ said_of w e r → IsAnsweredIn s log w (command.Event e) text live
  event_in e asked r text live is wanted same so standing said = record {
    events = asked ∷ [];
    replies = r ∷ [];
    setup = s;
    log_then = logged log asked r;
    answered = subst (λ t. IsAnswered s log w (command.Event e) (asked ∷ []) (r ∷ []) t s (logged log asked r) (standing_of live)) (sym said)
        (subst (IsAnswered s log w (command.Event e) (asked ∷ []) (r ∷ []) (said_of w e r) s (logged log asked r)) (sym standing) (an_event e r wanted asked same so.1));
    is_setup = is;
    stands = so.0;
  }

-- ---- truths

pub false_true : false ≡ true → ⊥
false_true e = cc
