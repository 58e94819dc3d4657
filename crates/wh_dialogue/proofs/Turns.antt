-- Lines that come one after another are answered as the commands that they say as a whole.
use Rattle.std.proofs.Common.{◌≡◌, ◌≢◌, refl, sym, ap, subst, ◌∙◌, ℕ, List, [], ◌∷◌, ◌++◌, append_assoc, append-nil}
use Rattle.std.specs.Prelude.{Option, Some, None, IfSome, Result, Ok, Err, OnOk, false, is_err}
use Rattle.std.specs.Io.KnownBytes.{Appends, prepend_known}
use Rattle.std.specs.List.{cons_option}
use Rattle.wh_core.specs.Laws.{IsSetup}
use Rattle.wh_core.specs.Log.{Log}
use Rattle.wh_core.specs.Nights.{Setup}
use Rattle.wh_core.specs.Standing.{StandsWith}
use Rattle.wh_core.specs.declared.event.Event.{Event}
use Rattle.wh_core.specs.declared.reply.Reply.{Reply}
use Rattle.wh_core.specs.declared.reply.Reply.TheVariants as reply
use Rattle.wh_dialogue.specs.Dialogue.{AreAnswered, BeginsSo, Dialogue, IsAnswered, IsTalk, a_night, a_page_asked, a_stranger, all_changes, all_tables, an_event, answers, no_night, opens, changes_want_memory, tables_want_memory, the_end, up_to_quit}
use Rattle.wh_dialogue.specs.Inner.Steps.{EndsWith, IsAnsweredIn, IsLineAnswered, a_command, goes_on, no_command, quits}
use Rattle.wh_dialogue.specs.declared.talking.TalkEnd.{TalkEnd}
use Rattle.wh_dialogue.specs.declared.talking.TalkEnd.TheVariants as ends
use Rattle.wh_live.specs.Commands.{Command, commands_below, commands_of, shown_command, taken}
use Rattle.wh_live.specs.declared.command.Command.{Command as CommandRead}
use Rattle.wh_live.specs.declared.command.Command.TheVariants as read
use Rattle.wh_live.specs.Commands as command
use Rattle.wh_live.specs.LinesRead.{FirstLines, HandsOut, IsFirstLine}
use Rattle.wh_live.specs.declared.line_reader.LineFault.{LineFault as LineFaultRead}
use Rattle.wh_live.specs.declared.line_reader.LineFault.TheVariants as LineFault
use Rattle.wh_stay.specs.Standing.{StandingOf, core_of, standing_of}
use Rattle.wh_stay.specs.Told.{IsNightTold, has_begun}
use Rattle.wh_stay.specs.Told as told_how
use Rattle.wh_stay.specs.declared.standing.Live.{Live}
use Rattle.wh_stay.specs.declared.told.NightTold.TheVariants as told
use Rattle.wh_text_lines.specs.Words.{lines_of}

-- ---- texts and commands

appended : (before middle after : Option (List ℕ)) (text said : List ℕ) → Appends before middle text → Appends middle after said → Appends before after (text ++ said)
appended None middle after text said a b = tt
appended (Some xs) None after text said a b = absurd a
appended (Some xs) (Some ys) None text said a b = absurd b
appended (Some xs) (Some ys) (Some zs) text said a b = b ∙ ap (λ t. t ++ said) a ∙ append_assoc xs text said

appended_nothing : (before : Option (List ℕ)) → Appends before before []
appended_nothing None = tt
appended_nothing (Some xs) = sym (append-nil xs)

if_some : (known : Option (List ℕ)) (P : List ℕ → Type 0) → ((all : List ℕ) → known ≡ Some all → P all) → IfSome known P
if_some None P h = tt
if_some (Some all) P h = h all refl

next_goes_on : (next : Command) (all : List Command) → next ≢ command.Quit → up_to_quit (next ∷ all) ≡ next ∷ up_to_quit all
next_goes_on command.Quit all other = absurd (other refl)
next_goes_on (command.Night parts) all other = refl
next_goes_on (command.Event event) all other = refl
next_goes_on (command.Page desk view limit after) all other = refl
next_goes_on command.Tables all other = refl
next_goes_on command.Changes all other = refl
next_goes_on command.Unknown all other = refl

-- ---- what stands

begun_names : (s setup : Setup) (log begun : Log) (w stands : StandingOf) (parts : List ℕ) → IsNightTold s log w parts (told.Replied reply.Begun) stands setup begun → stands.names ≡ w.names
begun_names s _ log _ w _ parts (has_begun night texts read ok is) = refl
begun_names s _ log _ w _ parts (told_how.is_refused night texts r read ok other is) = refl

kept_names : (s setup : Setup) (log after : Log) (w stands : StandingOf) (asked : Command) (events : List Event) (replies : List Reply) (text : List ℕ)
    → IsAnswered s log w asked events replies text setup after stands → stands.names ≡ w.names
kept_names s _ log _ w _ _ _ _ _ (an_event e r is asked same so) = refl
kept_names s _ log _ w _ _ _ _ _ (a_page_asked desk view limit after said is) = refl
kept_names s _ log _ w _ _ _ _ _ all_tables = refl
kept_names s _ log _ w _ _ _ _ _ all_changes = refl
kept_names s _ log _ w _ _ _ _ _ tables_want_memory = refl
kept_names s _ log _ w _ _ _ _ _ changes_want_memory = refl
kept_names s _ log _ w _ _ _ _ _ (a_stranger strange is) = refl
kept_names s _ log _ w _ _ _ _ _ the_end = refl
kept_names s _ log _ w _ _ _ _ _ (no_night parts said is other) = refl
kept_names s _ log _ w _ _ _ _ _ (a_night parts stands setup begun after es rs text is carried) = begun_names s setup log begun w stands parts is

-- ---- a talk

-- So far these commands were answered, none of which ends the talk. The lines below them are these bytes', below the parts of a night that
-- has begun, if one has
pub record IsAmidTalk {F G : Type 0} (s : Setup) (log : Log) (w : StandingOf) (known before after amid rest : Option (List ℕ)) (live : Live F G) : Type 0 where
  pub commands : List Command
  pub events : List Event
  pub replies : List Reply
  pub text : List ℕ
  pub setup : Setup
  pub log_then : Log
  pub dialogue : Dialogue s log w commands events replies text setup log_then (standing_of live)
  pub written : Appends before after text
  pub is_setup : IsSetup setup
  pub stands : StandsWith setup log_then (core_of live)
  pub names : (standing_of live).names ≡ w.names
  pub go_on : (all : List Command) → up_to_quit (commands ++ all) ≡ commands ++ up_to_quit all
  pub left : (all : List ℕ) → known ≡ Some all → (bytes : List ℕ) × (rest ≡ Some bytes) × (commands_of w.names (lines_of all) ≡ commands ++ commands_below w.names amid (lines_of bytes))

pub talk_begins : {F G : Type 0} (s : Setup) (log : Log) (known before : Option (List ℕ)) (live : Live F G) → IsSetup s → StandsWith s log (core_of live)
    → IsAmidTalk s log (standing_of live) known before before None (prepend_known [] known) live
talk_begins s log known before live is h = record {
  commands = [];
  events = [];
  replies = [];
  text = [];
  setup = s;
  log_then = log;
  dialogue = opens;
  written = appended_nothing before;
  is_setup = is;
  stands = h;
  names = refl;
  go_on = λ all. refl;
  left = λ all same. (all, ap (prepend_known []) same, refl);
}

-- where it ended before a line was answered, at a read or for want of memory
pub ends_early : {F G : Type 0} (s : Setup) (log : Log) (w : StandingOf) (known before after amid rest : Option (List ℕ)) (live : Live F G) (end : TalkEnd)
    → end ≢ ends.Done → IsAmidTalk s log w known before after amid rest live → IsTalk s log w known before after end
ends_early s log w known before after amid rest live end other talk = record {
  commands = talk.commands;
  events = talk.events;
  replies = talk.replies;
  text = talk.text;
  setup = talk.setup;
  log_then = talk.log_then;
  stands = standing_of live;
  dialogue = talk.dialogue;
  written = talk.written;
  read = if_some known (λ all. AreAnswered (commands_of w.names (lines_of all)) end talk.commands) (λ all same.
      let left = talk.left all same in
      let below = commands_below w.names amid (lines_of left.0) in
      a_beginning end (commands_of w.names (lines_of all)) talk.commands other
      (up_to_quit below, ap up_to_quit left.2 ∙ talk.go_on below));
}
  where
    a_beginning : (end : TalkEnd) (all commands : List Command) → end ≢ ends.Done → BeginsSo (up_to_quit all) commands → AreAnswered all end commands
    a_beginning ends.Done all commands other so = absurd (other refl)
    a_beginning ends.Read all commands other so = so
    a_beginning ends.Memory all commands other so = so
    a_beginning ends.Write all commands other so = so

-- where no line was left
pub ends_last : {F G : Type 0} (s : Setup) (log : Log) (w : StandingOf) (known before after amid rest rest' : Option (List ℕ)) (live : Live F G)
    → HandsOut rest None rest' → IsAmidTalk s log w known before after amid rest live → IsTalk s log w known before after ends.Done
ends_last s log w known before after amid rest rest' live hands talk = record {
  commands = talk.commands;
  events = talk.events;
  replies = talk.replies;
  text = talk.text;
  setup = talk.setup;
  log_then = talk.log_then;
  stands = standing_of live;
  dialogue = talk.dialogue;
  written = talk.written;
  read = if_some known (λ all. talk.commands ≡ up_to_quit (commands_of w.names (lines_of all))) (λ all same.
      let left = talk.left all same in
      let nothing : left.0 ≡ [] = no_bytes left.0 rest' (subst (λ r. HandsOut r None rest') left.1 hands) in
      let whole : commands_of w.names (lines_of all) ≡ talk.commands ++ [] = left.2 ∙ ap (λ bytes. talk.commands ++ commands_below w.names amid (lines_of bytes)) nothing in
      sym (ap up_to_quit whole ∙ talk.go_on [] ∙ append-nil talk.commands));
}
  where
    no_bytes : (bytes : List ℕ) (after : Option (List ℕ)) → HandsOut (Some bytes) None after → bytes ≡ []
    no_bytes bytes None h = absurd h
    no_bytes bytes (Some below) h = h.0

module _ {F G : Type 0} (first : FirstLines) (s : Setup) (log : Log) (w : StandingOf) (known before after amid rest rest' : Option (List ℕ)) (live : Live F G) (line : List ℕ)
    (hands : HandsOut rest (Some line) rest') (talk : IsAmidTalk s log w known before after amid rest live) where
  -- the bytes below the line, and the commands of what is left
  below_line : (bytes : List ℕ) (rest' : Option (List ℕ)) → HandsOut (Some bytes) (Some line) rest' → (below : List ℕ) × (rest' ≡ Some below) × IsFirstLine bytes line below
  below_line bytes None h = absurd h
  below_line bytes (Some below) h = (below, refl, h)

  left_below : (amid' : Option (List ℕ)) (ended : Option Command) → taken (standing_of live).names amid line ≡ (amid', ended) → (all : List ℕ) → known ≡ Some all
      → (bytes : List ℕ) × (rest' ≡ Some bytes) × (commands_of w.names (lines_of all) ≡ talk.commands ++ cons_option ended (commands_below w.names amid' (lines_of bytes)))
  left_below amid' ended took all same =
      let left = talk.left all same in
      let below = below_line left.0 rest' (subst (λ r. HandsOut r (Some line) rest') left.1 hands) in
      let took_here : taken w.names amid line ≡ (amid', ended) = ap (λ names. taken names amid line) (sym talk.names) ∙ took in (
        below.0,
        below.1,
        left.2 ∙ ap (λ lines. talk.commands ++ commands_below w.names amid lines) (first left.0 line below.0 below.2)
            ∙ ap (λ (t : Option (List ℕ) × Option Command). talk.commands ++ cons_option t.1 (commands_below w.names t.0 (lines_of below.0))) took_here,
      )

  -- the dialogue with one command more
  module _ (amid' after' : Option (List ℕ)) (live' : Live F G) (next : Command) (said : List ℕ) (took : taken (standing_of live).names amid line ≡ (amid', Some next))
      (is : IsAnsweredIn talk.setup talk.log_then (standing_of live) next said live') (wrote : Appends after after' said) where
    more : Dialogue s log w (talk.commands ++ next ∷ []) (talk.events ++ is.events) (talk.replies ++ is.replies) (talk.text ++ said) is.setup is.log_then (standing_of live')
    more = answers talk.commands talk.events talk.replies talk.text talk.setup talk.log_then (standing_of live) next is.events is.replies said is.setup is.log_then (standing_of live') talk.dialogue is.answered

    -- it is not the last
    goes_on_with : next ≢ command.Quit → IsAmidTalk s log w known before after' amid' rest' live'
    goes_on_with other = record {
      commands = talk.commands ++ next ∷ [];
      events = talk.events ++ is.events;
      replies = talk.replies ++ is.replies;
      text = talk.text ++ said;
      setup = is.setup;
      log_then = is.log_then;
      dialogue = more;
      written = appended before after after' talk.text said talk.written wrote;
      is_setup = is.is_setup;
      stands = is.stands;
      names = kept_names talk.setup is.setup talk.log_then is.log_then (standing_of live) (standing_of live') next is.events is.replies said is.answered ∙ talk.names;
      go_on = λ all. ap up_to_quit (append_assoc talk.commands (next ∷ []) all) ∙ talk.go_on (next ∷ all) ∙ ap (λ cs. talk.commands ++ cs) (next_goes_on next all other)
          ∙ sym (append_assoc talk.commands (next ∷ []) (up_to_quit all));
      left = λ all same. (let left = left_below amid' (Some next) took all same in
          (left.0, left.1, left.2 ∙ sym (append_assoc talk.commands (next ∷ []) (commands_below w.names amid' (lines_of left.0)))));
    }

    -- it is the last
    ends_with : next ≡ command.Quit → IsTalk s log w known before after' ends.Done
    ends_with last = record {
      commands = talk.commands ++ next ∷ [];
      events = talk.events ++ is.events;
      replies = talk.replies ++ is.replies;
      text = talk.text ++ said;
      setup = is.setup;
      log_then = is.log_then;
      stands = standing_of live';
      dialogue = more;
      written = appended before after after' talk.text said talk.written wrote;
      read = if_some known (λ all. talk.commands ++ next ∷ [] ≡ up_to_quit (commands_of w.names (lines_of all))) (λ all same.
          let left = left_below amid' (Some next) took all same in
          let below = commands_below w.names amid' (lines_of left.0) in
          sym (ap up_to_quit left.2 ∙ talk.go_on (next ∷ below) ∙ ap (λ (c : Command). talk.commands ++ up_to_quit (c ∷ below)) last ∙ ap (λ (c : Command). talk.commands ++ c ∷ []) (sym last)));
    }

  pub goes_on_after : (amid' after' : Option (List ℕ)) (live' : Live F G) → IsLineAnswered talk.setup talk.log_then (standing_of live) amid line amid' after after' None live'
      → IsAmidTalk s log w known before after' amid' rest' live'
  goes_on_after amid' _ live' (no_command _ _ _ took same stands) = record {
    commands = talk.commands;
    events = talk.events;
    replies = talk.replies;
    text = talk.text;
    setup = talk.setup;
    log_then = talk.log_then;
    dialogue = subst (λ stood. Dialogue s log w talk.commands talk.events talk.replies talk.text talk.setup talk.log_then stood) (sym same) talk.dialogue;
    written = talk.written;
    is_setup = talk.is_setup;
    stands = stands;
    names = ap (λ (stood : StandingOf). stood.names) same ∙ talk.names;
    go_on = talk.go_on;
    left = left_below amid' None took;
  }
  goes_on_after amid' after' live' (a_command _ _ _ _ next said _ took is wrote (goes_on _ other)) = goes_on_with amid' after' live' next said took is wrote other

  pub ends_after : (amid' after' : Option (List ℕ)) (live' : Live F G) (end : TalkEnd) → IsLineAnswered talk.setup talk.log_then (standing_of live) amid line amid' after after' (Some end) live'
      → IsTalk s log w known before after' end
  ends_after amid' after' live' _ (a_command _ _ _ _ _ said _ took is wrote quits) = ends_with amid' after' live' command.Quit said took is wrote refl

-- ---- what calls answer

-- bytes that were put without a failure
pub known_ok : {T E : Type 0} (r : Result T E) (before after : Option (List ℕ)) (put text : List ℕ) → false ≡ is_err r → OnOk r (Appends before after put) → put ≡ text → Appends before after text
known_ok (Ok x) before after put text fine wrote same = subst (Appends before after) same wrote
known_ok (Err e) before after put text fine wrote same = cc

shown_quit : (c : CommandRead) → shown_command c ≡ command.Quit → c ≡ read.Quit
shown_quit read.Quit is = refl
shown_quit c is = cc

pub quits_by : (c : CommandRead) → c ≡ read.Quit → EndsWith (shown_command c) (Some ends.Done)
quits_by c is = subst (λ q. EndsWith (shown_command q) (Some ends.Done)) (sym is) quits

pub goes_on_by : (c : CommandRead) → (c ≡ read.Quit → ⊥) → EndsWith (shown_command c) None
goes_on_by c other = goes_on (shown_command c) (λ is. other (shown_quit c is))

-- a talk begins, before any line
pub begins_at : {F G : Type 0} (s : Setup) (log : Log) (known before amid : Option (List ℕ)) (reader : List ℕ) (live : Live F G) → amid ≡ None → reader ≡ [] → IsSetup s
    → StandsWith s log (core_of live) → IsAmidTalk s log (standing_of live) known before before amid (prepend_known reader known) live
begins_at s log known before amid reader live none empty is h =
    subst (λ a. IsAmidTalk s log (standing_of live) known before before a (prepend_known reader known) live) (sym none)
    (subst (λ r. IsAmidTalk s log (standing_of live) known before before None (prepend_known r known) live) (sym empty) (talk_begins s log known before live is h))

-- it ends at a line
pub ends_by : {F G : Type 0} (first : FirstLines) (s : Setup) (log : Log) (w : StandingOf) (known before after amid rest rest' : Option (List ℕ)) (live : Live F G) (line : List ℕ)
    (hands : HandsOut rest (Some line) rest') (talk : IsAmidTalk s log w known before after amid rest live) (amid' after' : Option (List ℕ)) (live' : Live F G) (end : TalkEnd)
    → end ≢ ends.Write → (Some end ≢ Some ends.Read) → (Some end ≡ Some ends.Memory → after' ≡ after)
    → (Some end ≢ Some ends.Memory → Some end ≢ Some ends.Write → IsLineAnswered talk.setup talk.log_then (standing_of live) amid line amid' after after' (Some end) live')
    → IsTalk s log w known before after' end
ends_by first s log w known before after amid rest rest' live line hands talk amid' after' live' ends.Done write read memory answered =
    ends_after first s log w known before after amid rest rest' live line hands talk amid' after' live' ends.Done (answered (λ e. cc) (λ e. cc))
ends_by first s log w known before after amid rest rest' live line hands talk amid' after' live' ends.Read write read memory answered = absurd (read refl)
ends_by first s log w known before after amid rest rest' live line hands talk amid' after' live' ends.Memory write read memory answered =
    subst (λ a. IsTalk s log w known before a ends.Memory) (sym (memory refl)) (ends_early s log w known before after amid rest live ends.Memory (λ e. cc) talk)
ends_by first s log w known before after amid rest rest' live line hands talk amid' after' live' ends.Write write read memory answered = absurd (write refl)

pub none_of : {T : Type 0} (r : Option T) → ((x : T) → r ≡ Some x → ⊥) → r ≡ None
none_of None other = refl
none_of (Some x) other = absurd (other x refl)

pub some_same : (a b : TalkEnd) → Some a ≡ Some b → a ≡ b
some_same a b e = cc

pub memory_done : ends.Memory ≢ ends.Done
memory_done e = cc

pub read_done : ends.Read ≢ ends.Done
read_done e = cc

-- a line that was not had for want of memory was not missed at a read
pub read_memory : {T : Type 0} (f : LineFaultRead) → f ≡ LineFault.Memory → ◌≡◌ {A = Result T LineFaultRead} (Err f) (Err LineFault.Read) → ⊥
read_memory f is e = cc

pub ok_read : {T : Type 0} (x : T) → Ok x ≡ Err LineFault.Read → ⊥
ok_read x e = cc
