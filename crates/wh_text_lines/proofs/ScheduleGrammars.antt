-- A text is read as the schedule that its lines say, and else is at fault where they stop being one.
use Rattle.std.proofs.Common.{◌≡◌, ℕ, ◌<◌, ◌≤◌, ◌==◌, ◌⊎◌, inl, inr, Bool, true, false, List, [], ◌∷◌, ◌++◌, length, map, Option, Some, None, option_map, Result, Ok, Err, refl, ap, sym, subst, ◌∙◌, arith}
use Rattle.std.specs.Prelude.{◌&&◌, nat_le, option_and_then, codes, if◌then◌else◌}
use Rattle.std.specs.List.{flat_map}
use Rattle.std.specs.Option.{option_or}
use Rattle.std.specs.Str.{bytes_eq}
use Rattle.std.proofs.lemmas.Bool.{and_parts, leb-true, lt-ltb}
use Rattle.std.proofs.lemmas.Bool.Decides.{eqb_tells}
use Rattle.std.proofs.lemmas.List.{append-nil, length-append}
use Rattle.wh_text.specs.declared.fault.LoadFault.{LoadFault}
use Rattle.wh_text.specs.declared.fault.LoadFault.TheVariants.{Schedule as ScheduleFault}
use Rattle.wh_text_lines.specs.LineGrammar.{Say, SayWhole, read_by}
use Rattle.wh_text_lines.specs.ListedLines.{told_in}
use Rattle.wh_text_lines.specs.Inner.ListedLines.{each_follows}
use Rattle.wh_text_lines.specs.Natural.{if_within, natural, number_within}
use Rattle.wh_text_lines.specs.ScheduleGrammar.{AreVersions, BeginSchedule, SaySchedule, ScheduleFaults, ScheduleGrammar, are_told, are_two, schedule_lines}
use Rattle.wh_text_lines.specs.ScheduleLine.{event_of, head_number, line_in, schedule_line_of}
use Rattle.wh_text_lines.specs.ScheduleText.{ScheduleOf, desks_in, events_in, keys_in, may_end, may_follow, schedule_from, schedule_grammar, schedule_of, schedule_said, versions_in, workers_in}
use Rattle.wh_text_lines.specs.Inner.ScheduleText.{IsSized}
use Rattle.wh_text_lines.specs.Words.{lines_of, words_of}
use Rattle.wh_text_lines.specs.declared.schedule.event.ScheduledEvent.{ScheduledEvent}
use Rattle.wh_text_lines.specs.declared.schedule.line.ScheduleLine.{ScheduleLine}
use Rattle.wh_text_lines.specs.declared.schedule.line.ScheduleLine.TheVariants.{Desks, Workers, Keys, Versions, Event}
use Rattle.wh_text_lines.proofs.LineGrammars.{lines_read, lines_stop, stop_so}
use Rattle.wh_text_lines.proofs.ListedLines.{comes, each_above, reads}

-- ---- which lines may stand one below another

-- first lines of a schedule: a part of its head, or the head, what it says of its versions, and events
data Form (said : List ScheduleLine) : Type 0 where
  nothing : said ≡ [] → Form said
  one : (desks : ℕ) → said ≡ Desks desks ∷ [] → Form said
  two : (desks workers : ℕ) → said ≡ Desks desks ∷ Workers workers ∷ [] → Form said
  head : (schedule : ScheduleOf) (versions : List ScheduleLine) → AreVersions schedule versions → said ≡ schedule_lines schedule versions → Form said

not_at : (n k : ℕ) → k < n → (n == k) ≡ false
not_at n k l = by (eqb_tells n k)
  where
    by : ((n == k) ≡ true) × (n ≡ k) ⊎ ((n == k) ≡ false) × ((n ≡ k) → ⊥) → (n == k) ≡ false
    by (inl e) = absurd (omega (arith, l, e.1))
    by (inr e) = e.0

longer : (most : ℕ) (before : List ScheduleLine) (line : ScheduleLine) → most < length before → most < length (before ++ line ∷ [])
longer most before line l = subst (λ n. most < n) (sym (length-append before (line ∷ []))) (omega (arith, l))

-- below the head and the versions, or the first event, there are events alone
abbrev Events : List ScheduleLine → Type 0
Events lines = (events : List ScheduledEvent) × (lines ≡ map Event events)

one_event : (before : List ScheduleLine) (line : ScheduleLine) → 3 < length before → may_follow before line ≡ true → (event : ScheduledEvent) × (line ≡ Event event)
one_event before (Desks n) l may = let no = not_at (length before) 0 (omega (arith, l)) in cc
one_event before (Workers n) l may = let no = not_at (length before) 1 (omega (arith, l)) in cc
one_event before (Keys n) l may = let no = not_at (length before) 2 (omega (arith, l)) in cc
one_event before (Versions n) l may = let no = not_at (length before) 3 l in cc
one_event before (Event event) l may = (event, refl)

all_events : (before lines : List ScheduleLine) → 3 < length before → each_follows may_follow before lines ≡ true → Events lines
all_events before [] l each = ([], refl)
all_events before (line ∷ lines) l each =
    let both = and_parts (may_follow before line) (each_follows may_follow (before ++ line ∷ []) lines) each in
    let first = one_event before line l both.0 in
    let rest = all_events (before ++ line ∷ []) lines (longer 3 before line l) both.1 in
    (first.0 ∷ rest.0, ap (λ l. l ∷ lines) first.1 ∙ ap (λ ls. Event first.0 ∷ ls) rest.1)

events_follow : (before : List ScheduleLine) (events : List ScheduledEvent) → 2 < length before → each_follows may_follow before (map Event events) ≡ true
events_follow before [] l = refl
events_follow before (event ∷ events) l =
    ap (λ b. b && each_follows may_follow (before ++ Event event ∷ []) (map Event events)) (lt-ltb 2 (length before) l)
    ∙ events_follow (before ++ Event event ∷ []) events (longer 2 before (Event event) l)

lines_follow : (schedule : ScheduleOf) (versions : List ScheduleLine) → AreVersions schedule versions → each_follows may_follow [] (schedule_lines schedule versions) ≡ true
lines_follow schedule versions (are_told e) =
    ap (λ own. each_follows may_follow [] (schedule_lines schedule own)) e
    ∙ events_follow (Desks schedule.desks ∷ Workers schedule.workers ∷ Keys schedule.keys ∷ Versions schedule.versions ∷ []) schedule.events (omega arith)
lines_follow schedule versions (are_two e same) =
    ap (λ own. each_follows may_follow [] (schedule_lines schedule own)) e
    ∙ events_follow (Desks schedule.desks ∷ Workers schedule.workers ∷ Keys schedule.keys ∷ []) schedule.events (omega arith)

form_below : (desks workers keys : ℕ) (lines : List ScheduleLine) → each_follows may_follow (Desks desks ∷ Workers workers ∷ Keys keys ∷ []) lines ≡ true
    → Form (Desks desks ∷ Workers workers ∷ Keys keys ∷ lines)
form_below d w k [] each = head (record { desks = d; workers = w; keys = k; versions = 2; events = [] }) [] (are_two refl refl) refl
form_below d w k (Versions n ∷ lines) each =
    let events = all_events (Desks d ∷ Workers w ∷ Keys k ∷ Versions n ∷ []) lines (omega arith) each in
    head (record { desks = d; workers = w; keys = k; versions = n; events = events.0 }) (Versions n ∷ []) (are_told refl) (ap (λ ls. Desks d ∷ Workers w ∷ Keys k ∷ Versions n ∷ ls) events.1)
form_below d w k (Event e ∷ lines) each =
    let events = all_events (Desks d ∷ Workers w ∷ Keys k ∷ Event e ∷ []) lines (omega arith) each in
    head (record { desks = d; workers = w; keys = k; versions = 2; events = e ∷ events.0 }) [] (are_two refl refl) (ap (λ ls. Desks d ∷ Workers w ∷ Keys k ∷ Event e ∷ ls) events.1)
form_below d w k (Desks n ∷ lines) each = cc
form_below d w k (Workers n ∷ lines) each = cc
form_below d w k (Keys n ∷ lines) each = cc

form_of : (said : List ScheduleLine) → each_follows may_follow [] said ≡ true → Form said
form_of [] each = nothing refl
form_of (Desks d ∷ []) each = one d refl
form_of (Desks d ∷ Workers w ∷ []) each = two d w refl
form_of (Desks d ∷ Workers w ∷ Keys k ∷ lines) each = form_below d w k lines each
form_of (Desks d ∷ Workers w ∷ Desks n ∷ lines) each = cc
form_of (Desks d ∷ Workers w ∷ Workers n ∷ lines) each = cc
form_of (Desks d ∷ Workers w ∷ Versions n ∷ lines) each = cc
form_of (Desks d ∷ Workers w ∷ Event e ∷ lines) each = cc
form_of (Desks d ∷ Desks n ∷ lines) each = cc
form_of (Desks d ∷ Keys n ∷ lines) each = cc
form_of (Desks d ∷ Versions n ∷ lines) each = cc
form_of (Desks d ∷ Event e ∷ lines) each = cc
form_of (Workers n ∷ lines) each = cc
form_of (Keys n ∷ lines) each = cc
form_of (Versions n ∷ lines) each = cc
form_of (Event e ∷ lines) each = cc

-- ---- lines that may stand begin a schedule, and those that begin one may stand

abbrev Stand : List (List ℕ) → List (List ℕ) → Type 0
Stand names lines = (said : List ScheduleLine) × Say (schedule_grammar names) lines said

-- the schedule that lines begin
record Begins (said : List ScheduleLine) : Type 0 where
  pub schedule : ScheduleOf
  pub versions : List ScheduleLine
  pub are_versions : AreVersions schedule versions
  pub rest : List ScheduleLine
  pub parts : schedule_lines schedule versions ≡ said ++ rest

-- a part of a head begins a schedule of two versions and no events
head_begins : (desks workers keys : ℕ) (said rest : List ScheduleLine) → Desks desks ∷ Workers workers ∷ Keys keys ∷ [] ≡ said ++ rest → Begins said
head_begins d w k said rest e =
    record { schedule = record { desks = d; workers = w; keys = k; versions = 2; events = [] }; versions = []; are_versions = are_two refl refl; rest = rest; parts = e }

begins : (said : List ScheduleLine) → Form said → Begins said
begins said (nothing e) = head_begins 0 0 0 said (Desks 0 ∷ Workers 0 ∷ Keys 0 ∷ []) (ap (λ ls. ls ++ Desks 0 ∷ Workers 0 ∷ Keys 0 ∷ []) (sym e))
begins said (one d e) = head_begins d 0 0 said (Workers 0 ∷ Keys 0 ∷ []) (ap (λ ls. ls ++ Workers 0 ∷ Keys 0 ∷ []) (sym e))
begins said (two d w e) = head_begins d w 0 said (Keys 0 ∷ []) (ap (λ ls. ls ++ Keys 0 ∷ []) (sym e))
begins said (head schedule versions are e) = record { schedule = schedule; versions = versions; are_versions = are; rest = []; parts = sym e ∙ sym (append-nil said) }

stand_begun : (names lines : List (List ℕ)) → Stand names lines → BeginSchedule names lines
stand_begun names lines h =
    let came = comes ScheduleLine (line_in names) may_follow may_end ScheduleFault lines [] h.0 h.1 in
    let own = begins came.own (form_of came.own came.each) in
    record { schedule = own.schedule; versions = own.versions; are_versions = own.are_versions; first = came.own; rest = own.rest; parts = own.parts; told = came.told }

begun_stand : (names lines : List (List ℕ)) → BeginSchedule names lines → Stand names lines
begun_stand names lines h =
    let each : each_follows may_follow [] h.first ≡ true =
    each_above ScheduleLine may_follow [] h.first h.rest (ap (each_follows may_follow []) (sym h.parts) ∙ lines_follow h.schedule h.versions h.are_versions) in
    (h.first, reads ScheduleLine (line_in names) may_follow may_end ScheduleFault lines [] h.first h.told each)

-- ---- the grammar

events_all : (events : List ScheduledEvent) → flat_map events_in (map Event events) ≡ events
events_all [] = refl
events_all (event ∷ events) = ap (λ es. event ∷ es) (events_all events)

two_unsaid : (desks workers keys : ℕ) (events : List ScheduledEvent) → versions_in (Desks desks ∷ Workers workers ∷ Keys keys ∷ map Event events) ≡ 2
two_unsaid d w k [] = refl
two_unsaid d w k (event ∷ events) = refl

abbrev schedule : ℕ → ℕ → ℕ → ℕ → List ScheduledEvent → ScheduleOf
schedule desks workers keys versions events = record { desks = desks; workers = workers; keys = keys; versions = versions; events = events }

-- the schedule that its own lines say
lines_again : (desks workers keys versions : ℕ) (events : List ScheduledEvent) (own : List ScheduleLine) → AreVersions (schedule desks workers keys versions events) own
    → schedule_from (schedule_lines (schedule desks workers keys versions events) own) ≡ schedule desks workers keys versions events
lines_again d w k n events own (are_told e) = ap (λ o. schedule_from (schedule_lines (schedule d w k n events) o)) e ∙ ap (schedule d w k n) (events_all events)
lines_again d w k n events own (are_two e same) =
    ap (λ o. schedule_from (schedule_lines (schedule d w k n events) o)) e
    ∙ ap (λ m. schedule d w k m (flat_map events_in (map Event events))) (two_unsaid d w k events ∙ sym same)
    ∙ ap (schedule d w k n) (events_all events)

-- the lines of a schedule are read
said_schedule : (names lines : List (List ℕ)) (schedule : ScheduleOf) (h : SaySchedule names lines schedule) → SayWhole (schedule_grammar names) lines (schedule_lines schedule h.versions)
said_schedule names lines schedule h = (
  reads ScheduleLine (line_in names) may_follow may_end ScheduleFault lines [] (schedule_lines schedule h.versions) h.told (lines_follow schedule h.versions h.are_versions),
  lt-ltb 2 (length (schedule_lines schedule h.versions)) (omega arith),
)

schedule_read : (names : List (List ℕ)) (text : List ℕ) (schedule : ScheduleOf) → SaySchedule names (lines_of text) schedule → schedule_of names text ≡ Ok schedule
schedule_read names text schedule h =
    ap schedule_said ((lines_read (List ScheduleLine) (schedule_grammar names) text (schedule_lines schedule h.versions)).1 (said_schedule names (lines_of text) schedule h))
    ∙ ap Ok (lines_again schedule.desks schedule.workers schedule.keys schedule.versions schedule.events h.versions h.are_versions)

-- lines that may end are those of a schedule
whole_form : (said : List ScheduleLine) → Form said → may_end said ≡ true → (schedule : ScheduleOf) × (versions : List ScheduleLine) × AreVersions schedule versions × (said ≡ schedule_lines schedule versions)
whole_form said (nothing e) end = let no = ap may_end (sym e) ∙ end in cc
whole_form said (one d e) end = let no = ap may_end (sym e) ∙ end in cc
whole_form said (two d w e) end = let no = ap may_end (sym e) ∙ end in cc
whole_form said (head schedule versions are e) end = (schedule, versions, are, e)

-- what lines say that are read is a schedule
whole_said : (names lines : List (List ℕ)) (said : List ScheduleLine) → SayWhole (schedule_grammar names) lines said → SaySchedule names lines (schedule_from said)
whole_said names lines said h =
    let came = comes ScheduleLine (line_in names) may_follow may_end ScheduleFault lines [] said h.0 in
    let whole = whole_form came.own (form_of came.own came.each) (ap may_end (sym came.same) ∙ h.1) in
    let own = whole.0 in
    let again : own ≡ schedule_from said = sym (ap schedule_from (came.same ∙ whole.3) ∙ lines_again own.desks own.workers own.keys own.versions own.events whole.1 whole.2) in
    subst (SaySchedule names lines) again (record { versions = whole.1; are_versions = whole.2; told = came.told ∙ ap (map Some) whole.3 })

schedule_told : (names : List (List ℕ)) (text : List ℕ) (schedule : ScheduleOf) (outcome : Result (List ScheduleLine) LoadFault) → read_by (schedule_grammar names) text ≡ outcome
    → schedule_said outcome ≡ Ok schedule → SaySchedule names (lines_of text) schedule
schedule_told names text schedule (Ok said) read e =
    let same : schedule_from said ≡ schedule = cc in
    subst (SaySchedule names (lines_of text)) same (whole_said names (lines_of text) said ((lines_read (List ScheduleLine) (schedule_grammar names) text said).0 read))
schedule_told names text schedule (Err fault) read e = cc

pub schedule_grammar_holds : ScheduleGrammar
schedule_grammar_holds names text schedule = (schedule_told names text schedule (read_by (schedule_grammar names) text) refl, schedule_read names text schedule)

schedule_stops : (names : List (List ℕ)) (text : List ℕ) (fault : LoadFault) (outcome : Result (List ScheduleLine) LoadFault) → read_by (schedule_grammar names) text ≡ outcome
    → schedule_said outcome ≡ Err fault → read_by (schedule_grammar names) text ≡ Err fault
schedule_stops names text fault (Ok said) read e = cc
schedule_stops names text fault (Err own) read e =
    let same : own ≡ fault = cc in
    read ∙ ap Err same

pub schedule_faults : ScheduleFaults
schedule_faults names text fault e =
    let grammar = schedule_grammar names in
    let lines = lines_of text in
    let stop = lines_stop (List ScheduleLine) grammar text fault (schedule_stops names text fault (read_by grammar text) refl e) in (
      stop.0,
      stop.1,
      stop_so (Stand names) (λ ls. (said : List ScheduleLine) × SayWhole grammar ls said) (BeginSchedule names) (λ ls. (schedule : ScheduleOf) × SaySchedule names ls schedule) lines stop.0
          (stand_begun names) (begun_stand names) (λ h. (schedule_lines h.0 h.1.versions, said_schedule names lines h.0 h.1)) stop.2,
    )

-- ---- the numbers of a head

abbrev IsWithin : ℕ → ℕ → Option ℕ → Type 0
IsWithin least most None = Unit {0}
IsWithin least most (Some n) = (least ≤ n) × (n ≤ most)

-- (of the head) the number is within its range
abbrev IsInRange : ScheduleLine → Type 0
IsInRange (Desks n) = (1 ≤ n) × (n ≤ 16)
IsInRange (Workers n) = (1 ≤ n) × (n ≤ 16)
IsInRange (Keys n) = (1 ≤ n) × (n ≤ 256)
IsInRange (Versions n) = (2 ≤ n) × (n ≤ 4)
IsInRange (Event e) = Unit {0}

abbrev InRange : Option ScheduleLine → Type 0
InRange None = Unit {0}
InRange (Some line) = IsInRange line

in_range : (least most n : ℕ) (b : Bool) → (nat_le least n && nat_le n most) ≡ b → IsWithin least most (if b then Some n else None)
in_range least most n true e = let both = and_parts (nat_le least n) (nat_le n most) e in (leb-true least n both.0, leb-true n most both.1)
in_range least most n false e = tt

number_in_range : (least most : ℕ) (number : Option ℕ) → IsWithin least most (option_and_then (if_within least most) number)
number_in_range least most None = tt
number_in_range least most (Some n) = in_range least most n (nat_le least n && nat_le n most) refl

if_in_range : (least most : ℕ) (b : Bool) (number : Option ℕ) → IsWithin least most number → IsWithin least most (if b then number else None)
if_in_range least most true number within = within
if_in_range least most false number within = tt

head_in_range : (word : List ℕ) (least most : ℕ) (words : List (List ℕ)) → IsWithin least most (head_number word least most words)
head_in_range word least most [] = tt
head_in_range word least most (first ∷ []) = tt
head_in_range word least most (first ∷ number ∷ []) = if_in_range least most (bytes_eq first word) (number_within least most number) (number_in_range least most (natural number))
head_in_range word least most (first ∷ second ∷ third ∷ words) = tt

either_in_range : (first second : Option ScheduleLine) → InRange first → InRange second → InRange (option_or first second)
either_in_range None second a b = b
either_in_range (Some line) second a b = a

desks_in_range : (number : Option ℕ) → IsWithin 1 16 number → InRange (option_map Desks number)
desks_in_range None within = tt
desks_in_range (Some n) within = within

workers_in_range : (number : Option ℕ) → IsWithin 1 16 number → InRange (option_map Workers number)
workers_in_range None within = tt
workers_in_range (Some n) within = within

keys_in_range : (number : Option ℕ) → IsWithin 1 256 number → InRange (option_map Keys number)
keys_in_range None within = tt
keys_in_range (Some n) within = within

versions_in_range : (number : Option ℕ) → IsWithin 2 4 number → InRange (option_map Versions number)
versions_in_range None within = tt
versions_in_range (Some n) within = within

event_in_range : (event : Option ScheduledEvent) → InRange (option_map Event event)
event_in_range None = tt
event_in_range (Some e) = tt

line_in_range : (names words : List (List ℕ)) → InRange (schedule_line_of names words)
line_in_range names words =
    let desks = option_map Desks (head_number (codes "desks") 1 16 words) in
    let workers = option_map Workers (head_number (codes "workers") 1 16 words) in
    let keys = option_map Keys (head_number (codes "keys") 1 256 words) in
    let versions = option_map Versions (head_number (codes "versions") 2 4 words) in
    let event = option_map Event (event_of names words) in
    either_in_range desks (option_or workers (option_or keys (option_or versions event))) (desks_in_range (head_number (codes "desks") 1 16 words) (head_in_range (codes "desks") 1 16 words))
    (either_in_range workers (option_or keys (option_or versions event)) (workers_in_range (head_number (codes "workers") 1 16 words) (head_in_range (codes "workers") 1 16 words))
    (either_in_range keys (option_or versions event) (keys_in_range (head_number (codes "keys") 1 256 words) (head_in_range (codes "keys") 1 256 words))
    (either_in_range versions event (versions_in_range (head_number (codes "versions") 2 4 words) (head_in_range (codes "versions") 2 4 words)) (event_in_range (event_of names words)))))

abbrev EachInRange : List (Option ScheduleLine) → Type 0
EachInRange [] = Unit {0}
EachInRange (line ∷ lines) = InRange line × EachInRange lines

told_more : (b : Bool) (own : Option ScheduleLine) (rest : List (Option ScheduleLine)) → InRange own → EachInRange rest → EachInRange ((if b then [] else own ∷ []) ++ rest)
told_more true own rest first each = each
told_more false own rest first each = (first, each)

told_in_range : (names lines : List (List ℕ)) → EachInRange (told_in (line_in names) lines)
told_in_range names [] = tt
told_in_range names (line ∷ lines) =
    told_more (length (words_of line) == 0) (schedule_line_of names (words_of line)) (told_in (line_in names) lines) (line_in_range names (words_of line)) (told_in_range names lines)

-- what a schedule says of its versions is in range, and so are two
versions_sized : (schedule : ScheduleOf) (versions : List ScheduleLine) → AreVersions schedule versions → EachInRange (map Some (versions ++ map Event schedule.events))
    → (2 ≤ schedule.versions) × (schedule.versions ≤ 4)
versions_sized schedule versions (are_told e) each =
    let own : EachInRange (map Some ((Versions schedule.versions ∷ []) ++ map Event schedule.events)) = subst (λ own. EachInRange (map Some (own ++ map Event schedule.events))) e each in
    own.0
versions_sized schedule versions (are_two e same) each = subst (λ n. (2 ≤ n) × (n ≤ 4)) (sym same) (omega arith, omega arith)

-- the numbers of a schedule that lines say
pub said_sized : (names lines : List (List ℕ)) (schedule : ScheduleOf) → SaySchedule names lines schedule → IsSized schedule.desks schedule.workers schedule.keys schedule.versions
said_sized names lines schedule h =
    let each : EachInRange (map Some (schedule_lines schedule h.versions)) = subst EachInRange h.told (told_in_range names lines) in
    let versions = versions_sized schedule h.versions h.are_versions each.1.1.1 in
    record {
      some_desks = each.0.0;
      most_desks = each.0.1;
      some_workers = each.1.0.0;
      most_workers = each.1.0.1;
      some_keys = each.1.1.0.0;
      most_keys = each.1.1.0.1;
      some_versions = versions.0;
      most_versions = versions.1;
    }

-- the numbers that lines say which are read
pub read_sized : (names : List (List ℕ)) (text : List ℕ) (said : List ScheduleLine) → read_by (schedule_grammar names) text ≡ Ok said
    → IsSized (desks_in said) (workers_in said) (keys_in said) (versions_in said)
read_sized names text said read =
    said_sized names (lines_of text) (schedule_from said) (whole_said names (lines_of text) said ((lines_read (List ScheduleLine) (schedule_grammar names) text said).0 read))
