-- Which texts are schedules, and where a text stops being one.
use Rattle.std.specs.Prelude.{◌≡◌, ◌↔◌, ◌++◌, ℕ, List, [], ◌∷◌, map, Some, Ok, Err}
use Rattle.wh_text.specs.declared.fault.LoadFault.{LoadFault}
use Rattle.wh_text.specs.declared.fault.LoadFault.TheVariants.{Schedule as ScheduleFault}
use Rattle.wh_text_lines.specs.LineGrammar.{StopAt}
use Rattle.wh_text_lines.specs.ListedLines.{told_in}
use Rattle.wh_text_lines.specs.ScheduleLine.{line_in}
use Rattle.wh_text_lines.specs.ScheduleText.{ScheduleOf, schedule_of}
use Rattle.wh_text_lines.specs.Words.{lines_of}
use Rattle.wh_text_lines.specs.declared.schedule.line.ScheduleLine.{ScheduleLine}
use Rattle.wh_text_lines.specs.declared.schedule.line.ScheduleLine.TheVariants.{Desks, Workers, Keys, Versions, Event}

-- the lines of a schedule below these of its versions: its desks, its workers, its keys, these, and its events
abbrev pub schedule_lines : ScheduleOf → List ScheduleLine → List ScheduleLine
schedule_lines schedule versions = Desks schedule.desks ∷ Workers schedule.workers ∷ Keys schedule.keys ∷ versions ++ map Event schedule.events

-- what a schedule may say of its versions: how many there are, and nothing where there are two
pub data AreVersions (schedule : ScheduleOf) (versions : List ScheduleLine) : Type 0 where
  are_told : versions ≡ Versions schedule.versions ∷ [] → AreVersions schedule versions
  are_two : versions ≡ [] → schedule.versions ≡ 2 → AreVersions schedule versions

-- the lines with words are those of this schedule
pub record SaySchedule (names : List (List ℕ)) (lines : List (List ℕ)) (schedule : ScheduleOf) : Type 0 where
  pub versions : List ScheduleLine
  pub are_versions : AreVersions schedule versions
  pub told : told_in (line_in names) lines ≡ map Some (schedule_lines schedule versions)

-- the lines with words are the first ones of some schedule
pub record BeginSchedule (names : List (List ℕ)) (lines : List (List ℕ)) : Type 0 where
  pub schedule : ScheduleOf
  pub versions : List ScheduleLine
  pub are_versions : AreVersions schedule versions
  pub first : List ScheduleLine
  pub rest : List ScheduleLine
  pub parts : schedule_lines schedule versions ≡ first ++ rest
  pub told : told_in (line_in names) lines ≡ map Some first

-- a text is read as the schedule that its lines say, and as none where they say none
abbrev pub ScheduleGrammar : Type 0
ScheduleGrammar = (names : List (List ℕ)) (text : List ℕ) (schedule : ScheduleOf) → (schedule_of names text ≡ Ok schedule) ↔ SaySchedule names (lines_of text) schedule

-- a text that is no schedule is at fault at the first line with which its lines no longer begin one, or after the last
abbrev pub ScheduleFaults : Type 0
ScheduleFaults =
    (names : List (List ℕ)) (text : List ℕ) (fault : LoadFault) → schedule_of names text ≡ Err fault →
    (number : ℕ) × (fault ≡ ScheduleFault number) × StopAt (BeginSchedule names) (λ lines. (schedule : ScheduleOf) × SaySchedule names lines schedule) (lines_of text) number
