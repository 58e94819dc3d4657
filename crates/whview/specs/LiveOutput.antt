-- What `live` comes to: a warehouse is opened from the bytes of a file, and commands are answered for as long as they come. And what the
-- program comes to for words that were handed in, `live` among them.
use Rattle.std.specs.Prelude.{◌≡◌, ◌<◌, ◌↔◌, ◌⊎◌, ℕ, List, [], Option, Some, codes, Ok, MatchResult}
use Rattle.std.specs.Io.KnownBytes.{Appends}
use Rattle.wh_core.specs.Laws.{IsSetup}
use Rattle.wh_core.specs.Log.{Log}
use Rattle.wh_core.specs.Nights.{Setup}
use Rattle.wh_dialogue.specs.Dialogue.{IsTalk}
use Rattle.wh_dialogue.specs.declared.talking.TalkEnd.{TalkEnd}
use Rattle.wh_dialogue.specs.declared.talking.TalkEnd.TheVariants as ends
use Rattle.wh_maint.specs.Comp.{bag_at}
use Rattle.wh_maint.specs.Definition.{graph_of}
use Rattle.wh_maint.specs.Opening.{HasNoContents}
use Rattle.wh_maint.specs.declared.fault.MaintFault.{MaintFault}
use Rattle.wh_opening.specs.OpeningRead.{OpeningOf, opening_of}
use Rattle.wh_row.specs.Bag.{Bag}
use Rattle.wh_stay.specs.Standing.{StandingOf}
use Rattle.wh_text_catalogue.specs.ReadCatalog.{catalog_of}
use Rattle.whview.specs.BundleFiles.{AreFilled}
use Rattle.whview.specs.CheckOutput.{IsFaultShown, line}
use Rattle.whview.specs.NightOutput.{AreOpened, refused_text}
use Rattle.whview.specs.Output.{AskFor, HoldsOfFile, HoldsOfReading, IsFilledAnswer, IsHandedOutput, IsMemoryTold, IsReadAnswer, file_of}
use Rattle.whview.specs.declared.command_line.Asked.TheVariants as asked
use Rattle.whview.specs.declared.data_input.DataInput.{DataInput}
use Rattle.whview.specs.declared.live_options.LiveOptions.{LiveOptions}

-- ---- what is opened

-- the machine of what was opened, as large as it is asked for, over these contents; no night is given to it yet
abbrev pub setup_of_live : LiveOptions → OpeningOf → List Bag → Setup
setup_of_live how o tables = record {
  catalog = catalog_of o.shape o.opening.views;
  desks = how.desks;
  workers = how.workers;
  versions = how.versions;
  keys = how.page_keys;
  opening = tables;
  nights = [];
}

-- what nights are read over, where this was opened
abbrev pub standing_in : OpeningOf → StandingOf
standing_in o = record { names = o.shape.names; views = o.opening.views; texts = o.opening.texts; strategy = o.strategy }

-- what is printed where the base that was read has no contents, and the status
pub record IsWithoutContents (o : OpeningOf) (text : List ℕ) (status : ℕ) : Type 0 where
  pub fault : MaintFault
  pub none : HasNoContents (graph_of (catalog_of o.shape o.opening.views)) (bag_at o.opening.tables) fault
  pub printed : text ≡ refused_text o.shape.names fault
  pub ended : status ≡ 1

-- what is printed of the bytes of a file that does not open, and the status: their fault, or that the base has no contents
abbrev pub IsNotOpened : List ℕ → List ℕ → ℕ → Type 0
IsNotOpened bytes text status = MatchResult (opening_of bytes) (λ o. IsWithoutContents o text status) (λ fault. IsFaultShown fault text status)

-- ---- a talk

-- what is printed at this end of a talk: nothing where it ended as it was asked to
abbrev pub end_text : TalkEnd → List ℕ
end_text ends.Done = []
end_text ends.Read = line (codes "fault read")
end_text ends.Memory = line (codes "memory")
end_text ends.Write = []

-- the status at this end; where a write failed, there is none
abbrev pub IsEndedWith : TalkEnd → ℕ → Type 0
IsEndedWith ends.Done status = status ≡ 0
IsEndedWith ends.Read status = status ≡ 3
IsEndedWith ends.Memory status = status ≡ 4
IsEndedWith ends.Write status = ⊥

-- What a talk comes to with its end, from this setup, log and standing on, with a reader of which these bytes are known, and which had
-- counted so many failed reads before and so many after. The answers to its commands were written, and behind them what is printed at its
-- end. It ends at a failed read exactly where one failed.
pub record IsTalkTold (s : Setup) (log : Log) (w : StandingOf) (known : Option (List ℕ)) (faults failed : ℕ) (before after : Option (List ℕ)) (status : ℕ) : Type 0 where
  pub end : TalkEnd
  pub middle : Option (List ℕ)
  pub talk : IsTalk s log w known before middle end
  pub read : (end ≡ ends.Read) ↔ (faults < failed)
  pub told : Appends middle after (end_text end)
  pub ended : IsEndedWith end status

-- ---- all of it

-- What `live` comes to over a file of which at most so many bytes are read, with those of the files that it names, and the status. The file
-- does not open, which is printed, and the reader is left as it was. Or it opens, and there is a talk over the contents of its base.
pub data IsLiveTold (how : LiveOptions) (limit : ℕ) (known : Option (List ℕ)) (faults failed : ℕ) (before after : Option (List ℕ)) (status : ℕ) : Type 0 where
  not_opened : (text : List ℕ) → Appends before after text → failed ≡ faults → HoldsOfFile (λ reading. IsReadAnswer limit reading (λ bundle. IsFilledAnswer limit bundle IsNotOpened) text status)
      → IsLiveTold how limit known faults failed before after status
  talked : (bytes : List ℕ) (o : OpeningOf) (tables : List Bag) → AreFilled limit bytes → opening_of bytes ≡ Ok o → AreOpened o.shape o.opening tables
      → IsSetup (setup_of_live how o tables) → IsTalkTold (setup_of_live how o tables) [] (standing_in o) known faults failed before after status
      → IsLiveTold how limit known faults failed before after status

-- What the program comes to for words that were handed in, and the status, with a reader of which these bytes are known, and which had
-- counted so many failed reads before and so many after. There is one answer, or `live` answers commands, as many as come.
pub data IsHandedAnswer (words : List (List ℕ)) (known : Option (List ℕ)) (faults failed : ℕ) (before after : Option (List ℕ)) (status : ℕ) : Type 0 where
  one_answer : (text : List ℕ) → Appends before after text → IsMemoryTold text status ⊎ HoldsOfReading known faults failed (λ reading. IsHandedOutput words reading text status)
      → IsHandedAnswer words known faults failed before after status
  a_talk : (how : LiveOptions) (input : DataInput) (path : List ℕ) → AskFor words (asked.Live how input) → file_of (asked.Live how input) ≡ Some path
      → IsLiveTold how input.limit known faults failed before after status → IsHandedAnswer words known faults failed before after status
