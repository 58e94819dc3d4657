-- What `live` comes to: what only proofs and private contracts use.
use Rattle.std.specs.Prelude.{◌≡◌, ◌≢◌, ◌⊎◌, ℕ, List, [], Option, Some, Ok}
use Rattle.std.specs.Io.KnownBytes.{Appends}
use Rattle.wh_core.specs.Laws.{IsSetup}
use Rattle.wh_opening.specs.OpeningRead.{OpeningOf, opening_of}
use Rattle.wh_row.specs.Bag.{Bag}
use Rattle.wh_text.specs.declared.fault.LoadFault.TheVariants.{Memory}
use Rattle.whview.specs.BundleFiles.{AreFilled}
use Rattle.whview.specs.Inner.BundleFiles.{IsFileFaultShown}
use Rattle.whview.specs.LiveOutput.{IsLiveTold, IsNotOpened, IsTalkTold, IsWithoutContents, setup_of_live, standing_in}
use Rattle.whview.specs.NightOutput.{AreOpened}
use Rattle.whview.specs.Output.{HoldsOfFile, HoldsOfReading, IsAskedOutput, IsFilledAnswer, IsMemoryTold, IsReadAnswer, file_of}
use Rattle.whview.specs.declared.command_line.Asked.{Asked}
use Rattle.whview.specs.declared.command_line.Asked.TheVariants as asked
use Rattle.whview.specs.declared.data_input.DataInput.{DataInput}
use Rattle.whview.specs.declared.files.FileFault.{FileFault}
use Rattle.whview.specs.declared.files.FileFault.TheVariants.{Input}
use Rattle.whview.specs.declared.live_options.LiveOptions.{LiveOptions}

-- some bytes within the limit give this opening
pub record IsOpeningWithin (limit : ℕ) (o : OpeningOf) : Type 0 where
  pub bytes : List ℕ
  pub had : AreFilled limit bytes
  pub read : opening_of bytes ≡ Ok o

-- why an opening could not be had from its files: what shows it is what is printed of some files that do not open
abbrev pub IsFaultOfOpening : ℕ → FileFault → Type 0
IsFaultOfOpening limit fault =
    fault ≢ Input Memory → (text : List ℕ) (status : ℕ) → IsFileFaultShown fault text status
    → HoldsOfFile (λ reading. IsReadAnswer limit reading (λ bundle. IsFilledAnswer limit bundle IsNotOpened) text status)

-- it is written that memory was refused
pub record TellsMemory (before after : Option (List ℕ)) (status : ℕ) : Type 0 where
  pub text : List ℕ
  pub written : Appends before after text
  pub told : IsMemoryTold text status

-- what is written where this was opened: that memory was refused, that the base has no contents, or a talk
pub data IsOpenedAnswer (how : LiveOptions) (o : OpeningOf) (known : Option (List ℕ)) (faults failed : ℕ) (before after : Option (List ℕ)) (status : ℕ) : Type 0 where
  wants_memory : TellsMemory before after status → IsOpenedAnswer how o known faults failed before after status
  no_contents : (text : List ℕ) → Appends before after text → failed ≡ faults → IsWithoutContents o text status → IsOpenedAnswer how o known faults failed before after status
  talks : (tables : List Bag) → AreOpened o.shape o.opening tables → IsSetup (setup_of_live how o tables)
      → IsTalkTold (setup_of_live how o tables) [] (standing_in o) known faults failed before after status → IsOpenedAnswer how o known faults failed before after status

-- what is written where a warehouse is to be opened: that memory was refused, or what `live` comes to
abbrev pub IsLiveAnswer : LiveOptions → ℕ → Option (List ℕ) → ℕ → ℕ → Option (List ℕ) → Option (List ℕ) → ℕ → Type 0
IsLiveAnswer how limit known faults failed before after status = TellsMemory before after status ⊎ IsLiveTold how limit known faults failed before after status

-- the command is `live`, over a machine of this size
abbrev pub IsLiveSo : LiveOptions → Asked → Type 0
IsLiveSo how (asked.Live own input) = own ≡ how
IsLiveSo how command = ⊥

-- what the program comes to for a command that was handed in, and the status
pub data IsAskedAnswer (command : Asked) (known : Option (List ℕ)) (faults failed : ℕ) (before after : Option (List ℕ)) (status : ℕ) : Type 0 where
  once : (text : List ℕ) → Appends before after text → IsMemoryTold text status ⊎ HoldsOfReading known faults failed (λ reading. IsAskedOutput command reading text status)
      → IsAskedAnswer command known faults failed before after status
  by_talk : (how : LiveOptions) (input : DataInput) (path : List ℕ) → command ≡ asked.Live how input → file_of (asked.Live how input) ≡ Some path
      → IsLiveTold how input.limit known faults failed before after status → IsAskedAnswer command known faults failed before after status
