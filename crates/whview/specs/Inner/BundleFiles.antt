-- A bundle that is read from a file, and the files that its headings name: what only proofs and private contracts use.
use Rattle.std.specs.Prelude.{◌≡◌, ◌<◌, ◌≤◌, ◌++◌, ◌⊎◌, ℕ, List, length, Option, IfSome}
use Rattle.wh_text.specs.declared.fault.LoadFault.{LoadFault}
use Rattle.wh_text.specs.declared.fault.LoadFault.TheVariants as fault
use Rattle.wh_text_bundle.specs.Files.{filed_bytes, filled}
use Rattle.wh_text_bundle.specs.declared.read.ReadFault.{ReadFault}
use Rattle.wh_text_bundle.specs.declared.read.ReadFault.TheVariants as read
use Rattle.whview.specs.BundleFiles.{AreOfItsFiles, NamesFile}
use Rattle.whview.specs.CheckOutput.{IsFaultShown}
use Rattle.whview.specs.Output.{IsNamedUnread}
use Rattle.whview.specs.declared.files.FileFault.{FileFault}
use Rattle.whview.specs.declared.files.FileFault.TheVariants.{Input, Named}

-- this holds of bytes that a reader may have of which these are known
abbrev pub HoldsOfSome : Option (List ℕ) → (List ℕ → Type 0) → Type 0
HoldsOfSome known P = (bytes : List ℕ) × IfSome known (λ all. bytes ≡ all) × P bytes

-- the bytes of a part are longer than the limit, behind those that are there, with the lines of some file
abbrev pub IsLongPart : ℕ → List ℕ → List ℕ → List ℕ → Type 0
IsLongPart limit done heading file = limit < length (done ++ filed_bytes heading file)

-- a file that a bundle names by this path cannot be read, or memory was refused
abbrev pub IsNamedFault : List ℕ → FileFault → Type 0
IsNamedFault path (Named own) = own.items ≡ path
IsNamedFault path (Input f) = f ≡ fault.Memory

-- the fault where this came of the file that a bundle names by this path
abbrev pub IsFaultOf : ReadFault → List ℕ → FileFault → Type 0
IsFaultOf read.Read path f = IsNamedFault path f
IsFaultOf read.TooLong path f = f ≡ Input fault.TooLong
IsFaultOf read.Memory path f = f ≡ Input fault.Memory

-- why a file could not be read up to a limit
abbrev pub IsUnread : LoadFault → Type 0
IsUnread f = (f ≡ fault.Read) ⊎ ((f ≡ fault.TooLong) ⊎ (f ≡ fault.Memory))

-- why a bundle's own file could not be
abbrev pub IsOwnFault : FileFault → Type 0
IsOwnFault (Named path) = ⊥
IsOwnFault (Input f) = IsUnread f

-- why a part could not be put behind the bytes that are there
abbrev pub IsPartFault : ℕ → List ℕ → List ℕ → List ℕ → FileFault → Type 0
IsPartFault limit done heading path (Named own) = own.items ≡ path
IsPartFault limit done heading path (Input f) = (f ≡ fault.Memory) ⊎ ((f ≡ fault.TooLong) × ((file : List ℕ) × IsLongPart limit done heading file))

-- a bundle is longer than the limit with the lines of some files in their places
pub record IsLongFilled (limit : ℕ) (bundle : List ℕ) : Type 0 where
  pub files : List (List ℕ)
  pub of : AreOfItsFiles bundle files
  pub long : limit < length (filled bundle files)

-- why the lines of its files could not be put into this bundle
abbrev pub IsFillingFault : ℕ → List ℕ → FileFault → Type 0
IsFillingFault limit bundle (Named path) = NamesFile bundle path.items
IsFillingFault limit bundle (Input f) = (f ≡ fault.Memory) ⊎ ((f ≡ fault.TooLong) × IsLongFilled limit bundle)

-- why a bundle could not be had from its files: of the bundle nothing is known but that it may be read, and what it names then
abbrev pub IsBundleFault : ℕ → FileFault → Type 0
IsBundleFault limit (Named path) = (bundle : List ℕ) × (length bundle ≤ limit) × NamesFile bundle path.items
IsBundleFault limit (Input f) = IsUnread f

-- what is printed of a fault of a bundle's files, and the status
abbrev pub IsFileFaultShown : FileFault → List ℕ → ℕ → Type 0
IsFileFaultShown (Input f) text status = IsFaultShown f text status
IsFileFaultShown (Named path) text status = IsNamedUnread path.items text status
