-- The tables that a machine keeps, after an event more.
use Rattle.std.proofs.Common.{◌≡◌, refl, sym, ap, subst, ◌∙◌, ℕ, zero, suc, ◌<◌, List, [], ◌∷◌, length, arith, true, false, Option, Some, None}
use Rattle.std.specs.Prelude.{MatchOption, slice_get, slice_index_or}
use Rattle.std.specs.Global.{Vec}
use Rattle.std.proofs.lemmas.Bool.{false≢true}
use Rattle.std.proofs.lemmas.List.{ext_get_or}
use Rattle.wh_row.specs.Bag.{Bag, empty}
use Rattle.wh_store.specs.Laws.{VersionsStay}
use Rattle.wh_store.specs.Operations.{Operation}
use Rattle.wh_store.specs.Pages.{Contents}
use Rattle.wh_store.specs.Versions.{versions_of}
use Rattle.wh_store.specs.Windows.{Shows}
use Rattle.wh_carry.specs.Course.{IsEnd}
use Rattle.wh_carry.specs.Legs.{Over}
use Rattle.wh_carry.specs.NightLaws.{HaveTables}
use Rattle.wh_core.specs.declared.machine.Machine.{Machine}
use Rattle.wh_core.specs.Laws.{IsSetup}
use Rattle.wh_core.specs.Log.{Log, Committed, Paged_in, is_open}
use Rattle.wh_core.specs.Nights.{Setup, night, published, turn, versions}
use Rattle.wh_core.specs.Replies.{IsLegalLog}
use Rattle.wh_core.specs.Standing.{KeepsTables, Stands}
use Rattle.wh_core.proofs.Sound.{commits_end}
use Rattle.wh_core.proofs.Underway.{night-paged}

-- there are as many tables, and each is the same
same_tables : (a b : List Bag) (views : ℕ) (tables : ℕ → Bag) → HaveTables a views tables → HaveTables b views tables → a ≡ b
same_tables a b views tables left right =
    ext_get_or empty a b (left.each ∙ sym right.each) (λ v l. let within : v < views = subst (λ n. v < n) left.each l in left.are v within ∙ sym (right.are v within))

pub read_there : {A : Type 0} (xs : List A) (i : ℕ) (d : A) → i < length xs → slice_get xs i ≡ Some (slice_index_or xs i d)
read_there [] i d l = absurd (omega arith)
read_there (x ∷ xs) zero d l = refl
read_there (x ∷ xs) (suc i) d l = read_there xs i d (omega arith)

module _ (s : Setup) (log : Log) where
  -- a night is open that ends with these
  pub keeps_end : (last : Option (Vec Bag)) → is_open log ≡ true → IsEnd (night s log) last → KeepsTables s log last
  keeps_end None opened end = tt
  keeps_end (Some tables) opened end = (λ shut. absurd (false≢true (sym shut ∙ opened)), λ _. end)

  -- tables that were taken, where none is open: those that were kept, or what the store shows
  pub taken_newest : (m : Machine) → Stands s log m → is_open log ≡ false → (tables : Vec Bag)
      → MatchOption m.tables ((opening : Contents) (ops : List Operation) → Shows m.store opening ops → tables.items ≡ (versions_of opening ops).newest) (λ own. tables ≡ own) → tables.items ≡ (versions s log).newest
  taken_newest m h shut tables is = by m.tables h.tables is
    where
      by : (kept : Option (Vec Bag)) → KeepsTables s log kept
          → MatchOption kept ((opening : Contents) (ops : List Operation) → Shows m.store opening ops → tables.items ≡ (versions_of opening ops).newest) (λ own. tables ≡ own) → tables.items ≡ (versions s log).newest
      by None keeps is = is s.opening (published s log) h.shows
      by (Some own) keeps is = ap (λ (v : Vec Bag). v.items) is ∙ keeps.0 shut

  -- no others than these are new
  pub stands_with : (m : Machine) (kept : Option (Vec Bag)) → Stands s log m → KeepsTables s log kept → Stands s log (record m { tables = kept })
  stands_with m kept h keeps = record {
    legal = h.legal;
    shows = h.shows;
    versions = h.versions;
    tables = keeps;
    desks = h.desks;
    sessions = h.sessions;
    workers = h.workers;
    holders = h.holders;
    night = h.night;
    put = h.put;
  }

  -- none is open, and these are the newest contents
  pub keeps_newest : (tables : Vec Bag) → is_open log ≡ false → tables.items ≡ (versions s log).newest → KeepsTables s log (Some tables)
  keeps_newest tables shut newest = (λ _. newest, λ opened. absurd (false≢true (sym shut ∙ opened)))

  pub keeps_paged : (kept : Option (Vec Bag)) → is_open log ≡ true → KeepsTables s log kept → KeepsTables s (Paged_in ∷ log) kept
  keeps_paged None opened keeps = tt
  keeps_paged (Some tables) opened keeps = (
    λ shut. absurd (false≢true (sym shut ∙ opened)),
    λ _. subst (λ n. IsEnd n (Some tables)) (sym (night-paged s log)) (keeps.1 opened),
  )

  pub keeps_committed : VersionsStay → IsSetup s → IsLegalLog s log → is_open log ≡ true → turn s log ≡ Over → (kept : Option (Vec Bag)) → KeepsTables s log kept → KeepsTables s (Committed ∷ log) kept
  keeps_committed stay setup legal opened over None keeps = tt
  keeps_committed stay setup legal opened over (Some tables) keeps = (
    λ _. same_tables tables.items (versions s (Committed ∷ log)).newest _ _ (keeps.1 opened) (commits_end stay s log setup legal opened over),
    λ e. absurd (false≢true e),
  )
