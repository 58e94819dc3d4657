-- A machine with its catalogue and its nights.
use Rattle.std.proofs.Common.{◌≡◌, ◌≢◌, refl, sym, ap, subst, ◌∙◌, ℕ, suc, ◌+◌, ◌-◌, ◌<◌, ◌≤◌, ◌^◌, List, [], ◌∷◌, length, true, false, Some, ⊎_elim, inl, inr, arith}
use Rattle.std.specs.Prelude.{slice_get, slice_index_or, nat_le, ◌==◌}
use Rattle.std.proofs.lemmas.Option.{get_or_from_slice_get}
use Rattle.std.specs.List.{AllByRecursion}
use Rattle.wh_dag.specs.Catalog.{CatalogOf, IsCatalog}
use Rattle.wh_maint.proofs.FromScratch.{catalogs_are_graphs, values_are_tables}
use Rattle.wh_store.specs.Kept.{AreTables}
use Rattle.wh_row.specs.Bag.{Bag, IsTable}
use Rattle.wh_maint.specs.Asked.{AreBags}
use Rattle.wh_maint.specs.Comp.{bag_at}
use Rattle.wh_maint.specs.Contents.{AreContents}
use Rattle.wh_maint.specs.Definition.{graph_of}
use Rattle.wh_maint.specs.declared.fault.MaintFault.{MaintFault}
use Rattle.wh_carry.specs.Refused.{IsBaseFault}
use Rattle.wh_store.specs.Versions.{number, version}
use Rattle.wh_carry.specs.Night.{places_from}
use Rattle.wh_carry.specs.Legs.{carried_up_to, legs_of, turn_of, untouched}
use Rattle.wh_core.specs.declared.event.Event.TheVariants as event
use Rattle.wh_core.specs.declared.machine.Machine.{Machine}
use Rattle.wh_core.specs.declared.reply.Cause.TheVariants as cause
use Rattle.wh_core.specs.declared.reply.Reply.{Reply}
use Rattle.wh_core.specs.declared.reply.Reply.TheVariants as reply
use Rattle.wh_core.specs.Laws.{IsSetup, VersionsAreContents}
use Rattle.wh_core.specs.Log.{Log, is_open, nights_begun}
use Rattle.wh_core.specs.Nights.{GivenNight, Setup, next_night, versions}
use Rattle.wh_core.specs.Replies.{IsLegalLog, IsReply, IsRuled, Starts, cause_of}
use Rattle.wh_core.specs.Standing.{Stands}
use Rattle.wh_core.proofs.Allowed.{allowed_or_memory}
use Rattle.wh_core.proofs.Steps.{le_false, le_true, onward, refuse}
use Rattle.wh_core.proofs.Moves.{not_equal}

equal : (a b : ℕ) → a ≡ b → (a == b) ≡ true
equal a b e = grind arith

-- ---- the next night

module _ (s : Setup) (log : Log) (m : Machine) (h : Stands s log m) where
  pub night_open : is_open log ≡ true → IsReply s log event.Begin (reply.Refused cause.NightOpen)
  night_open o = refuse (is_open log) cause.NightOpen _ o

  pub none_left : is_open log ≡ false → length s.nights ≤ nights_begun log → IsReply s log event.Begin (reply.Refused cause.NoNight)
  none_left o l = onward (is_open log) cause.NightOpen _ _ o (refuse (nat_le (length s.nights) (nights_begun log)) cause.NoNight _ (le_true (length s.nights) (nights_begun log) l))

  pub last_version : is_open log ≡ false → nights_begun log < length s.nights → number (versions s log) + 1 ≡ 2 ^ 64 → IsReply s log event.Begin (reply.Refused cause.LastVersion)
  last_version o l e =
      onward (is_open log) cause.NightOpen _ _ o
      (onward (nat_le (length s.nights) (nights_begun log)) cause.NoNight _ _ (le_false (length s.nights) (nights_begun log) l)
      (refuse (number (versions s log) + 1 == 2 ^ 64) cause.LastVersion _ (equal (number (versions s log) + 1) (2 ^ 64) e)))

  module _ (closed : is_open log ≡ false) (left : nights_begun log < length s.nights) (few : number (versions s log) + 1 ≢ 2 ^ 64) where
    starts : (r : Reply) → IsRuled (Starts (next_night s log) (places_from 0 (carried_up_to (next_night s log) (turn_of (untouched (legs_of (next_night s log)))))) reply.Begun) r → IsReply s log event.Begin r
    starts r how =
        onward (is_open log) cause.NightOpen _ r closed
        (onward (nat_le (length s.nights) (nights_begun log)) cause.NoNight _ r (le_false (length s.nights) (nights_begun log) left)
        (onward (number (versions s log) + 1 == 2 ^ 64) cause.LastVersion _ r (not_equal (number (versions s log) + 1) (2 ^ 64) few) how))

    pub not_begun : (f : MaintFault) → IsBaseFault (next_night s log).catalog (next_night s log).tables (next_night s log).changes f → IsReply s log event.Begin (reply.Refused (cause_of f))
    not_begun f why = starts (reply.Refused (cause_of f)) (inr (f, why, inl refl))

    -- whatever the base changes are, want of memory may be told
    pub begin_wants_memory : IsReply s log event.Begin (reply.Refused cause.Memory)
    begin_wants_memory = starts (reply.Refused cause.Memory) (⊎_elim
        (λ allowed. inl (allowed, inr refl))
        (λ bad. inr (bad.fault, bad.first, ⊎_elim (λ e. inl (ap (λ f. reply.Refused (cause_of f)) (sym e))) (λ large. inr (large, refl)) bad.or_memory))
        (allowed_or_memory (next_night s log).catalog (next_night s log).tables (next_night s log).changes))

-- the newest contents are contents of a base
pub newest_is : (s : Setup) (log : Log) → version (versions s log) (number (versions s log)) ≡ (versions s log).newest
newest_is s log = let e : number (versions s log) - number (versions s log) ≡ 0 = omega arith in ap (λ k. slice_index_or ((versions s log).newest ∷ (versions s log).older) k []) e

pub newest_are : (s : Setup) (log : Log) → VersionsAreContents → IsSetup s → IsLegalLog s log → AreContents (graph_of s.catalog) (bag_at (versions s log).newest) × AreBags s.catalog (versions s log).newest
newest_are s log law is legal =
    subst (λ contents. AreContents (graph_of s.catalog) (bag_at contents) × AreBags s.catalog contents) (newest_is s log) (law s log (number (versions s log)) is legal (omega arith))

-- the night that comes next is the given one, from the newest contents
pub next_is : (s : Setup) (log : Log) (given : GivenNight) → slice_get s.nights (nights_begun log) ≡ Some given
    → next_night s log ≡ record { catalog = s.catalog; list = given.list; tables = bag_at (versions s log).newest; changes = bag_at given.changes; keys = s.keys }
next_is s log given e =
    let f : slice_index_or s.nights (nights_begun log) (record { changes = []; list = [] }) ≡ given = get_or_from_slice_get s.nights (nights_begun log) given (record { changes = []; list = [] }) e in
    ap (λ (g : GivenNight). record { catalog = s.catalog; list = g.list; tables = bag_at (versions s log).newest; changes = bag_at g.changes; keys = s.keys }) f

pub same_night : (s : Setup) (log : Log) (catalog : CatalogOf) (given : GivenNight) (tables changes : List Bag) (keys : ℕ) → catalog ≡ s.catalog → keys ≡ s.keys → tables ≡ (versions s log).newest → changes ≡ given.changes
    → slice_get s.nights (nights_begun log) ≡ Some given → record { catalog = catalog; list = given.list; tables = bag_at tables; changes = bag_at changes; keys = keys } ≡ next_night s log
same_night s log catalog given tables changes keys c k t d e =
    (λ i. record { catalog = c i; list = given.list; tables = bag_at (t i); changes = bag_at (d i); keys = k i }) ∙ sym (next_is s log given e)

-- ---- the opening tables

all_tables : (tables : List Bag) → ((v : ℕ) → IsTable (bag_at tables v)) → AllByRecursion IsTable tables
all_tables [] each = tt
all_tables (t ∷ tables) each = (each 0, all_tables tables (λ v. each (suc v)))

pub opening_tables : (catalog : CatalogOf) (tables : List Bag) → IsCatalog catalog → AreContents (graph_of catalog) (bag_at tables) → AreTables tables
opening_tables catalog tables is are = all_tables tables (values_are_tables (graph_of catalog) (bag_at tables) (catalogs_are_graphs catalog is) are.counts are.values)
