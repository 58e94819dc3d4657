-- A page that is answered without a bookmark.
use Rattle.std.proofs.Common.{◌≡◌, ◌≢◌, refl, sym, ap, subst, ◌∙◌, ℕ, ◌+◌, ◌<◌, ◌≤◌, ⊎_elim, [], length, Bool, true, false, not, Option, Some, None, ◌⊎◌, arith}
use Rattle.std.specs.Prelude.{option_map, nat_le, nat_lt, ◌||◌, ◌&&◌, ◌==◌, if◌then◌else◌}
use Rattle.wh_row.specs.Row.{Row}
use Rattle.wh_store.specs.Pages.{Shown, page_of}
use Rattle.wh_store.specs.Readers.{goes_on}
use Rattle.wh_store.specs.Versions.{is_active, is_unexpired, kept_count, number, table_of, version}
use Rattle.wh_store.specs.Windows.{unexpired}
use Rattle.wh_core.specs.declared.machine.Machine.{Machine}
use Rattle.wh_core.specs.declared.reply.Cause.{Cause}
use Rattle.wh_core.specs.declared.reply.Cause.TheVariants as cause
use Rattle.wh_core.specs.declared.reply.Reply.{Reply}
use Rattle.wh_core.specs.declared.reply.Reply.TheVariants as reply
use Rattle.wh_core.specs.Log.{Log, SessionOf, session}
use Rattle.wh_core.specs.Nights.{Setup, versions}
use Rattle.wh_core.specs.Laws.{IsSetup, VersionsAreContents}
use Rattle.wh_core.specs.Pages.{PagesShowRows, ShowsRows}
use Rattle.wh_core.specs.Replies.{IsLegalLog, IsPageReply, IsRuled, Takes, placed_at, read_ruling, unless}
use Rattle.wh_core.specs.Standing.{Stands}
use Rattle.wh_core.proofs.Deeds.{not_false, through}
use Rattle.wh_core.proofs.Steps.{le_false, onward, refuse}
use Rattle.wh_core.proofs.Seats.{desk, unexpired_here}

same : (n : ℕ) → (n == n) ≡ true
same n = grind arith

-- a read goes on behind the row at which the bookmark is placed
pub goes_on_placed : (view : ℕ) (after : Option Row) (of : SessionOf) → goes_on view (placed_at view after of).bookmark ≡ after
goes_on_placed view None of = refl
goes_on_placed view (Some row) of = ap (λ b. if b then Some row else None) (same view)

module _ (s : Setup) (log : Log) (m : Machine) (h : Stands s log m) (d view limit : ℕ) (after : Option Row) (l : d < length m.seats.items) where
  pub pages : (r : Reply) (of : Option SessionOf) → session log d ≡ of
      → IsRuled (read_ruling s.versions (versions s log) view limit (option_map (placed_at view after) of)) r → IsPageReply s log d view limit after r
  pages r of e k =
      onward (nat_le s.desks d) cause.NoDesk _ r (desk s log m h d l) (subst (λ o. IsRuled (read_ruling s.versions (versions s log) view limit (option_map (placed_at view after) o)) r) (sym e) k)

  module _ (of : SessionOf) (seat : session log d ≡ Some of) (alive : unexpired m.store of.version ≡ true) (there : view < length (version (versions s log) of.version)) where
    -- a page is shown, but for its size
    sized : (r : Reply) → IsRuled (unless ((limit == 0) || nat_lt 256 limit) cause.Limit (Takes (page_of (table_of (versions s log) of.version view) after limit))) r
        → IsPageReply s log d view limit after r
    sized r k = pages r (Some of) seat
        (onward (not (is_unexpired s.versions (number (versions s log)) (is_active (versions s log)) of.version)) (cause.Expired of.version (number (versions s log)) (is_active (versions s log))) _ r
        (ap not (sym (unexpired_here s log m h of.version) ∙ alive))
        (onward (nat_le (length (version (versions s log) of.version)) view) cause.NoView _ r (le_false (length (version (versions s log) of.version)) view there)
        (subst (λ a. IsRuled (unless ((limit == 0) || nat_lt 256 limit) cause.Limit (Takes (page_of (table_of (versions s log) of.version view) a limit))) r) (sym (goes_on_placed view after of)) k)))

    pub page_of_no_size : (limit == 0) || nat_lt 256 limit ≡ true → IsPageReply s log d view limit after (reply.Refused cause.Limit)
    page_of_no_size e = sized (reply.Refused cause.Limit) (refuse ((limit == 0) || nat_lt 256 limit) cause.Limit _ e)

    pub page_shown : (r : Reply) → (limit == 0) || nat_lt 256 limit ≡ false
        → (r ≡ reply.Page (page_of (table_of (versions s log) of.version view) after limit)) ⊎ (((page_of (table_of (versions s log) of.version view) after limit).rows ≢ []) × (r ≡ reply.Refused cause.Memory))
        → IsPageReply s log d view limit after r
    page_shown r e k = sized r (onward ((limit == 0) || nat_lt 256 limit) cause.Limit _ r e k)

-- ---- what a page shows

module _ (s : Setup) (log : Log) (view limit : ℕ) (after : Option Row) (page : Shown) where
  accepted : (why : Cause) → reply.Page page ≢ reply.Refused why
  accepted why e = cc

  shown_in : (of : SessionOf) → IsRuled (read_ruling s.versions (versions s log) view limit (Some (placed_at view after of))) (reply.Page page)
      → (of.version ≤ number (versions s log)) × (page ≡ page_of (table_of (versions s log) of.version view) after limit)
  shown_in of h =
      let a = through (not (is_unexpired s.versions (number (versions s log)) (is_active (versions s log)) of.version)) _ _ (reply.Page page) accepted h in
      let b = through (nat_le (length (version (versions s log) of.version)) view) _ _ (reply.Page page) accepted a.1 in
      let c = through ((limit == 0) || nat_lt 256 limit) _ _ (reply.Page page) accepted b.1 in
      let alive : (nat_le of.version (number (versions s log)) && nat_lt (number (versions s log)) (of.version + kept_count s.versions (is_active (versions s log)))) ≡ true = not_false _ a.0 in (
        at_most of.version (number (versions s log)) _ alive,
        is_page (page_of (table_of (versions s log) of.version view) (goes_on view (placed_at view after of).bookmark) limit) c.1
            ∙ ap (λ row. page_of (table_of (versions s log) of.version view) row limit) (goes_on_placed view after of),
      )
    where
      is_page : (next : Shown) → IsRuled (Takes next) (reply.Page page) → page ≡ next
      is_page next h = ⊎_elim (λ e. (let same : page ≡ next = cc in same)) (λ m. absurd (accepted cause.Memory m.1)) h

      at_most : (a b : ℕ) (other : Bool) → (nat_le a b && other) ≡ true → a ≤ b
      at_most a b other e = by (nat_le a b) refl e
        where
          by : (l : Bool) → nat_le a b ≡ l → (l && other) ≡ true → a ≤ b
          by true e h = grind arith
          by false e h = cc

  shows_rows : VersionsAreContents → IsSetup s → IsLegalLog s log → (d : ℕ) (o : Option SessionOf) → session log d ≡ o
      → IsRuled (read_ruling s.versions (versions s log) view limit (option_map (placed_at view after) o)) (reply.Page page) → ShowsRows s log d view limit after page
  shows_rows are is legal d None sits h = absurd (accepted cause.NoSession h)
  shows_rows are is legal d (Some of) sits h =
      let shown = shown_in of h in
      record { of = of; sits = sits; there = shown.0; contents = are s log of.version is legal shown.0; rows = shown.1 }

pub pages_show : VersionsAreContents → PagesShowRows
pages_show are s log d view limit after page is legal h =
    shows_rows s log view limit after page are is legal d (session log d) refl
    (through (nat_le s.desks d) cause.NoDesk _ (reply.Page page) (accepted s log view limit after page) h).1
