-- The sessions of the desks.
use Rattle.std.proofs.Common.{◌≡◌, ◌≢◌, refl, sym, ap, subst, ◌∙◌, ℕ, zero, suc, ◌+◌, ◌<◌, ◌≤◌, List, [], ◌∷◌, length, map, Bool, true, false, not, Option, Some, None, ◌⊎◌, inl, inr, arith}
use Rattle.std.specs.Prelude.{is_some, is_none, slice_get, slice_set, slice_index_or, option_map, nat_le, nat_lt, ◌||◌, ◌==◌, if◌then◌else◌}
use Rattle.std.proofs.lemmas.Option.{same_Some, slice_get-map, slice_get_read}
use Rattle.wh_row.specs.Row.{Row}
use Rattle.wh_store.specs.Pages.{Shown, page_of}
use Rattle.wh_store.specs.Versions.{Versions, is_active, is_unexpired, number, table_of, version}
use Rattle.wh_store.specs.Windows.{Window, unexpired}
use Rattle.wh_store.specs.Readers.{bookmark_after, goes_on}
use Rattle.wh_core.specs.declared.event.Event.TheVariants as event
use Rattle.wh_core.specs.declared.machine.Machine.{Machine}
use Rattle.wh_core.specs.declared.reply.Cause.TheVariants as cause
use Rattle.wh_core.specs.declared.reply.Reply.{Reply}
use Rattle.wh_core.specs.declared.reply.Reply.TheVariants as reply
use Rattle.wh_core.specs.declared.session.Seat.{Seat}
use Rattle.wh_core.specs.Log.{Log, SessionOf, Sat_down, Turned, Left, session}
use Rattle.wh_core.specs.Nights.{Setup, versions}
use Rattle.wh_core.specs.Replies.{IsReply, IsRuled, Ruling, Says, Takes, read_ruling, unless}
use Rattle.wh_core.specs.Standing.{Stands, session_of}
use Rattle.wh_core.proofs.Steps.{le_false, onward, refuse}
use Rattle.wh_core.proofs.Moves.{eq_true, slot_set}

map_set : {A B : Type 0} (f : A → B) (xs : List A) (i : ℕ) (x : A) → map f (slice_set xs i x) ≡ slice_set (map f xs) i (f x)
map_set f [] i x = refl
map_set f (y ∷ xs) zero x = refl
map_set f (y ∷ xs) (suc i) x = ap (λ ys. f y ∷ ys) (map_set f xs i x)

pub map_length : {A B : Type 0} (f : A → B) (xs : List A) → length (map f xs) ≡ length xs
map_length f [] = refl
map_length f (x ∷ xs) = ap suc (map_length f xs)

-- a desk's session is set
pub seat_set : (xs : List (Option Seat)) (n d : ℕ) (o : Option Seat) (f : ℕ → Option SessionOf) → d < length xs → ((w : ℕ) → w < n → slice_get (map (option_map session_of) xs) w ≡ Some (f w))
    → (w : ℕ) → w < n → slice_get (map (option_map session_of) (slice_set xs d o)) w ≡ Some (if d == w then option_map session_of o else f w)
seat_set xs n d o f l h w k =
    ap (λ ys. slice_get ys w) (map_set (option_map session_of) xs d o)
    ∙ slot_set (map (option_map session_of) xs) n d (option_map session_of o) f (let e = map_length (option_map session_of) xs in omega (arith, e, l)) h w k

module _ (s : Setup) (log : Log) (m : Machine) (h : Stands s log m) (d : ℕ) (l : d < length m.seats.items) where
  pub seated : (o : Option Seat) → o ≡ slice_index_or m.seats.items d o → session log d ≡ option_map session_of o
  seated o e =
      let inside : d < s.desks = let f = h.desks in omega (arith, f, l) in
      let got : slice_get m.seats.items d ≡ Some o = slice_get_read m.seats.items (length m.seats.items) d o refl l e in
      same_Some (session log d) (option_map session_of o) (sym (h.sessions d inside) ∙ slice_get-map (option_map session_of) m.seats.items d ∙ ap (option_map (option_map session_of)) got)

  pub desk : nat_le s.desks d ≡ false
  desk = le_false s.desks d (let f = h.desks in omega (arith, f, l))

  pub opens : (r : Reply) → IsRuled (unless (is_some (session log d)) cause.SessionOpen (Says (reply.Session (number (versions s log))))) r → IsReply s log (event.Open d) r
  opens r k = onward (nat_le s.desks d) cause.NoDesk _ r desk k

  pub reads : (view limit : ℕ) (r : Reply) (of : Option SessionOf) → session log d ≡ of → IsRuled (read_ruling s.versions (versions s log) view limit of) r → IsReply s log (event.Read d view limit) r
  reads view limit r of e k = onward (nat_le s.desks d) cause.NoDesk _ r desk (subst (λ o. IsRuled (read_ruling s.versions (versions s log) view limit o) r) (sym e) k)

  pub closes : (r : Reply) → IsRuled (unless (is_none (session log d)) cause.NoSession (Says reply.Closed)) r → IsReply s log (event.Close d) r
  closes r k = onward (nat_le s.desks d) cause.NoDesk _ r desk k

-- what a page leaves at the desk that read it
pub turned : (log : Log) (d w view : ℕ) (page : Shown) (of new : SessionOf) → session log d ≡ Some of → new ≡ record { version = of.version; bookmark = bookmark_after view page }
    → (if d == w then Some new else session log w) ≡ session (Turned d view page ∷ log) w
turned log d w view page of new seat is =
    elim (d == w) as (λ b. (d == w) ≡ b → (if b then Some new else session log w) ≡ (if b then option_map (λ (x : SessionOf). record { version = x.version; bookmark = bookmark_after view page }) (session log w) else session log w)) [
      | true ↦ λ e. ap Some is ∙ ap (option_map (λ (x : SessionOf). record { version = x.version; bookmark = bookmark_after view page })) (sym seat ∙ ap (session log) (eq_true d w e))
      | false ↦ λ e. refl
    ] refl

module _ (s : Setup) (log : Log) (m : Machine) (h : Stands s log m) where
  pub unexpired_here : (k : ℕ) → unexpired m.store k ≡ is_unexpired s.versions (number (versions s log)) (is_active (versions s log)) k
  unexpired_here k = ap (λ (w : Window). unexpired w k) h.shows ∙ ap (λ n. is_unexpired n (number (versions s log)) (is_active (versions s log)) k) h.versions

  module _ (d view limit : ℕ) (of : SessionOf) (l : d < length m.seats.items) (seat : session log d ≡ Some of) (alive : unexpired m.store of.version ≡ true) (there : view < length (version (versions s log) of.version)) where
    -- a page is read, but for its size
    sized : (r : Reply) → IsRuled (unless ((limit == 0) || nat_lt 256 limit) cause.Limit (Takes (page_of (table_of (versions s log) of.version view) (goes_on view of.bookmark) limit))) r
        → IsReply s log (event.Read d view limit) r
    sized r k = reads s log m h d l view limit r (Some of) seat
        (onward (not (is_unexpired s.versions (number (versions s log)) (is_active (versions s log)) of.version)) (cause.Expired of.version (number (versions s log)) (is_active (versions s log))) _ r (ap not (sym (unexpired_here of.version) ∙ alive))
        (onward (nat_le (length (version (versions s log) of.version)) view) cause.NoView _ r (le_false (length (version (versions s log) of.version)) view there) k))

    pub wrong_limit : (limit == 0) || nat_lt 256 limit ≡ true → IsReply s log (event.Read d view limit) (reply.Refused cause.Limit)
    wrong_limit e = sized (reply.Refused cause.Limit) (refuse ((limit == 0) || nat_lt 256 limit) cause.Limit _ e)

    pub shown : (r : Reply) → (limit == 0) || nat_lt 256 limit ≡ false → (r ≡ reply.Page (page_of (table_of (versions s log) of.version view) (goes_on view of.bookmark) limit)) ⊎ (((page_of (table_of (versions s log) of.version view) (goes_on view of.bookmark) limit).rows ≢ []) × (r ≡ reply.Refused cause.Memory))
        → IsReply s log (event.Read d view limit) r
    shown r e k = sized r (onward ((limit == 0) || nat_lt 256 limit) cause.Limit _ r e k)
