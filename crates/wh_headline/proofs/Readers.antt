-- What the calls of a reader leave: its desk's session, and where in it the reader goes on.
use Rattle.std.proofs.Common.{◌≡◌, ℕ, ℤ, ◌-◌, [], true, false, cond, Option, Some, None, length, refl, sym, ap, subst, ◌∙◌}
use Rattle.std.specs.Prelude.{option_map, slice_get}
use Rattle.std.proofs.lemmas.List.{append-nil}
use Rattle.std.proofs.lemmas.Option.{same_Some}
use Rattle.wh_row.specs.Row.{Row}
use Rattle.wh_store.specs.Pages.{Shown}
use Rattle.wh_store.specs.Readers.{Bookmark, bookmark_after}
use Rattle.wh_desk.specs.Desks.{Grows, OpensAt, Reads, Sitting}
use Rattle.wh_desk.proofs.Telling.{grows_on}
use Rattle.wh_headline.specs.RunningNights.{IsServed, comes, opens, reads, stays, turns_back}

-- the desk was given this page of a view in a session of the version that its session has, and the page left this bookmark
pub record WasGiven (here : Sitting) (mark : Bookmark) : Type 0 where
  pub asked : Sitting
  pub given : Sitting
  pub row : Option Row
  pub limit : ℕ
  pub page : Shown
  pub reads : Reads asked given mark.view row limit page
  pub same_version : here.session ≡ given.session
  pub left : bookmark_after mark.view page ≡ Some mark
  pub grows : Grows given here

-- the desk's session was opened at a version that was current in what the desk saw then, and a page of it has left the bookmark
pub record IsReader (mark : Option Bookmark) (here : Sitting) : Type 0 where
  pub opened : (v : ℕ) → here.session ≡ Some v → (first : Sitting) × (last : Sitting) × OpensAt first last v × Grows last here
  pub stands : (at : Bookmark) → mark ≡ Some at → WasGiven here at

grows_self : (t : Sitting) → Grows t t
grows_self t = (refl, refl, ([], append-nil t.list))

no_reader : (here : Sitting) → here.session ≡ None → IsReader None here
no_reader here none = record { opened = λ v e. absurd (cc (none, e)); stands = λ at e. cc }

-- it goes on where all that it saw stays, with its session
goes_on_reading : (mark : Option Bookmark) (t u : Sitting) → IsReader mark t → Grows t u → u.session ≡ t.session → IsReader mark u
goes_on_reading mark t u is grows same = record {
  opened = λ v e. (let o = is.opened v (sym same ∙ e) in (o.0, o.1, o.2, grows_on o.1 t u o.3 grows));
  stands = λ at e. (
      let g = is.stands at e in
      record {
        asked = g.asked;
        given = g.given;
        row = g.row;
        limit = g.limit;
        page = g.page;
        reads = g.reads;
        same_version = same ∙ g.same_version;
        left = g.left;
        grows = grows_on g.given t u g.grows grows;
      });
}

opens_reading : (t u : Sitting) (v : ℕ) → OpensAt t u v → IsReader None u
opens_reading t u v is = record {
  opened = λ k e. (
      let same : v ≡ k = same_Some v k (sym is.2 ∙ e) in
      (t, u, subst (OpensAt t u) same is, grows_self u));
  stands = λ at e. cc;
}

-- the bookmark that a page of a view leaves is of the view
mark_view : (view : ℕ) (page : Shown) (at : Bookmark) → bookmark_after view page ≡ Some at → view ≡ at.view
mark_view view page at e =
    elim page.last as (λ b. cond b None (option_map (λ p. record { view = view; row = p.0 }) (slice_get page.rows (length page.rows - 1))) ≡ Some at → view ≡ at.view) [
      | true ↦ λ f. cc
      | false ↦ λ f. of_row (slice_get page.rows (length page.rows - 1)) f
    ] e
  where
    of_row : (o : Option (Row × ℤ)) → option_map (λ p. record { view = view; row = p.0 }) o ≡ Some at → view ≡ at.view
    of_row None f = cc
    of_row (Some p) f = ap (λ (m : Bookmark). m.view) (same_Some (record { view = view; row = p.0 }) at f)

reads_on : (mark : Option Bookmark) (t u : Sitting) (view limit : ℕ) (row : Option Row) (page : Shown) → IsReader mark t → Reads t u view row limit page → IsReader (bookmark_after view page) u
reads_on mark t u view limit row page is given = record {
  opened = (goes_on_reading mark t u is given.1.0.0 (given.1.2 ∙ sym given.1.1)).opened;
  stands = λ at e. (
      let here : view ≡ at.view = mark_view view page at e in
      record {
        asked = t;
        given = u;
        row = row;
        limit = limit;
        page = page;
        reads = subst (λ k. Reads t u k row limit page) here given;
        same_version = refl;
        left = subst (λ k. bookmark_after k page ≡ Some at) here e;
        grows = grows_self u;
      });
}

pub is_reader : (here : Sitting) (mark : Option Bookmark) → IsServed here mark → IsReader mark here
is_reader _ _ (comes t none) = no_reader t none
is_reader _ _ (opens t u v at) = opens_reading t u v at
is_reader _ _ (reads t u mark view limit row page is given) = reads_on mark t u view limit row page (is_reader t mark is) given
is_reader _ _ (stays t u mark is grows same) = goes_on_reading mark t u (is_reader t mark is) grows same
is_reader _ _ (turns_back t mark is) = record { opened = (is_reader t mark is).opened; stands = λ at e. cc }
