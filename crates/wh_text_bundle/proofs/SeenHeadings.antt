-- How one more part changes which headings stand above.
use Rattle.std.proofs.Common.{◌≡◌, ◌+◌, ◌-◌, ◌≤◌, ◌||◌, ℕ, Bool, true, false, cond, not, List, [], ◌∷◌, ◌++◌, length, Some, option_map, unwrap_or, refl, ap, sym, ◌∙◌, arith, length-append}
use Rattle.std.specs.List.{list_any, after_last, suffix_len}
use Rattle.std.specs.Str.{bytes_eq}
use Rattle.std.specs.Borrow.{Bor}
use Rattle.std.specs.BTreeSet.{BTreeSet, UpdatesBy, IsEmpty}
use Rattle.std.specs.Ordering.{nat_cmp, is_eq}
use Rattle.std.specs.Cmp.Lexicographic.{slice_cmp}
use Rattle.std.proofs.lemmas.Bool.{false_from_ne_true}
use Rattle.std.proofs.lemmas.Bool.Decides.{same_from_decides}
use Rattle.std.proofs.lemmas.Option.{same_Some}
use Rattle.std.proofs.lemmas.Slice.Eq.{bytes_eq-Decides}
use Rattle.std.proofs.lemmas.List.{reverse-append, drop_all, drop-append-le}
use Rattle.std.proofs.lemmas.List.Folds.{list_any-append}
use Rattle.std.proofs.lemmas.List.Sums.{suffix_len-le-length}
use Rattle.std.proofs.lemmas.Map.Text.{is_eq-slice_cmp}
use Rattle.wh_text_bundle.specs.Cut.{RawPart}
use Rattle.wh_text_bundle.specs.Heading.{heading_of, scope_of, is_night}
use Rattle.wh_text_bundle.specs.Bundle.{tonight, is_headed, opens_night, text_of_heading}
use Rattle.wh_text_bundle.specs.Seen.{has_text, Recalls}
use Rattle.wh_text_bundle.specs.declared.bundle.heading.Heading.{Heading}
use Rattle.wh_text_bundle.specs.declared.bundle.heading.Heading.TheVariants.{Catalogue, Sizes, Strategy, Plan, Schedule, Night, Data, Changes}
use Rattle.wh_text_bundle.specs.declared.bundle.heading.Scope.{Scope}
use Rattle.wh_text_bundle.specs.declared.bundle.heading.Scope.TheVariants as scope
use Rattle.wh_text_bundle.specs.declared.bundle.seen.Seen.{Seen}

after_last-push : {X : Type 0} (p : X → Bool) (xs : List X) (x : X) (t : Bool) → p x ≡ t → after_last p (xs ++ x ∷ []) ≡ cond t [] (after_last p xs ++ x ∷ [])
after_last-push p xs x true e =
    rw (reverse-append xs (x ∷ []), e) (drop_all (length (xs ++ x ∷ []) - 0) (xs ++ x ∷ []) (omega arith))
after_last-push p xs x false e =
    let n = suffix_len (λ y. not (p y)) xs in
    let le : n ≤ length xs = suffix_len-le-length (λ y. not (p y)) xs in
    let same : length (xs ++ x ∷ []) - (1 + n) ≡ length xs - n = omega (arith, length-append xs (x ∷ [])) in
    rw (reverse-append xs (x ∷ []), e, same) (drop-append-le (length xs - n) xs (x ∷ []) (omega arith))

-- the scope of a `@night`
is_any : Scope → Bool
is_any scope.Any = true
is_any scope.Bundle = false
is_any scope.Night = false

is_night-scope : (h : Heading) → is_night h ≡ is_any (scope_of h)
unfolding is_any
is_night-scope Catalogue = refl
is_night-scope Sizes = refl
is_night-scope Strategy = refl
is_night-scope Plan = refl
is_night-scope Schedule = refl
is_night-scope Night = refl
is_night-scope (Data name) = refl
is_night-scope (Changes name) = refl

opens_night-scope : (part : RawPart) (text : List ℕ) (h : Heading) (s : Scope) → text_of_heading part ≡ text → heading_of text ≡ Some h → scope_of h ≡ s → opens_night part ≡ is_any s
opens_night-scope part text h s same is scoped =
    ap (λ t. unwrap_or (option_map is_night (heading_of t)) false) same ∙ ap (λ o. unwrap_or (option_map is_night o) false) is ∙ is_night-scope h ∙ ap is_any scoped

-- texts of two scopes differ
apart : (t text : List ℕ) (h : Heading) (a b : Scope) → heading_of text ≡ Some h → scope_of h ≡ a → option_map scope_of (heading_of t) ≡ Some b → (a ≡ b → ⊥) → bytes_eq t text ≡ false
apart t text h a b is scoped other differ =
    false_from_ne_true (bytes_eq t text) (λ e.
    let same : t ≡ text = (bytes_eq-Decides t text).0 e in
    differ (same_Some a b (sym (ap Some scoped) ∙ sym (ap (option_map scope_of) is) ∙ ap (λ w. option_map scope_of (heading_of w)) (sym same) ∙ other)))

bytes_eq-sym : (xs ys : List ℕ) → bytes_eq xs ys ≡ bytes_eq ys xs
bytes_eq-sym xs ys =
    let back = bytes_eq-Decides ys xs in
    same_from_decides (bytes_eq xs ys) (bytes_eq ys xs) (bytes_eq-Decides xs ys) (λ e. sym (back.0 e), λ e. back.1 (sym e))

or_from_cond : (a b : Bool) → cond a true b ≡ (b || a)
or_from_cond true true = refl
or_from_cond true false = refl
or_from_cond false true = refl
or_from_cond false false = refl

or_false : (b : Bool) → (b || false) ≡ b
or_false true = refl
or_false false = refl

-- a text more in a set
pub has_text-updates : (text : List ℕ) (old new : BTreeSet (Bor (List ℕ))) → UpdatesBy (λ x y. slice_cmp nat_cmp x.now y.now) (λ k. slice_cmp nat_cmp text k.now) old new true
    → (t : List ℕ) → has_text new t ≡ (has_text old t || bytes_eq t text)
has_text-updates text old new updates t =
    updates.0 (record { ref_ptr = (0, 0); now = t }) ∙ or_from_cond (is_eq (slice_cmp nat_cmp text t)) (has_text old t)
    ∙ ap (λ r. has_text old t || r) (is_eq-slice_cmp text t ∙ bytes_eq-sym text t)

-- a part more
list_any-headed : (t text : List ℕ) (above : List RawPart) (part : RawPart) → text_of_heading part ≡ text → list_any (is_headed t) (above ++ part ∷ []) ≡ (list_any (is_headed t) above || bytes_eq t text)
list_any-headed t text above part same =
    list_any-append (is_headed t) above (part ∷ []) ∙ ap (λ r. list_any (is_headed t) above || r) (or_false (is_headed t part) ∙ ap (bytes_eq t) same)

list_any-headed_other : (t text : List ℕ) (above : List RawPart) (part : RawPart) → text_of_heading part ≡ text → bytes_eq t text ≡ false → list_any (is_headed t) (above ++ part ∷ []) ≡ list_any (is_headed t) above
list_any-headed_other t text above part same other =
    list_any-headed t text above part same ∙ ap (λ r. list_any (is_headed t) above || r) other ∙ or_false (list_any (is_headed t) above)

module _ (seen : Seen) (above : List RawPart) (part : RawPart) (text : List ℕ) (h : Heading) (same : text_of_heading part ≡ text) (is : heading_of text ≡ Some h) (recalls : Recalls seen above) where
  tonight-same : (s : Scope) → scope_of h ≡ s → is_any s ≡ false → tonight (above ++ part ∷ []) ≡ tonight above ++ part ∷ []
  tonight-same s scoped no_night = after_last-push opens_night above part false (opens_night-scope part text h s same is scoped ∙ no_night)

  -- after a heading that may stand once in the bundle
  pub Recalls-bundle : (set : BTreeSet (Bor (List ℕ))) → scope_of h ≡ scope.Bundle → ((t : List ℕ) → has_text set t ≡ (has_text seen.bundle t || bytes_eq t text)) → Recalls (record { bundle = set; night = seen.night }) (above ++ part ∷ [])
  unfolding is_any
  Recalls-bundle set scoped more = record {
    bundle = λ t of. more t ∙ ap (λ r. r || bytes_eq t text) (recalls.bundle t of) ∙ sym (list_any-headed t text above part same);
    night = λ t of.
        recalls.night t of
        ∙ sym (ap (list_any (is_headed t)) (tonight-same scope.Bundle scoped refl) ∙ list_any-headed_other t text (tonight above) part same (apart t text h scope.Bundle scope.Night is scoped of (λ e. cc)));
  }

  -- after a heading that may stand once in the night
  pub Recalls-night : (set : BTreeSet (Bor (List ℕ))) → scope_of h ≡ scope.Night → ((t : List ℕ) → has_text set t ≡ (has_text seen.night t || bytes_eq t text)) → Recalls (record { bundle = seen.bundle; night = set }) (above ++ part ∷ [])
  unfolding is_any
  Recalls-night set scoped more = record {
    bundle = λ t of. recalls.bundle t of ∙ sym (list_any-headed_other t text above part same (apart t text h scope.Night scope.Bundle is scoped of (λ e. cc)));
    night = λ t of.
        more t ∙ ap (λ r. r || bytes_eq t text) (recalls.night t of)
        ∙ sym (ap (list_any (is_headed t)) (tonight-same scope.Night scoped refl) ∙ list_any-headed t text (tonight above) part same);
  }

  -- after a heading that opens a night
  pub Recalls-opened : (set : BTreeSet (Bor (List ℕ))) → scope_of h ≡ scope.Any → IsEmpty set → Recalls (record { bundle = seen.bundle; night = set }) (above ++ part ∷ [])
  unfolding is_any
  Recalls-opened set scoped empty = record {
    bundle = λ t of. recalls.bundle t of ∙ sym (list_any-headed_other t text above part same (apart t text h scope.Any scope.Bundle is scoped of (λ e. cc)));
    night = λ t of.
        ap (list_any (λ k. is_eq (slice_cmp nat_cmp t k.now))) empty
        ∙ sym (ap (list_any (is_headed t)) (after_last-push opens_night above part true (opens_night-scope part text h scope.Any same is scoped)));
  }
