-- Rows that are brought into a map, and noted.
use Rattle.std.proofs.Common.{◌≡◌, refl, sym, ap, subst, ◌∙◌, List, [], ◌∷◌, ◌++◌, true, false, cond, Option, Some, None, append_assoc, append-nil}
use Rattle.wh_pieces.specs.Row.{Row, is_row}
use Rattle.wh_pieces.specs.Place.{AreRisingRows}
use Rattle.wh_pieces.specs.Pieces.{found}
use Rattle.wh_pieces.specs.Inner.Merged.{lacking, either, without, entry_of}
use Rattle.wh_pieces.proofs.RowLaws.{same_row}
use Rattle.wh_pieces.proofs.MergeLaws.{rising-but}
use Rattle.wh_pieces.proofs.BringLaws.{found-append, found_first}

either_none : {T : Type 0} (o : Option T) → either o None ≡ o
either_none None = refl
either_none (Some v) = refl

-- ---- one row

module _ {T : Type 0} (row : Row) (value : T) (old : List (Row × T)) (q : Row) where
  -- the row stood there, and has its value again
  pub here_kept : (now : Option T) (s : T) → found row old ≡ Some s → now ≡ cond (is_row q row) (Some s) (found q old) → now ≡ either (found q old) (cond (is_row q row) (Some value) None)
  here_kept now s stood e = e ∙ elim (is_row q row) as (λ t. is_row q row ≡ t → cond t (Some s) (found q old) ≡ either (found q old) (cond t (Some value) None)) [
    | true ↦ λ t.
        let there : found q old ≡ Some s = ap (λ x. found x old) (same_row q row t) ∙ stood in
        sym (ap (λ x. either x (Some value)) there)
    | false ↦ λ t. sym (either_none (found q old))
  ] refl

  -- it was new
  pub here_new : (now : Option T) → found row old ≡ None → now ≡ cond (is_row q row) (Some value) (found q old) → now ≡ either (found q old) (cond (is_row q row) (Some value) None)
  here_new now none e = e ∙ elim (is_row q row) as (λ t. is_row q row ≡ t → cond t (Some value) (found q old) ≡ either (found q old) (cond t (Some value) None)) [
    | true ↦ λ t.
        let gone : found q old ≡ None = ap (λ x. found x old) (same_row q row t) ∙ none in
        sym (ap (λ x. either x (Some value)) gone)
    | false ↦ λ t. sym (either_none (found q old))
  ] refl

  -- it was new, and is gone again
  pub here_gone : (now between : Option T) → found row old ≡ None → between ≡ cond (is_row q row) (Some value) (found q old) → now ≡ cond (is_row q row) None between → now ≡ found q old
  here_gone now between none b e = e ∙ ap (cond (is_row q row) None) b ∙ elim (is_row q row) as (λ t. is_row q row ≡ t → cond t None (cond t (Some value) (found q old)) ≡ found q old) [
    | true ↦ λ t. sym (ap (λ x. found x old) (same_row q row t) ∙ none)
    | false ↦ λ t. refl
  ] refl

-- ---- row after row

pub record IsNoting {T : Type 0} (old other now noted rest : List (Row × T)) : Type 0 where
  pub here : (q : Row) → found q now ≡ either (found q old) (found q noted)
  pub so_far : (q : Row) → either (found q noted) (lacking (found q old) (found q rest)) ≡ lacking (found q old) (found q other)
  pub rising : AreRisingRows (noted ++ rest)
  pub part : (q : Row) → found q other ≡ None → found q rest ≡ None

found_entry : {T : Type 0} (q row : Row) (x : Option T) → found q (entry_of row x) ≡ cond (is_row q row) x None
found_entry {T} q row None = elim (is_row q row) as (λ t. none ≡ cond t none none) [ true ↦ refl | false ↦ refl ]
  where
    none : Option T
    none = None
found_entry q row (Some v) = refl

either_more : {T : Type 0} (o b : Option T) (v : T) → either (either o b) (Some v) ≡ either o (either b (lacking (either o b) (Some v)))
either_more (Some w) b v = refl
either_more None (Some w) v = refl
either_more None None v = refl

either_nothing : {T : Type 0} (o b : Option T) → either (either o b) None ≡ either o (either b None)
either_nothing (Some w) b = refl
either_nothing None b = refl

lacking_more : {T : Type 0} (o b x : Option T) (v : T) → either (either b (lacking (either o b) (Some v))) (lacking o x) ≡ either b (lacking o (Some v))
lacking_more (Some w) (Some u) x v = refl
lacking_more (Some w) None x v = refl
lacking_more None (Some u) x v = refl
lacking_more None None x v = refl

part_of : {T : Type 0} (e : Row × T) (rest : List (Row × T)) (q : Row) → found q (e ∷ rest) ≡ None → found q rest ≡ None
part_of e rest q = elim (is_row q e.0) as (λ t. cond t (Some e.1) (found q rest) ≡ None → found q rest ≡ None) [
  | true ↦ λ f. absurd (let bad : Some e.1 ≡ None = f in cc)
  | false ↦ λ f. f
]

not_here : {T : Type 0} (o b : Option T) → either o b ≡ None → o ≡ None
not_here None b h = refl
not_here (Some v) b h = absurd (let bad : Some v ≡ None = h in cc)

back : {T : Type 0} (o b x t n : Option T) → n ≡ either o b → either b x ≡ lacking o t → without b n ≡ o
back o None x t n h e = h ∙ either_none o
back None (Some v) x t n h e = refl
back (Some w) (Some v) x t n h e = absurd (let bad : Some v ≡ None = e in cc)

module _ {T : Type 0} (old other : List (Row × T)) where
  pub noting_first : AreRisingRows other → IsNoting old other old [] other
  noting_first s = record {
    here = λ q. sym (either_none (found q old));
    so_far = λ q. refl;
    rising = s;
    part = λ q n. n;
  }

  module _ (now noted rest : List (Row × T)) (is : IsNoting old other now noted rest) where
    -- what is taken back leaves what was there
    pub noting_back : (new : List (Row × T)) (q : Row) → found q new ≡ without (found q noted) (found q now) → found q new ≡ found q old
    noting_back new q e = e ∙ back (found q old) (found q noted) (lacking (found q old) (found q rest)) (found q other) (found q now) (is.here q) (is.so_far q)

    -- at the end all rows are here, and those that were not are noted
    pub noting_end : rest ≡ [] → ((q : Row) → found q noted ≡ lacking (found q old) (found q other)) × ((q : Row) → found q now ≡ either (found q old) (found q other))
    noting_end z =
        let ends : (q : Row) → found q noted ≡ lacking (found q old) (found q other) = λ q.
        sym (either_none (found q noted))
        ∙ ap (either (found q noted)) (sym (nothing (found q old)))
        ∙ ap (λ (es : List (Row × T)). either (found q noted) (lacking (found q old) (found q es))) (sym z)
        ∙ is.so_far q in
        (ends, λ q. is.here q ∙ ap (either (found q old)) (ends q) ∙ all (found q old) (found q other))
      where
        nothing : (o : Option T) → lacking o None ≡ None
        nothing None = refl
        nothing (Some v) = refl

        all : (o t : Option T) → either o (lacking o t) ≡ either o t
        all None t = refl
        all (Some v) t = refl

  module _ (now noted : List (Row × T)) (e : Row × T) (rest : List (Row × T)) (is : IsNoting old other now noted (e ∷ rest)) where
    -- a row that is new here is new to the map
    pub noting_brings : found e.0 now ≡ None → ((q : Row) → found q old ≡ None → found q other ≡ None) → ⊥
    noting_brings none have =
        let bad : Some e.1 ≡ None = sym (found_first e rest) ∙ is.part e.0 (have e.0 (not_here (found e.0 old) (found e.0 noted) (sym (is.here e.0) ∙ none))) in
        cc

    rising_more : (o : Option T) → AreRisingRows ((noted ++ entry_of e.0 (lacking o (Some e.1))) ++ rest)
    rising_more None = subst (λ (es : List (Row × T)). AreRisingRows es) (sym (append_assoc noted (e ∷ []) rest)) is.rising
    rising_more (Some v) = subst (λ (es : List (Row × T)). AreRisingRows (es ++ rest)) (sym (append-nil noted)) (rising-but noted e rest is.rising)

    pub noting_more : (new more : List (Row × T)) → ((q : Row) → found q new ≡ either (found q now) (cond (is_row q e.0) (Some e.1) None)) → more ≡ noted ++ entry_of e.0 (lacking (found e.0 now) (Some e.1))
        → IsNoting old other new more rest
    noting_more new more h m = record {
      here = λ q. h q ∙ ap (λ x. either x (cond (is_row q e.0) (Some e.1) None)) (is.here q) ∙ here_more q ∙ ap (either (found q old)) (sym (noted_is q));
      so_far = λ q. ap (λ x. either x (lacking (found q old) (found q rest))) (noted_is q) ∙ left_more q ∙ is.so_far q;
      rising = subst (λ (es : List (Row × T)). AreRisingRows (es ++ rest)) (sym m) (rising_more (found e.0 now));
      part = λ q n. part_of e rest q (is.part q n);
    }
      where
        noted_is : (q : Row) → found q more ≡ either (found q noted) (cond (is_row q e.0) (lacking (found e.0 now) (Some e.1)) None)
        noted_is q = ap (found q) m ∙ found-append noted (entry_of e.0 (lacking (found e.0 now) (Some e.1))) q ∙ ap (either (found q noted)) (found_entry q e.0 (lacking (found e.0 now) (Some e.1)))

        at : (q : Row) → is_row q e.0 ≡ true → found e.0 now ≡ either (found q old) (found q noted)
        at q t = ap (λ x. found x now) (sym (same_row q e.0 t)) ∙ is.here q

        here_more : (q : Row) → either (either (found q old) (found q noted)) (cond (is_row q e.0) (Some e.1) None)
            ≡ either (found q old) (either (found q noted) (cond (is_row q e.0) (lacking (found e.0 now) (Some e.1)) None))
        here_more q = elim (is_row q e.0) as (λ t. is_row q e.0 ≡ t → either (either (found q old) (found q noted)) (cond t (Some e.1) None) ≡ either (found q old) (either (found q noted) (cond t (lacking (found e.0 now) (Some e.1)) None))) [
          | true ↦ λ t. either_more (found q old) (found q noted) e.1 ∙ ap (λ x. either (found q old) (either (found q noted) (lacking x (Some e.1)))) (sym (at q t))
          | false ↦ λ t. either_nothing (found q old) (found q noted)
        ] refl

        left_more : (q : Row) → either (either (found q noted) (cond (is_row q e.0) (lacking (found e.0 now) (Some e.1)) None)) (lacking (found q old) (found q rest))
            ≡ either (found q noted) (lacking (found q old) (found q (e ∷ rest)))
        left_more q = elim (is_row q e.0) as (λ t. is_row q e.0 ≡ t → either (either (found q noted) (cond t (lacking (found e.0 now) (Some e.1)) None)) (lacking (found q old) (found q rest)) ≡ either (found q noted) (lacking (found q old) (cond t (Some e.1) (found q rest)))) [
          | true ↦ λ t. ap (λ x. either (either (found q noted) (lacking x (Some e.1))) (lacking (found q old) (found q rest))) (at q t) ∙ lacking_more (found q old) (found q noted) (found q rest) e.1
          | false ↦ λ t. ap (λ x. either x (lacking (found q old) (found q rest))) (either_none (found q noted))
        ] refl

pub noting_at : {T : Type 0} (old other now noted rest es : List (Row × T)) → IsNoting old other now noted rest → rest ≡ es → IsNoting old other now noted es
noting_at {T} old other now noted rest es is e = subst (λ (xs : List (Row × T)). IsNoting old other now noted xs) e is
