-- The names and the sizes that a catalogue and its sizes give: plain names, all different, as many as views, and sizes within their limits.
use Rattle.std.proofs.Common.{◌≡◌, ◌≢◌, ◌∙◌, ℕ, ◌+◌, ◌<◌, ◌==◌, ◌||◌, ◌&&◌, Bool, true, false, List, [], ◌∷◌, length, refl, sym, subst, inl, inr, arith, Option, Some, None, Ok}
use Rattle.std.specs.Prelude.{AllPairs, nat_le, not, ok_or, option_and_then, if◌then◌else◌}
use Rattle.std.specs.Char.{is_ascii_alphabetic, is_ascii_alphanumeric}
use Rattle.std.specs.Int.{is_in_range}
use Rattle.std.specs.List.{All, list_all}
use Rattle.std.proofs.lemmas.Bool.{and_parts, eqb-true, leb-true, ne_eqb, or_cases}
use Rattle.std.proofs.lemmas.List.{length-map}
use Rattle.std.proofs.lemmas.List.Elements.{All-cons, All-nil}
use Rattle.wh_dag.proofs.Faultless.{well_formed}
use Rattle.wh_dag.specs.Fault.{first_fault}
use Rattle.wh_dag.specs.Shape.{Views}
use Rattle.wh_dag.specs.Written.{children_written}
use Rattle.wh_dag.specs.declared.fault.ShapeFault.{ShapeFault}
use Rattle.wh_text.specs.Line.{is_blank}
use Rattle.wh_text.specs.NameForm.{begins_name, continues_name, is_name, underscore}
use Rattle.wh_text.specs.declared.fault.Key.TheVariants as key
use Rattle.wh_text.specs.declared.fault.LoadFault.TheVariants as fault
use Rattle.wh_text_catalogue.proofs.ShapesRead.{from_step, same_Ok, same_length}
use Rattle.wh_text_catalogue.specs.Catalogue.{WrittenViews, document_of, judged, name_in, named, shape_of, view_over, views_of, written_views}
use Rattle.wh_text_tables.proofs.SizeLimits.{text-sizes}
use Rattle.wh_text_tables.specs.SizesText.{sizes_of_text}
use Rattle.wh_text_lines.specs.NodeLine.{is_parting}
use Rattle.wh_text_lines.specs.PlanReadsBack.{is_unparted}
use Rattle.wh_text_lines.specs.ReadsBack.{is_plain}
use Rattle.wh_strategy.specs.Sizes.{AreSizeRows}
use Rattle.wh_strategy.specs.declared.sizes.SizeRow.{SizeRow}

-- ---- the bytes of a name

-- neither a space, a tab, an LF, a CR, a semicolon nor an `@`
record IsLetter (c : ℕ) : Type 0 where
  space : c ≢ 32
  tab : c ≢ 9
  feed : c ≢ 10
  cr : c ≢ 13
  parting : c ≢ 59
  at : c ≢ 64

in_range : (low high c : ℕ) → is_in_range low high c ≡ true → (low < c + 1) × (c < high + 1)
in_range low high c h =
    let parts = and_parts (nat_le low c) (nat_le c high) h in
    let bottom = leb-true low c parts.0 in
    let top = leb-true c high parts.1 in
    (omega arith, omega arith)

begins-letter : (c : ℕ) → begins_name c ≡ true → IsLetter c
begins-letter c h = elim (or_cases (is_ascii_alphabetic c) (c == underscore) h) [
  | inl letter ↦ elim (or_cases (is_in_range 65 90 c) (is_in_range 97 122 c) letter) [
    | inl upper ↦ let r = in_range 65 90 c upper in record { space = λ e. omega arith; tab = λ e. omega arith; feed = λ e. omega arith; cr = λ e. omega arith; parting = λ e. omega arith; at = λ e. omega arith }
    | inr lower ↦ let r = in_range 97 122 c lower in record { space = λ e. omega arith; tab = λ e. omega arith; feed = λ e. omega arith; cr = λ e. omega arith; parting = λ e. omega arith; at = λ e. omega arith }
  ]
  | inr mark ↦ let same = eqb-true c 95 mark in record { space = λ e. omega arith; tab = λ e. omega arith; feed = λ e. omega arith; cr = λ e. omega arith; parting = λ e. omega arith; at = λ e. omega arith }
]

continues-letter : (c : ℕ) → continues_name c ≡ true → IsLetter c
continues-letter c h = elim (or_cases (is_ascii_alphanumeric c) (c == underscore) h) [
  | inl part ↦ elim (or_cases (is_in_range 48 57 c || is_in_range 65 90 c) (is_in_range 97 122 c) part) [
    | inl first ↦ elim (or_cases (is_in_range 48 57 c) (is_in_range 65 90 c) first) [
      | inl digit ↦ let r = in_range 48 57 c digit in record { space = λ e. omega arith; tab = λ e. omega arith; feed = λ e. omega arith; cr = λ e. omega arith; parting = λ e. omega arith; at = λ e. omega arith }
      | inr upper ↦ let r = in_range 65 90 c upper in record { space = λ e. omega arith; tab = λ e. omega arith; feed = λ e. omega arith; cr = λ e. omega arith; parting = λ e. omega arith; at = λ e. omega arith }
    ]
    | inr lower ↦ let r = in_range 97 122 c lower in record { space = λ e. omega arith; tab = λ e. omega arith; feed = λ e. omega arith; cr = λ e. omega arith; parting = λ e. omega arith; at = λ e. omega arith }
  ]
  | inr mark ↦ let same = eqb-true c 95 mark in record { space = λ e. omega arith; tab = λ e. omega arith; feed = λ e. omega arith; cr = λ e. omega arith; parting = λ e. omega arith; at = λ e. omega arith }
]

kept_byte : (c : ℕ) → IsLetter c → not (is_blank c || c == 10) ≡ true
kept_byte c is = rw (ne_eqb c 32 is.space, ne_eqb c 9 is.tab, ne_eqb c 10 is.feed) refl

unparted_byte : (c : ℕ) → IsLetter c → not (is_parting c) ≡ true
unparted_byte c is = rw (ne_eqb c 59 is.parting) refl

-- neither an `@` nor a CR
abbrev pub is_clear : ℕ → Bool
is_clear b = not (b == 64 || b == 13)

clear_byte : (c : ℕ) → IsLetter c → is_clear c ≡ true
clear_byte c is = rw (ne_eqb c 64 is.at, ne_eqb c 13 is.cr) refl

rest-letters : (p : ℕ → Bool) → ((c : ℕ) → IsLetter c → p c ≡ true) → (rest : List ℕ) → list_all continues_name rest ≡ true → list_all p rest ≡ true
rest-letters p f [] h = refl
rest-letters p f (c ∷ rest) h =
    let parts = and_parts (continues_name c) (list_all continues_name rest) h in
    rw (f c (continues-letter c parts.0), rest-letters p f rest parts.1) refl

name-letters : (p : ℕ → Bool) → ((c : ℕ) → IsLetter c → p c ≡ true) → (name : List ℕ) → is_name name ≡ true → list_all p name ≡ true
unfolding is_name
name-letters p f [] h = refl
name-letters p f (first ∷ rest) h =
    let bytes = (and_parts (begins_name first && list_all continues_name rest) (nat_le (length (first ∷ rest)) 64) h).0 in
    let parts = and_parts (begins_name first) (list_all continues_name rest) bytes in
    rw (f first (begins-letter first parts.0), rest-letters p f rest parts.1) refl

name-word : (name : List ℕ) → is_name name ≡ true → not (length name == 0) ≡ true
unfolding is_name
name-word [] h = cc
name-word (first ∷ rest) h = rw (ne_eqb (length (first ∷ rest)) 0 (λ e. omega arith)) refl

pub name-plain : (name : List ℕ) → is_name name ≡ true → is_plain name ≡ true
name-plain name h = rw (name-word name h, name-letters (λ b. not (is_blank b || b == 10)) kept_byte name h) refl

pub name-unparted : (name : List ℕ) → is_name name ≡ true → is_unparted name ≡ true
name-unparted name h = name-letters (λ b. not (is_parting b)) unparted_byte name h

pub name-clear : (name : List ℕ) → is_name name ≡ true → list_all is_clear name ≡ true
name-clear name h = name-letters is_clear clear_byte name h

-- ---- the names of a catalogue

name_read : (value : _) (name : List ℕ) → named value ≡ Ok name → is_name name ≡ true
name_read value name e = by _ e
  where
    formed : (b : Bool) (text : List ℕ) → is_name text ≡ b → ok_or (if b then Some text else None) (fault.Key key.Name) ≡ Ok name → is_name name ≡ true
    formed true text is h = subst (λ n. is_name n ≡ true) (same_Ok _ _ _ refl h) is
    formed false text is h = cc

    by : (o : Option (List ℕ)) → ok_or (option_and_then name_in o) (fault.Key key.Name) ≡ Ok name → is_name name ≡ true
    by None h = cc
    by (Some text) h = formed (is_name text) text refl h

names_read : (values : List _) (views : WrittenViews) → written_views values ≡ Ok views → All (λ name. is_name name ≡ true) views.names
names_read [] views e = subst (λ v. All (λ name. is_name name ≡ true) v.names) (same_Ok _ _ _ refl e) (All-nil (λ name. is_name name ≡ true))
names_read (value ∷ rest) views e =
    let name = from_step (named value) _ views e in
    let over = from_step (view_over value) _ views name.2 in
    let others = from_step (written_views rest) _ views over.2 in
    subst (λ v. All (λ name. is_name name ≡ true) v.names) (same_Ok _ _ _ refl others.2)
    (All-cons (λ name. is_name name ≡ true) name.0 others.0.names (name_read value name.0 name.1) (names_read rest others.0 others.1))

-- what is known of the names that were read
pub record AreNames (shape : Views) : Type 0 where
  pub formed : All (λ name. is_name name ≡ true) shape.names
  pub distinct : AllPairs (λ first second. first ≢ second) shape.names
  pub many : length shape.names ≡ length shape.children

judged_names : (views : WrittenViews) (o : Option ShapeFault) (shape : Views) → o ≡ first_fault views.names views.over → length views.names ≡ length views.over
    → All (λ name. is_name name ≡ true) views.names → judged views o ≡ Ok shape → AreNames shape
judged_names views None shape is same formed e =
    subst AreNames (same_Ok _ _ _ refl e)
    (record {
      formed = formed;
      distinct = (well_formed views.names views.over same (sym is)).names_distinct;
      many = same ∙ sym (length-map views.over (children_written views.names));
    })
judged_names views (Some f) shape is same formed e = cc

pub are_names : (text : List ℕ) (shape : Views) → shape_of text ≡ Ok shape → AreNames shape
are_names text shape e =
    let document = from_step (document_of text) _ shape e in
    let views = from_step (ok_or (views_of document.0) (fault.Key key.View)) _ shape document.2 in
    let written = from_step (written_views views.0) _ shape views.2 in
    judged_names written.0 (first_fault written.0.names written.0.over) shape refl (same_length views.0 written.0 written.1) (names_read views.0 written.0 written.1) written.2

-- ---- the sizes

pub are_sizes : (names : List (List ℕ)) (text : List ℕ) (rows : List SizeRow) → sizes_of_text names text ≡ Ok rows → AreSizeRows rows
are_sizes names text rows e = text-sizes names text rows e
