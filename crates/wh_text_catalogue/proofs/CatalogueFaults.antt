-- The first fault of a catalogue's document, of its names and of its shape.
use Rattle.std.proofs.Common.{◌≡◌, ◌<◌, ◌+◌, ℕ, Bool, true, false, List, [], ◌∷◌, ◌++◌, length, take, Option, Some, None, Result, Ok, Err, ◌⊎◌, inl, inr, refl, sym, ap, subst, ◌∙◌, arith}
use Rattle.std.specs.Prelude.{codes, if◌then◌else◌, is_some, nat_le, nat_lt, not, ok_or, option_and_then, option_map, unwrap_or}
use Rattle.std.specs.Option.{option_or, option_transpose}
use Rattle.std.specs.Result.{result_err}
use Rattle.std.specs.Str.{is_utf8}
use Rattle.toml.specs.Data.{Data, Members, get}
use Rattle.toml.specs.Parse.{parse_document}
use Rattle.wh_dag.specs.Fault.{child_fault, children_fault, fault_from, first_fault, or_else, over_fault, place_fault, view_fault}
use Rattle.wh_dag.specs.Written.{is_named, name_of, number_of}
use Rattle.wh_dag.specs.declared.fault.ShapeFault.{ShapeFault}
use Rattle.wh_dag.specs.declared.fault.ShapeFault.TheVariants.{Duplicate, Forward, Repeated, TooMany, Unknown}
use Rattle.wh_text.specs.FirstFault.{EndsByFirst, Finds, IsBefore, IsFaultless, IsFirstFault, Place, fault_if}
use Rattle.wh_text.specs.declared.fault.Key.TheVariants as key
use Rattle.wh_text.specs.declared.fault.LoadFault.{LoadFault}
use Rattle.wh_text.specs.declared.fault.LoadFault.TheVariants as fault
use Rattle.wh_text.proofs.FirstFaults.{IsFirstIn, first_in, first_of, first_of-append, is-first-in, none-in}
use Rattle.wh_text.specs.ValueOrFault.{◌>>=◌}
use Rattle.wh_text_catalogue.specs.Catalogue.{WrittenViews, document_of, judged, over_in, shape_written, view_name, view_over, views_of, written_views}
use Rattle.wh_text_catalogue.specs.CatalogueFaults.{CatalogueWrong, ShapeWrong, ShapesEndByFirst, child_judged, children_judged, in_keys, in_shape, in_views, is_not_above, is_toml, is_wrong_over, keys_judged, no_toml, no_views, over_judged, tables_in, texts_in, view_judged, view_names, view_overs}

same_value : {A : Type 0} (first second : A) → ◌≡◌ {A = Result A LoadFault} (Ok first) (Ok second) → first ≡ second
same_value first second e = cc

-- The document.

-- what a document is, by what its bytes and its views are
record Read (text : List ℕ) (tables : List Data) : Type 0 where
  pub toml : is_toml text ≡ true
  pub there : tables_in text ≡ Some tables

-- what is judged of a document: it is none, it has no views, or its views are judged
data DocumentCase {A : Type 0} (text : List ℕ) (next : List Data → Result A LoadFault) (read : Result A LoadFault) : Type 0 where
  not_toml : is_toml text ≡ false → tables_in text ≡ None → read ≡ Err fault.Toml → DocumentCase text next read
  without_views : is_toml text ≡ true → tables_in text ≡ None → read ≡ Err (fault.Key key.View) → DocumentCase text next read
  with_views : (tables : List Data) → Read text tables → read ≡ next tables → DocumentCase text next read

abbrev read_of : {A : Type 0} → List ℕ → (List Data → Result A LoadFault) → Result A LoadFault
read_of text next = document_of text >>= (λ document. ok_or (views_of document) (fault.Key key.View) >>= next)

document-case : {A : Type 0} (text : List ℕ) (next : List Data → Result A LoadFault) → DocumentCase text next (read_of text next)
document-case {A} text next = by (is_utf8 text) (parse_document text) refl refl
  where
    viewed : (document : Members) (o : Option (List Data)) → is_toml text ≡ true → views_of document ≡ o → tables_in text ≡ views_of document → read_of text next ≡ (ok_or (views_of document) (fault.Key key.View) >>= next)
        → DocumentCase text next (read_of text next)
    viewed document None toml found there reads = without_views toml (there ∙ found) (reads ∙ ap (λ o. ok_or o (fault.Key key.View) >>= next) found)
    viewed document (Some tables) toml found there reads =
        with_views tables (record { toml = toml; there = there ∙ found }) (reads ∙ ap (λ o. ok_or o (fault.Key key.View) >>= next) found)

    by : (utf8 : Bool) (o : Option Members) → is_utf8 text ≡ utf8 → parse_document text ≡ o → DocumentCase text next (read_of text next)
    by false o u p = not_toml (ap (λ b. if b then is_some (parse_document text) else false) u) (ap (λ b. if b then option_and_then views_of (parse_document text) else None) u)
        (ap (λ b. (if b then ok_or (parse_document text) fault.Toml else Err fault.Toml) >>= (λ document. ok_or (views_of document) (fault.Key key.View) >>= next)) u)
    by true None u p = not_toml (ap (λ b. if b then is_some (parse_document text) else false) u ∙ ap is_some p) (ap (λ b. if b then option_and_then views_of (parse_document text) else None) u ∙ ap (option_and_then views_of) p)
        (ap (λ b. (if b then ok_or (parse_document text) fault.Toml else Err fault.Toml) >>= (λ document. ok_or (views_of document) (fault.Key key.View) >>= next)) u
        ∙ ap (λ o. ok_or o fault.Toml >>= (λ document. ok_or (views_of document) (fault.Key key.View) >>= next)) p)
    by true (Some document) u p = viewed document (views_of document) (ap (λ b. if b then is_some (parse_document text) else false) u ∙ ap is_some p) refl
        (ap (λ b. if b then option_and_then views_of (parse_document text) else None) u ∙ ap (option_and_then views_of) p)
        (ap (λ b. (if b then ok_or (parse_document text) fault.Toml else Err fault.Toml) >>= (λ document. ok_or (views_of document) (fault.Key key.View) >>= next)) u
        ∙ ap (λ o. ok_or o fault.Toml >>= (λ document. ok_or (views_of document) (fault.Key key.View) >>= next)) p)

none-before-0 : (place : Place) → IsBefore place (0 ∷ []) → ⊥
none-before-0 [] before = before
none-before-0 (n ∷ place) (inl below) = omega arith
none-before-0 (n ∷ []) (inr same) = same.1
none-before-0 (n ∷ k ∷ place) (inr same) = same.1

-- the two never hold together
apart : (b : Bool) → b ≡ true → b ≡ false → ⊥
apart true e f = cc
apart false e f = cc

one-before-other : (n k : ℕ) (place within : Place) → place ≡ n ∷ [] → IsBefore place (k ∷ within) → n < k
one-before-other n k place within e before = by within (subst (λ p. IsBefore p (k ∷ within)) e before)
  where
    by : (within : Place) → IsBefore (n ∷ []) (k ∷ within) → n < k
    by within (inl below) = below
    by within (inr same) = absurd same.1

within-before : (n : ℕ) (place within other : Place) → place ≡ n ∷ within → IsBefore place (n ∷ other) → IsBefore within other
within-before n place within other e before = by (subst (λ p. IsBefore p (n ∷ other)) e before)
  where
    by : IsBefore (n ∷ within) (n ∷ other) → IsBefore within other
    by (inl below) = absurd (omega arith)
    by (inr same) = same.1

module _ {A : Type 0} (Below : List Data → Place → LoadFault → Type 0) (text : List ℕ) (next : List Data → Result A LoadFault) where
  no-document : is_toml text ≡ false → tables_in text ≡ None → IsFirstFault (CatalogueWrong Below text) fault.Toml
  no-document none bare = record { place = 0 ∷ []; wrong = no_toml none refl refl; first = λ before other earlier wrong. none-before-0 before earlier }

  no-array : is_toml text ≡ true → tables_in text ≡ None → IsFirstFault (CatalogueWrong Below text) (fault.Key key.View)
  no-array toml bare = record { place = 1 ∷ []; wrong = no_views toml bare refl refl; first = by }
    where
      by : (before : Place) (other : LoadFault) → IsBefore before (1 ∷ []) → CatalogueWrong Below text before other → ⊥
      by before other earlier (no_toml none own at) = apart (is_toml text) toml none
      by before other earlier (no_views toml none own at) = (let bad = one-before-other 1 1 before [] at earlier in omega arith)
      by before other earlier (in_views tables within there wrong at) = (let bad = sym there ∙ bare in cc)

  same-tables : (tables others : List Data) → tables_in text ≡ Some tables → tables_in text ≡ Some others → others ≡ tables
  same-tables tables others a b = (let e = sym b ∙ a in cc)

  in-tables : (tables : List Data) (own : LoadFault) → Read text tables → IsFirstFault (Below tables) own → IsFirstFault (CatalogueWrong Below text) own
  in-tables tables own read is = record { place = 2 ∷ is.place; wrong = in_views tables is.place read.there is.wrong refl; first = by }
    where
      by : (before : Place) (other : LoadFault) → IsBefore before (2 ∷ is.place) → CatalogueWrong Below text before other → ⊥
      by before other earlier (no_toml none own at) = apart (is_toml text) read.toml none
      by before other earlier (no_views toml none own at) = (let bad = sym none ∙ read.there in cc)
      by before other earlier (in_views others within there wrong at) =
          is.first within other (within-before 2 before within is.place at earlier) (subst (λ ts. Below ts within other) (same-tables tables others read.there there) wrong)

  right-tables : (tables : List Data) → Read text tables → IsFaultless (Below tables) → IsFaultless (CatalogueWrong Below text)
  right-tables tables read right = by
    where
      by : (place : Place) (own : LoadFault) → CatalogueWrong Below text place own → ⊥
      by place own (no_toml none is at) = apart (is_toml text) read.toml none
      by place own (no_views toml none is at) = (let bad = sym none ∙ read.there in cc)
      by place own (in_views others within there wrong at) = right within own (subst (λ ts. Below ts within own) (same-tables tables others read.there there) wrong)

  -- a catalogue ends by its first fault where the tables of its views do
  pub catalogue-ends : ((tables : List Data) → EndsByFirst (Below tables) (next tables)) → EndsByFirst (CatalogueWrong Below text) (read_of text next)
  catalogue-ends ends = by (document-case text next)
    where
      by : DocumentCase text next (read_of text next) → EndsByFirst (CatalogueWrong Below text) (read_of text next)
      by (not_toml toml bare reads) = record {
        fault = λ own e. (let same : fault.Toml ≡ own = (let bad = sym reads ∙ e in cc) in subst (IsFirstFault (CatalogueWrong Below text)) same (no-document toml bare));
        value = λ value e. (let bad = sym reads ∙ e in cc);
      }
      by (without_views toml none reads) = record {
        fault = λ own e. (let same : fault.Key key.View ≡ own = (let bad = sym reads ∙ e in cc) in subst (IsFirstFault (CatalogueWrong Below text)) same (no-array toml none));
        value = λ value e. (let bad = sym reads ∙ e in cc);
      }
      by (with_views tables read reads) = record {
        fault = λ own e. in-tables tables own read ((ends tables).fault own (sym reads ∙ e));
        value = λ value e. right-tables tables read ((ends tables).value value (sym reads ∙ e));
      }

-- Names, and what views are over.

abbrev over_read : Option Data → Result (Option (List (List ℕ))) LoadFault
over_read o = option_transpose (option_map over_in o)

over-judged : (o : Option Data) → result_err (over_read o) ≡ first_of (fault_if (is_wrong_over o) (fault.Key key.Over) ∷ [])
over-judged None = refl
over-judged (Some value) = by (texts_in value)
  where
    by : (o : Option (List (List ℕ))) → result_err (option_transpose (Some (ok_or o (fault.Key key.Over)))) ≡ first_of (fault_if (not (is_some o)) (fault.Key key.Over) ∷ [])
    by None = refl
    by (Some texts) = refl

over-is : (o : Option Data) (over : Option (List (List ℕ))) → over_read o ≡ Ok over → over ≡ option_and_then texts_in o
over-is None over e = cc
over-is (Some value) over e = by (texts_in value) e
  where
    by : (o : Option (List (List ℕ))) → option_transpose (Some (ok_or o (fault.Key key.Over))) ≡ Ok over → over ≡ o
    by None e = cc
    by (Some texts) e = cc

abbrev with_keys : List ℕ → Option (List (List ℕ)) → WrittenViews → WrittenViews
with_keys name over others = record { names = name ∷ others.names; over = over ∷ others.over }

-- reading the keys of the tables is what is judged of them
written-judged : (tables : List Data) (number : ℕ) → result_err (written_views tables) ≡ first_in (λ n entry. keys_judged entry) number tables
written-judged [] number = refl
written-judged (entry ∷ rest) number = by (view_name entry) (view_over entry) (written_views rest) (over-judged (get (codes "over") entry)) (written-judged rest (number + 1))
  where
    later : Option LoadFault
    later = first_in (λ n entry. keys_judged entry) (number + 1) rest

    by : (name : Option (List ℕ)) (over : Result (Option (List (List ℕ))) LoadFault) (others : Result WrittenViews LoadFault)
        → result_err over ≡ first_of (fault_if (is_wrong_over (get (codes "over") entry)) (fault.Key key.Over) ∷ []) → result_err others ≡ later
        → result_err (ok_or name (fault.Key key.Name) >>= (λ n. over >>= (λ o. others >>= (λ w. Ok (with_keys n o w)))))
        ≡ option_or (first_of (fault_if (not (is_some name)) (fault.Key key.Name) ∷ fault_if (is_wrong_over (get (codes "over") entry)) (fault.Key key.Over) ∷ [])) later
    by None over others a b = refl
    by (Some n) (Err f) others a b = ap (λ o. option_or o later) a
    by (Some n) (Ok o) (Err f) a b = b ∙ ap (λ o. option_or o later) a
    by (Some n) (Ok o) (Ok w) a b = b ∙ ap (λ o. option_or o later) a

-- the keys of the tables, once they are read
record AreKeys (tables : List Data) (written : WrittenViews) : Type 0 where
  pub names : written.names ≡ view_names tables
  pub over : written.over ≡ view_overs tables

written-is : (tables : List Data) (written : WrittenViews) → written_views tables ≡ Ok written → AreKeys tables written
written-is [] written e =
    let same : record { names = []; over = [] } ≡ written = same_value _ _ e in
    record { names = ap (λ (w : WrittenViews). w.names) (sym same); over = ap (λ (w : WrittenViews). w.over) (sym same) }
written-is (entry ∷ rest) written e = by (view_name entry) refl (view_over entry) refl (written_views rest) (λ w. written-is rest w) e
  where
    by : (name : Option (List ℕ)) → view_name entry ≡ name → (over : Result (Option (List (List ℕ))) LoadFault) → view_over entry ≡ over → (others : Result WrittenViews LoadFault)
        → ((w : WrittenViews) → others ≡ Ok w → AreKeys rest w)
        → (ok_or name (fault.Key key.Name) >>= (λ n. over >>= (λ o. others >>= (λ w. Ok (with_keys n o w))))) ≡ Ok written → AreKeys (entry ∷ rest) written
    by None a over b others more e = cc
    by (Some n) a (Err f) b others more e = cc
    by (Some n) a (Ok o) b (Err f) more e = cc
    by (Some n) a (Ok o) b (Ok w) more e =
        let same : with_keys n o w ≡ written = same_value _ _ e in
        let is = more w refl in
        record {
          names = ap (λ (w : WrittenViews). w.names) (sym same) ∙ ap (λ own. own ∷ w.names) (ap (λ o. unwrap_or o []) (sym a)) ∙ ap (λ ns. unwrap_or (view_name entry) [] ∷ ns) is.names;
          over = ap (λ (w : WrittenViews). w.over) (sym same) ∙ ap (λ own. own ∷ w.over) (over-is (get (codes "over") entry) o b) ∙ ap (λ os. option_and_then texts_in (get (codes "over") entry) ∷ os) is.over;
        }

-- The shape.

shape-or : (first second : Option ShapeFault) → option_map fault.Shape (or_else first second) ≡ option_or (option_map fault.Shape first) (option_map fault.Shape second)
shape-or None second = refl
shape-or (Some f) second = refl

child-judged : (names : List (List ℕ)) (view : ℕ) (before : List (List ℕ)) (child : List ℕ) → option_map fault.Shape (child_fault names view before child) ≡ first_of (child_judged names view before child)
child-judged names view before child = by (number_of names child)
  where
    named : (is : Bool) → option_map fault.Shape (if is then Some (Repeated view child) else None) ≡ first_of (fault_if is (fault.Shape (Repeated view child)) ∷ [])
    named true = refl
    named false = refl

    placed : (late : Bool) → option_map fault.Shape (if late then Some (Forward view child) else (if is_named before child then Some (Repeated view child) else None))
        ≡ first_of (fault_if late (fault.Shape (Forward view child)) ∷ fault_if (is_named before child) (fault.Shape (Repeated view child)) ∷ [])
    placed true = refl
    placed false = named (is_named before child)

    by : (o : Option ℕ) → option_map fault.Shape (place_fault view before child o)
        ≡ first_of (fault_if (not (is_some o)) (fault.Shape (Unknown view child)) ∷ fault_if (is_not_above view o) (fault.Shape (Forward view child)) ∷ fault_if (is_named before child) (fault.Shape (Repeated view child)) ∷ [])
    by None = refl
    by (Some number) = placed (nat_le view number)

children-judged : (names : List (List ℕ)) (view : ℕ) (before children : List (List ℕ)) → option_map fault.Shape (children_fault names view before children) ≡ first_of (children_judged names view before children)
children-judged names view before [] = refl
children-judged names view before (child ∷ rest) =
    shape-or (child_fault names view before child) (children_fault names view (before ++ child ∷ []) rest)
    ∙ ap (λ o. option_or o (option_map fault.Shape (children_fault names view (before ++ child ∷ []) rest))) (child-judged names view before child)
    ∙ ap (option_or (first_of (child_judged names view before child))) (children-judged names view (before ++ child ∷ []) rest)
    ∙ sym (first_of-append (child_judged names view before child) (children_judged names view (before ++ child ∷ []) rest))

over-fault-judged : (names : List (List ℕ)) (view : ℕ) (over : Option (List (List ℕ))) → option_map fault.Shape (over_fault names view over) ≡ first_of (over_judged names view over)
over-fault-judged names view None = refl
over-fault-judged names view (Some []) = refl
over-fault-judged names view (Some (child ∷ rest)) = by (nat_lt 6 (length (child ∷ rest)))
  where
    by : (many : Bool) → option_map fault.Shape (if many then Some (TooMany view (name_of names view)) else children_fault names view [] (child ∷ rest))
        ≡ first_of (fault_if many (fault.Shape (TooMany view (name_of names view))) ∷ children_judged names view [] (child ∷ rest))
    by true = refl
    by false = children-judged names view [] (child ∷ rest)

view-judged : (names : List (List ℕ)) (view : ℕ) (over : Option (List (List ℕ))) → option_map fault.Shape (view_fault names view over) ≡ first_of (view_judged names view over)
view-judged names view over = by (nat_le 64 view) (is_named (take view names) (name_of names view))
  where
    by : (many twice : Bool)
        → option_map fault.Shape (if many then Some (TooMany view (name_of names view)) else (if twice then Some (Duplicate view (name_of names view)) else over_fault names view over))
        ≡ first_of (fault_if many (fault.Shape (TooMany view (name_of names view))) ∷ fault_if twice (fault.Shape (Duplicate view (name_of names view))) ∷ over_judged names view over)
    by true twice = refl
    by false true = refl
    by false false = over-fault-judged names view over

shape-judged : (names : List (List ℕ)) (number : ℕ) (overs : List (Option (List (List ℕ)))) → option_map fault.Shape (fault_from names number overs) ≡ first_in (view_judged names) number overs
shape-judged names number [] = refl
shape-judged names number (over ∷ rest) =
    shape-or (view_fault names number over) (fault_from names (number + 1) rest)
    ∙ ap (λ o. option_or o (option_map fault.Shape (fault_from names (number + 1) rest))) (view-judged names number over)
    ∙ ap (option_or (first_of (view_judged names number over))) (shape-judged names (number + 1) rest)

-- Both.

-- places of three numbers
before-of : (n view k : ℕ) (place : Place) (v j : ℕ) → place ≡ n ∷ v ∷ j ∷ [] → IsBefore place (n ∷ view ∷ k ∷ []) → (v < view) ⊎ ((v ≡ view) × (j < k))
before-of n view k place v j e before = by (subst (λ p. IsBefore p (n ∷ view ∷ k ∷ [])) e before)
  where
    last : IsBefore (j ∷ []) (k ∷ []) → j < k
    last (inl below) = below
    last (inr same) = absurd same.1

    inner : IsBefore (v ∷ j ∷ []) (view ∷ k ∷ []) → (v < view) ⊎ ((v ≡ view) × (j < k))
    inner (inl below) = inl below
    inner (inr same) = inr (same.0, last same.1)

    by : IsBefore (n ∷ v ∷ j ∷ []) (n ∷ view ∷ k ∷ []) → (v < view) ⊎ ((v ≡ view) × (j < k))
    by (inl below) = absurd (omega arith)
    by (inr same) = inner same.1

zero-place : (n : ℕ) → 0 + n ≡ n
zero-place n = omega arith

shape-not-before : (view k v j : ℕ) (place : Place) → place ≡ 1 ∷ v ∷ j ∷ [] → IsBefore place (0 ∷ view ∷ k ∷ []) → ⊥
shape-not-before view k v j place e before = by (subst (λ p. IsBefore p (0 ∷ view ∷ k ∷ [])) e before)
  where
    by : IsBefore (1 ∷ v ∷ j ∷ []) (0 ∷ view ∷ k ∷ []) → ⊥
    by (inl below) = omega arith
    by (inr same) = let bad = same.0 in omega arith

keys-end : (tables : List Data) (own : LoadFault) → first_in (λ n entry. keys_judged entry) 0 tables ≡ Some own → IsFirstFault (ShapeWrong tables) own
keys-end tables own e = record { place = 0 ∷ is.place ∷ is.number ∷ []; wrong = in_keys is.place is.own is.number is.there is.finds refl; first = by }
  where
    is : IsFirstIn (λ n entry. keys_judged entry) 0 tables own
    is = is-first-in (λ n entry. keys_judged entry) 0 tables own e

    by : (before : Place) (other : LoadFault) → IsBefore before (0 ∷ is.place ∷ is.number ∷ []) → ShapeWrong tables before other → ⊥
    by before other earlier (in_keys view entry judgement there finds at) =
        is.first view entry judgement other there finds (before-of 0 is.place is.number before view judgement at earlier)
    by before other earlier (in_shape view over judgement there finds at) = shape-not-before is.place is.number view judgement before at earlier

shape-end : (tables : List Data) (own : LoadFault) → first_in (λ n entry. keys_judged entry) 0 tables ≡ None → first_in (view_judged (view_names tables)) 0 (view_overs tables) ≡ Some own
    → IsFirstFault (ShapeWrong tables) own
shape-end tables own none e = record {
  place = 1 ∷ is.place ∷ is.number ∷ [];
  wrong = in_shape is.place is.own is.number is.there (subst (λ n. Finds (view_judged (view_names tables) n is.own) is.number own) (zero-place is.place) is.finds) refl;
  first = by;
}
  where
    is : IsFirstIn (view_judged (view_names tables)) 0 (view_overs tables) own
    is = is-first-in (view_judged (view_names tables)) 0 (view_overs tables) own e

    by : (before : Place) (other : LoadFault) → IsBefore before (1 ∷ is.place ∷ is.number ∷ []) → ShapeWrong tables before other → ⊥
    by before other earlier (in_keys view entry judgement there finds at) = none-in (λ n entry. keys_judged entry) 0 tables view entry judgement other none there finds
    by before other earlier (in_shape view over judgement there finds at) =
        is.first view over judgement other there (subst (λ n. Finds (view_judged (view_names tables) n over) judgement other) (sym (zero-place view)) finds)
        (before-of 1 is.place is.number before view judgement at earlier)

right-shape : (tables : List Data) → first_in (λ n entry. keys_judged entry) 0 tables ≡ None → first_in (view_judged (view_names tables)) 0 (view_overs tables) ≡ None → IsFaultless (ShapeWrong tables)
right-shape tables none right = by
  where
    by : (place : Place) (own : LoadFault) → ShapeWrong tables place own → ⊥
    by place own (in_keys view entry judgement there finds at) = none-in (λ n entry. keys_judged entry) 0 tables view entry judgement own none there finds
    by place own (in_shape view over judgement there finds at) =
        none-in (view_judged (view_names tables)) 0 (view_overs tables) view over judgement own right there
        (subst (λ n. Finds (view_judged (view_names tables) n over) judgement own) (sym (zero-place view)) finds)

tables-end : (tables : List Data) → EndsByFirst (ShapeWrong tables) (written_views tables >>= shape_written)
tables-end tables = by (written_views tables) refl (written-judged tables 0)
  where
    judges : (written : WrittenViews) (o : Option ShapeFault) → first_in (λ n entry. keys_judged entry) 0 tables ≡ None → option_map fault.Shape o ≡ first_in (view_judged (view_names tables)) 0 (view_overs tables)
        → EndsByFirst (ShapeWrong tables) (judged written o)
    judges written None none e = record { fault = λ own bad. cc; value = λ value good. right-shape tables none (sym e) }
    judges written (Some f) none e = record {
      fault = λ own bad. (let same : fault.Shape f ≡ own = cc in shape-end tables own none (sym e ∙ ap Some same));
      value = λ value good. cc;
    }

    by : (read : Result WrittenViews LoadFault) → written_views tables ≡ read → result_err read ≡ first_in (λ n entry. keys_judged entry) 0 tables → EndsByFirst (ShapeWrong tables) (read >>= shape_written)
    by (Err f) e judges_keys = record {
      fault = λ own bad. (let same : f ≡ own = cc in keys-end tables own (sym judges_keys ∙ ap Some same));
      value = λ value good. cc;
    }
    by (Ok written) e judges_keys =
        let is = written-is tables written e in
        judges written (first_fault written.names written.over) (sym judges_keys)
        (shape-judged written.names 0 written.over ∙ ap (λ ns. first_in (view_judged ns) 0 written.over) is.names ∙ ap (first_in (view_judged (view_names tables)) 0) is.over)

-- the shape of a catalogue ends by its first fault
pub shapes-end : ShapesEndByFirst
shapes-end text = catalogue-ends ShapeWrong text (λ tables. written_views tables >>= shape_written) tables-end
