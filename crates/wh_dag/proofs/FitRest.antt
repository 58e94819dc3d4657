-- Parts fit together exactly where, view by view, they are what the views need.
use Rattle.std.proofs.Common.{◌≡◌, ℕ, zero, suc, ◌+◌, ◌-◌, ◌<◌, ◌≤◌, true, false, not, List, [], ◌∷◌, ◌++◌, length, drop, take, All, get_or, refl, ap, sym, ◌∙◌, subst, arith, append_assoc, inl, inr, Option, Some, None}
use Rattle.std.specs.Prelude.{is_some, slice_index}
use Rattle.std.proofs.lemmas.List.{get_or_append_left, length-append, length-drop, length-take-le, take-append-drop}
use Rattle.std.proofs.lemmas.Bool.{cases_lt}
use Rattle.std.proofs.lemmas.Option.{same_Some}
use Rattle.std.proofs.Math.Seq.{get_or-append_seam}
use Rattle.wh_dag.specs.Shape.{Views, IsShape, children_of, has}
use Rattle.wh_dag.specs.Catalog.{DefinitionOf, IsDefinition, columns, CatalogOf, width_of, definition_of, total_width, combined_width, is_empty, IsCatalog}
use Rattle.wh_dag.specs.CatalogParts.{bases_among, derived_among, dealt_definitions, dealt_widths, catalog_of, FitTogether}
use Rattle.wh_dag.proofs.Levels.{has_head, has_tail, All-from_has}
use Rattle.wh_dag.proofs.Shown.{empty}
use Rattle.wh_dag.proofs.Remaining.{IsNext, Rest}

-- ---- lists from a place on

within_of : {A : Type 0} (xs rest : List A) (n : ℕ) (x : A) → drop n xs ≡ x ∷ rest → n < length xs
within_of xs rest n x e =
    let some : length xs - n ≡ suc (length rest) = sym (length-drop n xs) ∙ ap length e in
    omega arith

past_of : {A : Type 0} (xs : List A) (n : ℕ) → drop n xs ≡ [] → length xs ≤ n
past_of xs n e =
    let none : length xs - n ≡ 0 = sym (length-drop n xs) ∙ ap length e in
    omega arith

head_at : {A : Type 0} (xs rest : List A) (n : ℕ) (x d : A) → drop n xs ≡ x ∷ rest → get_or xs n d ≡ x
head_at [] rest zero x d e = cc
head_at [] rest (suc n) x d e = cc
head_at (y ∷ xs) rest zero x d e = cc
head_at (y ∷ xs) rest (suc n) x d e = head_at xs rest n x d e

tail_at : {A : Type 0} (xs rest : List A) (n : ℕ) (x : A) → drop n xs ≡ x ∷ rest → drop (suc n) xs ≡ rest
tail_at [] rest zero x e = cc
tail_at [] rest (suc n) x e = cc
tail_at (y ∷ xs) rest zero x e = cc
tail_at (y ∷ xs) rest (suc n) x e = tail_at xs rest n x e

after : {A : Type 0} (xs : List A) (rest : List A) (x : A) (seen : List ℕ) (w : ℕ) → drop (length seen) xs ≡ x ∷ rest →
    drop (length (seen ++ w ∷ [])) xs ≡ rest
after xs rest x seen w e =
    let plus : length (seen ++ w ∷ []) ≡ length seen + 1 = length-append seen (w ∷ []) in
    let longer : length (seen ++ w ∷ []) ≡ suc (length seen) = omega arith in
    ap (λ n. drop n xs) longer ∙ tail_at xs rest (length seen) x e

own_at : (shape rest : List (List ℕ)) (n : ℕ) (own : List ℕ) → drop n shape ≡ own ∷ rest → children_of shape n ≡ own
unfolding children_of
own_at shape rest n own e = head_at shape rest n own [] e

-- ---- widths that were seen

pub total_prefix : (widths seen more own : List ℕ) → widths ≡ seen ++ more → ((u : ℕ) → has own u ≡ true → u < length seen) →
    total_width widths own ≡ total_width seen own
total_prefix widths seen more [] e h = refl
total_prefix widths seen more (u ∷ us) e h =
    let here : slice_index widths u ≡ slice_index seen u =
    ap (λ xs. slice_index xs u) e ∙ get_or_append_left seen more 0 u (h u (has_head u us)) in
    let there : total_width widths us ≡ total_width seen us =
    total_prefix widths seen more us e (λ v m. h v (has_tail u us v m)) in
    cc

combined_seen : (c : CatalogOf) → IsShape c.views.children → (seen more own : List ℕ) → c.widths ≡ seen ++ more →
    children_of c.views.children (length seen) ≡ own → combined_width c (length seen) ≡ total_width seen own
combined_seen c s seen more own e o =
    ap (total_width c.widths) o
    ∙ total_prefix c.widths seen more own e (λ u m. s.lower (length seen) u (rw o m))

width_here : (c : CatalogOf) (seen more : List ℕ) (w : ℕ) → c.widths ≡ seen ++ w ∷ more → width_of c (length seen) ≡ w
width_here c seen more w e = ap (λ xs. slice_index xs (length seen)) e ∙ get_or-append_seam seen w more 0

pushed : (widths seen more : List ℕ) (w : ℕ) → widths ≡ seen ++ w ∷ more → widths ≡ (seen ++ w ∷ []) ++ more
pushed widths seen more w e = e ∙ sym (append_assoc seen (w ∷ []) more)

-- ---- what fits together is what the views need

rest_from : (c : CatalogOf) → IsCatalog c → (seen : List ℕ) (shape : List (List ℕ)) (ws : List ℕ) (ds : List DefinitionOf) →
    length ws ≡ bases_among shape → length ds ≡ derived_among shape →
    drop (length seen) c.views.children ≡ shape → c.widths ≡ seen ++ dealt_widths (dealt_definitions shape ds) ws →
    drop (length seen) c.definitions ≡ dealt_definitions shape ds → Rest seen shape ws ds
rest_from c is seen [] ws ds e f a b g = (empty ws e, empty ds f)
rest_from c is seen ([] ∷ shape) [] ds e f a b g = absurd (let n : 0 ≡ suc (bases_among shape) = e in omega arith)
rest_from c is seen ([] ∷ shape) (w ∷ ws) ds e f a b g =
    let here : length seen < length c.views.children = within_of c.views.children shape (length seen) [] a in
    let width : width_of c (length seen) ≡ w = width_here c seen (dealt_widths (dealt_definitions shape ds) ws) w b in (
      subst (λ n. 1 ≤ n) width (is.some_columns (length seen) here),
      subst (λ n. n ≤ 64) width (is.few_columns (length seen) here),
      rest_from c is (seen ++ w ∷ []) shape ws ds (let n : suc (length ws) ≡ suc (bases_among shape) = e in omega arith) f
          (after c.views.children shape [] seen w a)
          (pushed c.widths seen (dealt_widths (dealt_definitions shape ds) ws) w b)
          (after c.definitions (dealt_definitions shape ds) None seen w g),
    )
rest_from c is seen ((u ∷ us) ∷ shape) ws [] e f a b g = absurd (let n : 0 ≡ suc (derived_among shape) = f in omega arith)
rest_from c is seen ((u ∷ us) ∷ shape) ws (d ∷ ds) e f a b g =
    let here : length seen < length c.views.children = within_of c.views.children shape (length seen) (u ∷ us) a in
    let defined : definition_of c (length seen) ≡ Some d = head_at c.definitions (dealt_definitions shape ds) (length seen) (Some d) None g in
    let width : width_of c (length seen) ≡ columns d.output = is.defined_columns (length seen) d defined in (
      record {
        width =
            is.combined (length seen) d defined
            ∙ combined_seen c is.shape seen (columns d.output ∷ dealt_widths (dealt_definitions shape ds) ws) (u ∷ us) b
            (own_at c.views.children shape (length seen) (u ∷ us) a);
        some = subst (λ n. 1 ≤ n) width (is.some_columns (length seen) here);
        few = subst (λ n. n ≤ 64) width (is.few_columns (length seen) here);
        within = is.within (length seen) d defined;
      },
      rest_from c is (seen ++ columns d.output ∷ []) shape ws ds e
          (let n : suc (length ds) ≡ suc (derived_among shape) = f in omega arith)
          (after c.views.children shape (u ∷ us) seen (columns d.output) a)
          (pushed c.widths seen (dealt_widths (dealt_definitions shape ds) ws) (columns d.output) b)
          (after c.definitions (dealt_definitions shape ds) (Some d) seen (columns d.output) g),
    )

-- ---- what the views need fits together

record Good (c : CatalogOf) (view : ℕ) : Type 0 where
  some : 1 ≤ width_of c view
  few : width_of c view ≤ 64
  combined : (d : DefinitionOf) → definition_of c view ≡ Some d → d.width ≡ combined_width c view
  within : (d : DefinitionOf) → definition_of c view ≡ Some d → IsDefinition d

good_base : (c : CatalogOf) (view w : ℕ) → definition_of c view ≡ None → width_of c view ≡ w → 1 ≤ w → w ≤ 64 → Good c view
good_base c view w none width some few = record {
  some = rw width some;
  few = rw width few;
  combined = λ d e. absurd (let no : None ≡ Some d = sym none ∙ e in cc);
  within = λ d e. absurd (let no : None ≡ Some d = sym none ∙ e in cc);
}

good_derived : (c : CatalogOf) (view : ℕ) (seen own : List ℕ) (d : DefinitionOf) → definition_of c view ≡ Some d →
    width_of c view ≡ columns d.output → combined_width c view ≡ total_width seen own → IsNext seen own d → Good c view
good_derived c view seen own d defined width combined next = record {
  some = rw width next.some;
  few = rw width next.few;
  combined = λ e h. subst (λ x. x.width ≡ combined_width c view) (same_Some d e (sym defined ∙ h)) (next.width ∙ sym combined);
  within = λ e h. subst IsDefinition (same_Some d e (sym defined ∙ h)) next.within;
}

goods : (c : CatalogOf) → IsShape c.views.children → (seen : List ℕ) (shape : List (List ℕ)) (ws : List ℕ) (ds : List DefinitionOf) →
    drop (length seen) c.views.children ≡ shape → c.widths ≡ seen ++ dealt_widths (dealt_definitions shape ds) ws →
    drop (length seen) c.definitions ≡ dealt_definitions shape ds → Rest seen shape ws ds →
    (view : ℕ) → length seen ≤ view → view < length c.views.children → Good c view
goods c s seen [] ws ds a b g r view l m =
    absurd (let past : length c.views.children ≤ length seen = past_of c.views.children (length seen) a in omega arith)
goods c s seen ([] ∷ shape) [] ds a b g r view l m = absurd (let no : false ≡ true = r in cc)
goods c s seen ([] ∷ shape) (w ∷ ws) ds a b g r view l m =
    let longer : length (seen ++ w ∷ []) ≡ length seen + 1 = length-append seen (w ∷ []) in
    elim (cases_lt (length seen) view) [
      | inl more ↦
          goods c s (seen ++ w ∷ []) shape ws ds
          (after c.views.children shape [] seen w a)
          (pushed c.widths seen (dealt_widths (dealt_definitions shape ds) ws) w b)
          (after c.definitions (dealt_definitions shape ds) None seen w g)
          r.2 view (omega arith) m
      | inr most ↦
          let here : length seen ≡ view = omega arith in
          subst (Good c) here
          (good_base c (length seen) w
          (head_at c.definitions (dealt_definitions shape ds) (length seen) None None g)
          (width_here c seen (dealt_widths (dealt_definitions shape ds) ws) w b) r.0 r.1)
    ]
goods c s seen ((u ∷ us) ∷ shape) ws [] a b g r view l m = absurd (let no : false ≡ true = r in cc)
goods c s seen ((u ∷ us) ∷ shape) ws (d ∷ ds) a b g r view l m =
    let longer : length (seen ++ columns d.output ∷ []) ≡ length seen + 1 = length-append seen (columns d.output ∷ []) in
    elim (cases_lt (length seen) view) [
      | inl more ↦
          goods c s (seen ++ columns d.output ∷ []) shape ws ds
          (after c.views.children shape (u ∷ us) seen (columns d.output) a)
          (pushed c.widths seen (dealt_widths (dealt_definitions shape ds) ws) (columns d.output) b)
          (after c.definitions (dealt_definitions shape ds) (Some d) seen (columns d.output) g)
          r.1 view (omega arith) m
      | inr most ↦
          let here : length seen ≡ view = omega arith in
          subst (Good c) here
          (good_derived c (length seen) seen (u ∷ us) d
          (head_at c.definitions (dealt_definitions shape ds) (length seen) (Some d) None g)
          (width_here c seen (dealt_widths (dealt_definitions shape ds) ws) (columns d.output) b)
          (combined_seen c s seen (columns d.output ∷ dealt_widths (dealt_definitions shape ds) ws) (u ∷ us) b
          (own_at c.views.children shape (length seen) (u ∷ us) a))
          r.0)
    ]

counts : (seen : List ℕ) (shape : List (List ℕ)) (ws : List ℕ) (ds : List DefinitionOf) → Rest seen shape ws ds →
    (length ws ≡ bases_among shape) × (length ds ≡ derived_among shape)
counts seen [] ws ds r = (sym (ap length r.0), sym (ap length r.1))
counts seen ([] ∷ shape) [] ds r = absurd (let no : false ≡ true = r in cc)
counts seen ([] ∷ shape) (w ∷ ws) ds r =
    let more = counts (seen ++ w ∷ []) shape ws ds r.2 in
    (ap suc more.0, more.1)
counts seen ((u ∷ us) ∷ shape) ws [] r = absurd (let no : false ≡ true = r in cc)
counts seen ((u ∷ us) ∷ shape) ws (d ∷ ds) r =
    let more = counts (seen ++ columns d.output ∷ []) shape ws ds r.1 in
    (more.0, ap suc more.1)

each_dealt : (shape : List (List ℕ)) (ds : List DefinitionOf) → length (dealt_definitions shape ds) ≡ length shape
each_dealt [] ds = refl
each_dealt ([] ∷ shape) ds = ap suc (each_dealt shape ds)
each_dealt ((u ∷ us) ∷ shape) [] = ap suc (each_dealt shape [])
each_dealt ((u ∷ us) ∷ shape) (d ∷ ds) = ap suc (each_dealt shape ds)

each_dealt_width : (os : List (Option DefinitionOf)) (ws : List ℕ) → length (dealt_widths os ws) ≡ length os
each_dealt_width [] ws = refl
each_dealt_width (Some d ∷ os) ws = ap suc (each_dealt_width os ws)
each_dealt_width (None ∷ os) [] = ap suc (each_dealt_width os [])
each_dealt_width (None ∷ os) (w ∷ ws) = ap suc (each_dealt_width os ws)

defined_within : (os : List (Option DefinitionOf)) (view : ℕ) (d : DefinitionOf) → get_or os view None ≡ Some d → view < length os
defined_within [] view d e = absurd (let no : None ≡ Some d = e in cc)
defined_within (o ∷ os) zero d e = omega arith
defined_within (o ∷ os) (suc view) d e = let l = defined_within os view d e in omega arith

dealt_derived : (shape : List (List ℕ)) (ds : List DefinitionOf) → length ds ≡ derived_among shape → (view : ℕ) → view < length shape →
    is_some (get_or (dealt_definitions shape ds) view None) ≡ not (is_empty (get_or shape view []))
dealt_derived [] ds f view l = absurd (omega arith)
dealt_derived ([] ∷ shape) ds f zero l = refl
dealt_derived ([] ∷ shape) ds f (suc view) l = dealt_derived shape ds f view (omega arith)
dealt_derived ((u ∷ us) ∷ shape) [] f view l = absurd (let n : 0 ≡ suc (derived_among shape) = f in omega arith)
dealt_derived ((u ∷ us) ∷ shape) (d ∷ ds) f zero l = refl
dealt_derived ((u ∷ us) ∷ shape) (d ∷ ds) f (suc view) l =
    dealt_derived shape ds (let n : suc (length ds) ≡ suc (derived_among shape) = f in omega arith) view (omega arith)

dealt_columns : (os : List (Option DefinitionOf)) (ws : List ℕ) (view : ℕ) (d : DefinitionOf) → get_or os view None ≡ Some d →
    slice_index (dealt_widths os ws) view ≡ columns d.output
dealt_columns [] ws view d e = absurd (let no : None ≡ Some d = e in cc)
dealt_columns (Some c ∷ os) ws zero d e = ap (λ x. columns x.output) (same_Some c d e)
dealt_columns (Some c ∷ os) ws (suc view) d e = dealt_columns os ws view d e
dealt_columns (None ∷ os) ws zero d e = absurd (let no : None ≡ Some d = e in cc)
dealt_columns (None ∷ os) [] (suc view) d e = dealt_columns os [] view d e
dealt_columns (None ∷ os) (w ∷ ws) (suc view) d e = dealt_columns os ws view d e

derived_at : (shape : List (List ℕ)) (ds : List DefinitionOf) → length ds ≡ derived_among shape → (view : ℕ) → view < length shape →
    is_some (get_or (dealt_definitions shape ds) view None) ≡ not (is_empty (children_of shape view))
unfolding children_of
derived_at shape ds f view l = dealt_derived shape ds f view l

pub to_rest : (views : Views) (ws : List ℕ) (ds : List DefinitionOf) → FitTogether views ws ds → Rest [] views.children ws ds
to_rest views ws ds fit =
    rest_from (catalog_of views ws ds) fit.catalog [] views.children ws ds fit.each_width fit.each_definition refl refl refl

pub of_rest : (views : Views) (ws : List ℕ) (ds : List DefinitionOf) → IsShape views.children → Rest [] views.children ws ds →
    FitTogether views ws ds
of_rest views ws ds s r = record {
  each_width = each.0;
  each_definition = each.1;
  catalog = record {
    shape = s;
    each_width = each_dealt_width (dealt_definitions views.children ds) ws ∙ each_dealt views.children ds;
    each_definition = each_dealt views.children ds;
    derived = derived_at views.children ds each.1;
    some_columns = λ view l. (good view l).some;
    few_columns = λ view l. (good view l).few;
    defined_columns = dealt_columns (dealt_definitions views.children ds) ws;
    combined = λ view d e. (good view (lower view d e)).combined d e;
    within = λ view d e. (good view (lower view d e)).within d e;
  };
}
  where
    each : (length ws ≡ bases_among views.children) × (length ds ≡ derived_among views.children)
    each = counts [] views.children ws ds r

    good : (view : ℕ) → view < length views.children → Good (catalog_of views ws ds) view
    good view l = goods (catalog_of views ws ds) s [] views.children ws ds refl refl refl r view (omega arith) l

    lower : (view : ℕ) (d : DefinitionOf) → definition_of (catalog_of views ws ds) view ≡ Some d → view < length views.children
    lower view d e =
        subst (λ n. view < n) (each_dealt views.children ds) (defined_within (dealt_definitions views.children ds) view d e)

-- children are lower, so of the widths only those before the view matter
pub total_before : (shape : List (List ℕ)) → IsShape shape → (view : ℕ) (widths own : List ℕ) → view ≤ length widths → own ≡ children_of shape view →
    total_width widths own ≡ total_width (take view widths) own
total_before shape s view widths own l o =
    total_prefix widths (take view widths) (drop view widths) own (sym (take-append-drop view widths))
    (λ u m. rw (length-take-le view widths l) (s.lower view u (rw (← o) m)))

-- children are below the number of views
pub children_within : (shape : List (List ℕ)) → IsShape shape → (view n : ℕ) (own : List ℕ) → view < length shape → n ≡ 64 → own ≡ children_of shape view →
    All (λ u. u < n) own
children_within shape s view n own l e o =
    All-from_has (λ u. u < n) own
    (λ u m.
    let lower : u < view = s.lower view u (rw (← o) m) in
    let few : length shape ≤ 64 = s.few_views in
    omega arith)
