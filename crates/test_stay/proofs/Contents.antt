-- What a warehouse is given: what is opened over tables is contents, and lists that are the same at each place are one.
use Rattle.std.proofs.Common.{◌≡◌, ℕ, zero, suc, ◌<◌, ◌+◌, List, [], ◌∷◌, length, get_or, refl, sym, ap, subst, ◌∙◌, arith, ⊎_elim}
use Rattle.std.specs.Prelude.{map, pos, slice_index, ◌≤ℤ◌}
use Rattle.std.specs.Vec.{vec_len}
use Rattle.std.proofs.lemmas.Bool.{cases_lt}
use Rattle.std.proofs.lemmas.Int.{ints}
use Rattle.wh_dag.specs.Catalog.{CatalogOf, IsCatalog}
use Rattle.wh_row.specs.Bag.{Bag, IsTable, empty}
use Rattle.wh_maint.specs.Comp.{bag_at}
use Rattle.wh_maint.specs.Contents.{AreContents, IsFromScratch, contents}
use Rattle.wh_maint.specs.Definition.{graph_of}
use Rattle.wh_maint.specs.Opening.{CanBeEvaluated, HaveContentsBelow}
use Rattle.wh_maint.specs.Value.{view_value}
use Rattle.wh_maint.specs.View.{ViewGraph}
use Rattle.wh_maint.proofs.FromScratch.{catalogs_are_graphs, contents_are_values}
use Rattle.wh_maint.proofs.Differences.{same_tables}
use Rattle.wh_carry.proofs.NewValues.{within}
use Rattle.wh_carry.proofs.Agreeing.{count-empty, past}
use Rattle.wh_stay.specs.Standing.{widths_of}
use Rattle.wh_text_catalogue.specs.Definitions.{shown_view}
use Rattle.wh_text_catalogue.specs.declared.definitions.views.WrittenView.{WrittenView}

none_negative : IsTable empty
none_negative row = subst (λ n. pos 0 ≤ℤ n) (sym (count-empty row)) (omega (arith, ints))

-- where there is no table there is the empty one
pub all_tables : (tables : List Bag) → ((v : ℕ) → v < length tables → IsTable (bag_at tables v)) → (v : ℕ) → IsTable (bag_at tables v)
all_tables tables are v = ⊎_elim (λ l. are v l) (λ m. subst IsTable (sym (past tables v empty m)) none_negative) (cases_lt v (length tables))

pub opened_are_contents : (cat : CatalogOf) → IsCatalog cat → (base old : List Bag) → ((v : ℕ) → IsTable (bag_at base v))
    → ((v : ℕ) → bag_at old v ≡ contents (graph_of cat) (bag_at base) v) → HaveContentsBelow (graph_of cat) (bag_at base) (length cat.views.children)
    → AreContents (graph_of cat) (bag_at old)
opened_are_contents cat is base old are opened valued =
    let g : ViewGraph = graph_of cat in
    let whole : IsFromScratch g (bag_at base) = contents_are_values g (bag_at base) (catalogs_are_graphs cat is) in
    let as_old : contents g (bag_at base) ≡ bag_at old = λ i u. sym (opened u) i in
    record {
      counts = λ b e. subst IsTable (sym (opened b ∙ whole.bases b e)) (are b);
      bases = λ b e. refl;
      values = λ v some. opened v ∙ whole.values v some ∙ ap (view_value (g.views v)) (same_tables (g.children v) (contents g (bag_at base)) (bag_at old) (λ u t. sym (opened u)));
      defined = λ v some. (let has : CanBeEvaluated g (bag_at old) v = subst (λ ts. CanBeEvaluated g ts v) as_old (valued v (within cat.views.children v some) some) in has.valued);
    }

-- numbers that are the same at each place
pub same_numbers : (xs ys : List ℕ) → length xs ≡ length ys → ((u : ℕ) → u < length xs → slice_index xs u ≡ slice_index ys u) → xs ≡ ys
same_numbers [] [] l h = refl
same_numbers [] (y ∷ ys) l h = absurd (omega (arith, l))
same_numbers (x ∷ xs) [] l h = absurd (omega (arith, l))
same_numbers (x ∷ xs) (y ∷ ys) l h = λ i. h 0 (omega arith) i ∷ same_numbers xs ys (omega (arith, l)) (λ u b. h (suc u) (omega (arith, b))) i

-- one place more
pub one_more : (P : ℕ → Type 0) (n : ℕ) → ((u : ℕ) → u < n → P u) → P n → (u : ℕ) → u < n + 1 → P u
one_more P n before here u l = ⊎_elim (λ b. before u b) (λ m. (let same : n ≡ u = omega (arith, l, m) in subst P same here)) (cases_lt u n)

-- how many columns the view at a place has
pub widths_at : (views : List WrittenView) (u : ℕ) (d : WrittenView) → u < length views → slice_index (widths_of (map shown_view views)) u ≡ vec_len (get_or views u d).columns
widths_at [] u d l = absurd (omega (arith, l))
widths_at (view ∷ views) zero d l = let same = view.columns.ok.0 in omega (arith, same)
widths_at (view ∷ views) (suc u) d l = widths_at views u d (omega (arith, l))
