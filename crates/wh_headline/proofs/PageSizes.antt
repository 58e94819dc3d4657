-- What a night writes, whatever the size of its pages.
use Rattle.std.proofs.Common.{◌≡◌, refl, sym, ap, ◌∙◌, ℕ, zero, suc, ◌≤◌, List, [], ◌∷◌, ◌++◌, map, Option, Some, None}
use Rattle.std.specs.Prelude.{option_map}
use Rattle.std.specs.List.{flat_map}
use Rattle.wh_row.specs.Bag.{Bag, set_count}
use Rattle.wh_row.specs.Weigh.{Counted}
use Rattle.wh_maint.specs.Definition.{graph_of}
use Rattle.wh_maint.specs.View.{ViewGraph}
use Rattle.wh_strategy.specs.declared.expression.Expression.{Expression}
use Rattle.wh_strategy.specs.declared.expression.Expression.TheVariants.{Comp, Inst}
use Rattle.wh_store.specs.Operations.{Operation, Opens, Writes, Commits}
use Rattle.wh_store.specs.Pages.{Contents, with_counts}
use Rattle.wh_store.specs.Versions.{Versions, after, versions_from, written_over}
use Rattle.wh_carry.specs.Carry.{State, at_first, change_in, step}
use Rattle.wh_carry.specs.Night.{Night}
use Rattle.wh_carry.specs.NightList.{inst_pages, new_counts, pages_of, puts_of}
use Rattle.wh_core.proofs.NightLogs.{night_ops}
use Rattle.wh_core.proofs.Underway.{versions_from-append}
use Rattle.wh_core.proofs.Writes.{pages_join}

counts-append : (a b : Counted) (table : Bag) → with_counts table (a ++ b) ≡ with_counts (with_counts table a) b
counts-append [] b table = refl
counts-append (e ∷ a) b table = counts-append a b (set_count table e.0 e.1)

nothing_over : (c : Contents) (view : ℕ) → written_over view [] c ≡ c
nothing_over [] view = refl
nothing_over (t ∷ c) zero = refl
nothing_over (t ∷ c) (suc view) = ap (λ (rest : Contents). t ∷ rest) (nothing_over c view)

over_again : (c : Contents) (view : ℕ) (a b : Counted) → written_over view b (written_over view a c) ≡ written_over view (a ++ b) c
over_again [] view a b = refl
over_again (t ∷ c) zero a b = ap (λ (x : Bag). x ∷ c) (sym (counts-append a b t))
over_again (t ∷ c) (suc view) a b = ap (λ (rest : Contents). t ∷ rest) (over_again c view a b)

-- pages of a view are written as all their rows are at once
at_once : (view : ℕ) (pages : List Counted) (v : Versions) → versions_from v (map (Writes view) pages) ≡ after v (Writes view (flat_map (λ p. p) pages))
at_once view [] v = λ i. record { newest = v.newest; older = v.older; draft = sym (same v.draft) i }
  where
    same : (d : Option Contents) → option_map (written_over view []) d ≡ d
    same None = refl
    same (Some c) = ap Some (nothing_over c view)
at_once view (p ∷ pages) v = at_once view pages (after v (Writes view p)) ∙ (λ i. record { newest = v.newest; older = v.older; draft = twice v.draft i })
  where
    twice : (d : Option Contents) → option_map (written_over view (flat_map (λ q. q) pages)) (option_map (written_over view p) d) ≡ option_map (written_over view (p ++ flat_map (λ q. q) pages)) d
    twice None = refl
    twice (Some c) = ap Some (over_again c view p (flat_map (λ q. q) pages))

module _ (g : ViewGraph) (changes : ℕ → Bag) (a b : ℕ) (some_a : 1 ≤ a) (some_b : 1 ≤ b) where
  same_inst : (w : ℕ) (s : State) (v : Versions) → versions_from v (map (Writes w) (inst_pages g changes a s w)) ≡ versions_from v (map (Writes w) (inst_pages g changes b s w))
  same_inst w s v =
      let rows : Counted = new_counts (s.tables w) (change_in g changes s w) in
      let whole : (keys : ℕ) → 1 ≤ keys → versions_from v (map (Writes w) (pages_of keys rows)) ≡ after v (Writes w rows) =
      λ keys some. at_once w (pages_of keys rows) v ∙ ap (λ es. after v (Writes w es)) (pages_join keys rows some) in
      whole a some_a ∙ sym (whole b some_b)

  same_puts : (list : List Expression) (s : State) (v : Versions) → versions_from v (puts_of g changes a list s) ≡ versions_from v (puts_of g changes b list s)
  unfolding puts_of
  same_puts [] s v = refl
  same_puts (Comp w ys ∷ list) s v = same_puts list (step g changes (Comp w ys) s) v
  same_puts (Inst w ∷ list) s v =
      let next : State = step g changes (Inst w) s in
      let one : List Operation = map (Writes w) (inst_pages g changes a s w) in
      let other : List Operation = map (Writes w) (inst_pages g changes b s w) in
      versions_from-append v one (puts_of g changes a list next)
      ∙ ap (λ x. versions_from x (puts_of g changes a list next)) (same_inst w s v)
      ∙ same_puts list next (versions_from v other)
      ∙ sym (versions_from-append v other (puts_of g changes b list next))

-- a whole night makes the same versions by pages of any size
pub any_pages : (n : Night) (keys : ℕ) (v : Versions) → 1 ≤ n.keys → 1 ≤ keys → versions_from v (night_ops n) ≡ versions_from v (night_ops (record n { keys = keys }))
any_pages n keys v some_own some =
    let g : ViewGraph = graph_of n.catalog in
    let begun : Versions = after v Opens in
    let own : List Operation = puts_of g n.changes n.keys n.list (at_first n.tables) in
    let other : List Operation = puts_of g n.changes keys n.list (at_first n.tables) in
    versions_from-append begun own (Commits ∷ [])
    ∙ ap (λ x. after x Commits) (same_puts g n.changes n.keys keys some_own some n.list (at_first n.tables) begun)
    ∙ sym (versions_from-append begun other (Commits ∷ []))
