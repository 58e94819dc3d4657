use Rattle.std.proofs.Common.{◌≡◌, ◌∙◌, ◌+◌, ◌<◌, ◌^◌, ℕ, Bool, true, false, ap, sym, subst, List, map, length, lit<, arith}
use Rattle.std.specs.List.{AllByRecursion}
use Rattle.std.proofs.lemmas.List.{length-map, with_items_is}
use Rattle.wh_versions.specs.Tables.{ViewRows}
use Rattle.wh_store.specs.Operations.{Opens}
use Rattle.wh_store.specs.Windows.{applied}
use Rattle.wh_store.specs.Inner.Kept.{Begins, IsHeld, begun_rows, window_held}
use Rattle.wh_store.proofs.KeptLaws.{all_of, begun_held, begun_window}
use Rattle.wh_store.proofs.held.Held.begin.Goals as goal

next_one : (n : ℕ) → n + 0 < 2 ^ 64 → (n ≡ 18446744073709551615 → ⊥) → n + 1 < 2 ^ 64
next_one n h k = grind arith

pub begin_each-requires : goal.begin_each-requires
begin_each-requires g c =
    let number = c.self.inside.number in
    let items = c.self.inside.tables.items in
    let held = subst (λ (b : Bool). IsHeld g.row.N number b items) c.if-self.false c.self.invariant in
    let next = next_one number held.next c.if-self-2.false in
    let numbers = all_of (λ (t : ViewRows). t.night ≡ number + 0) (λ (t : ViewRows). t.night + 1 < 2 ^ 64) items
    (λ t e. let night : t.night ≡ number + 0 = e in let same : number ≡ t.night = omega arith in subst (λ (m : ℕ). m + 1 < 2 ^ 64) same next) held.nights in
    (lit< tt, (held.enough, subst (λ (ts : List ViewRows). AllByRecursion (λ (t : ViewRows). t.night + 1 < 2 ^ 64) ts) (sym c.as_mut_slice.ensures.value) numbers))

pub invariant_of-self : goal.invariant_of-self
invariant_of-self g c =
    let number = c.self.inside.number in
    let items = c.self.inside.tables.items in
    let held = subst (λ (b : Bool). IsHeld g.row.N number b items) c.if-self.false c.self.invariant in
    let keeps = subst (λ (ts : List ViewRows). AllByRecursion (Begins g.row.N) ts) c.as_mut_slice.ensures.value c.begin_each.ensures.keeps in
    let long = ap length c.begin_each.ensures.rows ∙ length-map c.as_mut_slice.result.now (begun_rows g.row.N) ∙ c.as_mut_slice.ensures.len in
    let new = with_items_is c.self.inside.tables c.begin_each.new.tables long ∙ c.begin_each.ensures.rows ∙ ap (λ (ts : List ViewRows). map (begun_rows g.row.N) ts) c.as_mut_slice.ensures.value in
    subst (λ (ts : List ViewRows). IsHeld g.row.N number true ts) (sym new) (begun_held g.row.N number items held keeps (next_one number held.next c.if-self-2.false))

pub returns-clause-ok : goal.returns-clause-ok
returns-clause-ok g c =
    let number = c.self.inside.number in
    let items = c.self.inside.tables.items in
    let held = subst (λ (b : Bool). IsHeld g.row.N number b items) c.if-self.false c.self.invariant in
    let keeps = subst (λ (ts : List ViewRows). AllByRecursion (Begins g.row.N) ts) c.as_mut_slice.ensures.value c.begin_each.ensures.keeps in
    let long = ap length c.begin_each.ensures.rows ∙ length-map c.as_mut_slice.result.now (begun_rows g.row.N) ∙ c.as_mut_slice.ensures.len in
    let new = with_items_is c.self.inside.tables c.begin_each.new.tables long ∙ c.begin_each.ensures.rows ∙ ap (λ (ts : List ViewRows). map (begun_rows g.row.N) ts) c.as_mut_slice.ensures.value in
    ap (λ (ts : List ViewRows). window_held g.row.N number true ts) new
    ∙ begun_window g.row.N number items held keeps
    ∙ ap (λ (b : Bool). applied (window_held g.row.N number b items) Opens) (sym c.if-self.false)
    ∙ ap (λ w. applied w Opens) c.self.view_is
