use Rattle.std.proofs.Common.{◌≡◌, ◌∙◌, ◌+◌, ◌<◌, ◌^◌, ℕ, Bool, true, false, ap, sym, subst, List, map, length, lit<, arith, rules}
use Rattle.std.specs.List.{AllByRecursion}
use Rattle.std.proofs.lemmas.List.{length-map, with_items_is}
use Rattle.wh_versions.specs.Tables.{ViewRows}
use Rattle.wh_store.specs.Operations.{Gives_up}
use Rattle.wh_store.specs.Windows.{applied}
use Rattle.wh_store.specs.Inner.Kept.{IsHeld, Returns, back_rows, window_held}
use Rattle.wh_store.proofs.KeptLaws.{all_of, back_held, back_window}
use Rattle.wh_store.proofs.held.Held.give_up.Goals as goal

pub give_up_each-requires : goal.give_up_each-requires
give_up_each-requires g c =
    let number = c.self.inside.number in
    let items = c.self.inside.tables.items in
    let nightly : c.self.inside.active ≡ true = search rules in
    let held = subst (λ (b : Bool). IsHeld g.row.N number b items) nightly c.self.invariant in
    let numbers = all_of (λ (t : ViewRows). t.night ≡ number + 1) (λ (t : ViewRows). 0 < t.night) items (λ t e. (let night : t.night ≡ number + 1 = e in omega arith)) held.nights in
    (lit< tt, subst (λ (ts : List ViewRows). AllByRecursion (λ (t : ViewRows). 0 < t.night) ts) (sym c.as_mut_slice.ensures.value) numbers)

pub invariant_of-self : goal.invariant_of-self
invariant_of-self g c =
    let number = c.self.inside.number in
    let items = c.self.inside.tables.items in
    let nightly : c.self.inside.active ≡ true = search rules in
    let held = subst (λ (b : Bool). IsHeld g.row.N number b items) nightly c.self.invariant in
    let returns = subst (λ (ts : List ViewRows). AllByRecursion Returns ts) c.as_mut_slice.ensures.value c.give_up_each.ensures.returns in
    let long = ap length c.give_up_each.ensures.rows ∙ length-map c.as_mut_slice.result.now back_rows ∙ c.as_mut_slice.ensures.len in
    let new = with_items_is c.self.inside.tables c.give_up_each.new.tables long ∙ c.give_up_each.ensures.rows ∙ ap (λ (ts : List ViewRows). map back_rows ts) c.as_mut_slice.ensures.value in
    subst (λ (ts : List ViewRows). IsHeld g.row.N (number + 1) false ts) (sym new) (back_held g.row.N number items held returns)

pub returns-clause-ok : goal.returns-clause-ok
returns-clause-ok g c =
    let number = c.self.inside.number in
    let items = c.self.inside.tables.items in
    let nightly : c.self.inside.active ≡ true = search rules in
    let held = subst (λ (b : Bool). IsHeld g.row.N number b items) nightly c.self.invariant in
    let returns = subst (λ (ts : List ViewRows). AllByRecursion Returns ts) c.as_mut_slice.ensures.value c.give_up_each.ensures.returns in
    let long = ap length c.give_up_each.ensures.rows ∙ length-map c.as_mut_slice.result.now back_rows ∙ c.as_mut_slice.ensures.len in
    let new = with_items_is c.self.inside.tables c.give_up_each.new.tables long ∙ c.give_up_each.ensures.rows ∙ ap (λ (ts : List ViewRows). map back_rows ts) c.as_mut_slice.ensures.value in
    ap (λ (ts : List ViewRows). window_held g.row.N (number + 1) false ts) new
    ∙ back_window g.row.N number items held returns
    ∙ ap (λ (b : Bool). applied (window_held g.row.N number b items) Gives_up) (sym nightly)
    ∙ ap (λ w. applied w Gives_up) c.self.view_is
