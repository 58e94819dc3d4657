use Rattle.std.proofs.Common.{◌≡◌, ◌∙◌, ◌+◌, ◌<◌, ℕ, Bool, true, ap, sym, subst, List, [], length, lit<, arith, rules}
use Rattle.std.specs.Prelude.{slice_set, IsTrue}
use Rattle.wh_row.specs.Stored.{plain}
use Rattle.wh_versions.specs.Tables.{HaveCounts, IsNewToNight, ViewRows}
use Rattle.wh_versions.proofs.PageLaws.{told}
use Rattle.wh_store.specs.Operations.{Writes}
use Rattle.wh_store.specs.Pages.{is_page}
use Rattle.wh_store.specs.Slots.{rows_in, with_pairs}
use Rattle.wh_store.specs.Windows.{Window, applied}
use Rattle.wh_store.specs.Inner.Kept.{IsHeld, rows_of, window_held}
use Rattle.wh_store.proofs.KeptLaws.{at_map, own_night, put_window, set_held, unseen_window}
use Rattle.wh_store.proofs.WriteLaws.{page_have}
use Rattle.wh_store.proofs.held.Held.put.Goals as goal

pub put_one-requires : goal.put_one-requires
put_one-requires g c =
    let number = c.self.inside.number in
    let items = c.self.inside.tables.items in
    let nightly : c.self.inside.active ≡ true = search rules in
    let held = subst (λ (b : Bool). IsHeld g.row.N number b items) nightly c.self.invariant in
    let here : c.args.view < length items = search rules in
    let night : c.index_mut.result.now.night ≡ number + 1 = own_night g.row.N number items held c.args.view c.index_mut.result.now c.index_mut.result.now here c.index_mut.ensures.value in
    let page : IsTrue (is_page (plain c.args.rows.now)) = search rules in
    (lit< tt, (held.enough, (omega arith, page_have (plain c.args.rows.now) page)))

pub invariant_of-self : goal.invariant_of-self
invariant_of-self g c =
    let number = c.self.inside.number in
    let items = c.self.inside.tables.items in
    let nightly : c.self.inside.active ≡ true = search rules in
    let held = subst (λ (b : Bool). IsHeld g.row.N number b items) nightly c.self.invariant in
    let here : c.args.view < length items = search rules in
    subst (λ (b : Bool). IsHeld g.row.N number b (slice_set items c.args.view c.put_one.new.table)) (sym nightly)
    (set_held g.row.N number items held c.args.view c.index_mut.result.now c.put_one.new.table here c.index_mut.ensures.value c.in_err-put_one.ensures.err.night)

pub invariant_of-self-2 : goal.invariant_of-self-2
invariant_of-self-2 g c =
    let number = c.self.inside.number in
    let items = c.self.inside.tables.items in
    let nightly : c.self.inside.active ≡ true = search rules in
    let held = subst (λ (b : Bool). IsHeld g.row.N number b items) nightly c.self.invariant in
    let here : c.args.view < length items = search rules in
    subst (λ (b : Bool). IsHeld g.row.N number b (slice_set items c.args.view c.put_one.new.table)) (sym nightly)
    (set_held g.row.N number items held c.args.view c.index_mut.result.now c.put_one.new.table here c.index_mut.ensures.value c.in_ok-put_one.ensures.ok.night)

pub returns-in_err-put_one-clause-err : goal.returns-in_err-put_one-clause-err
returns-in_err-put_one-clause-err g c =
    let number = c.self.inside.number in
    let items = c.self.inside.tables.items in
    let nightly : c.self.inside.active ≡ true = search rules in
    let held = subst (λ (b : Bool). IsHeld g.row.N number b items) nightly c.self.invariant in
    let here : c.args.view < length items = search rules in
    told (ap (λ (b : Bool). window_held g.row.N number b (slice_set items c.args.view c.put_one.new.table)) nightly
    ∙ unseen_window g.row.N number items held c.args.view c.index_mut.result.now c.put_one.new.table here c.index_mut.ensures.value c.in_err-put_one.ensures.err
    ∙ ap (λ (b : Bool). window_held g.row.N number b items) (sym nightly)
    ∙ c.self.view_is) c.from_residual.result

pub returns-in_err-put_one-clause-memory : goal.returns-in_err-put_one-clause-memory
returns-in_err-put_one-clause-memory g c _ =
    let number = c.self.inside.number in
    let items = c.self.inside.tables.items in
    let nightly : c.self.inside.active ≡ true = search rules in
    let held = subst (λ (b : Bool). IsHeld g.row.N number b items) nightly c.self.invariant in
    let here : c.args.view < length items = search rules in
    let night = own_night g.row.N number items held c.args.view c.index_mut.result.now c.index_mut.result.now here c.index_mut.ensures.value in
    let rows = sym (at_map (λ (x : ViewRows). with_pairs x.rows) [] items c.args.view c.index_mut.result.now here c.index_mut.ensures.value) in
    let same = subst (λ (t : ViewRows). IsNewToNight (plain c.args.rows.now) t) (λ i. record { night = night i; rows = rows i }) c.in_err-put_one.ensures.memory in
    subst (λ (w : Window). IsNewToNight (plain c.args.rows.now) (record { night = w.number + 1; rows = rows_in w.rows c.args.view })) c.self.view_is same

pub returns-clause-ok : goal.returns-clause-ok
returns-clause-ok g c =
    let number = c.self.inside.number in
    let items = c.self.inside.tables.items in
    let nightly : c.self.inside.active ≡ true = search rules in
    let held = subst (λ (b : Bool). IsHeld g.row.N number b items) nightly c.self.invariant in
    let here : c.args.view < length items = search rules in
    let op = Writes c.args.view (plain c.args.rows.now) in
    ap (λ (b : Bool). window_held g.row.N number b (slice_set items c.args.view c.put_one.new.table)) nightly
    ∙ put_window g.row.N number items held c.args.view c.index_mut.result.now c.put_one.new.table here c.index_mut.ensures.value (plain c.args.rows.now) c.in_ok-put_one.ensures.ok
    ∙ ap (λ (b : Bool). applied (window_held g.row.N number b items) op) (sym nightly)
    ∙ ap (λ w. applied w op) c.self.view_is
