use Rattle.std.proofs.Common.{rules, ◌≡◌, ◌∙◌, sym, ap, subst, ℕ, ℤ, ◌+◌, pos, ◌≤ℤ◌, [], Some, None, arith}
use Rattle.std.specs.Prelude.{◌-ℤ◌, FitsSigned}
use Rattle.std.proofs.lemmas.Int.{to_z-of_z}
use mir.Syntax.{w64}
use mir.Val.{of_z, to_z}
use Rattle.wh_versions.specs.Rows.{Pairs, read}
use Rattle.wh_versions.specs.Tables.{pairs_in}
use Rattle.wh_store.specs.Slots.{pairs_at}
use Rattle.wh_row.specs.Bag.{count}
use Rattle.wh_store.specs.Versions.{table_in}
use Rattle.wh_store.specs.Windows.{Window, current}
use Rattle.wh_core.specs.Inner.Changes.{change_shown}
use Rattle.wh_core.proofs.Changes.{as_numbers, counts_now, counts_then, enough_kept, less_fits, night_there, no_change, no_night_there, reads_change, reads_now}
use Rattle.wh_core.proofs.machine.Machine.row_change.Goals as goal

pub returns-in_default : goal.returns-in_default
returns-in_default c =
    let w = c.args.self.now.store in
    sym (no_change w c.args.view c.args.row.now (no_night_there w c.night_number.result c.night_number.ensures c.in_default.is))

pub returns-in_default-slots : goal.returns-in_default-slots
returns-in_default-slots c =
    let w = c.args.self.now.store in
    let r = c.requires.running in
    let t = night_there w c.night_number.result c.in-Some.night c.night_number.ensures c.in-Some.is in
    let enough = enough_kept r.setup r.log c.args.self.now r.is_setup r.stands in
    let none : pairs_at w.rows c.args.view c.args.row.now ≡ [] = sym c.slots.ensures ∙ ap pairs_in c.in_default-slots.is in
    sym (reads_change w c.args.view c.args.row.now enough c.slots_are_read.ensures.kept t.0 t.1 (c.slots_are_read.ensures.night t.0 t.1)
    ∙ ap (λ ps. read (w.number + 1) ps -ℤ read w.number ps) none)

pub overflow_sub-result : goal.overflow_sub-result
overflow_sub-result c =
    let w = c.args.self.now.store in
    let r = c.requires.running in
    let t = night_there w c.night_number.result c.in-Some.night c.night_number.ensures c.in-Some.is in
    let enough = enough_kept r.setup r.log c.args.self.now r.is_setup r.stands in
    let pairs : Pairs = c.in-Some-slots.slots in
    let same : pairs_at w.rows c.args.view c.args.row.now ≡ pairs = sym c.slots.ensures ∙ ap pairs_in c.in-Some-slots.is in
    let fits : FitsSigned w64 c.read.result = search rules in
    let fit : FitsSigned w64 c.read-2.result = search rules in
    let then_is : count (table_in t.0 c.args.view) c.args.row.now ≡ c.read.result =
    c.slots_are_read.ensures.night t.0 t.1 c.args.row.now ∙ ap (read (w.number + 1)) same ∙ ap (λ n. read n pairs) (sym t.2) ∙ sym c.read.ensures in
    let now_is : count (table_in (current w) c.args.view) c.args.row.now ≡ c.read-2.result =
    reads_now w c.args.view c.args.row.now enough c.slots_are_read.ensures.kept t.0 t.1 ∙ ap (read w.number) same ∙ ap (λ n. read n pairs) (sym c.number.ensures) ∙ sym c.read-2.ensures in
    let some = subst (λ n. pos 0 ≤ℤ n) then_is (counts_then r.setup r.log c.args.self.now r.is_setup r.stands c.published_are_well_formed.ensures c.tables_stay_law.ensures c.told_law.ensures c.args.view c.args.row.now t.0 t.1) in
    let others = subst (λ n. pos 0 ≤ℤ n) now_is (counts_now r.setup r.log c.args.self.now r.is_setup r.stands c.published_are_well_formed.ensures c.tables_stay_law.ensures c.told_law.ensures c.args.view c.args.row.now) in
    subst (FitsSigned w64) (sym (as_numbers c.read.result c.read-2.result fits fit)) (less_fits c.read.result c.read-2.result fits fit some others)

pub returns : goal.returns
returns c =
    let w = c.args.self.now.store in
    let r = c.requires.running in
    let t = night_there w c.night_number.result c.in-Some.night c.night_number.ensures c.in-Some.is in
    let enough = enough_kept r.setup r.log c.args.self.now r.is_setup r.stands in
    let pairs : Pairs = c.in-Some-slots.slots in
    let same : pairs_at w.rows c.args.view c.args.row.now ≡ pairs = sym c.slots.ensures ∙ ap pairs_in c.in-Some-slots.is in
    let fits : FitsSigned w64 c.read.result = search rules in
    let fit : FitsSigned w64 c.read-2.result = search rules in
    let both : (c.read.result -ℤ c.read-2.result) ≡ count (change_shown w c.args.view) c.args.row.now =
    (λ i. c.read.ensures i -ℤ c.read-2.ensures i)
    ∙ (λ i. read (t.2 i) pairs -ℤ read (c.number.ensures i) pairs)
    ∙ sym (reads_change w c.args.view c.args.row.now enough c.slots_are_read.ensures.kept t.0 t.1 (c.slots_are_read.ensures.night t.0 t.1)
    ∙ ap (λ ps. read (w.number + 1) ps -ℤ read w.number ps) same) in
    to_z-of_z w64 (to_z w64 (of_z w64 c.read.result) -ℤ to_z w64 (of_z w64 c.read-2.result)) (overflow_sub-result c) ∙ as_numbers c.read.result c.read-2.result fits fit ∙ both
