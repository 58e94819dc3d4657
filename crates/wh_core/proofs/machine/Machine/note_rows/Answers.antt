use Rattle.std.proofs.Common.{rules, ◌≡◌, ◌∙◌, refl, sym, ap, subst, Bool, ◌||◌, ◌∷◌, ◌++◌, [], take, length, ℕ, ◌+◌, Some, arith}
use Rattle.std.specs.Prelude.{slice_get}
use Rattle.std.proofs.lemmas.List.{map-append}
use Rattle.std.proofs.lemmas.Option.{slice_get_read}
use Rattle.wh_row.specs.Bag.{Bag}
use Rattle.wh_row.specs.Row.{Row, is_row}
use Rattle.wh_row.specs.Stored.{plain}
use Rattle.wh_versions.specs.Tables.{is_given}
use Rattle.wh_carry.proofs.CourseWaves.{take_all, take_next}
use Rattle.wh_core.specs.Inner.Changes.{AreNoted, change_shown}
use Rattle.wh_core.proofs.Changes.{is_given-append, noted_so, or_assoc, or_false}
use Rattle.wh_core.proofs.machine.Machine.note_rows.Goals as goal

pub loop-row-preserved : goal.loop-row-preserved
loop-row-preserved c = λ noted h.
    let whole : Bag = change_shown c.args.self.now.store c.args.view in
    let rows = c.args.rows.now in
    let i : ℕ = c.loop-row.row-index in
    let x = c.loop-row-item.result in
    let there : slice_get rows i ≡ Some x = slice_get_read rows (length rows) i x refl (omega arith) c.loop-row-item.is in
    let next : plain (take (i + 1) rows) ≡ plain (take i rows) ++ plain (x ∷ []) = ap plain (take_next rows i x there) ∙ map-append _ (take i rows) (x ∷ []) in
    noted_so whole c.note_row.new.change
    (λ r. (noted r || is_given r (plain (take i rows))) || is_row r c.as_slice.result.now)
    (λ r. noted r || is_given r (plain (take (i + 1) rows)))
    (λ r. or_assoc (noted r) (is_given r (plain (take i rows))) (is_row r c.as_slice.result.now)
    ∙ ap (λ b. noted r || b)
    (ap (λ b. is_given r (plain (take i rows)) || b) (ap (is_row r) c.as_slice.ensures.value ∙ or_false (is_row r x.0.items))
    ∙ sym (is_given-append r (plain (take i rows)) (plain (x ∷ []))) ∙ ap (is_given r) (sym next)))
    (c.in_ok-note_row.ensures (λ r. noted r || is_given r (plain (take i rows))) (c.loop-row.invariant noted h))

pub returns : goal.returns
returns c = λ noted h.
    subst (λ rows. AreNoted (change_shown c.args.self.now.store c.args.view) (λ r. noted r || is_given r (plain rows)) c.loop-row.change)
    (take_all c.loop-row.row-index c.args.rows.now (omega arith)) (c.loop-row.invariant noted h)
