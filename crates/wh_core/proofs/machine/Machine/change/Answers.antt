use Rattle.std.proofs.Common.{rules, ◌≡◌, ◌≢◌, ◌∙◌, refl, sym, ap, subst, Bool, true, false, ◌||◌, ◌∷◌, ◌++◌, [], take, length, ℕ, ◌+◌, ◌≤◌, Some, arith}
use Rattle.std.specs.Prelude.{slice_get, is_some, min, vec_len}
use Rattle.std.proofs.lemmas.List.{take_min}
use Rattle.std.proofs.lemmas.Option.{slice_get_read}
use Rattle.wh_row.specs.Bag.{Bag, count}
use Rattle.wh_row.proofs.BagLaws.{count-bag_of}
use Rattle.wh_store.specs.Windows.{current}
use Rattle.wh_carry.specs.declared.course.Part.{Part}
use Rattle.wh_carry.specs.declared.course.Part.TheVariants as part
use Rattle.wh_carry.proofs.CourseWaves.{take_all, take_next}
use Rattle.wh_core.specs.Changes.{change_written}
use Rattle.wh_core.specs.Inner.Changes.{AreNoted, change_shown, is_put, is_put_by}
use Rattle.wh_core.specs.Log.{is_open}
use Rattle.wh_core.specs.Nights.{versions}
use Rattle.wh_core.proofs.Changes.{all_noted, is_put-append, noted_so, nothing_beyond, nothing_closed, or_false, shown_is, unput_stays}
use Rattle.wh_core.proofs.Moves.{open_here}
use Rattle.wh_core.proofs.machine.Machine.change.Goals.{then-view-current_views-via-then-view-current_views, then-view-current_views-via-else-view-current_views+then-not-is_active, in-Page+in_ok-note_page, in_default}
use Rattle.wh_core.proofs.machine.Machine.change.Goals as goal

pub returns-then-view-current_views : goal.returns-then-view-current_views
returns-then-view-current_views c = λ s log is h.
    c.new-change.ensures
    ∙ elim c.then-view-current_views.branch [
      | then-view-current_views-via-then-view-current_views w ↦
          let all = c.current_views.ensures.len in
          let beyond : length (current c.args.self.now.store) ≤ c.args.view = let l = w.if-view-current_views in omega (arith, all) in
          nothing_beyond s log c.args.self.now is h c.told_law.ensures c.args.view beyond
      | then-view-current_views-via-else-view-current_views+then-not-is_active w ↦
          let idle : is_some c.args.self.now.store.draft ≡ false = search rules in
          nothing_closed s log c.args.self.now is h c.told_law.ensures c.args.view idle
    ]

pub loop-part-init : goal.loop-part-init
loop-part-init c = λ row. ap (λ b. count b row) c.new-change.ensures ∙ count-bag_of [] row

pub loop-part-preserved : goal.loop-part-preserved
loop-part-preserved c =
    let whole : Bag = change_shown c.args.self.now.store c.args.view in
    let put = take c.min-count.result c.deref.result.now in
    let i : ℕ = c.loop-part.part-index in
    let item : Part = c.part-item.result in
    let there : slice_get put i ≡ Some item = slice_get_read put (length put) i item refl (omega arith) c.part-item.is in
    let next : take (i + 1) put ≡ take i put ++ item ∷ [] = take_next put i item there in
    elim c.match-part.branch [
      | in-Page+in_ok-note_page w ↦
          let op = w.in-Page.op in
          subst (AreNoted whole (λ r. is_put c.args.view r (take (i + 1) put))) (sym w.change-is)
          (noted_so whole w.note_page.new.change (λ r. is_put c.args.view r (take i put) || is_put_by c.args.view r op) (λ r. is_put c.args.view r (take (i + 1) put))
          (λ r. ap (λ b. is_put c.args.view r (take i put) || b) (or_false (is_put_by c.args.view r op))
          ∙ sym (is_put-append c.args.view r (take i put) (part.Page op ∷ []))
          ∙ ap (is_put c.args.view r) (ap (λ p. take i put ++ p ∷ []) (sym w.in-Page.is) ∙ sym next))
          (w.in_ok-note_page.ensures (λ r. is_put c.args.view r (take i put)) c.loop-part.invariant))
      | in_default w ↦
          subst (AreNoted whole (λ r. is_put c.args.view r (take (i + 1) put))) (sym w.change-is)
          (noted_so whole c.loop-part.change (λ r. is_put c.args.view r (take i put)) (λ r. is_put c.args.view r (take (i + 1) put))
          (λ r. or_false (is_put c.args.view r (take i put))
          ∙ sym (is_put-append c.args.view r (take i put) (part.Wave w.in_default.field-0 ∷ []))
          ∙ ap (is_put c.args.view r) (ap (λ p. take i put ++ p ∷ []) (sym w.in_default.is) ∙ sym next))
          c.loop-part.invariant)
    ]

pub returns : goal.returns
returns c = λ s log is h.
    let m = c.args.self.now in
    let whole : Bag = change_shown m.store c.args.view in
    let put = take c.min-count.result c.deref.result.now in
    let active : is_some m.store.draft ≡ true = search rules in
    let opened : is_open log ≡ true = sym (open_here s log m h) ∙ active in
    let long : vec_len m.course.parts ≡ length m.course.parts.items = search rules in
    let parts : put ≡ take m.place m.course.parts.items =
    (λ i. take (c.min-count.ensures i) (c.deref.ensures.value i)) ∙ ap (λ n. take (min m.place n) m.course.parts.items) (c.len.ensures ∙ long) ∙ take_min m.place m.course.parts.items in
    let noted : AreNoted whole (λ r. is_put c.args.view r (take m.place m.course.parts.items)) c.loop-part.change =
    subst (λ ps. AreNoted whole (λ r. is_put c.args.view r ps) c.loop-part.change) (take_all c.loop-part.part-index put (omega arith) ∙ parts) c.loop-part.invariant in
    all_noted whole c.loop-part.change (λ r. is_put c.args.view r (take m.place m.course.parts.items))
    (λ row none. unput_stays s log m is h c.told_law.ensures c.args.view row active opened none) noted
    ∙ shown_is s log m is h c.told_law.ensures c.args.view
