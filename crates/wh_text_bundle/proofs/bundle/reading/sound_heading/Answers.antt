use Rattle.std.proofs.Common.{◌∙◌, sym}
use Rattle.wh_text_bundle.specs.RawPart.{shown}
use Rattle.wh_text_bundle.proofs.PartsRead.{is_at_fault-repeated, is_at_fault-night, not_at_fault}
use Rattle.wh_text_bundle.proofs.bundle.reading.sound_heading.Goals as goal

pub returns-then-not-branch-clause-fault : goal.returns-then-not-branch-clause-fault
returns-then-not-branch-clause-fault c = λ above recalls.
    is_at_fault-repeated c.args.nights above (shown c.args.raw.now) c.heading_text-text.result.now c.in-Some.heading c.heading_text-text.ensures c.in-Some.ensures c.in_ok-note.field-0 (c.in_ok-note.ensures.fresh above recalls) c.if-not-branch.true

pub returns-then-is_bad_night-clause-fault : goal.returns-then-is_bad_night-clause-fault
returns-then-is_bad_night-clause-fault c = λ above recalls.
    is_at_fault-night c.args.nights above (shown c.args.raw.now) c.heading_text-text.result.now c.in-Some.heading c.heading_text-text.ensures c.in-Some.ensures (sym c.is_bad_night.ensures ∙ c.if-is_bad_night.true)

pub returns-clause-fault : goal.returns-clause-fault
returns-clause-fault c = λ above recalls.
    not_at_fault c.args.nights above (shown c.args.raw.now) c.heading_text-text.result.now c.in-Some.heading c.heading_text-text.ensures c.in-Some.ensures c.in_ok-note.field-0 (c.in_ok-note.ensures.fresh above recalls) c.if-not-branch.false (sym c.is_bad_night.ensures ∙ c.if-is_bad_night.false)
