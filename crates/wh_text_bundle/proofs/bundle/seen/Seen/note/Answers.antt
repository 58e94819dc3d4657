use Rattle.wh_text_bundle.proofs.SeenHeadings.{has_text-updates, Recalls-bundle, Recalls-night, Recalls-opened}
use Rattle.std.proofs.Common.{sym}
use Rattle.wh_text_bundle.proofs.bundle.seen.Seen.note.Goals as goal

pub returns-in_ok-insert-in-Bundle-clause-noted : goal.returns-in_ok-insert-in-Bundle-clause-noted
returns-in_ok-insert-in-Bundle-clause-noted c = λ above part same recalls.
    let text = c.args.text.now in
    Recalls-bundle c.args.self.now above part text c.args.heading.now same c.requires recalls c.insert.new.self (sym c.in-Bundle.ensures) (has_text-updates text c.args.self.now.bundle c.insert.new.self c.in_ok-insert-in-Bundle.ensures.updates)

pub returns-in_ok-insert-in-Night-clause-noted : goal.returns-in_ok-insert-in-Night-clause-noted
returns-in_ok-insert-in-Night-clause-noted c = λ above part same recalls.
    let text = c.args.text.now in
    Recalls-night c.args.self.now above part text c.args.heading.now same c.requires recalls c.insert-in-Night.new.self (sym c.in-Night.ensures) (has_text-updates text c.args.self.now.night c.insert-in-Night.new.self c.in_ok-insert-in-Night.ensures.updates)

pub returns-in-Any-clause-noted : goal.returns-in-Any-clause-noted
returns-in-Any-clause-noted c = λ above part same recalls.
    Recalls-opened c.args.self.now above part c.args.text.now c.args.heading.now same c.requires recalls c.clear.new.self (sym c.in-Any.ensures) c.clear.ensures.empty
