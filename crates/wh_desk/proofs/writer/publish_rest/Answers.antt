use Rattle.std.proofs.Common.{◌≡◌, ◌∙◌, MatchResult, ap, drop, subst, sym}
use Rattle.wh_desk.specs.Inner.Writers.{Waits, end_of_held}
use Rattle.wh_desk.specs.declared.inner.Inner.{Inner}
use Rattle.wh_desk.specs.Writers.{Written, and_held, copy_of, held_of, ledger_in, waiting, written, written_of}
use Rattle.wh_desk.proofs.Waiting.{out, published}
use Rattle.wh_desk.proofs.writer.publish_rest.Goals as goal

pub returns-clause-writer : goal.returns-clause-writer
returns-clause-writer g c =
    let w = c.args.inner.now in
    let p = c.requires.writer in
    let none : waiting w ≡ drop w.raw.behind w.raw.log.items = ap (and_held (drop w.raw.behind w.raw.log.items)) c.requires.none in
    (published c.window_law.ensures c.well_formed_goes_on_law.ensures _ (copy_of w) (record { raw = c.publish_raw-done.new.raw; history = w.history; held = w.held; ends = c.ends_after-inner.result })
    (drop w.raw.behind w.raw.log.items) w.ends c.publish_raw-done.result c.requires.none p.0 (subst (λ ps. Waits (copy_of w) ps w.history) none p.1) p.2 (p.3 ∙ ap (λ ps. end_of_held (held_of ps)) none) c.ends_after-inner.ensures c.publish_raw-done.ensures).0

pub returns-clause-list : goal.returns-clause-list
returns-clause-list g c =
    let w = c.args.inner.now in
    let p = c.requires.writer in
    let new : Inner = record { raw = c.publish_raw-done.new.raw; history = w.history; held = w.held; ends = c.ends_after-inner.result } in
    let none : waiting w ≡ drop w.raw.behind w.raw.log.items = ap (and_held (drop w.raw.behind w.raw.log.items)) c.requires.none in
    let same = ap (λ ps. written (copy_of w).front.book (ledger_in (copy_of w) ps)) (sym none) in
    subst (λ (t : Written × Written). MatchResult c.publish_raw-done.result (λ _. written_of new ≡ t.0) (λ _. written_of new ≡ t.1))
    (λ i. (out (copy_of w) (waiting w) w.history p.1 i, same i))
    (published c.window_law.ensures c.well_formed_goes_on_law.ensures _ (copy_of w) new
    (drop w.raw.behind w.raw.log.items) w.ends c.publish_raw-done.result c.requires.none p.0 (subst (λ ps. Waits (copy_of w) ps w.history) none p.1) p.2 (p.3 ∙ ap (λ ps. end_of_held (held_of ps)) none) c.ends_after-inner.ensures c.publish_raw-done.ensures).1
