use Rattle.std.proofs.Common.{◌≡◌, [], ◌∷◌, ◌++◌, sym, ◌∙◌, ap, subst, arith, length, length-append, ◌+◌}
use Rattle.wh_desk.specs.declared.history.Chapter.TheVariants.{Done}
use Rattle.wh_desk.specs.Known.{Known, operations}
use Rattle.wh_desk.specs.Inner.Known.{IsLog}
use Rattle.wh_desk.proofs.Adding.{adds_moves}
use Rattle.wh_desk.proofs.Stories.{counted_next, log_of_story, told_next}
use Rattle.wh_desk.proofs.history.Told.next.Goals as goal

pub compare_exchange-found-requires : goal.compare_exchange-found-requires
compare_exchange-found-requires c =
    let h = c.requires.word in
    let of_book = ap (λ w. w.book) h ∙ sym (ap (λ (k : Known). k.book) c.self.view_is) in
    let same = c.again-seen.ensures in
    let offer = c.plain-offer.ensures in
    let pen = c.no_pen-pen.ensures in
    let log = c.self.inside.seen.log in
    let may = log_of_story c.self.inside.seen.book log c.args.op.now _ c.self.view_is (omega (arith, c.self.invariant.0)) c.requires.story in (
      ap (λ w. w.tracked) h,
      ap (λ s. s.book) same ∙ sym of_book,
      pen.0 ∙ (ap (λ s. s.book) same ∙ sym of_book),
      offer.0,
      rw (ap (λ w. w.key) h, ap (λ s. s.log) same, pen.1, offer.1, offer.3) (adds_moves log (Done c.args.op.now) c.self.inside.count c.self.invariant.0 may),
    )

pub invariant_of-result : goal.invariant_of-result
invariant_of-result c =
    let log = c.self.inside.seen.log in
    let may = log_of_story c.self.inside.seen.book log c.args.op.now _ c.self.view_is (omega (arith, c.self.invariant.0)) c.requires.story in
    let more : c.compare_exchange-found.new.seen.log ≡ log ++ (Done c.args.op.now) ∷ [] =
    c.compare_exchange-found.ensures.7 c.if-found-count.false ∙ (λ i. (c.again-seen.ensures i).log ++ (c.plain-offer.ensures.1 i) ∷ []) in
    let len : length (log ++ (Done c.args.op.now) ∷ []) ≡ c.self.inside.count + 1 + 1 = omega (arith, length-append log ((Done c.args.op.now) ∷ []), c.self.invariant.0) in
    (ap length more ∙ len, subst IsLog (sym more) may, ap (λ l. length (operations l)) more ∙ (counted_next log c.args.op.now ∙ ap (λ n. n + 1) c.self.invariant.2))

pub returns : goal.returns
returns c =
    let log = c.self.inside.seen.log in
    let more : c.compare_exchange-found.new.seen.log ≡ log ++ (Done c.args.op.now) ∷ [] =
    c.compare_exchange-found.ensures.7 c.if-found-count.false ∙ (λ i. (c.again-seen.ensures i).log ++ (c.plain-offer.ensures.1 i) ∷ []) in
    let same = c.compare_exchange-found.ensures.0 ∙ ap (λ s. s.book) c.again-seen.ensures in
    told_next c.self.inside.seen.book c.compare_exchange-found.new.seen.book log c.compare_exchange-found.new.seen.log c.args.op.now _ c.self.view_is (omega (arith, c.self.invariant.0)) same more
