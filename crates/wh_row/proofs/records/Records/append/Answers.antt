use Rattle.std.proofs.Common.{rules, ◌≡◌, ◌<◌, ◌*◌, ◌++◌, length, ap, ◌∙◌, arith}
use Rattle.wh_pieces.specs.Flat.{flat}
use Rattle.wh_row.specs.Flat.{records_of}
use Rattle.wh_row.specs.Inner.Flat.{even_ends, kept_ends}
use Rattle.wh_row.proofs.FlatLaws.{one_width_fits, even-append, even-append_fits, fits_at, kept-records, kept-fits, apart-append, apart-append_fits, are_some}
use Rattle.wh_row.proofs.records.Records.append.Goals as goal

pub invariant_of-self-then-are_even : goal.invariant_of-self-then-are_even
invariant_of-self-then-are_even c =
    let s = c.self.inside in
    fits_at c.args.width c.put_all.new.cells.items (s.cells.items ++ c.args.cells.now) s.ends.items s.ends.items c.put_all.new.counts.items (s.counts.items ++ c.args.counts.now)
    c.in_ok-put_all.ensures.cells (λ _. s.ends.items) c.in_ok-put_all.ensures.counts
    (even-append_fits s.width c.args.width s.cells.items c.args.cells.now s.ends.items s.counts.items c.args.counts.now (c.if-are_even.ensures.none (search rules)) (c.if-are_even.ensures.same (search rules)) c.self.invariant c.requires)

pub returns-then-are_even-clause-ok : goal.returns-then-are_even-clause-ok
returns-then-are_even-clause-ok c =
    let s = c.self.inside in
    (λ i. records_of c.args.width (c.in_ok-put_all.ensures.cells i) s.ends.items (c.in_ok-put_all.ensures.counts i))
    ∙ even-append s.width c.args.width s.cells.items c.args.cells.now s.ends.items s.counts.items c.args.counts.now (c.if-are_even.ensures.none (search rules)) (c.if-are_even.ensures.same (search rules)) c.self.invariant
    ∙ ap (λ es. es ++ flat c.args.width c.args.cells.now c.args.counts.now) c.self.view_is

pub note_ends-requires : goal.note_ends-requires
note_ends-requires c = λ none.
    let s = c.self.inside in
    let inv = one_width_fits s.width s.cells.items s.ends.items s.counts.items none c.self.invariant in
    let rows : c.len.result ≡ length s.counts.items = omega (arith, c.len.ensures, s.counts.ok.0) in
    let cells = ap (λ n. s.width * n) rows in
    omega (arith, s.cells.small, s.cells.ok)

pub invariant_of-self-in_err-put_with_ends : goal.invariant_of-self-in_err-put_with_ends
invariant_of-self-in_err-put_with_ends c =
    let s = c.self.inside in
    let rows : c.len.result ≡ length s.counts.items = omega (arith, c.len.ensures, s.counts.ok.0) in
    let ends = c.in_err-put_with_ends.ensures.ends_stay ∙ c.in_ok-note_ends.ensures.ok ∙ ap (kept_ends s.width s.ends.items) rows in
    fits_at s.width _ s.cells.items _ (kept_ends s.width s.ends.items (length s.counts.items)) _ s.counts.items
    c.in_err-put_with_ends.ensures.cells_stay ends c.in_err-put_with_ends.ensures.counts_stay
    (kept-fits s.width s.cells.items s.ends.items s.counts.items c.self.invariant)

pub returns-in_err-put_with_ends-clause-err : goal.returns-in_err-put_with_ends-clause-err
returns-in_err-put_with_ends-clause-err c =
    let s = c.self.inside in
    let rows : c.len.result ≡ length s.counts.items = omega (arith, c.len.ensures, s.counts.ok.0) in
    let ends = c.in_err-put_with_ends.ensures.ends_stay ∙ c.in_ok-note_ends.ensures.ok ∙ ap (kept_ends s.width s.ends.items) rows in
    let same : records_of s.width c.put_with_ends.new.cells.items c.put_with_ends.new.ends.items c.put_with_ends.new.counts.items ≡ c.args.self.now =
    (λ i. records_of s.width (c.in_err-put_with_ends.ensures.cells_stay i) (ends i) (c.in_err-put_with_ends.ensures.counts_stay i))
    ∙ kept-records s.width s.cells.items s.ends.items s.counts.items
    ∙ c.self.view_is in
    search rules

pub invariant_of-self-2 : goal.invariant_of-self-2
invariant_of-self-2 c =
    let s = c.self.inside in
    let wide = c.args.width in
    let more = c.args.cells.now in
    let numbers = c.args.counts.now in
    let kept = kept_ends s.width s.ends.items (length s.counts.items) in
    let new = even_ends (length s.cells.items) wide (length numbers) in
    let rows : c.len.result ≡ length s.counts.items = omega (arith, c.len.ensures, s.counts.ok.0) in
    let noted = c.in_ok-note_ends.ensures.ok ∙ ap (kept_ends s.width s.ends.items) rows in
    let ends = c.in_ok-put_with_ends.ensures.ends ∙ ap (λ es. es ++ new) noted in
    let some : 0 < length numbers = are_some numbers (search rules) in
    fits_at s.width _ (s.cells.items ++ more) _ (kept ++ new) _ (s.counts.items ++ numbers)
    c.in_ok-put_with_ends.ensures.cells ends c.in_ok-put_with_ends.ensures.counts
    (apart-append_fits s.width wide s.cells.items more s.ends.items s.counts.items numbers c.self.invariant c.requires some)

pub returns-clause-ok : goal.returns-clause-ok
returns-clause-ok c =
    let s = c.self.inside in
    let wide = c.args.width in
    let more = c.args.cells.now in
    let numbers = c.args.counts.now in
    let new = even_ends (length s.cells.items) wide (length numbers) in
    let rows : c.len.result ≡ length s.counts.items = omega (arith, c.len.ensures, s.counts.ok.0) in
    let noted = c.in_ok-note_ends.ensures.ok ∙ ap (kept_ends s.width s.ends.items) rows in
    let ends = c.in_ok-put_with_ends.ensures.ends ∙ ap (λ es. es ++ new) noted in
    let some : 0 < length numbers = are_some numbers (search rules) in
    (λ i. records_of s.width (c.in_ok-put_with_ends.ensures.cells i) (ends i) (c.in_ok-put_with_ends.ensures.counts i))
    ∙ apart-append s.width wide s.cells.items more s.ends.items s.counts.items numbers c.self.invariant some
    ∙ ap (λ es. es ++ flat wide more numbers) c.self.view_is
