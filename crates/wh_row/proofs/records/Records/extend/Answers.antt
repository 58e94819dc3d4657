use Rattle.std.proofs.Common.{rules, ◌≡◌, ◌≢◌, ◌<◌, ◌++◌, [], length, ap, ◌∙◌, arith}
use Rattle.std.proofs.lemmas.Bool.Decides.{nat_tests}
use Rattle.wh_row.specs.Flat.{records_of}
use Rattle.wh_row.specs.Inner.Flat.{ends_behind, kept_ends}
use Rattle.wh_row.proofs.FlatLaws.{are_records, fits_at, kept-records, kept-fits, behind-records, behind-fits}
use Rattle.wh_row.proofs.records.Records.extend.Goals as goal

pub returns-in_err-append-clause-memory : goal.returns-in_err-append-clause-memory
returns-in_err-append-clause-memory c =
    let o = c.other.inside in
    let some : o.counts.items ≢ [] = search rules in
    let is : c.args.other.now ≢ [] = λ none. are_records o.width o.cells.items o.ends.items o.counts.items c.other.invariant some (c.other.view_is ∙ none) in
    search rules

pub invariant_of-self-in_err-put_with_all_ends : goal.invariant_of-self-in_err-put_with_all_ends
invariant_of-self-in_err-put_with_all_ends c =
    let s = c.self.inside in
    let rows : c.len.result ≡ length s.counts.items = omega (arith, c.len.ensures, s.counts.ok.0) in
    let ends = c.in_err-put_with_all_ends.ensures.ends_stay ∙ c.in_ok-note_ends.ensures.ok ∙ ap (kept_ends s.width s.ends.items) rows in
    fits_at s.width _ s.cells.items _ (kept_ends s.width s.ends.items (length s.counts.items)) _ s.counts.items
    c.in_err-put_with_all_ends.ensures.cells_stay ends c.in_err-put_with_all_ends.ensures.counts_stay
    (kept-fits s.width s.cells.items s.ends.items s.counts.items c.self.invariant)

pub returns-in_err-put_with_all_ends-clause-err : goal.returns-in_err-put_with_all_ends-clause-err
returns-in_err-put_with_all_ends-clause-err c =
    let s = c.self.inside in
    let rows : c.len.result ≡ length s.counts.items = omega (arith, c.len.ensures, s.counts.ok.0) in
    let ends = c.in_err-put_with_all_ends.ensures.ends_stay ∙ c.in_ok-note_ends.ensures.ok ∙ ap (kept_ends s.width s.ends.items) rows in
    let same : records_of s.width c.put_with_all_ends.new.cells.items c.put_with_all_ends.new.ends.items c.put_with_all_ends.new.counts.items ≡ c.args.self.now =
    (λ i. records_of s.width (c.in_err-put_with_all_ends.ensures.cells_stay i) (ends i) (c.in_err-put_with_all_ends.ensures.counts_stay i))
    ∙ kept-records s.width s.cells.items s.ends.items s.counts.items
    ∙ c.self.view_is in
    search rules

pub invariant_of-self-2 : goal.invariant_of-self-2
invariant_of-self-2 c =
    let s = c.self.inside in
    let o = c.other.inside in
    let rows : c.len.result ≡ length s.counts.items = omega (arith, c.len.ensures, s.counts.ok.0) in
    let noted = c.in_ok-note_ends.ensures.ok ∙ ap (kept_ends s.width s.ends.items) rows in
    let some : 0 < length o.ends.items = grind (arith, nat_tests) in
    let cells = c.in_ok-put_with_all_ends.ensures.cells ∙ ap (λ xs. s.cells.items ++ xs) c.deref-2.ensures.value in
    let ends = c.in_ok-put_with_all_ends.ensures.ends ∙ (λ i. noted i ++ ends_behind (length s.cells.items) (c.deref-3.ensures.value i)) in
    let counts = c.in_ok-put_with_all_ends.ensures.counts ∙ ap (λ xs. s.counts.items ++ xs) c.deref-4.ensures.value in
    fits_at s.width _ _ _ _ _ _ cells ends counts
    (behind-fits s.width o.width s.cells.items o.cells.items s.ends.items o.ends.items s.counts.items o.counts.items c.self.invariant some c.other.invariant)

pub returns-clause-ok : goal.returns-clause-ok
returns-clause-ok c =
    let s = c.self.inside in
    let o = c.other.inside in
    let rows : c.len.result ≡ length s.counts.items = omega (arith, c.len.ensures, s.counts.ok.0) in
    let noted = c.in_ok-note_ends.ensures.ok ∙ ap (kept_ends s.width s.ends.items) rows in
    let some : 0 < length o.ends.items = grind (arith, nat_tests) in
    let cells = c.in_ok-put_with_all_ends.ensures.cells ∙ ap (λ xs. s.cells.items ++ xs) c.deref-2.ensures.value in
    let ends = c.in_ok-put_with_all_ends.ensures.ends ∙ (λ i. noted i ++ ends_behind (length s.cells.items) (c.deref-3.ensures.value i)) in
    let counts = c.in_ok-put_with_all_ends.ensures.counts ∙ ap (λ xs. s.counts.items ++ xs) c.deref-4.ensures.value in
    (λ i. records_of s.width (cells i) (ends i) (counts i))
    ∙ behind-records s.width o.width s.cells.items o.cells.items s.ends.items o.ends.items s.counts.items o.counts.items c.self.invariant some
    ∙ (λ i. c.self.view_is i ++ c.other.view_is i)
