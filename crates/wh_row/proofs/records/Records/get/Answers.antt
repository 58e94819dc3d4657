use Rattle.std.proofs.Common.{rules, to_z, of_z, to_z-of_z, FitsSigned, ◌≤◌, ◌≡◌, ◌<◌, ◌+◌, ◌-◌, ◌*◌, length, sym, ap, ◌∙◌, arith, Some, take, drop, slice_get}
use Rattle.std.proofs.lemmas.Bool.Decides.{nat_tests}
use mir.Syntax.{w64}
use Rattle.wh_pieces.proofs.FlatLaws.{row_within, got}
use Rattle.wh_row.proofs.FlatLaws.{length-records, one_width_fits, even-get, apart-get, apart_within, apart_place}
use Rattle.wh_row.proofs.records.Records.get.Goals as goal

pub index-count-requires : goal.index-count-requires
index-count-requires c =
    let s = c.self.inside in
    omega (arith, length-records s.width s.cells.items s.ends.items s.counts.items c.self.invariant, ap length c.self.view_is, s.counts.ok.0)

pub overflow_mul-start : goal.overflow_mul-start
overflow_mul-start c =
    let s = c.self.inside in
    let within : c.args.place < length s.counts.items = omega (arith, length-records s.width s.cells.items s.ends.items s.counts.items c.self.invariant, ap length c.self.view_is) in
    let none : length s.ends.items ≡ 0 = grind (arith, nat_tests) in
    let inv = one_width_fits s.width s.cells.items s.ends.items s.counts.items none c.self.invariant in
    omega (arith, row_within s.width c.args.place (length s.counts.items) within, s.cells.small, s.cells.ok)

pub overflow_add-result : goal.overflow_add-result
overflow_add-result c =
    let s = c.self.inside in
    let within : c.args.place < length s.counts.items = omega (arith, length-records s.width s.cells.items s.ends.items s.counts.items c.self.invariant, ap length c.self.view_is) in
    let none : length s.ends.items ≡ 0 = grind (arith, nat_tests) in
    let inv = one_width_fits s.width s.cells.items s.ends.items s.counts.items none c.self.invariant in
    omega (arith, row_within s.width c.args.place (length s.counts.items) within, s.cells.small, s.cells.ok)

pub offset_bounds-deref-start : goal.offset_bounds-deref-start
offset_bounds-deref-start c =
    let s = c.self.inside in
    let within : c.args.place < length s.counts.items = omega (arith, length-records s.width s.cells.items s.ends.items s.counts.items c.self.invariant, ap length c.self.view_is) in
    let none : length s.ends.items ≡ 0 = grind (arith, nat_tests) in
    let inv = one_width_fits s.width s.cells.items s.ends.items s.counts.items none c.self.invariant in
    omega (arith, row_within s.width c.args.place (length s.counts.items) within, s.cells.small, s.cells.ok)

pub slice_bounds-result-end : goal.slice_bounds-result-end
slice_bounds-result-end c =
    let s = c.self.inside in
    let within : c.args.place < length s.counts.items = omega (arith, length-records s.width s.cells.items s.ends.items s.counts.items c.self.invariant, ap length c.self.view_is) in
    let none : length s.ends.items ≡ 0 = grind (arith, nat_tests) in
    let inv = one_width_fits s.width s.cells.items s.ends.items s.counts.items none c.self.invariant in
    let fits = row_within s.width c.args.place (length s.counts.items) within in
    let is : c.deref.result.now ≡ s.cells.items = c.deref.ensures.value in
    let len = ap length is in
    search rules

pub returns-then-is_empty : goal.returns-then-is_empty
returns-then-is_empty c =
    let s = c.self.inside in
    let within : c.args.place < length s.counts.items = omega (arith, length-records s.width s.cells.items s.ends.items s.counts.items c.self.invariant, ap length c.self.view_is) in
    let none : length s.ends.items ≡ 0 = grind (arith, nat_tests) in
    let is : c.deref.result.now ≡ s.cells.items = c.deref.ensures.value in
    let fits : FitsSigned w64 c.index-count.result.now = search rules in
    let same : to_z w64 (of_z w64 c.index-count.result.now) ≡ c.index-count.result.now = to_z-of_z fits in
    let wide : s.width ≡ s.width * c.args.place + s.width - s.width * c.args.place = omega arith in
    ap (λ es. slice_get es c.args.place) (sym c.self.view_is)
    ∙ even-get s.width s.cells.items s.ends.items s.counts.items c.args.place c.index-count.result.now none (got s.counts.items c.args.place c.index-count.result.now within c.index-count.ensures) within
    ∙ (λ i. Some (take (wide i) (drop (s.width * c.args.place) (sym is i)), sym same i))

pub between-start-requires : goal.between-start-requires
between-start-requires c =
    let s = c.self.inside in
    let some : 0 < length s.ends.items = grind (arith, nat_tests) in
    omega (arith, apart_place s.width s.cells.items s.ends.items s.counts.items some c.self.invariant, length-records s.width s.cells.items s.ends.items s.counts.items c.self.invariant, ap length c.self.view_is)

pub offset_bounds-deref-start-2 : goal.offset_bounds-deref-start-2
offset_bounds-deref-start-2 c =
    let s = c.self.inside in
    let some : 0 < length s.ends.items = grind (arith, nat_tests) in
    let fits = apart_within s.width s.cells.items s.ends.items s.counts.items c.args.place c.between-start.result.0 c.between-start.result.1 some c.self.invariant c.between-start.ensures.begin c.between-start.ensures.end in
    omega (arith, fits.0, fits.1, s.cells.small, s.cells.ok)

pub slice_bounds-result-count-2 : goal.slice_bounds-result-count-2
slice_bounds-result-count-2 c =
    let s = c.self.inside in
    let some : 0 < length s.ends.items = grind (arith, nat_tests) in
    let fits = apart_within s.width s.cells.items s.ends.items s.counts.items c.args.place c.between-start.result.0 c.between-start.result.1 some c.self.invariant c.between-start.ensures.begin c.between-start.ensures.end in
    omega (arith, fits.0)

pub slice_bounds-result-start-2 : goal.slice_bounds-result-start-2
slice_bounds-result-start-2 c =
    let s = c.self.inside in
    let some : 0 < length s.ends.items = grind (arith, nat_tests) in
    let fits = apart_within s.width s.cells.items s.ends.items s.counts.items c.args.place c.between-start.result.0 c.between-start.result.1 some c.self.invariant c.between-start.ensures.begin c.between-start.ensures.end in
    let low : c.between-start.result.0 ≤ c.between-start.result.1 = fits.0 in
    search rules

pub slice_bounds-result-end-2 : goal.slice_bounds-result-end-2
slice_bounds-result-end-2 c =
    let s = c.self.inside in
    let some : 0 < length s.ends.items = grind (arith, nat_tests) in
    let fits = apart_within s.width s.cells.items s.ends.items s.counts.items c.args.place c.between-start.result.0 c.between-start.result.1 some c.self.invariant c.between-start.ensures.begin c.between-start.ensures.end in
    let high : c.between-start.result.1 ≤ length s.cells.items = fits.1 in
    let low : c.between-start.result.0 ≤ c.between-start.result.1 = fits.0 in
    let is : c.deref-2.result.now ≡ s.cells.items = c.deref-2.ensures.value in
    let len = ap length is in
    search rules

pub returns : goal.returns
returns c =
    let s = c.self.inside in
    let begin = c.between-start.result.0 in
    let end = c.between-start.result.1 in
    let within : c.args.place < length s.counts.items = omega (arith, length-records s.width s.cells.items s.ends.items s.counts.items c.self.invariant, ap length c.self.view_is) in
    let some : 0 < length s.ends.items = grind (arith, nat_tests) in
    let is : c.deref-2.result.now ≡ s.cells.items = c.deref-2.ensures.value in
    let fits : FitsSigned w64 c.index-count.result.now = search rules in
    let same : to_z w64 (of_z w64 c.index-count.result.now) ≡ c.index-count.result.now = to_z-of_z fits in
    ap (λ es. slice_get es c.args.place) (sym c.self.view_is)
    ∙ apart-get s.width s.cells.items s.ends.items s.counts.items c.args.place begin end c.index-count.result.now some c.between-start.ensures.begin c.between-start.ensures.end (got s.counts.items c.args.place c.index-count.result.now within c.index-count.ensures)
    ∙ (λ i. Some (take (end - begin) (drop begin (sym is i)), sym same i))
