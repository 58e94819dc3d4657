use Rattle.std.proofs.Common.{rules, ◌≡◌, ◌<◌, ◌≤◌, arith, length, take, slice_index}
use Rattle.std.proofs.lemmas.Int.Digits.{digits_more, digits_value_more}
use Rattle.std.proofs.lemmas.List.{take_all}
use Rattle.std.proofs.lemmas.Str.{digit_value_digit}
use Rattle.wh_text.proofs.WholeNumbers.{plain-fits}
use Rattle.wh_text_tables.proofs.records.plain_number.Goals as goal

pub digits-preserved : goal.digits-preserved
digits-preserved c =
    let text = c.args.text.now in
    let place = c.digits.place in
    let (value, digits) = c.digits.invariant in
    let below : place < length text = omega (arith, c.digits-test.true) in
    let digit = digit_value_digit (slice_index text place) c.if-not-is_ascii_digit.ensures.cases in
    let next = digits_value_more 10 text place below in (
      omega (arith, value, next, digit, c.in_ok-checked_mul.ensures.1, c.from.ensures, c.in_ok-number.ensures.1),
      digits_more 10 text place below digits c.if-not-is_ascii_digit.ensures.bound,
    )

pub returns : goal.returns
returns c =
    let text = c.args.text.now in
    let (value, digits) = c.digits.invariant in
    let past : length text ≤ c.digits.place = omega (arith, c.digits-test.false) in
    let all : take c.digits.place text ≡ text = take_all c.digits.place text past in
    let some : 0 < length text = search rules in
    rw c.ok.ensures.value (plain-fits text c.digits.number c.try_from.result some (rw all at digits) (rw all at value) c.try_from.ensures)
