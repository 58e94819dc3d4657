use Rattle.std.proofs.Common.{◌≡◌, ◌++◌, ◌∙◌, ap, sym, to_z-of_z}
use Rattle.std.specs.Fmt.{signed_decimal}
use Rattle.wh_text_tables.proofs.TableLines.{number-field}
use Rattle.wh_text_tables.proofs.table.write.append_number.Goals as goal

pub returns : goal.returns
returns c =
    let text : c.as_bytes.result.now ≡ signed_decimal c.args.number = c.as_bytes.ensures.value ∙ c.format.ensures.text ∙ ap signed_decimal (to_z-of_z c.ranges.number) in
    c.in_ok-extend_from_slice.ensures.items ∙ ap (λ t. c.args.out.now.items ++ t) (text ∙ sym (number-field c.args.number c.ranges.number))
