use Rattle.std.proofs.Common.{◌≡◌, take}
use Rattle.std.specs.Str.Parse.{AllDigits, digits_value}
use Rattle.wh_text_tables.proofs.records.plain_number.Given as goal

-- what was read are digits, and this is their number
abbrev pub invariant-digits : goal.invariant-digits
invariant-digits l = (l.number ≡ digits_value 10 (take l.place l.text)) × AllDigits 10 (take l.place l.text)
