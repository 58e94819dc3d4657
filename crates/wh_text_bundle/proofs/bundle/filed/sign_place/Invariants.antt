use Rattle.std.proofs.Common.{◌≡◌, ◌+◌, drop}
use Rattle.std.specs.List.{position_or_len}
use Rattle.wh_text_bundle.specs.Files.{is_sign}
use Rattle.wh_text_bundle.proofs.bundle.filed.sign_place.Given as goal

-- no sign so far
abbrev pub invariant-loop-place : goal.invariant-loop-place
invariant-loop-place l = position_or_len is_sign l.text ≡ l.place + position_or_len is_sign (drop l.place l.text)
