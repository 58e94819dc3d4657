-- A part as it stands.
use Rattle.wh_text_bundle.specs.Cut.{RawPart}
use Rattle.wh_text_bundle.specs.declared.bundle.cut.LentPart.{LentPart}

-- the part without where it lies in memory
abbrev pub shown : LentPart → RawPart
shown part = record { opening = part.opening.now; body = part.body.now }
