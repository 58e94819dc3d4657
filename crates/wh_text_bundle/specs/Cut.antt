-- Bytes cut into parts, each at a line that begins with one `@`.
use Rattle.std.specs.Prelude.{ℕ, Bool, true, false, List, [], ◌∷◌, ◌++◌}
use Rattle.wh_text.specs.Line.{whole_lines}
use Rattle.wh_text_bundle.specs.PartLine.{opens_part}

-- a part as it stands: the line that opens it, and the bytes below that line
pub record RawPart : Type 0 where
  pub opening : List ℕ
  pub body : List ℕ

-- the bytes above the first part, and the parts
pub record Cut : Type 0 where
  pub preface : List ℕ
  pub parts : List RawPart

-- a line that opens a part, above what the lines below it make
abbrev pub opened : List ℕ → Cut → Cut
opened line below = record { preface = []; parts = record { opening = line; body = below.preface } ∷ below.parts }

-- more bytes above what some lines make
abbrev pub preceded : List ℕ → Cut → Cut
preceded bytes below = record { preface = bytes ++ below.preface; parts = below.parts }

-- a line above what the lines below it make
abbrev pub on_top : Bool → List ℕ → Cut → Cut
on_top true line below = opened line below
on_top false line below = preceded line below

-- the parts that lines make
abbrev pub cut_lines : List (List ℕ) → Cut
cut_lines [] = record { preface = []; parts = [] }
cut_lines (line ∷ lines) = on_top (opens_part line) line (cut_lines lines)

-- the parts of some bytes
abbrev pub cut : List ℕ → Cut
cut bytes = cut_lines (whole_lines bytes)

-- the bytes of a part
abbrev pub bytes_of_part : RawPart → List ℕ
bytes_of_part part = part.opening ++ part.body

-- the bytes of parts, one after another
abbrev pub bytes_of_parts : List RawPart → List ℕ
bytes_of_parts [] = []
bytes_of_parts (part ∷ parts) = bytes_of_part part ++ bytes_of_parts parts

-- the bytes that were cut
abbrev pub bytes_of : Cut → List ℕ
bytes_of c = c.preface ++ bytes_of_parts c.parts
