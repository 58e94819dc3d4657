-- The text that a part's bytes stand for.
use Rattle.std.specs.Prelude.{ℕ, Bool, List, if◌then◌else◌}
use Rattle.std.specs.List.{flat_map}
use Rattle.wh_text.specs.Line.{whole_lines}
use Rattle.wh_text_bundle.specs.PartLine.{unescaped, without_cr}
use Rattle.wh_text_bundle.specs.Heading.{is_csv}
use Rattle.wh_text_bundle.specs.declared.bundle.part.Part.{Part}

-- what a line stands for: one `@` less where it begins with two, and no CR before its LF but in CSV
abbrev pub line_text : Bool → List ℕ → List ℕ
line_text csv line = if csv then unescaped line else without_cr (unescaped line)

-- the text of a body, line by line
abbrev pub body_text : Bool → List ℕ → List ℕ
body_text csv body = flat_map (line_text csv) (whole_lines body)

-- the text of a part
abbrev pub text_of : Part → List ℕ
text_of part = body_text (is_csv part.heading) part.body
