-- What the printed line of a fault ends with.
use Rattle.std.specs.Prelude.{ℕ, List, decimal}
use Rattle.wh_text.specs.declared.fault.End.{End}
use Rattle.wh_text.specs.declared.fault.End.TheVariants.{Word, Number}

-- what the line ends with, as it is printed
abbrev pub end_text : End → List ℕ
end_text (Word word) = word.now
end_text (Number number) = decimal number
