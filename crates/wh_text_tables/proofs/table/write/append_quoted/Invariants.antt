use Rattle.std.proofs.Common.{◌≡◌, ◌++◌, ◌∷◌, [], drop}
use Rattle.csv.specs.Writing.{default_writer, escaped, quoted}
use Rattle.wh_text_tables.proofs.table.write.append_quoted.Given as goal

abbrev pub invariant-loop-byte : goal.invariant-loop-byte
invariant-loop-byte l = l.out.items ++ (escaped default_writer (drop l.byte-index l.text) ++ 34 ∷ []) ≡ l.fn.out.items ++ quoted default_writer l.text
