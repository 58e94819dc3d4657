-- Rows that are written, and texts one after another.
use Rattle.std.proofs.Common.{◌≡◌, ℕ, true, false, List, [], ◌∷◌, ◌++◌, map, refl, sym, ap, ◌∙◌, append_assoc, Ok, Err}
use Rattle.std.specs.Global.{Vec}
use Rattle.std.specs.Prelude.{Result, IsOk, IfOk, OnOk}
use Rattle.std.specs.List.{AllZip, flat_map}
use Rattle.std.proofs.lemmas.List.{map-append}
use Rattle.std.proofs.lemmas.List.Concat.{flat_map-append}
use Rattle.csv.specs.Writing.{default_writer, row_text}
use Rattle.wh_row.specs.Records.{joined}
use Rattle.wh_row.specs.Weigh.{Counted}
use Rattle.wh_text.specs.Columns.{NamedKind, kinds_of}
use Rattle.wh_text_tables.specs.Inner.TableWritten.{rows_text, written_text, whole_text, AreDone}
use Rattle.wh_text_tables.specs.TableWritten.{record_of}

-- the text of rows one after another: that of the first, and then that of the others
pub rows-both : (columns : List NamedKind) (texts : List (List ℕ)) (first second : Counted) → rows_text columns texts first ++ rows_text columns texts second ≡ rows_text columns texts (first ++ second)
rows-both columns texts first second =
    let record_text = record_of texts (kinds_of columns) in
    sym (ap (flat_map (row_text default_writer)) (map-append record_text first second) ∙ flat_map-append (row_text default_writer) (map record_text first) (map record_text second))

one_text : {E : Type 0} (result : Result (Vec ℕ) E) (lines : List ℕ) → IfOk result (λ text. text.items ≡ lines) → IsOk result → written_text result ≡ lines
one_text (Ok text) lines wrote done = wrote
one_text (Err refused) lines wrote done = let none : false ≡ true = done in absurd cc

-- texts of which each is that of the part at its place
pub texts-each : {E : Type 0} (columns : List NamedKind) (texts : List (List ℕ)) (parts : List Counted) (made : List (Result (Vec ℕ) E)) → AllZip (λ part text. IfOk text (λ t. t.items ≡ rows_text columns texts part)) parts made
    → AreDone made → whole_text made ≡ rows_text columns texts (joined parts)
texts-each columns texts [] [] each done = refl
texts-each columns texts [] (result ∷ made) each done = absurd each
texts-each columns texts (part ∷ parts) [] each done = absurd each
texts-each columns texts (part ∷ parts) (result ∷ made) each done =
    let first = one_text result (rows_text columns texts part) each.0 done.0 in
    let rest = texts-each columns texts parts made each.1 done.1 in
    (λ i. first i ++ rest i) ∙ rows-both columns texts part (joined parts)

-- one row more in the block
pub block-next : (out block text now_out now_block : List ℕ) → now_out ++ now_block ≡ out ++ (block ++ text) → now_out ++ now_block ≡ (out ++ block) ++ text
block-next out block text now_out now_block e = e ∙ sym (append_assoc out block text)

-- what follows from two facts of a call that went well
pub on-both : {T E P Q S : Type 0} (r : Result T E) → OnOk r P → OnOk r Q → (P → Q → S) → OnOk r S
on-both (Ok x) p q so = so p q
on-both (Err refused) p q so = tt
