-- Records that the `csv` crate's writer writes, read by its reader.
use Rattle.std.proofs.Common.{◌≡◌, ℕ, ◌==◌, false, List, [], ◌∷◌, map, codes, Some, None, refl, ap, sym, ◌∙◌}
use Rattle.std.specs.List.{flat_map}
use Rattle.csv.specs.Machine.{next_record}
use Rattle.csv.specs.Reading.{default_config, records, strip_bom}
use Rattle.csv.specs.Writing.{default_writer, read_back, row_text}
use Rattle.csv.specs.declared.parser.State.TheVariants as st
use Rattle.csv.proofs.RoundTrip.{read-write}
use Rattle.wh_text_tables.specs.Records.{records_of}
use Rattle.wh_text_tables.specs.Unread.{records_after}
use Rattle.wh_text_tables.proofs.RecordLists.{records_after-end, records_after-next}

-- the text of some records
abbrev pub text_of_records : List (List (List ℕ)) → List ℕ
text_of_records rows = flat_map (row_text default_writer) rows

none-next : next_record default_config st.StartRecord [] [] [] ≡ None
unfolding next_record
none-next = refl

after-written : (rows : List (List (List ℕ))) → records_after st.StartRecord (Some (text_of_records rows)) ≡ map read_back rows
after-written [] = records_after-end st.StartRecord [] none-next
after-written (row ∷ rows) =
    records_after-next st.StartRecord (text_of_records (row ∷ rows)) (read_back row, st.StartRecord, text_of_records rows) (read-write row (text_of_records rows))
    ∙ ap (λ rest. read_back row ∷ rest) (after-written rows)

from-start : (text : List ℕ) → records_after st.StartRecord (Some text) ≡ records default_config text
unfolding records_after
from-start text = refl

-- a text that begins with another byte has no byte order mark
no-mark : (a : ℕ) (rest : List ℕ) → (a == 0xEF) ≡ false → strip_bom (a ∷ rest) ≡ a ∷ rest
unfolding strip_bom
no-mark a [] e = refl
no-mark a (b ∷ []) e = refl
no-mark a (b ∷ c ∷ rest) e = rw e refl

-- a first record that begins with `#`
hash-first : (cells : List (List ℕ)) (rows : List (List (List ℕ))) → strip_bom (text_of_records ((codes "#" ∷ cells) ∷ rows)) ≡ text_of_records ((codes "#" ∷ cells) ∷ rows)
hash-first cells rows = no-mark 35 _ refl

-- what is read of records of one cell or more, the first of which begins with `#`, are these records
pub records-back : (cells : List (List ℕ)) (rows : List (List (List ℕ))) → map read_back rows ≡ rows → records_of (text_of_records ((codes "#" ∷ cells) ∷ rows)) ≡ (codes "#" ∷ cells) ∷ rows
records-back cells rows some =
    ap (records default_config) (hash-first cells rows)
    ∙ sym (from-start (text_of_records ((codes "#" ∷ cells) ∷ rows)))
    ∙ after-written ((codes "#" ∷ cells) ∷ rows)
    ∙ ap (λ rest. (codes "#" ∷ cells) ∷ rest) some

-- the same where the first record begins with `view`
view-first : (cells : List (List ℕ)) (rows : List (List (List ℕ))) → strip_bom (text_of_records ((codes "view" ∷ cells) ∷ rows)) ≡ text_of_records ((codes "view" ∷ cells) ∷ rows)
view-first cells rows = no-mark 118 _ refl

pub view-back : (cells : List (List ℕ)) (rows : List (List (List ℕ))) → map read_back rows ≡ rows → records_of (text_of_records ((codes "view" ∷ cells) ∷ rows)) ≡ (codes "view" ∷ cells) ∷ rows
view-back cells rows some =
    ap (records default_config) (view-first cells rows)
    ∙ sym (from-start (text_of_records ((codes "view" ∷ cells) ∷ rows)))
    ∙ after-written ((codes "view" ∷ cells) ∷ rows)
    ∙ ap (λ rest. (codes "view" ∷ cells) ∷ rest) some
