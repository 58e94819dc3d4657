-- What a read by the `csv` crate does to the records that are left.
use Rattle.std.proofs.Common.{◌≡◌, ◌+◌, ℕ, true, false, List, [], ◌∷◌, length, Option, Some, None, ◌⊎◌, inl, inr, refl, sym, ap, ◌∙◌, arith, eq-eqb}
use Rattle.std.specs.Prelude.{Bool, ◌==◌, IsSome}
use denote.Ref.{Bor}
use Rattle.csv.specs.Reading.{ExplainsRead, ReadRecord, TookRecord, default_config, pending_of, source_of, took_first}
use Rattle.csv.specs.Records.{AllText}
use Rattle.csv.specs.declared.error.ErrorKind.{ErrorKind}
use Rattle.csv.specs.declared.error.ErrorKind.TheVariants as kind
use Rattle.csv.specs.declared.reader.Reader.{Reader}
use Rattle.csv.proofs.ReadFacts.{rows-end}
use Rattle.wh_text.specs.declared.fault.LoadFault.TheVariants.{Memory}
use Rattle.wh_text_tables.specs.Records.{form_fault}
use Rattle.wh_text_tables.specs.Unread.{Unread, left_of, records_after}
use Rattle.wh_text_tables.specs.Inner.Unread.{FailsNext, Gives, IsCounted, IsReading, read_fault}
use Rattle.wh_text_tables.proofs.RecordLists.{all_utf8, not_all_utf8, read-first, records_after-end}

abbrev bytes_of : Bor (List ℕ) → Option (List ℕ)
bytes_of slice = Some slice.now

known-bytes : (o : Option (List ℕ)) → IsSome o → (y : List ℕ) × (o ≡ Some y)
known-bytes None h = cc h
known-bytes (Some y) h = (y, refl)

is_some-of : (o : Option (List ℕ)) (z : List ℕ) → o ≡ Some z → IsSome o
is_some-of o z e = rw e refl

-- a record that was read is the first of those that were left
pub left-read : (a b : Reader (Bor (List ℕ))) (cells : List (List ℕ)) → IsReading a → ReadRecord bytes_of a b true cells → took_first b ≡ true
    → IsReading b × (left_of false a ≡ cells ∷ left_of false b)
left-read a b cells is r first =
    let y = known-bytes (source_of bytes_of a) is.known in
    let n = read-first a.state y.0 (pending_of (bytes_of b.rdr) b) cells b.state (rw (is.config, y.1) at r.0) in
    let source : source_of bytes_of b ≡ Some n.0 = rw r.1 n.1 in (
      record {
        config = r.2 ∙ is.config;
        trims = r.3 ∙ is.trims;
        ready = inl first;
        known = is_some-of _ n.0 source;
      },
      rw (y.1, source) n.2,
    )

-- where no record was read none is left
pub left-end : (a b : Reader (Bor (List ℕ))) (cells : List (List ℕ)) → IsReading a → ReadRecord bytes_of a b false cells → left_of false a ≡ []
left-end a b cells is r =
    let y = known-bytes (source_of bytes_of a) is.known in
    rw y.1 (records_after-end a.state y.0 (rows-end bytes_of a b cells default_config y.0 is.config y.1 r))

left-text : (a b : Reader (Bor (List ℕ))) (cells : List (List ℕ)) → IsReading a → TookRecord bytes_of a b cells → (rest : List (List (List ℕ))) × (left_of false a ≡ cells ∷ rest)
left-text a b cells is r =
    let y = known-bytes (source_of bytes_of a) is.known in
    let n = read-first a.state y.0 (pending_of (bytes_of b.rdr) b) cells b.state (rw (is.config, y.1) at r) in
    let left : left_of false a ≡ records_after a.state (Some y.0) = ap (λ source. records_after a.state source) y.1 in
    (records_after b.state (Some n.0), left ∙ n.2)

-- an error tells of memory, or of the form of the next record
pub left-error : (a b : Reader (Bor (List ℕ))) (error : ErrorKind) (old : Unread) → IsReading a → old.left ≡ left_of false a → ExplainsRead bytes_of a b true error
    → (read_fault (old.given + 1) error ≡ Memory) ⊎ FailsNext old (λ number cells. form_fault (length cells) number cells) (read_fault (old.given + 1) error)
left-error a b (kind.Io e) old is same why = inl refl
left-error a b (kind.UnequalLengths position expected found) old is same why = inl refl
left-error a b (kind.Serialize text) old is same why = inl refl
left-error a b (kind.Deserialize position e) old is same why = inl refl
left-error a b kind.OutOfMemory old is same why = inl refl
left-error a b (kind.Utf8 position e) old is same why =
    let t = left-text a b why.1 is why.2 in
    inr (record {
      cells = why.1;
      rest = t.0;
      next = same ∙ t.1;
      first = rw (not_all_utf8 why.1 why.3) refl;
    })

-- a record of text has no fault of form, beside its own length
pub formed-read : (number : ℕ) (cells : List (List ℕ)) → AllText cells → form_fault (length cells) number cells ≡ None
formed-read number cells text =
    let same : (length cells == length cells) ≡ true = eq-eqb (length cells) (length cells) refl in
    rw (all_utf8 cells text, same) refl

-- the count goes on
pub counted-next : (ended : Bool) (a b : Reader (Bor (List ℕ))) (given : ℕ) (cells : List (List ℕ)) → ended ≡ false → IsCounted ended a given → IsReading b
    → left_of false a ≡ cells ∷ left_of false b → IsCounted ended b (given + 1)
counted-next true a b given cells e old is left = cc e
counted-next false a b given cells e old is left = record {
  reading = λ _. is;
  fits =
      let few = old.fits in
      let one : length (left_of false a) ≡ length (cells ∷ left_of false b) = ap length left in
      omega arith;
}

-- one record was given
pub gives-next : (ended : Bool) (a b : Reader (Bor (List ℕ))) (given : ℕ) (cells : List (List ℕ)) (old : Unread) → ended ≡ false
    → record { given = given; left = left_of ended a } ≡ old → left_of false a ≡ cells ∷ left_of false b → Gives old cells (record { given = given + 1; left = left_of ended b })
gives-next true a b given cells old e is left = cc e
gives-next false a b given cells old e is left = record {
  next = ap (λ (u : Unread). u.left) (sym is) ∙ left;
  counted = ap (λ (u : Unread). u.given + 1) is;
}
