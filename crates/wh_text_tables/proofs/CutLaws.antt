-- Where a CSV text can be cut.
use Rattle.std.proofs.Common.{◌≡◌, ◌∙◌, ◌≤◌, ◌<◌, ◌+◌, ◌-◌, ℕ, zero, suc, true, false, List, [], ◌∷◌, ◌++◌, length, take, drop, get_or, Option, Some, None, ◌⊎◌, inl, inr, refl, sym, ap, arith}
use Rattle.std.specs.Prelude.{⊤, ◌==◌, if◌then◌else◌}
use Rattle.std.proofs.lemmas.Bool.{cases_Bool, eqb-true}
use Rattle.std.proofs.lemmas.List.{take-append-drop, get_or-take, get_or-drop, length-drop, length-take-le, take_all}
use Rattle.std.proofs.Math.Seq.{take-suc}
use Rattle.csv.specs.Machine.{Read, field_after, fields_after, in_field, is_end, next_record, start_field, start_record, step}
use Rattle.csv.specs.Reading.{default_config, is_bom, records_next, strip_bom}
use Rattle.memchr.specs.Find.{IsFirstByte, is_byte}
use Rattle.csv.specs.declared.parser.Action.{Action}
use Rattle.csv.specs.declared.parser.State.{State}
use Rattle.csv.specs.declared.parser.State.TheVariants as st
use Rattle.wh_text_tables.specs.Inner.Cut.{EndsRecord, IsCut, state_after}
use Rattle.wh_text_tables.specs.Unread.{records_after}
use Rattle.wh_text_tables.proofs.RecordLists.{records_after-end, records_after-next}

-- where a record begins nothing of it has been read
abbrev Clean : State → List (List ℕ) → List ℕ → Type 0
Clean st.StartRecord fields field = (fields ≡ []) × (field ≡ [])
Clean st.AfterCr fields field = (fields ≡ []) × (field ≡ [])
Clean st.StartField fields field = ⊤
Clean st.InField fields field = ⊤
Clean st.InQuoted fields field = ⊤
Clean st.AfterQuote fields field = ⊤
Clean st.InEscape fields field = ⊥
Clean st.InComment fields field = ⊥

-- the same after a byte
record CleanAfter (p : State × Action) (c : ℕ) (fields : List (List ℕ)) (field : List ℕ) : Type 0 where
  pub ended : is_end p.1 ≡ true → Clean p.0 [] []
  pub still : is_end p.1 ≡ false → Clean p.0 (fields_after p.1 fields field) (field_after p.1 c field)

in-field-clean : (c : ℕ) (fields : List (List ℕ)) (field : List ℕ) → CleanAfter (in_field default_config c) c fields field
in-field-clean c fields field = by (cases_Bool (c == 44)) (cases_Bool (c == 13)) (cases_Bool (c == 10))
  where
    by : ((c == 44) ≡ true) ⊎ ((c == 44) ≡ false) → ((c == 13) ≡ true) ⊎ ((c == 13) ≡ false) → ((c == 10) ≡ true) ⊎ ((c == 10) ≡ false)
        → CleanAfter (in_field default_config c) c fields field
    by (inl comma) cr lf = rw comma (record { ended = λ e. cc e; still = λ e. tt })
    by (inr not_comma) (inl cr) lf = rw (not_comma, cr) (record { ended = λ e. (refl, refl); still = λ e. cc e })
    by (inr not_comma) (inr not_cr) (inl lf) = rw (not_comma, not_cr, lf) (record { ended = λ e. (refl, refl); still = λ e. cc e })
    by (inr not_comma) (inr not_cr) (inr not_lf) = rw (not_comma, not_cr, not_lf) (record { ended = λ e. cc e; still = λ e. tt })

start-field-clean : (c : ℕ) (fields : List (List ℕ)) (field : List ℕ) → CleanAfter (start_field default_config c) c fields field
start-field-clean c fields field = by (cases_Bool (c == 34))
  where
    by : ((c == 34) ≡ true) ⊎ ((c == 34) ≡ false) → CleanAfter (start_field default_config c) c fields field
    by (inl quote) = rw quote (record { ended = λ e. cc e; still = λ e. tt })
    by (inr other) = rw other (in-field-clean c fields field)

start-record-clean : (c : ℕ) → CleanAfter (start_record default_config c) c [] []
start-record-clean c = by (cases_Bool (c == 13)) (cases_Bool (c == 10))
  where
    by : ((c == 13) ≡ true) ⊎ ((c == 13) ≡ false) → ((c == 10) ≡ true) ⊎ ((c == 10) ≡ false) → CleanAfter (start_record default_config c) c [] []
    by (inl cr) lf = rw cr (record { ended = λ e. cc e; still = λ e. (refl, refl) })
    by (inr not_cr) (inl lf) = rw (not_cr, lf) (record { ended = λ e. cc e; still = λ e. (refl, refl) })
    by (inr not_cr) (inr not_lf) = rw (not_cr, not_lf) (rw (not_cr, not_lf) at (start-field-clean c [] []))

step-clean : (s : State) (c : ℕ) (fields : List (List ℕ)) (field : List ℕ) → Clean s fields field → CleanAfter (step default_config s c) c fields field
step-clean st.StartRecord c fields field clean = rw (clean.0, clean.1) (start-record-clean c)
step-clean st.AfterCr c fields field clean = rw (clean.0, clean.1) (by (cases_Bool (c == 10)))
  where
    by : ((c == 10) ≡ true) ⊎ ((c == 10) ≡ false) → CleanAfter (step default_config st.AfterCr c) c [] []
    by (inl lf) = rw lf (record { ended = λ e. cc e; still = λ e. (refl, refl) })
    by (inr other) = rw other (rw other at (start-record-clean c))
step-clean st.StartField c fields field clean = start-field-clean c fields field
step-clean st.InField c fields field clean = in-field-clean c fields field
step-clean st.InQuoted c fields field clean = by (cases_Bool (c == 34))
  where
    by : ((c == 34) ≡ true) ⊎ ((c == 34) ≡ false) → CleanAfter (step default_config st.InQuoted c) c fields field
    by (inl quote) = rw quote (record { ended = λ e. cc e; still = λ e. tt })
    by (inr other) = rw other (record { ended = λ e. cc e; still = λ e. tt })
step-clean st.AfterQuote c fields field clean = by (cases_Bool (c == 34))
  where
    by : ((c == 34) ≡ true) ⊎ ((c == 34) ≡ false) → CleanAfter (step default_config st.AfterQuote c) c fields field
    by (inl quote) = rw quote (record { ended = λ e. cc e; still = λ e. tt })
    by (inr other) = rw other (in-field-clean c fields field)
step-clean st.InEscape c fields field clean = absurd clean
step-clean st.InComment c fields field clean = absurd clean

-- the records from a state on, with what has been read of the first
abbrev rest_of : State → List (List ℕ) → List ℕ → List ℕ → List (List (List ℕ))
rest_of s fields field xs = records_next (λ next ys. records_after next (Some ys)) (next_record default_config s fields field xs)

rest-same : (s : State) (xs : List ℕ) → records_after s (Some xs) ≡ rest_of s [] [] xs
rest-same s xs = by (next_record default_config s [] [] xs) (λ e. records_after-end s xs e) (λ p e. records_after-next s xs p e)
  where
    by : (o : Option Read) → (o ≡ None → records_after s (Some xs) ≡ []) → ((p : Read) → o ≡ Some p → records_after s (Some xs) ≡ p.0 ∷ records_after p.1 (Some p.2))
        → records_after s (Some xs) ≡ records_next (λ next ys. records_after next (Some ys)) o
    by None end next = end refl
    by (Some p) end next = next p refl

-- where a record ends, those before and those after it are those of the two texts
cut-rest : (s : State) (fields : List (List ℕ)) (field xs ys : List ℕ) → Clean s fields field → state_after s xs ≡ st.StartRecord
    → rest_of s fields field (xs ++ ys) ≡ rest_of s fields field xs ++ records_after st.StartRecord (Some ys)
unfolding next_record state_after
cut-rest s fields field [] ys clean ends =
    let none = rw ends at clean in
    rw (ends, none.0, none.1) (sym (rest-same st.StartRecord ys))
cut-rest s fields field (c ∷ xs) ys clean ends =
    let after = step-clean s c fields field clean in
    by (cases_Bool (is_end (step default_config s c).1))
    (λ e. cut-rest next [] [] xs ys (after.ended e) ends)
    (λ e. cut-rest next (fields_after (step default_config s c).1 fields field) (field_after (step default_config s c).1 c field) xs ys (after.still e) ends)
  where
    next : State
    next = (step default_config s c).0

    later : List (List (List ℕ))
    later = records_after st.StartRecord (Some ys)

    by : (is_end (step default_config s c).1 ≡ true) ⊎ (is_end (step default_config s c).1 ≡ false)
        → (is_end (step default_config s c).1 ≡ true → rest_of next [] [] (xs ++ ys) ≡ rest_of next [] [] xs ++ later)
        → (is_end (step default_config s c).1 ≡ false → rest_of next (fields_after (step default_config s c).1 fields field) (field_after (step default_config s c).1 c field) (xs ++ ys)
        ≡ rest_of next (fields_after (step default_config s c).1 fields field) (field_after (step default_config s c).1 c field) xs ++ later)
        → rest_of s fields field ((c ∷ xs) ++ ys) ≡ rest_of s fields field (c ∷ xs) ++ later
    by (inl e) ended going = rw e (ap (λ rest. fields_after (step default_config s c).1 fields field ∷ rest)
        (rest-same next (xs ++ ys) ∙ ended e ∙ ap (λ rest. rest ++ later) (sym (rest-same next xs))))
    by (inr e) ended going = rw e (going e)

pub cut-records : (xs ys : List ℕ) → state_after st.StartRecord xs ≡ st.StartRecord
    → records_after st.StartRecord (Some (xs ++ ys)) ≡ records_after st.StartRecord (Some xs) ++ records_after st.StartRecord (Some ys)
cut-records xs ys ends =
    rest-same st.StartRecord (xs ++ ys) ∙ cut-rest st.StartRecord [] [] xs ys (refl, refl) ends ∙ ap (λ rest. rest ++ records_after st.StartRecord (Some ys)) (sym (rest-same st.StartRecord xs))

-- ---- byte order marks

-- a text that does not begin as a byte order mark does keeps all its bytes
pub bare-text : (xs : List ℕ) → (get_or xs 0 0 == 239) ≡ false → strip_bom xs ≡ xs
unfolding strip_bom
bare-text [] first = refl
bare-text (a ∷ []) first = refl
bare-text (a ∷ b ∷ []) first = refl
bare-text (a ∷ b ∷ c ∷ rest) first = rw first refl

bare-part : (xs : List ℕ) (n : ℕ) → (get_or xs 0 0 == 239) ≡ false → (get_or (take n xs) 0 0 == 239) ≡ false
bare-part xs zero first = refl
bare-part [] (suc n) first = refl
bare-part (x ∷ xs) (suc n) first = first

pub is-cut : (text : List ℕ) (place : ℕ) → EndsRecord text place → (get_or text 0 0 == 239) ≡ false → (get_or (drop place text) 0 0 == 239) ≡ false → IsCut text place
unfolding records_after
is-cut text place ends first second = record {
  within = ends.within;
  bare = bare-text text first;
  parts = rw (bare-text text first, bare-text (take place text) (bare-part text place first), bare-text (drop place text) second) parted;
}
  where
    parted : records_after st.StartRecord (Some text) ≡ records_after st.StartRecord (Some (take place text)) ++ records_after st.StartRecord (Some (drop place text))
    parted = ap (λ all. records_after st.StartRecord (Some all)) (sym (take-append-drop place text)) ∙ cut-records (take place text) (drop place text) ends.between

-- ---- bytes gone through

pub state_after-last : (s : State) (xs : List ℕ) (x : ℕ) → state_after s (xs ++ x ∷ []) ≡ (step default_config (state_after s xs) x).0
unfolding state_after
state_after-last s [] x = refl
state_after-last s (y ∷ xs) x = state_after-last (step default_config s y).0 xs x

-- outside of quotes
abbrev Unquoted : State → Type 0
Unquoted st.StartRecord = ⊤
Unquoted st.AfterCr = ⊤
Unquoted st.StartField = ⊤
Unquoted st.InField = ⊤
Unquoted st.InQuoted = ⊥
Unquoted st.AfterQuote = ⊥
Unquoted st.InEscape = ⊥
Unquoted st.InComment = ⊥

in-field-unquoted : (c : ℕ) → Unquoted (in_field default_config c).0
in-field-unquoted c = by (cases_Bool (c == 44)) (cases_Bool (c == 13)) (cases_Bool (c == 10))
  where
    by : ((c == 44) ≡ true) ⊎ ((c == 44) ≡ false) → ((c == 13) ≡ true) ⊎ ((c == 13) ≡ false) → ((c == 10) ≡ true) ⊎ ((c == 10) ≡ false) → Unquoted (in_field default_config c).0
    by (inl comma) cr lf = rw comma tt
    by (inr not_comma) (inl cr) lf = rw (not_comma, cr) tt
    by (inr not_comma) (inr not_cr) (inl lf) = rw (not_comma, not_cr, lf) tt
    by (inr not_comma) (inr not_cr) (inr not_lf) = rw (not_comma, not_cr, not_lf) tt

start-record-unquoted : (c : ℕ) → (c == 34) ≡ false → Unquoted (start_record default_config c).0
start-record-unquoted c plain = by (cases_Bool (c == 13)) (cases_Bool (c == 10))
  where
    by : ((c == 13) ≡ true) ⊎ ((c == 13) ≡ false) → ((c == 10) ≡ true) ⊎ ((c == 10) ≡ false) → Unquoted (start_record default_config c).0
    by (inl cr) lf = rw cr tt
    by (inr not_cr) (inl lf) = rw (not_cr, lf) tt
    by (inr not_cr) (inr not_lf) = rw (not_cr, not_lf, plain) (rw (not_cr, not_lf) at (in-field-unquoted c))

step-unquoted : (s : State) (c : ℕ) → Unquoted s → (c == 34) ≡ false → Unquoted (step default_config s c).0
step-unquoted st.StartRecord c still plain = start-record-unquoted c plain
step-unquoted st.AfterCr c still plain = by (cases_Bool (c == 10))
  where
    by : ((c == 10) ≡ true) ⊎ ((c == 10) ≡ false) → Unquoted (step default_config st.AfterCr c).0
    by (inl lf) = rw lf tt
    by (inr other) = rw other (rw other at (start-record-unquoted c plain))
step-unquoted st.StartField c still plain = rw plain (in-field-unquoted c)
step-unquoted st.InField c still plain = in-field-unquoted c
step-unquoted st.InQuoted c still plain = absurd still
step-unquoted st.AfterQuote c still plain = absurd still
step-unquoted st.InEscape c still plain = absurd still
step-unquoted st.InComment c still plain = absurd still

all-unquoted : (s : State) (xs : List ℕ) → Unquoted s → ((k : ℕ) → k < length xs → (get_or xs k 0 == 34) ≡ false) → Unquoted (state_after s xs)
unfolding state_after
all-unquoted s [] still plain = still
all-unquoted s (x ∷ xs) still plain = all-unquoted (step default_config s x).0 xs (step-unquoted s x still (plain 0 (omega arith))) (λ k below. plain (suc k) (omega arith))

-- outside of quotes a line end ends a record
line-ends : (s : State) → Unquoted s → (step default_config s 10).0 ≡ st.StartRecord
line-ends st.StartRecord still = refl
line-ends st.AfterCr still = refl
line-ends st.StartField still = refl
line-ends st.InField still = refl
line-ends st.InQuoted still = absurd still
line-ends st.AfterQuote still = absurd still
line-ends st.InEscape still = absurd still
line-ends st.InComment still = absurd still

pub plain-ends : (text : List ℕ) (n : ℕ) → n < length text → get_or text n 0 ≡ 10 → ((k : ℕ) → k < n → (get_or text k 0 == 34) ≡ false) → EndsRecord text (n + 1)
plain-ends text n below line plain = record {
  within = omega arith;
  between = ap (state_after st.StartRecord) whole ∙ state_after-last st.StartRecord (take n text) 10 ∙ line-ends (state_after st.StartRecord (take n text)) still;
}
  where
    whole : take (n + 1) text ≡ take n text ++ 10 ∷ []
    whole = (let e : n + 1 ≡ suc n = omega arith in ap (λ m. take m text) e) ∙ take-suc text n 0 below ∙ ap (λ b. take n text ++ b ∷ []) line

    still : Unquoted (state_after st.StartRecord (take n text))
    still = all-unquoted st.StartRecord (take n text) tt (λ k within.
        let long : length (take n text) ≡ n = length-take-le n text (omega arith) in
        let before : k < n = omega arith in
        ap (λ b. b == 34) (get_or-take n text k 0 before) ∙ plain k before)

-- three bytes may be a mark
pub strip-three : (xs : List ℕ) → 3 ≤ length xs → strip_bom xs ≡ (if is_bom (get_or xs 0 0) (get_or xs 1 0) (get_or xs 2 0) then drop 3 xs else xs)
unfolding strip_bom
strip-three [] long = absurd (omega arith)
strip-three (a ∷ []) long = absurd (omega arith)
strip-three (a ∷ b ∷ []) long = absurd (omega arith)
strip-three (a ∷ b ∷ c ∷ rest) long = refl

pub strip-few : (xs : List ℕ) → length xs < 3 → strip_bom xs ≡ xs
unfolding strip_bom
strip-few [] few = refl
strip-few (a ∷ []) few = refl
strip-few (a ∷ b ∷ []) few = refl
strip-few (a ∷ b ∷ c ∷ rest) few = absurd (omega arith)

-- one byte more of a text
pub state_after-byte : (text : List ℕ) (place : ℕ) (s : State) → place < length text → s ≡ state_after st.StartRecord (take place text)
    → (step default_config s (get_or text place 0)).0 ≡ state_after st.StartRecord (take (place + 1) text)
state_after-byte text place s below is =
    ap (λ t. (step default_config t (get_or text place 0)).0) is
    ∙ sym (state_after-last st.StartRecord (take place text) (get_or text place 0))
    ∙ ap (state_after st.StartRecord) (sym (take-suc text place 0 below))
    ∙ (let e : suc place ≡ place + 1 = omega arith in ap (λ n. state_after st.StartRecord (take n text)) e)

-- the first line end from a place on, without a quote before it
pub first-line-ends : (text : List ℕ) (from line : ℕ) → from < length text → IsFirstByte (is_byte 10) (take (length text - from) (drop from text)) (Some line)
    → IsFirstByte (is_byte 34) (take (from + line + 1) text) None → EndsRecord text (from + line + 1)
first-line-ends text from line below found none = plain-ends text (from + line) high lf (λ k before. plain k before (cases_Bool (get_or text k 0 == 34)))
  where
    rest : length (drop from text) ≡ length text - from
    rest = length-drop from text

    whole : take (length text - from) (drop from text) ≡ drop from text
    whole = take_all (length text - from) (drop from text) (omega (arith, rest))

    within : line < length (drop from text)
    within = rw whole at found.0.high

    high : from + line < length text
    high = omega (arith, rest, within)

    lf : get_or text (from + line) 0 ≡ 10
    lf = sym (get_or-drop from text line 0) ∙ eqb-true _ _ (rw whole at found.1)

    plain : (k : ℕ) → k < from + line → ((get_or text k 0 == 34) ≡ true) ⊎ ((get_or text k 0 == 34) ≡ false) → (get_or text k 0 == 34) ≡ false
    plain k before (inl quote) =
        let long : length (take (from + line + 1) text) ≡ from + line + 1 = length-take-le (from + line + 1) text (omega (arith, high)) in
        absurd (none k (omega arith) (omega (arith, before, long)) (ap (λ b. b == 34) (get_or-take (from + line + 1) text k 0 (omega (arith, before))) ∙ quote))
    plain k before (inr other) = other
