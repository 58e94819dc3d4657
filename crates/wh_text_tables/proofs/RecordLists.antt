-- The list of a text's records, one record at a time.
use Rattle.std.proofs.Common.{◌≡◌, ◌≤◌, ◌<◌, ◌+◌, ℕ, zero, suc, Bool, true, false, List, [], ◌∷◌, ◌++◌, length, Option, Some, None, ◌⊎◌, inl, inr, refl, sym, ap, ◌∙◌, arith, add-one}
use Rattle.std.specs.Prelude.{if◌then◌else◌}
use Rattle.std.specs.List.{list_all}
use Rattle.std.specs.Str.{IsUtf8, is_utf8}
use Rattle.std.proofs.lemmas.Bool.{cases_Bool}
use Rattle.std.proofs.lemmas.Str.{IsUtf8-from_is_utf8, is_utf8-from_IsUtf8}
use Rattle.csv.specs.Machine.{Read, ends_at_end, field_after, fields_after, is_end, next_record, step}
use Rattle.csv.specs.Reading.{NextIs, ReadsNext, default_config, is_bom, records_from, records_next, strip_bom}
use Rattle.csv.specs.Records.{AllText}
use Rattle.csv.specs.declared.parser.Config.{Config}
use Rattle.csv.specs.declared.parser.State.{State}
use Rattle.csv.specs.declared.parser.State.TheVariants as st
use Rattle.wh_text_tables.specs.Unread.{records_after}

-- a read of these bytes left this: fewer bytes, or it was at the end of the text
abbrev pub Consumes : List ℕ → Read → Type 0
Consumes xs p = ((xs ≡ []) × (p.1 ≡ st.StartRecord) × (p.2 ≡ [])) ⊎ (length p.2 < length xs)

fewer : (xs ys : List ℕ) (x : ℕ) (s : State) (p : Read) → Consumes xs p → length p.2 < length (x ∷ xs)
fewer xs ys x s p (inl e) = rw e.2 (omega arith)
fewer xs ys x s p (inr l) = omega arith

-- each read of a record moves on
pub next-consumes : (cfg : Config) (s : State) (fields : List (List ℕ)) (field xs : List ℕ) (p : Read) → next_record cfg s fields field xs ≡ Some p → Consumes xs p
unfolding next_record
next-consumes cfg s fields field [] p e = by (ends_at_end s) e
  where
    by : (b : Bool) → (if b then Some (fields ++ (field ∷ []), st.StartRecord, []) else None) ≡ Some p → Consumes [] p
    by true h =
        let same : (fields ++ (field ∷ []), st.StartRecord, []) ≡ p = cc in
        inl (refl, ap (λ (q : Read). q.1) (sym same), ap (λ (q : Read). q.2) (sym same))
    by false h = cc h
next-consumes cfg s fields field (c ∷ rest) p e =
    by (is_end (step cfg s c).1) e (next-consumes cfg (step cfg s c).0 (fields_after (step cfg s c).1 fields field) (field_after (step cfg s c).1 c field) rest p)
  where
    by : (b : Bool) → (if b then Some (fields_after (step cfg s c).1 fields field, (step cfg s c).0, rest)
        else next_record cfg (step cfg s c).0 (fields_after (step cfg s c).1 fields field) (field_after (step cfg s c).1 c field) rest) ≡ Some p
        → (next_record cfg (step cfg s c).0 (fields_after (step cfg s c).1 fields field) (field_after (step cfg s c).1 c field) rest ≡ Some p → Consumes rest p)
        → Consumes (c ∷ rest) p
    by true h more =
        let same : (fields_after (step cfg s c).1 fields field, (step cfg s c).0, rest) ≡ p = cc in
        inr (rw (sym same) (omega arith))
    by false h more = inr (fewer rest rest c s p (more h))

-- at the end of a text there is no record
none-left : (cfg : Config) (n : ℕ) → records_from cfg n st.StartRecord [] ≡ []
unfolding records_from next_record
none-left cfg zero = refl
none-left cfg (suc n) = refl

-- more turns than there are bytes give the same records
turns-enough : (cfg : Config) (n m : ℕ) (s : State) (xs : List ℕ) → length xs < n → length xs < m → records_from cfg n s xs ≡ records_from cfg m s xs
unfolding records_from
turns-enough cfg zero m s xs a b = absurd (omega arith)
turns-enough cfg (suc n) zero s xs a b = absurd (omega arith)
turns-enough cfg (suc n) (suc m) s xs a b = by (next_record cfg s [] [] xs) (λ p e. next-consumes cfg s [] [] xs p e) (λ p. turns-enough cfg n m p.1 p.2)
  where
    left : (p : Read) → Consumes xs p → ((length p.2 < n) → (length p.2 < m) → records_from cfg n p.1 p.2 ≡ records_from cfg m p.1 p.2) → records_from cfg n p.1 p.2 ≡ records_from cfg m p.1 p.2
    left p (inl e) more = rw (e.1, e.2) (none-left cfg n ∙ sym (none-left cfg m))
    left p (inr l) more = more (omega arith) (omega arith)

    by : (o : Option Read) → ((p : Read) → o ≡ Some p → Consumes xs p)
        → ((p : Read) → length p.2 < n → length p.2 < m → records_from cfg n p.1 p.2 ≡ records_from cfg m p.1 p.2)
        → records_next (records_from cfg n) o ≡ records_next (records_from cfg m) o
    by None h more = refl
    by (Some p) h more = ap (λ rest. p.0 ∷ rest) (left p (h p refl) (more p))

-- the first of the records that are left, and those after it
pub records_after-next : (s : State) (xs : List ℕ) (p : Read) → next_record default_config s [] [] xs ≡ Some p → records_after s (Some xs) ≡ p.0 ∷ records_after p.1 (Some p.2)
unfolding records_after records_from
records_after-next s xs p e =
    rw (add-one (length xs), e) (ap (λ rest. p.0 ∷ rest) (left (next-consumes default_config s [] [] xs p e)))
  where
    left : Consumes xs p → records_from default_config (length xs) p.1 p.2 ≡ records_from default_config (length p.2 + 1) p.1 p.2
    left (inl h) = rw (h.1, h.2) (none-left default_config (length xs) ∙ sym (none-left default_config (length {A = ℕ} [] + 1)))
    left (inr l) = turns-enough default_config (length xs) (length p.2 + 1) p.1 p.2 l (omega arith)

pub records_after-end : (s : State) (xs : List ℕ) → next_record default_config s [] [] xs ≡ None → records_after s (Some xs) ≡ []
unfolding records_after records_from
records_after-end s xs e = rw (add-one (length xs), e) refl

length-records_from : (n : ℕ) (s : State) (xs : List ℕ) → length (records_from default_config n s xs) ≤ length xs + 1
unfolding records_from
length-records_from zero s xs = omega arith
length-records_from (suc n) s xs = by (next_record default_config s [] [] xs) (λ p e. next-consumes default_config s [] [] xs p e) (λ p. length-records_from n p.1 p.2)
  where
    more : (p : Read) → Consumes xs p → length (records_from default_config n p.1 p.2) ≤ length p.2 + 1 → suc (length (records_from default_config n p.1 p.2)) ≤ length xs + 1
    more p (inl h) l = rw (h.1, h.2, none-left default_config n) (omega arith)
    more p (inr h) l = omega arith

    by : (o : Option Read) → ((p : Read) → o ≡ Some p → Consumes xs p) → ((p : Read) → length (records_from default_config n p.1 p.2) ≤ length p.2 + 1)
        → length (records_next (records_from default_config n) o) ≤ length xs + 1
    by None h few = omega arith
    by (Some p) h few = more p (h p refl) (few p)

-- a text has at most one record more than bytes
pub length-records_after : (s : State) (xs : List ℕ) → length (records_after s (Some xs)) ≤ length xs + 1
unfolding records_after
length-records_after s xs = length-records_from (length xs + 1) s xs

pub length-strip_bom : (xs : List ℕ) → length (strip_bom xs) ≤ length xs
unfolding strip_bom
length-strip_bom [] = omega arith
length-strip_bom (a ∷ []) = omega arith
length-strip_bom (a ∷ b ∷ []) = omega arith
length-strip_bom (a ∷ b ∷ c ∷ rest) = by (is_bom a b c)
  where
    by : (mark : Bool) → length (if mark then rest else a ∷ b ∷ c ∷ rest) ≤ length (a ∷ b ∷ c ∷ rest)
    by true = omega arith
    by false = omega arith

next-found : (o : Option Read) (f : List (List ℕ)) (s : State) (z : List ℕ) → NextIs o true f s z → (p : Read) × (o ≡ Some p) × (f ≡ p.0) × (s ≡ p.1) × (z ≡ p.2)
next-found None f s z n = cc n
next-found (Some p) f s z n = (p, refl, n.1, n.2, n.3)

named : (left : List (List (List ℕ))) (f : List (List ℕ)) (t : State) (z : List ℕ) (p : Read) → f ≡ p.0 → t ≡ p.1 → z ≡ p.2
    → left ≡ p.0 ∷ records_after p.1 (Some p.2) → left ≡ f ∷ records_after t (Some z)
named left f t z p a b d e = rw (a, b, d) e

-- a read that took a record took the first that was left
pub read-first : (s : State) (y : List ℕ) (after : Option (List ℕ)) (f : List (List ℕ)) (t : State) → ReadsNext default_config s (Some y) after true f t
    → (z : List ℕ) × (after ≡ Some z) × (records_after s (Some y) ≡ f ∷ records_after t (Some z))
read-first s y None f t r = absurd r
read-first s y (Some z) f t r =
    let n = next-found (next_record default_config s [] [] y) f t z r in
    (z, refl, named (records_after s (Some y)) f t z n.0 n.2 n.3 n.4 (records_after-next s y n.0 n.1))

-- every cell is UTF-8
pub all_utf8 : (cells : List (List ℕ)) → AllText cells → list_all is_utf8 cells ≡ true
unfolding AllText
all_utf8 [] h = refl
all_utf8 (c ∷ cs) h = rw (is_utf8-from_IsUtf8 c h.0) (all_utf8 cs h.1)

all_text : (cells : List (List ℕ)) → list_all is_utf8 cells ≡ true → AllText cells
unfolding AllText
all_text [] h = tt
all_text (c ∷ cs) h = by (cases_Bool (is_utf8 c)) (all_text cs)
  where
    by : (is_utf8 c ≡ true) ⊎ (is_utf8 c ≡ false) → (list_all is_utf8 cs ≡ true → AllText cs) → IsUtf8 c × AllText cs
    by (inl e) more = (IsUtf8-from_is_utf8 c e, more (rw e at h))
    by (inr e) more = cc (rw e at h)

-- some cell is not
pub not_all_utf8 : (cells : List (List ℕ)) → ¬ (AllText cells) → list_all is_utf8 cells ≡ false
not_all_utf8 cells h = by (cases_Bool (list_all is_utf8 cells))
  where
    by : (list_all is_utf8 cells ≡ true) ⊎ (list_all is_utf8 cells ≡ false) → list_all is_utf8 cells ≡ false
    by (inl e) = absurd (h (all_text cells e))
    by (inr e) = e
