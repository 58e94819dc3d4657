-- The records of a part, taken one by one.
use Rattle.std.proofs.Common.{◌≡◌, ◌∙◌, ◌<◌, ◌^◌, ◌+◌, ℕ, List, [], ◌∷◌, ◌++◌, length, Option, Some, None, Result, Ok, Err, ◌⊎◌, inl, inr, refl, sym, ap, arith, append_assoc, length-append}
use Rattle.std.specs.Prelude.{IfErr, ok_or}
use Rattle.std.specs.Result.{result_err}
use Rattle.std.proofs.lemmas.List.{append-nil}
use Rattle.wh_text.specs.declared.fault.LoadFault.{LoadFault}
use Rattle.wh_text.specs.declared.fault.LoadFault.TheVariants.{Memory}
use Rattle.wh_text.specs.ValueOrFault.{◌>>=◌, or_fault}
use Rattle.wh_text_tables.specs.Part.{Below, Scheme, below_header, part_gives, record_gives, records_give}
use Rattle.wh_text_tables.specs.Inner.Part.{EndsBy, IsReadTo, TakenTo}
use Rattle.wh_text_tables.specs.Records.{form_fault}
use Rattle.wh_text_tables.specs.Unread.{Unread}
use Rattle.wh_text_tables.specs.Inner.Unread.{FailsNext}

-- a step that gave a value, and what the next gave
pub from_step : {A B : Type 0} (first : Result A LoadFault) (next : A → Result B LoadFault) (value : B) → (first >>= next) ≡ Ok value
    → (a : A) × (first ≡ Ok a) × (next a ≡ Ok value)
from_step (Ok a) next value e = (a, refl, e)
from_step (Err f) next value e = cc

pub same_Ok : {A : Type 0} (read : Result A LoadFault) (first second : A) → read ≡ Ok first → read ≡ Ok second → first ≡ second
same_Ok read first second e f = cc

pub or_fault-ok : {A : Type 0} (fault : Option LoadFault) (other : Result A LoadFault) (value : A) → or_fault fault other ≡ Ok value → other ≡ Ok value
or_fault-ok None other value e = e
or_fault-ok (Some f) other value e = cc

pub some-or : {A : Type 0} (o : Option A) (fault : LoadFault) (value : A) → ok_or o fault ≡ Ok value → o ≡ Some value
some-or None fault value e = cc
some-or (Some x) fault value e = cc

-- what some records and those after them make of a state
pub records_give-append : {K S : Type 0} (scheme : Scheme K S) (width : ℕ) (kind : K) (number : ℕ) (state : S) (before rest : List (List (List ℕ)))
    → records_give scheme width kind number state (before ++ rest) ≡ (records_give scheme width kind number state before >>= (λ after. records_give scheme width kind (number + length before) after rest))
unfolding records_give
records_give-append scheme width kind number state [] rest = (let e : number ≡ number + length {A = List (List ℕ)} [] = omega arith in ap (λ n. records_give scheme width kind n state rest) e)
records_give-append {S = S} scheme width kind number state (cells ∷ before) rest =
    by (record_gives scheme width kind state number cells) (λ after. records_give-append scheme width kind (number + 1) after before rest)
  where
    moved : (number + 1) + length before ≡ number + length (cells ∷ before)
    moved = omega arith

    by : (r : Result S LoadFault)
        → ((after : S) → records_give scheme width kind (number + 1) after (before ++ rest) ≡ (records_give scheme width kind (number + 1) after before >>= (λ last. records_give scheme width kind ((number + 1) + length before) last rest)))
        → (r >>= (λ after. records_give scheme width kind (number + 1) after (before ++ rest)))
        ≡ ((r >>= (λ after. records_give scheme width kind (number + 1) after before)) >>= (λ last. records_give scheme width kind (number + length (cells ∷ before)) last rest))
    by (Ok after) more = more after ∙ ap (λ n. records_give scheme width kind (number + 1) after before >>= (λ last. records_give scheme width kind n last rest)) moved
    by (Err f) more = refl

-- the same, where those before them made a state
pub records_give-after : {K S : Type 0} (scheme : Scheme K S) (width : ℕ) (kind : K) (number : ℕ) (old new : S) (before rest : List (List (List ℕ)))
    → records_give scheme width kind number old before ≡ Ok new → records_give scheme width kind number old (before ++ rest) ≡ records_give scheme width kind (number + length before) new rest
records_give-after scheme width kind number old new before rest made =
    records_give-append scheme width kind number old before rest
    ∙ ap (λ r. r >>= (λ after. records_give scheme width kind (number + length before) after rest)) made

-- the first record after them
pub records_give-first : {K S : Type 0} (scheme : Scheme K S) (width : ℕ) (kind : K) (number : ℕ) (state : S) (cells : List (List ℕ)) (rest : List (List (List ℕ)))
    → records_give scheme width kind number state (cells ∷ rest) ≡ (record_gives scheme width kind state number cells >>= (λ after. records_give scheme width kind (number + 1) after rest))
unfolding records_give
records_give-first scheme width kind number state cells rest = refl

pub records_give-none : {K S : Type 0} (scheme : Scheme K S) (width : ℕ) (kind : K) (number : ℕ) (state : S) → records_give scheme width kind number state [] ≡ Ok state
unfolding records_give
records_give-none scheme width kind number state = refl

-- how far the records below a header have been taken: these before, of all
pub record IsTaken {K S : Type 0} (scheme : Scheme K S) (below : Below K) (before : List (List (List ℕ))) (old : S) (records : Unread) (state : S) : Type 0 where
  pub parts : below.rows ≡ before ++ records.left
  pub given : records.given ≡ length before + 1
  pub few : length before + 1 < 2 ^ 64
  pub made : records_give scheme below.width below.kind 2 old before ≡ Ok state

-- before any record
pub IsTaken-start : {K S : Type 0} (scheme : Scheme K S) (kind : K) (width : ℕ) (old : S) (records : Unread) → records.given ≡ 1
    → IsTaken scheme (record { kind = kind; width = width; rows = records.left }) [] old records old
IsTaken-start scheme kind width old records given = record {
  parts = refl;
  given = given;
  few = omega arith;
  made = records_give-none scheme width kind 2 old;
}

-- one record more
pub IsTaken-next : {K S : Type 0} (scheme : Scheme K S) (below : Below K) (before : List (List (List ℕ))) (old state after : S) (records new : Unread) (cells : List (List ℕ))
    → IsTaken scheme below before old records state → records.left ≡ cells ∷ new.left → new.given ≡ records.given + 1 → new.given < 2 ^ 64
    → form_fault below.width new.given cells ≡ None → scheme.take below.kind state new.given cells ≡ Ok after
    → IsTaken scheme below (before ++ cells ∷ []) old new after
IsTaken-next scheme below before old state after records new cells is left given fits form takes =
    let count = is.given in
    let one = length-append before (cells ∷ []) in
    let number : 2 + length before ≡ new.given = omega arith in
    let own : record_gives scheme below.width below.kind state (2 + length before) cells ≡ Ok after = rw (number, form) takes in
    record {
      parts = is.parts ∙ ap (λ rows. before ++ rows) left ∙ sym (append_assoc before (cells ∷ []) new.left);
      given = omega arith;
      few = omega arith;
      made =
          records_give-after scheme below.width below.kind 2 old state before (cells ∷ []) is.made
          ∙ records_give-first scheme below.width below.kind (2 + length before) state cells []
          ∙ ap (λ r. r >>= (λ last. records_give scheme below.width below.kind ((2 + length before) + 1) last [])) own
          ∙ records_give-none scheme below.width below.kind ((2 + length before) + 1) after;
    }

-- all records were taken
pub IsTaken-end : {K S : Type 0} (scheme : Scheme K S) (below : Below K) (before : List (List (List ℕ))) (old state : S) (records : Unread)
    → IsTaken scheme below before old records state → records.left ≡ [] → TakenTo scheme below old state None
IsTaken-end scheme below before old state records is none = record {
  before = before;
  rest = records.left;
  parts = is.parts;
  made = is.made;
  ends = none;
}

-- no memory for the next record
ends-memory : {K S : Type 0} (scheme : Scheme K S) (width : ℕ) (kind : K) (state : S) (number : ℕ) (rest : List (List (List ℕ))) (f : LoadFault) → f ≡ Memory → EndsBy scheme width kind state number rest (Some f)
ends-memory scheme width kind state number [] f e = e
ends-memory scheme width kind state number (cells ∷ rest) f e = inl e

-- the next record's form has a fault, or there is no memory to read it
pub IsTaken-form : {K S : Type 0} (scheme : Scheme K S) (below : Below K) (before : List (List (List ℕ))) (old state : S) (records : Unread) (f : LoadFault)
    → IsTaken scheme below before old records state → (f ≡ Memory) ⊎ FailsNext records (form_fault below.width) f → TakenTo scheme below old state (Some f)
IsTaken-form scheme below before old state records f is (inl e) = record {
  before = before;
  rest = records.left;
  parts = is.parts;
  made = is.made;
  ends = ends-memory scheme below.width below.kind state (length before + 2) records.left f e;
}
IsTaken-form scheme below before old state records f is (inr fails) =
    let count = is.given in
    let number : length before + 2 ≡ records.given + 1 = omega arith in
    record {
      before = before;
      rest = fails.cells ∷ fails.rest;
      parts = is.parts ∙ ap (λ rows. before ++ rows) fails.next;
      made = is.made;
      ends = inr (rw (number, fails.first) refl);
    }

-- its cells have one, or there is no memory to take it
pub IsTaken-cells : {K S : Type 0} (scheme : Scheme K S) (below : Below K) (before : List (List (List ℕ))) (old state : S) (records new : Unread) (cells : List (List ℕ)) (f : LoadFault)
    → IsTaken scheme below before old records state → records.left ≡ cells ∷ new.left → new.given ≡ records.given + 1 → form_fault below.width new.given cells ≡ None
    → (f ≡ Memory) ⊎ (scheme.take below.kind state new.given cells ≡ Err f) → TakenTo scheme below old state (Some f)
IsTaken-cells scheme below before old state records new cells f is left given form bad = record {
  before = before;
  rest = cells ∷ new.left;
  parts = is.parts ∙ ap (λ rows. before ++ rows) left;
  made = is.made;
  ends = by bad;
}
  where
    number : length before + 2 ≡ new.given
    number = let count = is.given in omega arith

    by : (f ≡ Memory) ⊎ (scheme.take below.kind state new.given cells ≡ Err f) → (f ≡ Memory) ⊎ (record_gives scheme below.width below.kind state (length before + 2) cells ≡ Err f)
    by (inl e) = inl e
    by (inr fault) = inr (rw (number, form) fault)

-- what all records give, where they were all taken
pub taken-all : {K S : Type 0} (scheme : Scheme K S) (below : Below K) (old new : S) → TakenTo scheme below old new None → records_give scheme below.width below.kind 2 old below.rows ≡ Ok new
taken-all scheme below old new t =
    let whole : below.rows ≡ t.before = t.parts ∙ ap (λ rest. t.before ++ rest) t.ends ∙ append-nil t.before in
    ap (λ rows. records_give scheme below.width below.kind 2 old rows) whole ∙ t.made

-- and where taking them ended by a fault
pub taken-fault : {K S : Type 0} (scheme : Scheme K S) (below : Below K) (old new : S) (f : LoadFault) → TakenTo scheme below old new (Some f)
    → (f ≡ Memory) ⊎ (records_give scheme below.width below.kind 2 old below.rows ≡ Err f)
taken-fault scheme below old new f t = by t.rest t.parts t.ends
  where
    by : (rest : List (List (List ℕ))) → below.rows ≡ t.before ++ rest → EndsBy scheme below.width below.kind new (length t.before + 2) rest (Some f)
        → (f ≡ Memory) ⊎ (records_give scheme below.width below.kind 2 old below.rows ≡ Err f)
    by [] parts ends = inl ends
    by (cells ∷ rest) parts (inl e) = inl e
    by (cells ∷ rest) parts (inr bad) =
        let number : 2 + length t.before ≡ length t.before + 2 = omega arith in
        inr (
        ap (λ rows. records_give scheme below.width below.kind 2 old rows) parts
        ∙ records_give-after scheme below.width below.kind 2 old new t.before (cells ∷ rest) t.made
        ∙ ap (λ n. records_give scheme below.width below.kind n new (cells ∷ rest)) number
        ∙ records_give-first scheme below.width below.kind (length t.before + 2) new cells rest
        ∙ ap (λ r. r >>= (λ after. records_give scheme below.width below.kind ((length t.before + 2) + 1) after rest)) bad
        )

-- what the whole part gives
part-ok : {K S : Type 0} (scheme : Scheme K S) (records : List (List (List ℕ))) (old new : S) → IsReadTo scheme records old new None
    → part_gives scheme old records ≡ Ok new
part-ok scheme records old new (inl at) = cc at.is
part-ok scheme records old new (inr below) = rw below.tells (taken-all scheme below.below old new below.taken)

part-err : {K S : Type 0} (scheme : Scheme K S) (records : List (List (List ℕ))) (old new : S) (f : LoadFault) → IsReadTo scheme records old new (Some f)
    → (f ≡ Memory) ⊎ (part_gives scheme old records ≡ Err f)
part-err scheme records old new f (inl at) = by at.why
  where
    same : at.first ≡ f
    same = let e = at.is in cc

    by : (at.first ≡ Memory) ⊎ (below_header scheme records ≡ Err at.first) → (f ≡ Memory) ⊎ (part_gives scheme old records ≡ Err f)
    by (inl e) = inl (sym same ∙ e)
    by (inr e) = inr (rw e (ap Err same))
part-err scheme records old new f (inr below) = by (taken-fault scheme below.below old new f below.taken)
  where
    by : (f ≡ Memory) ⊎ (records_give scheme below.below.width below.below.kind 2 old below.below.rows ≡ Err f)
        → (f ≡ Memory) ⊎ (part_gives scheme old records ≡ Err f)
    by (inl e) = inl e
    by (inr e) = inr (rw below.tells e)

-- the same, of an answer
pub read-err : {K S T : Type 0} (scheme : Scheme K S) (records : List (List (List ℕ))) (old new : S) (read : Result T LoadFault) → IsReadTo scheme records old new (result_err read)
    → IfErr read (λ f. (f ≡ Memory) ⊎ (part_gives scheme old records ≡ Err f))
read-err scheme records old new (Ok x) to = tt
read-err scheme records old new (Err f) to = part-err scheme records old new f to
