-- The first fault of a part's records.
use Rattle.std.proofs.Common.{◌≡◌, ◌<◌, ◌+◌, ℕ, zero, suc, List, [], ◌∷◌, length, take, Option, Some, None, Result, Ok, Err, ◌⊎◌, inl, inr, refl, sym, ap, ◌∙◌, arith, subst}
use Rattle.std.specs.Prelude.{if◌then◌else◌, is_some, not, ok_or, slice_get}
use Rattle.std.specs.Result.{result_err}
use Rattle.std.proofs.lemmas.Option.{same_Some}
use Rattle.wh_text.specs.FirstFault.{EndsByFirst, Finds, IsBefore, IsFaultless, IsFirstFault, Place}
use Rattle.wh_text.specs.declared.fault.LoadFault.{LoadFault}
use Rattle.wh_text.specs.declared.fault.LoadFault.TheVariants.{Header}
use Rattle.wh_text.proofs.FirstFaults.{IsFirstOf, first_of, is-first, none-finds}
use Rattle.wh_text_tables.specs.FaultPlaces.{Cells, Judging, PartWrong, header_judged, in_header, in_record, no_header, record_judged}
use Rattle.wh_text.specs.ValueOrFault.{◌>>=◌, or_fault}
use Rattle.wh_text_tables.specs.Part.{Below, Scheme, below_header, part_gives, record_gives, records_give}
use Rattle.wh_text_tables.specs.Records.{form_fault}
use Rattle.wh_text_tables.proofs.PartReads.{from_step, or_fault-ok, records_give-first, records_give-none, same_Ok, some-or}

-- what a step that gave a fault, or the next after it, says
fault-step : {A B : Type 0} (first : Result A LoadFault) (next : A → Result B LoadFault) (fault : LoadFault) → (first >>= next) ≡ Err fault
    → (first ≡ Err fault) ⊎ ((a : A) × (first ≡ Ok a) × (next a ≡ Err fault))
fault-step (Ok a) next fault e = inr (a, refl, e)
fault-step (Err own) next fault e = inl (let same : own ≡ fault = cc in ap Err same)

-- the record after so many of these gives this
pub record Gives {K S : Type 0} (scheme : Scheme K S) (width : ℕ) (kind : K) (number : ℕ) (state : S) (rows : List Cells) (above : ℕ) (cells : Cells) (given : Result S LoadFault) : Type 0 where
  pub before : S
  pub made : records_give scheme width kind number state (take above rows) ≡ Ok before
  pub gives : record_gives scheme width kind before (number + above) cells ≡ given

-- it is taken
abbrev pub IsPassed : {K S : Type 0} → Scheme K S → ℕ → K → ℕ → S → List Cells → ℕ → Cells → Type 0
IsPassed {S = S} scheme width kind number state rows above cells = (after : S) × Gives scheme width kind number state rows above cells (Ok after)

first-gives : {K S : Type 0} (scheme : Scheme K S) (width : ℕ) (kind : K) (number : ℕ) (state : S) (cells : Cells) (rest : List Cells) (given : Result S LoadFault)
    → record_gives scheme width kind state number cells ≡ given → Gives scheme width kind number state (cells ∷ rest) 0 cells given
first-gives scheme width kind number state cells rest given e =
    let same : number + 0 ≡ number = omega arith in
    record { before = state; made = records_give-none scheme width kind number state; gives = rw same e }

later-gives : {K S : Type 0} (scheme : Scheme K S) (width : ℕ) (kind : K) (number : ℕ) (state after : S) (own : Cells) (rest : List Cells) (above : ℕ) (cells : Cells) (given : Result S LoadFault)
    → record_gives scheme width kind state number own ≡ Ok after → Gives scheme width kind (number + 1) after rest above cells given
    → Gives scheme width kind number state (own ∷ rest) (suc above) cells given
later-gives scheme width kind number state after own rest above cells given e is =
    let same : number + suc above ≡ (number + 1) + above = omega arith in
    record {
      before = is.before;
      made = records_give-first scheme width kind number state own (take above rest) ∙ ap (λ r. r >>= (λ s. records_give scheme width kind (number + 1) s (take above rest))) e ∙ is.made;
      gives = rw same is.gives;
    }

-- each of the records is taken
passed : {K S : Type 0} (scheme : Scheme K S) (width : ℕ) (kind : K) (number : ℕ) (state new : S) (rows : List Cells) (above : ℕ) (cells : Cells)
    → records_give scheme width kind number state rows ≡ Ok new → slice_get rows above ≡ Some cells → IsPassed scheme width kind number state rows above cells
passed scheme width kind number state new [] above cells e at = cc
passed scheme width kind number state new (own ∷ rest) zero cells e at =
    let next = from_step (record_gives scheme width kind state number own) _ new (sym (records_give-first scheme width kind number state own rest) ∙ e) in
    let same : own ≡ cells = cc in
    (next.0, rw (← same) (first-gives scheme width kind number state own rest (Ok next.0) next.1))
passed scheme width kind number state new (own ∷ rest) (suc above) cells e at =
    let next = from_step (record_gives scheme width kind state number own) _ new (sym (records_give-first scheme width kind number state own rest) ∙ e) in
    let later = passed scheme width kind (number + 1) next.0 new rest above cells next.2 at in
    (later.0, later-gives scheme width kind number state next.0 own rest above cells (Ok later.0) next.1 later.1)

-- the first record that is not taken, and those above it
record Stops {K S : Type 0} (scheme : Scheme K S) (width : ℕ) (kind : K) (number : ℕ) (state : S) (rows : List Cells) (fault : LoadFault) : Type 0 where
  pub above : ℕ
  pub cells : Cells
  pub there : slice_get rows above ≡ Some cells
  pub fails : Gives scheme width kind number state rows above cells (Err fault)
  pub earlier : (place : ℕ) (others : Cells) → place < above → slice_get rows place ≡ Some others → IsPassed scheme width kind number state rows place others

stops-later : {K S : Type 0} (scheme : Scheme K S) (width : ℕ) (kind : K) (number : ℕ) (state after : S) (own : Cells) (rest : List Cells) (fault : LoadFault)
    → record_gives scheme width kind state number own ≡ Ok after → Stops scheme width kind (number + 1) after rest fault → Stops scheme width kind number state (own ∷ rest) fault
stops-later scheme width kind number state after own rest fault e is = record {
  above = suc is.above;
  cells = is.cells;
  there = is.there;
  fails = later-gives scheme width kind number state after own rest is.above is.cells (Err fault) e is.fails;
  earlier = by;
}
  where
    by : (place : ℕ) (others : Cells) → place < suc is.above → slice_get (own ∷ rest) place ≡ Some others → IsPassed scheme width kind number state (own ∷ rest) place others
    by zero others below at =
        let same : own ≡ others = cc in
        (after, rw (← same) (first-gives scheme width kind number state own rest (Ok after) e))
    by (suc place) others below at =
        let later = is.earlier place others (omega arith) at in
        (later.0, later-gives scheme width kind number state after own rest place others (Ok later.0) e later.1)

stops : {K S : Type 0} (scheme : Scheme K S) (width : ℕ) (kind : K) (number : ℕ) (state : S) (rows : List Cells) (fault : LoadFault)
    → records_give scheme width kind number state rows ≡ Err fault → Stops scheme width kind number state rows fault
stops scheme width kind number state [] fault e = (let bad = sym (records_give-none scheme width kind number state) ∙ e in cc)
stops {S = S} scheme width kind number state (own ∷ rest) fault e =
    by (fault-step (record_gives scheme width kind state number own) _ fault (sym (records_give-first scheme width kind number state own rest) ∙ e))
    (λ after. stops scheme width kind (number + 1) after rest fault)
  where
    by : (record_gives scheme width kind state number own ≡ Err fault) ⊎ ((after : S) × (record_gives scheme width kind state number own ≡ Ok after) × (records_give scheme width kind (number + 1) after rest ≡ Err fault))
        → ((after : S) → records_give scheme width kind (number + 1) after rest ≡ Err fault → Stops scheme width kind (number + 1) after rest fault)
        → Stops scheme width kind number state (own ∷ rest) fault
    by (inl bad) more = record {
      above = 0;
      cells = own;
      there = refl;
      fails = first-gives scheme width kind number state own rest (Err fault) bad;
      earlier = λ place others below at. absurd (omega arith);
    }
    by (inr good) more = stops-later scheme width kind number state good.0 own rest fault good.1 (more good.0 good.2)

-- what is judged of a record's cells is what taking it says, below the rows that are taken
pub record Judges {K S : Type 0} (scheme : Scheme K S) (judging : Judging K) (state : S) : Type 0 where
  pub kinds : (header : Cells) → scheme.kind_of header ≡ judging.kind_of header
  pub cells : (kind : K) (width : ℕ) (rows : List Cells) (before : S) (number : ℕ) (cells : Cells) → records_give scheme width kind 2 state rows ≡ Ok before
      → result_err (scheme.take kind before number cells) ≡ first_of (judging.judged kind rows number cells)

judged-record : {K S : Type 0} (scheme : Scheme K S) (judging : Judging K) (state : S) (width : ℕ) (kind : K) (rows : List Cells) (above : ℕ) (cells : Cells) (given : Result S LoadFault)
    → Judges scheme judging state → Gives scheme width kind 2 state rows above cells given
    → result_err given ≡ first_of (record_judged judging kind width (take above rows) (above + 2) cells)
judged-record {K} {S} scheme judging state width kind rows above cells given judges is =
    let moved : 2 + above ≡ above + 2 = omega arith in
    ap result_err (sym is.gives) ∙ ap (λ n. result_err (record_gives scheme width kind is.before n cells)) moved
    ∙ by (form_fault width (above + 2) cells) (scheme.take kind is.before (above + 2) cells) (judging.judged kind (take above rows) (above + 2) cells) (judges.cells kind width (take above rows) is.before (above + 2) cells is.made)
  where
    by : (form : Option LoadFault) (taken : Result S LoadFault) (judged : List (Option LoadFault)) → result_err taken ≡ first_of judged → result_err (or_fault form taken) ≡ first_of (form ∷ judged)
    by None taken judged e = e
    by (Some f) taken judged e = refl

-- The header.

-- what a kind tells of what stands below
abbrev below_of : {K : Type 0} → ℕ → List Cells → K → Result (Below K) LoadFault
below_of width rows kind = Ok (record { kind = kind; width = width; rows = rows })

judged-header : {K S : Type 0} (scheme : Scheme K S) (judging : Judging K) (header : Cells) (rows : List Cells) → scheme.kind_of header ≡ judging.kind_of header
    → result_err {T = Below K} (below_header scheme (header ∷ rows)) ≡ first_of (header_judged judging header)
judged-header {K} scheme judging header rows kinds = rw kinds (by (form_fault (length header) 1 header) (judging.kind_of header))
  where
    by : (form : Option LoadFault) (kind : Option K) → result_err {T = Below K} (or_fault form (ok_or kind Header) >>= below_of (length header) rows)
        ≡ first_of (form ∷ (if not (is_some kind) then Some Header else None) ∷ [])
    by (Some f) kind = refl
    by None (Some kind) = refl
    by None None = refl

-- what a header tells where it is one
pub header-tells : {K S : Type 0} (scheme : Scheme K S) (header : Cells) (rows : List Cells) (below : Below K) → below_header scheme (header ∷ rows) ≡ Ok below
    → (kind : K) × (scheme.kind_of header ≡ Some kind) × (below ≡ record { kind = kind; width = length header; rows = rows })
header-tells scheme header rows below e =
    let told = from_step (or_fault (form_fault (length header) 1 header) (ok_or (scheme.kind_of header) Header)) _ below e in
    let kind = some-or (scheme.kind_of header) Header told.0 (or_fault-ok (form_fault (length header) 1 header) _ told.0 told.1) in
    (told.0, kind, same_Ok _ _ _ refl (sym told.2))

-- The places.

before-first : (n k : ℕ) (place : Place) → place ≡ 1 ∷ k ∷ [] → IsBefore place (1 ∷ n ∷ []) → k < n
before-first n k place e before = by (subst (λ p. IsBefore p (1 ∷ n ∷ [])) e before)
  where
    by : IsBefore (1 ∷ k ∷ []) (1 ∷ n ∷ []) → k < n
    by (inl below) = absurd (omega arith)
    by (inr same) = second same.1
      where
        second : IsBefore (k ∷ []) (n ∷ []) → k < n
        second (inl below) = below
        second (inr none) = absurd none.1

none-before-header : (above k n : ℕ) (place : Place) → place ≡ (above + 2) ∷ k ∷ [] → IsBefore place (1 ∷ n ∷ []) → ⊥
none-before-header above k n place e before = by (subst (λ p. IsBefore p (1 ∷ n ∷ [])) e before)
  where
    by : IsBefore ((above + 2) ∷ k ∷ []) (1 ∷ n ∷ []) → ⊥
    by (inl below) = omega arith
    by (inr same) = let e = same.0 in omega arith

before-record : (above place k n : ℕ) (other : Place) → other ≡ (place + 2) ∷ k ∷ [] → IsBefore other ((above + 2) ∷ n ∷ []) → (place < above) ⊎ ((place ≡ above) × (k < n))
before-record above place k n other e before = by (subst (λ p. IsBefore p ((above + 2) ∷ n ∷ [])) e before)
  where
    by : IsBefore ((place + 2) ∷ k ∷ []) ((above + 2) ∷ n ∷ []) → (place < above) ⊎ ((place ≡ above) × (k < n))
    by (inl below) = inl (omega arith)
    by (inr same) = inr ((let e = same.0 in omega arith), second same.1)
      where
        second : IsBefore (k ∷ []) (n ∷ []) → k < n
        second (inl below) = below
        second (inr none) = absurd none.1

-- The whole part.

no-cells : {A : Type 0} (x : A) (xs : List A) → [] ≡ x ∷ xs → ⊥
no-cells x xs e = cc

ends-empty : {K : Type 0} (judging : Judging K) → IsFirstFault (PartWrong judging []) Header
ends-empty judging = record { place = 1 ∷ 1 ∷ []; wrong = no_header refl refl refl; first = by }
  where
    by : (before : Place) (other : LoadFault) → IsBefore before (1 ∷ 1 ∷ []) → PartWrong judging [] before other → ⊥
    by before other earlier (no_header none is place) = (let bad = before-first 1 1 before place earlier in omega arith)
    by before other earlier (in_header header rows judgement parts finds place) = no-cells header rows parts
    by before other earlier (in_record header rows kind above cells judgement parts tells there finds place) = no-cells header rows parts

ends-at-header : {K : Type 0} (judging : Judging K) (header : Cells) (rows : List Cells) (fault : LoadFault) → first_of (header_judged judging header) ≡ Some fault
    → IsFirstFault (PartWrong judging (header ∷ rows)) fault
ends-at-header judging header rows fault e = record { place = 1 ∷ is.number ∷ []; wrong = in_header header rows is.number refl is.finds refl; first = by }
  where
    is : IsFirstOf (header_judged judging header) fault
    is = is-first (header_judged judging header) fault e

    by : (before : Place) (other : LoadFault) → IsBefore before (1 ∷ is.number ∷ []) → PartWrong judging (header ∷ rows) before other → ⊥
    by before other earlier (no_header none own place) = no-cells header rows (sym none)
    by before other earlier (in_header own below judgement parts finds place) =
        let same : own ≡ header = cc in
        is.first judgement other (before-first is.number judgement before place earlier) (subst (λ h. Finds (header_judged judging h) judgement other) same finds)
    by before other earlier (in_record own below kind above cells judgement parts tells there finds place) = none-before-header above judgement is.number before place earlier

-- what is wrong with a part whose header is one
record BelowWrong {K : Type 0} (judging : Judging K) (kind : K) (width : ℕ) (rows : List Cells) (place : Place) (fault : LoadFault) : Type 0 where
  pub above : ℕ
  pub cells : Cells
  pub judgement : ℕ
  pub there : slice_get rows above ≡ Some cells
  pub finds : Finds (record_judged judging kind width (take above rows) (above + 2) cells) judgement fault
  pub at : place ≡ (above + 2) ∷ judgement ∷ []

below-wrong : {K : Type 0} (judging : Judging K) (kind : K) (header : Cells) (rows : List Cells) (place : Place) (fault : LoadFault) → judging.kind_of header ≡ Some kind
    → first_of (header_judged judging header) ≡ None → PartWrong judging (header ∷ rows) place fault → BelowWrong judging kind (length header) rows place fault
below-wrong judging kind header rows place fault tells right (no_header none own at) = absurd (no-cells header rows (sym none))
below-wrong judging kind header rows place fault tells right (in_header own below judgement parts finds at) =
    let same : own ≡ header = cc in
    absurd (none-finds (header_judged judging header) judgement fault right (subst (λ h. Finds (header_judged judging h) judgement fault) same finds))
below-wrong {K} judging kind header rows place fault tells right (in_record own below other above cells judgement parts told there finds at) =
    let same : own ≡ header = cc in
    let rest : below ≡ rows = cc in
    let kinds : other ≡ kind = same_Some _ _ (sym told ∙ ap judging.kind_of same ∙ tells) in
    record {
      above = above;
      cells = cells;
      judgement = judgement;
      there = subst (λ rs. slice_get rs above ≡ Some cells) rest there;
      finds = subst (λ k. Finds (record_judged judging k (length header) (take above rows) (above + 2) cells) judgement fault) kinds
          (subst (λ rs. Finds (record_judged judging other (length header) (take above rs) (above + 2) cells) judgement fault) rest
          (subst (λ h. Finds (record_judged judging other (length h) (take above below) (above + 2) cells) judgement fault) same finds));
      at = at;
    }

right-record : {K S : Type 0} (scheme : Scheme K S) (judging : Judging K) (state : S) (width : ℕ) (kind : K) (rows : List Cells) (above : ℕ) (cells : Cells) (judgement : ℕ) (fault : LoadFault)
    → Judges scheme judging state → IsPassed scheme width kind 2 state rows above cells → Finds (record_judged judging kind width (take above rows) (above + 2) cells) judgement fault → ⊥
right-record scheme judging state width kind rows above cells judgement fault judges passes finds =
    none-finds (record_judged judging kind width (take above rows) (above + 2) cells) judgement fault
    (sym (judged-record scheme judging state width kind rows above cells (Ok passes.0) judges passes.1)) finds

ends-at-record : {K S : Type 0} (scheme : Scheme K S) (judging : Judging K) (state : S) (kind : K) (header : Cells) (rows : List Cells) (fault : LoadFault) → Judges scheme judging state
    → judging.kind_of header ≡ Some kind → first_of (header_judged judging header) ≡ None → records_give scheme (length header) kind 2 state rows ≡ Err fault
    → IsFirstFault (PartWrong judging (header ∷ rows)) fault
ends-at-record {K} scheme judging state kind header rows fault judges tells right e = record {
  place = (at.above + 2) ∷ is.number ∷ [];
  wrong = in_record header rows kind at.above at.cells is.number refl tells at.there is.finds refl;
  first = λ before other earlier wrong. by before other earlier (below-wrong judging kind header rows before other tells right wrong);
}
  where
    at : Stops scheme (length header) kind 2 state rows fault
    at = stops scheme (length header) kind 2 state rows fault e

    is : IsFirstOf (record_judged judging kind (length header) (take at.above rows) (at.above + 2) at.cells) fault
    is = is-first _ fault (sym (judged-record scheme judging state (length header) kind rows at.above at.cells (Err fault) judges at.fails))

    cases : (before : Place) (other : LoadFault) (w : BelowWrong judging kind (length header) rows before other) → (w.above < at.above) ⊎ ((w.above ≡ at.above) × (w.judgement < is.number)) → ⊥
    cases before other w (inl above) =
        right-record scheme judging state (length header) kind rows w.above w.cells w.judgement other judges (at.earlier w.above w.cells above w.there) w.finds
    cases before other w (inr same) =
        let cells : w.cells ≡ at.cells = same_Some _ _ (sym w.there ∙ ap (slice_get rows) same.0 ∙ at.there) in
        is.first w.judgement other same.1
        (subst (λ c. Finds (record_judged judging kind (length header) (take at.above rows) (at.above + 2) c) w.judgement other) cells
        (subst (λ n. Finds (record_judged judging kind (length header) (take n rows) (n + 2) w.cells) w.judgement other) same.0 w.finds))

    by : (before : Place) (other : LoadFault) → IsBefore before ((at.above + 2) ∷ is.number ∷ []) → BelowWrong judging kind (length header) rows before other → ⊥
    by before other earlier w = cases before other w (before-record at.above w.above w.judgement is.number before w.at earlier)

right-records : {K S : Type 0} (scheme : Scheme K S) (judging : Judging K) (state new : S) (kind : K) (header : Cells) (rows : List Cells) → Judges scheme judging state
    → judging.kind_of header ≡ Some kind → first_of (header_judged judging header) ≡ None → records_give scheme (length header) kind 2 state rows ≡ Ok new
    → IsFaultless (PartWrong judging (header ∷ rows))
right-records scheme judging state new kind header rows judges tells right e = λ place fault wrong.
    let w = below-wrong judging kind header rows place fault tells right wrong in
    right-record scheme judging state (length header) kind rows w.above w.cells w.judgement fault judges
    (passed scheme (length header) kind 2 state new rows w.above w.cells e w.there) w.finds

-- a part ends by its first fault
pub part-ends : {K S : Type 0} (scheme : Scheme K S) (judging : Judging K) (state : S) (records : List Cells) → Judges scheme judging state → EndsByFirst (PartWrong judging records) (part_gives scheme state records)
part-ends scheme judging state [] judges = record {
  fault = λ fault e. (let same : Header ≡ fault = cc in subst (λ f. IsFirstFault (PartWrong judging []) f) same (ends-empty judging));
  value = λ value e. cc;
}
part-ends {K} {S} scheme judging state (header ∷ rows) judges = by (below_header scheme (header ∷ rows)) refl
  where
    by : (below : Result (Below K) LoadFault) → below_header scheme (header ∷ rows) ≡ below
        → EndsByFirst (PartWrong judging (header ∷ rows)) (below >>= (λ b. records_give scheme b.width b.kind 2 state b.rows))
    by (Err own) e = record {
      fault = λ fault same. (let is : own ≡ fault = cc in ends-at-header judging header rows fault (sym (judged-header scheme judging header rows (judges.kinds header)) ∙ ap result_err e ∙ ap Some is));
      value = λ value same. cc;
    }
    by (Ok below) e =
        let told = header-tells scheme header rows below e in
        let kind : judging.kind_of header ≡ Some told.0 = sym (judges.kinds header) ∙ told.1 in
        let right : first_of (header_judged judging header) ≡ None = sym (judged-header scheme judging header rows (judges.kinds header)) ∙ ap result_err e in
        rw told.2 record {
          fault = λ fault bad. ends-at-record scheme judging state told.0 header rows fault judges kind right bad;
          value = λ value good. right-records scheme judging state value told.0 header rows judges kind right good;
        }
