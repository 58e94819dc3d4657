-- The first part whose lines stand in a file.
use Rattle.std.proofs.Common.{◌≡◌, ◌+◌, ◌≤◌, ℕ, true, List, [], ◌∷◌, ◌++◌, length, take, drop, refl, ap, sym, subst, ◌∙◌, arith, append_assoc, append-nil, length-append, length-drop, Some, None, Result, Ok, Err, OnOk, length-take}
use Rattle.std.specs.Prelude.{is_some, not, nat_eq}
use Rattle.std.specs.List.{concat, flat_map, list_all, starts_with}
use Rattle.std.proofs.Math.Seq.{take-add}
use Rattle.std.proofs.lemmas.List.{drop-drop, take_all}
use Rattle.std.proofs.lemmas.Bool.{and_parts, not-true}
use Rattle.wh_text.specs.Line.{whole_lines}
use Rattle.wh_text_bundle.specs.Cut.{Cut, RawPart, bytes_of_part, bytes_of_parts, cut}
use Rattle.wh_text_bundle.specs.Files.{HasNoFiled, IsFirstFiled, all_escaped, body_of_file, ended, escaped, filed_bytes, filed_part, filled, filled_parts, is_unfiled}
use Rattle.wh_text_bundle.specs.PartLine.{is_plain}
use Rattle.wh_text_bundle.proofs.CutLemmas.{concat-whole_lines, cut_whole}

-- the parts above a place are not filed, and a part begins there
pub record IsPassedTo (text : List ℕ) (at : ℕ) : Type 0 where
  pub before : List RawPart
  pub split : (cut text).parts ≡ before ++ (cut (drop at text)).parts
  pub passed : list_all is_unfiled before ≡ true
  pub starts : (cut (drop at text)).preface ≡ []
  pub over : take at text ≡ (cut text).preface ++ bytes_of_parts before

pub at_first : (text : List ℕ) (at : ℕ) → (cut text).preface ≡ take at text → cut (drop at text) ≡ record { preface = []; parts = (cut text).parts } → IsPassedTo text at
at_first text at preface parts = record {
  before = [];
  split = sym (ap (λ (c : Cut). c.parts) parts);
  passed = refl;
  starts = ap (λ (c : Cut). c.preface) parts;
  over = sym preface ∙ sym (append-nil (cut text).preface);
}

bytes_of_parts-append : (ps qs : List RawPart) → bytes_of_parts (ps ++ qs) ≡ bytes_of_parts ps ++ bytes_of_parts qs
bytes_of_parts-append [] qs = refl
bytes_of_parts-append (p ∷ ps) qs = ap (λ bs. bytes_of_part p ++ bs) (bytes_of_parts-append ps qs) ∙ sym (append_assoc (bytes_of_part p) (bytes_of_parts ps) (bytes_of_parts qs))

all-append : (ps qs : List RawPart) → list_all is_unfiled ps ≡ true → list_all is_unfiled qs ≡ true → list_all is_unfiled (ps ++ qs) ≡ true
all-append [] qs p q = q
all-append (x ∷ ps) qs p q =
    let parts = and_parts (is_unfiled x) (list_all is_unfiled ps) p in
    rw (parts.0, all-append ps qs parts.1 q) refl

-- a text that begins with a part is that part and what stands below it
pub begins_with : (rest below : List ℕ) (part : RawPart) → (cut rest).preface ≡ [] → (cut rest).parts ≡ part ∷ (cut below).parts → (cut below).preface ≡ [] → rest ≡ bytes_of_part part ++ below
begins_with rest below part none parts nothing =
    let lower : below ≡ bytes_of_parts (cut below).parts = sym (cut_whole below) ∙ ap (λ bs. bs ++ bytes_of_parts (cut below).parts) nothing in
    sym (cut_whole rest) ∙ ap (λ bs. bs ++ bytes_of_parts (cut rest).parts) none ∙ ap bytes_of_parts parts ∙ ap (λ bs. bytes_of_part part ++ bs) (sym lower)

take-front : (xs ys : List ℕ) → take (length xs) (xs ++ ys) ≡ xs
take-front [] ys = refl
take-front (x ∷ xs) ys = ap (λ zs. x ∷ zs) (take-front xs ys)

drop-front : (xs ys : List ℕ) → drop (length xs) (xs ++ ys) ≡ ys
drop-front [] ys = refl
drop-front (x ∷ xs) ys = drop-front xs ys

-- one part more is passed
pub passed_more : (text below : List ℕ) (at : ℕ) (part : RawPart) → IsPassedTo text at → (cut (drop at text)).parts ≡ part ∷ (cut below).parts → (cut below).preface ≡ [] → filed_part part ≡ None
    → IsPassedTo text (at + (length part.opening + length part.body))
passed_more text below at part h parts nothing none =
    let rest = drop at text in
    let n = length part.opening + length part.body in
    let long : length (bytes_of_part part) ≡ n = length-append part.opening part.body in
    let is : rest ≡ bytes_of_part part ++ below = begins_with rest below part h.starts parts nothing in
    let lower : drop (at + n) text ≡ below = sym (drop-drop n at text) ∙ ap (λ k. drop k rest) (sym long) ∙ ap (drop (length (bytes_of_part part))) is ∙ drop-front (bytes_of_part part) below in
    let upper : take n rest ≡ bytes_of_part part = ap (λ k. take k rest) (sym long) ∙ ap (take (length (bytes_of_part part))) is ∙ take-front (bytes_of_part part) below in
    let one : bytes_of_parts (part ∷ []) ≡ bytes_of_part part = append-nil (bytes_of_part part) in
    record {
      before = h.before ++ part ∷ [];
      split = h.split ∙ ap (λ ps. h.before ++ ps) (parts ∙ ap (λ (bs : List ℕ). part ∷ (cut bs).parts) (sym lower)) ∙ sym (append_assoc h.before (part ∷ []) (cut (drop (at + n) text)).parts);
      passed = all-append h.before (part ∷ []) h.passed (rw none refl);
      starts = ap (λ bs. (cut bs).preface) lower ∙ nothing;
      over = take-add at n text ∙ ap (λ bs. bs ++ take n rest) h.over ∙ ap (λ bs. ((cut text).preface ++ bytes_of_parts h.before) ++ bs) (upper ∙ sym one)
          ∙ append_assoc (cut text).preface (bytes_of_parts h.before) (bytes_of_parts (part ∷ [])) ∙ ap (λ bs. (cut text).preface ++ bs) (sym (bytes_of_parts-append h.before (part ∷ [])));
    }

-- how far that is
pub long_part : (text below : List ℕ) (at : ℕ) (part : RawPart) → IsPassedTo text at → (cut (drop at text)).parts ≡ part ∷ (cut below).parts → (cut below).preface ≡ [] → at ≤ length text
    → at + (length part.opening + length part.body) + length below ≡ length text
long_part text below at part h parts nothing within =
    let all = ap length (begins_with (drop at text) below part h.starts parts nothing) in
    omega (arith, all, within, length-drop at text, length-append (bytes_of_part part) below, length-append part.opening part.body)

-- the first filed part
pub is_first : (text below heading path : List ℕ) (at : ℕ) (part : RawPart) → IsPassedTo text at → (cut (drop at text)).parts ≡ part ∷ (cut below).parts → (cut below).preface ≡ []
    → filed_part part ≡ Some (record { heading = heading; path = path }) → IsFirstFiled text (take at text) heading path below
is_first text below heading path at part h parts nothing is = record {
  before = h.before;
  part = part;
  split = h.split ∙ ap (λ ps. h.before ++ ps) parts;
  passed = h.passed;
  is = is;
  starts = nothing;
  over = h.over;
}

-- there is none
pub is_none : (text : List ℕ) (at : ℕ) → IsPassedTo text at → drop at text ≡ [] → HasNoFiled text
is_none text at h none =
    let all : (cut text).parts ≡ h.before = h.split ∙ ap (λ bs. h.before ++ (cut bs).parts) none ∙ append-nil h.before in
    ap (list_all is_unfiled) all ∙ h.passed

-- ---- filled

unfiled : (part : RawPart) → is_unfiled part ≡ true → filed_part part ≡ None
unfiled part h = elim (filed_part part) as (λ o. not (is_some o) ≡ true → o ≡ None) [ None ↦ λ e. refl | Some n ↦ λ e. cc ] h

filled_before : (before rest : List RawPart) (files : List (List ℕ)) → list_all is_unfiled before ≡ true → filled_parts (before ++ rest) files ≡ bytes_of_parts before ++ filled_parts rest files
filled_before [] rest files h = refl
filled_before (part ∷ before) rest files h =
    let parts = and_parts (is_unfiled part) (list_all is_unfiled before) h in
    rw (unfiled part parts.0, filled_before before rest files parts.1) (sym (append_assoc (bytes_of_part part) (bytes_of_parts before) (filled_parts rest files)))

filled_unfiled : (parts : List RawPart) (files : List (List ℕ)) → list_all is_unfiled parts ≡ true → filled_parts parts files ≡ bytes_of_parts parts
filled_unfiled [] files h = refl
filled_unfiled (part ∷ parts) files h =
    let each = and_parts (is_unfiled part) (list_all is_unfiled parts) h in
    rw (unfiled part each.0, filled_unfiled parts files each.1) refl

-- where no part is filed, a text stands as it is
pub filled_none : (text : List ℕ) (files : List (List ℕ)) → HasNoFiled text → filled text files ≡ text
filled_none text files h = ap (λ bs. (cut text).preface ++ bs) (filled_unfiled (cut text).parts files h) ∙ cut_whole text

-- the first file stands in the place of the first filed part
pub filled_first : (text above heading path below file : List ℕ) (files : List (List ℕ)) → IsFirstFiled text above heading path below
    → filled text (file ∷ files) ≡ above ++ (filed_bytes heading file ++ filled below files)
filled_first text above heading path below file files h =
    let here : filled_parts (h.part ∷ (cut below).parts) (file ∷ files) ≡ filed_bytes heading file ++ filled_parts (cut below).parts files = rw h.is refl in
    let lower : filled below files ≡ filled_parts (cut below).parts files = ap (λ bs. bs ++ filled_parts (cut below).parts files) h.starts in
    ap (λ ps. (cut text).preface ++ filled_parts ps (file ∷ files)) h.split
    ∙ ap (λ bs. (cut text).preface ++ bs) (filled_before h.before (h.part ∷ (cut below).parts) (file ∷ files) h.passed ∙ ap (λ bs. bytes_of_parts h.before ++ bs) (here ∙ ap (λ bs. filed_bytes heading file ++ bs) (sym lower)))
    ∙ sym (append_assoc (cut text).preface (bytes_of_parts h.before) (filed_bytes heading file ++ filled below files))
    ∙ ap (λ bs. bs ++ (filed_bytes heading file ++ filled below files)) (sym h.over)

-- ---- the lines of a file

escaped-plain : (line : List ℕ) → is_plain line ≡ true → escaped line ≡ line
escaped-plain line h = rw (not-true (starts_with nat_eq line (64 ∷ [])) h) refl

each_plain : (lines : List (List ℕ)) → list_all is_plain lines ≡ true → flat_map escaped lines ≡ concat lines
each_plain [] h = refl
each_plain (line ∷ lines) h =
    let parts = and_parts (is_plain line) (list_all is_plain lines) h in
    rw (escaped-plain line parts.0, each_plain lines parts.1) refl

-- lines that begin with no `@` stay as they are
pub all_plain : (file : List ℕ) (n : ℕ) → length file ≤ n → list_all is_plain (whole_lines (take n file)) ≡ true → all_escaped file ≡ file
all_plain file n within h =
    let whole : take n file ≡ file = take_all n file within in
    each_plain (whole_lines file) (subst (λ bs. list_all is_plain (whole_lines bs) ≡ true) whole h) ∙ concat-whole_lines file

take-long : (s : ℕ) (bytes more : List ℕ) → s ≤ length bytes → take s (take s bytes ++ more) ≡ take s bytes
take-long s bytes more within =
    let long : length (take s bytes) ≡ s = omega (arith, length-take s bytes, within) in
    subst (λ n. take n (take s bytes ++ more) ≡ take s bytes) long (take-front (take s bytes) more)

drop-long : (s : ℕ) (bytes more : List ℕ) → s ≤ length bytes → drop s (take s bytes ++ more) ≡ more
drop-long s bytes more within =
    let long : length (take s bytes) ≡ s = omega (arith, length-take s bytes, within) in
    subst (λ n. drop n (take s bytes ++ more) ≡ more) long (drop-front (take s bytes) more)

-- the lines of a file from a place on, whose last one is ended then
pub ended_body : (old written new : List ℕ) (s : ℕ) → s ≤ length old → written ≡ take s old ++ all_escaped (drop s old) → new ≡ take s written ++ ended (drop s written) → new ≡ take s old ++ body_of_file (drop s old)
ended_body old written new s within is end =
    end ∙ ap (λ bs. take s bs ++ ended (drop s bs)) is
    ∙ (λ i. take-long s old (all_escaped (drop s old)) within i ++ ended (drop-long s old (all_escaped (drop s old)) within i))

pub on_ok : {A E : Type 0} (r : Result A E) (P Q : Type 0) → OnOk r P → (P → Q) → OnOk r Q
on_ok (Ok x) P Q p f = f p
on_ok (Err x) P Q p f = tt
