-- A plan's text that is put under `@plan`, below all else in a bundle that has none, is the text of that part.
use Rattle.std.proofs.Common.{◌≡◌, ◌∙◌, ◌⊎◌, inl, inr, ℕ, ◌<◌, ◌==◌, ◌||◌, ◌&&◌, not, Bool, true, false, cond, List, [], ◌∷◌, ◌++◌, Option, Some, None, option_map, Result, Ok, refl, ap, sym, subst, length, arith, append_assoc, append-nil}
use Rattle.std.specs.Prelude.{codes, count_by, find, nat_eq, ok_or}
use Rattle.std.specs.List.{concat, cons_option, list_all, list_any, onto_first, starts_with}
use Rattle.std.proofs.lemmas.Bool.{and_parts, cases_Bool, cond_both, not-true}
use Rattle.std.proofs.lemmas.Slice.Eq.{bytes_eq-Decides}
use Rattle.wh_text.specs.Line.{whole_lines}
use Rattle.wh_text.specs.declared.fault.LoadFault.{LoadFault}
use Rattle.wh_text.specs.declared.fault.LoadFault.TheVariants as fault
use Rattle.wh_text_bundle.proofs.CutLemmas.{concat-whole_lines}
use Rattle.wh_text_bundle.specs.Bundle.{fault_of, first_fault, is_at_fault, is_headed, opens_night, part_below, parts_below, parts_of, text_of_heading}
use Rattle.wh_text_bundle.specs.Cut.{Cut, RawPart, cut, cut_lines, on_top}
use Rattle.wh_text_bundle.specs.Heading.{fault_word, heading_of, same_heading, word_of}
use Rattle.wh_text_bundle.specs.PartLine.{is_blank_text, is_escaped, is_plain, opens_part}
use Rattle.wh_text_bundle.specs.Text.{text_of}
use Rattle.wh_text_bundle.specs.declared.bundle.fault.Nights.{Nights}
use Rattle.wh_text_bundle.specs.declared.bundle.fault.Nights.TheVariants as nights
use Rattle.wh_text_bundle.specs.declared.bundle.heading.Heading.{Heading}
use Rattle.wh_text_bundle.specs.declared.bundle.heading.Heading.TheVariants as heading
use Rattle.wh_text_bundle.specs.declared.bundle.part.Part.{Part}
use Rattle.wh_text_catalogue.proofs.ShapesRead.{from_step, same_Ok}
use Rattle.wh_text_catalogue.specs.Catalogue.{◌>>=◌}
use Rattle.wh_load.specs.ReadingCertify.{ClaimTexts, claim_texts_in, claim_texts_of}
use Rattle.wh_load.specs.ReadingParts.{parts_in, text_in, unless_part}
use Rattle.wh_load.specs.ReadingPlan.{MeasuredTexts, measured_texts_in, measured_texts_of}
use Rattle.whview.proofs.ClearTexts.{body_clear, text_plain}
use Rattle.whview.proofs.NamesRead.{is_clear}
use Rattle.whview.specs.PlanCertified.{EndsLine, HasNoPlan, plan_opening, with_plan}

-- these texts, and this one of a plan
abbrev pub texts_with : MeasuredTexts → List ℕ → ClaimTexts
texts_with texts plan = record { measured = texts; plan = plan }

-- ---- the bytes, cut

opens-plain : (line : List ℕ) → is_plain line ≡ true → opens_part line ≡ false
opens-plain line h = ap (λ b. b && not (is_escaped line)) (not-true (starts_with nat_eq line (64 ∷ [])) h)

-- a part more
abbrev with_part : Cut → RawPart → Cut
with_part c part = record { preface = c.preface; parts = c.parts ++ part ∷ [] }

on_top-with : (opens : Bool) (line : List ℕ) (c : Cut) (part : RawPart) → on_top opens line (with_part c part) ≡ with_part (on_top opens line c) part
on_top-with true line c part = refl
on_top-with false line c part = refl

cut_plain : (lines : List (List ℕ)) → list_all is_plain lines ≡ true → cut_lines lines ≡ record { preface = concat lines; parts = [] }
cut_plain [] h = refl
cut_plain (l ∷ ls) h =
    let parts = and_parts (is_plain l) (list_all is_plain ls) h in
    rw (opens-plain l parts.0, cut_plain ls parts.1) refl

cut_more : (lines : List (List ℕ)) (line : List ℕ) (below : List (List ℕ)) → opens_part line ≡ true → list_all is_plain below ≡ true
    → cut_lines (lines ++ line ∷ below) ≡ with_part (cut_lines lines) (record { opening = line; body = concat below })
cut_more [] line below opens plain = rw (opens, cut_plain below plain) refl
cut_more (l ∷ ls) line below opens plain =
    ap (on_top (opens_part l) l) (cut_more ls line below opens plain) ∙ on_top-with (opens_part l) l (cut_lines ls) (record { opening = line; body = concat below })

some_onto : (b : ℕ) (lines : List (List ℕ)) → 0 < length (onto_first b lines)
some_onto b [] = omega arith
some_onto b (l ∷ ls) = omega arith

some_lines : (b : ℕ) (bs : List ℕ) → 0 < length (whole_lines (b ∷ bs))
some_lines b bs = cond_both (b == 10) _ _ (λ ls. 0 < length ls) (λ _. omega arith) (λ _. some_onto b (whole_lines bs))

ended_some : (xs : List ℕ) → 0 < length (whole_lines (xs ++ 10 ∷ []))
ended_some [] = some_lines 10 []
ended_some (x ∷ xs) = some_lines x (xs ++ 10 ∷ [])

onto_append : (b : ℕ) (lines below : List (List ℕ)) → 0 < length lines → onto_first b (lines ++ below) ≡ onto_first b lines ++ below
onto_append b [] below some = absurd (omega arith)
onto_append b (l ∷ ls) below some = refl

line_step : (feeds : Bool) (b : ℕ) (all lines below : List (List ℕ)) → all ≡ lines ++ below → 0 < length lines
    → cond feeds ((b ∷ []) ∷ all) (onto_first b all) ≡ cond feeds ((b ∷ []) ∷ lines) (onto_first b lines) ++ below
line_step true b all lines below e some = ap (λ ls. (b ∷ []) ∷ ls) e
line_step false b all lines below e some = ap (onto_first b) e ∙ onto_append b lines below some

-- what stands below a line's end
lines_below : (xs ys : List ℕ) → whole_lines ((xs ++ 10 ∷ []) ++ ys) ≡ whole_lines (xs ++ 10 ∷ []) ++ whole_lines ys
lines_below [] ys = refl
lines_below (x ∷ xs) ys = line_step (x == 10) x (whole_lines ((xs ++ 10 ∷ []) ++ ys)) (whole_lines (xs ++ 10 ∷ [])) (whole_lines ys) (lines_below xs ys) (ended_some xs)

-- the part that is put there
abbrev placed : List ℕ → RawPart
placed text = record { opening = plan_opening; body = text }

opening_lines : (text : List ℕ) → whole_lines (plan_opening ++ text) ≡ plan_opening ∷ whole_lines text
opening_lines text = refl

cut_with : (bytes text : List ℕ) → EndsLine bytes → list_all is_clear text ≡ true → cut (with_plan bytes text) ≡ with_part (cut bytes) (placed text)
cut_with bytes text ends clear =
    let below = plan_opening ++ text in
    let parted : whole_lines (bytes ++ below) ≡ whole_lines bytes ++ whole_lines below =
    subst (λ z. whole_lines (z ++ below) ≡ whole_lines z ++ whole_lines below) (sym ends.1) (lines_below ends.0 below) in
    ap cut_lines (parted ∙ ap (λ z. whole_lines bytes ++ z) (opening_lines text))
    ∙ cut_more (whole_lines bytes) plan_opening (whole_lines text) refl (text_plain text clear)
    ∙ ap (λ z. with_part (cut bytes) (record { opening = plan_opening; body = z })) (concat-whole_lines text)

-- ---- no fault comes in

still_none : (b : Bool) (word : List ℕ) (rest more : Option (List ℕ)) → cond b (Some word) rest ≡ None → (rest ≡ None → more ≡ None) → cond b (Some word) more ≡ None
still_none true word rest more h f = cc
still_none false word rest more h f = f h

no_fault_more : (read : Nights) (above parts : List RawPart) (part : RawPart) → first_fault read above parts ≡ None → is_at_fault read (above ++ parts) part ≡ false → first_fault read above (parts ++ part ∷ []) ≡ None
no_fault_more read above [] part none right =
    let own : is_at_fault read above part ≡ false = subst (λ z. is_at_fault read z part ≡ false) (append-nil above) right in
    ap (λ b. cond b (Some (fault_word (text_of_heading part))) None) own
no_fault_more read above (p ∷ ps) part none right =
    still_none (is_at_fault read above p) (fault_word (text_of_heading p)) (first_fault read (above ++ p ∷ []) ps) (first_fault read (above ++ p ∷ []) (ps ++ part ∷ [])) none
    (λ e. no_fault_more read (above ++ p ∷ []) ps part e (subst (λ z. is_at_fault read z part ≡ false) (sym (append_assoc above (p ∷ []) ps)) right))

-- ---- the part is found

abbrev is_plan : Part → Bool
is_plan part = same_heading part.heading heading.Plan

find_less : (o : Option Part) (rest : List Part) → find is_plan (cons_option o rest) ≡ None → find is_plan rest ≡ None
find_less None rest h = h
find_less (Some x) rest h = by (is_plan x) h
  where
    by : (b : Bool) → cond b (Some x) (find is_plan rest) ≡ None → find is_plan rest ≡ None
    by true e = cc
    by false e = e

-- the part that a part is below others, where this is its heading
abbrev as_part : List RawPart → RawPart → Heading → Part
as_part above part own = record { heading = own; night = count_by opens_night (above ++ part ∷ []); body = part.body }

headed_plan : (above : List RawPart) (part : RawPart) → is_headed (codes "plan") part ≡ true → part_below above part ≡ Some (as_part above part heading.Plan)
headed_plan above part h =
    let same : codes "plan" ≡ text_of_heading part = (bytes_eq-Decides (codes "plan") (text_of_heading part)).0 h in
    ap (λ text. option_map (as_part above part) (heading_of text)) (sym same)

some_none : {A : Type 0} (x : A) → ◌≡◌ {A = Option A} (Some x) None → ⊥
some_none x e = cc

none_by : (above : List RawPart) (part : RawPart) (parts : List RawPart) → find is_plan (parts_below above (part ∷ parts)) ≡ None
    → (find is_plan (parts_below (above ++ part ∷ []) parts) ≡ None → list_any (is_headed (codes "plan")) parts ≡ false)
    → (is_headed (codes "plan") part ≡ true) ⊎ (is_headed (codes "plan") part ≡ false) → list_any (is_headed (codes "plan")) (part ∷ parts) ≡ false
none_by above part parts h rest (inl e) =
    absurd (some_none (as_part above part heading.Plan)
    (sym (ap (λ o. find is_plan (cons_option o (parts_below (above ++ part ∷ []) parts))) (headed_plan above part e)) ∙ h))
none_by above part parts h rest (inr e) =
    ap (λ b. b || list_any (is_headed (codes "plan")) parts) e ∙ rest (find_less (part_below above part) (parts_below (above ++ part ∷ []) parts) h)

none_headed : (above parts : List RawPart) → find is_plan (parts_below above parts) ≡ None → list_any (is_headed (codes "plan")) parts ≡ false
none_headed above [] h = refl
none_headed above (p ∷ ps) h = none_by above p ps h (λ k. none_headed (above ++ p ∷ []) ps k) (cases_Bool (is_headed (codes "plan") p))

cons-append : (o : Option Part) (xs ys : List Part) → cons_option o (xs ++ ys) ≡ cons_option o xs ++ ys
cons-append None xs ys = refl
cons-append (Some x) xs ys = refl

parts_more : (above parts : List RawPart) (part : RawPart) → parts_below above (parts ++ part ∷ []) ≡ parts_below above parts ++ cons_option (part_below (above ++ parts) part) []
parts_more above [] part = ap (λ z. cons_option (part_below z part) []) (sym (append-nil above))
parts_more above (p ∷ ps) part =
    ap (cons_option (part_below above p)) (parts_more (above ++ p ∷ []) ps part ∙ ap (λ z. parts_below (above ++ p ∷ []) ps ++ cons_option (part_below z part) []) (append_assoc above (p ∷ []) ps))
    ∙ cons-append (part_below above p) (parts_below (above ++ p ∷ []) ps) (cons_option (part_below (above ++ p ∷ ps) part) [])

right_part : (above : List RawPart) (text : List ℕ) → list_any (is_headed (codes "plan")) above ≡ false → is_at_fault nights.Ignored above (placed text) ≡ false
right_part above text h = ap (λ b. b || false) h

-- ---- what is found in the bundle

no_word : (o : Option (List ℕ)) (parts got : List Part) → unless_part o parts ≡ Ok got → (o ≡ None) × (parts ≡ got)
no_word None parts got e = (refl, same_Ok _ _ _ refl e)
no_word (Some word) parts got e = cc

no_fault_word : (blank : Bool) (own : Option (List ℕ)) → cond blank own (Some (codes "text")) ≡ None → (blank ≡ true) × (own ≡ None)
no_fault_word true own e = (refl, e)
no_fault_word false own e = cc

-- the parts with the one that was put there
parts_with : (bytes text : List ℕ) (parts : List Part) → EndsLine bytes → HasNoPlan bytes → list_all is_clear text ≡ true → parts_in nights.Ignored bytes ≡ Ok parts
    → parts_in nights.Ignored (with_plan bytes text) ≡ Ok (parts ++ as_part (cut bytes).parts (placed text) heading.Plan ∷ [])
parts_with bytes text parts ends no_plan clear read =
    let raw = (cut bytes).parts in
    let whole = no_word (fault_of nights.Ignored bytes) (parts_of bytes) parts read in
    let blank = no_fault_word (is_blank_text (cut bytes).preface) (first_fault nights.Ignored [] raw) whole.0 in
    let none = none_headed [] raw no_plan in
    let none_now : first_fault nights.Ignored [] (raw ++ placed text ∷ []) ≡ None = no_fault_more nights.Ignored [] raw (placed text) blank.1 (right_part raw text none) in
    let fault_now : cond (is_blank_text (cut bytes).preface) (first_fault nights.Ignored [] (raw ++ placed text ∷ [])) (Some (codes "text")) ≡ None =
    ap (λ b. cond b (first_fault nights.Ignored [] (raw ++ placed text ∷ [])) (Some (codes "text"))) blank.0 ∙ none_now in
    let parts_now : parts_below [] (raw ++ placed text ∷ []) ≡ parts ++ as_part raw (placed text) heading.Plan ∷ [] =
    parts_more [] raw (placed text) ∙ ap (λ z. z ++ as_part raw (placed text) heading.Plan ∷ []) whole.1 in
    ap (λ c. unless_part (cond (is_blank_text c.preface) (first_fault nights.Ignored [] c.parts) (Some (codes "text"))) (parts_below [] c.parts)) (cut_with bytes text ends clear)
    ∙ ap (λ o. unless_part o (parts_below [] (raw ++ placed text ∷ []))) fault_now
    ∙ ap Ok parts_now

find_before : (p : Part → Bool) (parts : List Part) (part : Part) → p part ≡ false → find p (parts ++ part ∷ []) ≡ find p parts
find_before p [] part other = ap (λ b. cond b (Some part) None) other
find_before p (q ∷ qs) part other = ap (λ r. cond (p q) (Some q) r) (find_before p qs part other)

past : (b : Bool) (q part : Part) (rest more : Option Part) → cond b (Some q) rest ≡ None → (rest ≡ None → more ≡ Some part) → cond b (Some q) more ≡ Some part
past true q part rest more h f = cc
past false q part rest more h f = f h

find_last : (p : Part → Bool) (parts : List Part) (part : Part) → find p parts ≡ None → p part ≡ true → find p (parts ++ part ∷ []) ≡ Some part
find_last p [] part none own = ap (λ b. cond b (Some part) None) own
find_last p (q ∷ qs) part none own = past (p q) q part (find p qs) (find p (qs ++ part ∷ [])) none (λ e. find_last p qs part e own)

-- the texts in two parts
abbrev both_texts : Option Part → Option Part → Result MeasuredTexts LoadFault
both_texts first second =
    ok_or (option_map text_of first) (fault.Part (word_of heading.Catalogue))
    >>= (λ catalogue. ok_or (option_map text_of second) (fault.Part (word_of heading.Sizes)) >>= (λ sizes. Ok (record { catalogue = catalogue; sizes = sizes })))

abbrev is_of : Heading → Part → Bool
is_of own part = same_heading part.heading own

measured_before : (parts : List Part) (part : Part) → part.heading ≡ heading.Plan → measured_texts_in (parts ++ part ∷ []) ≡ measured_texts_in parts
measured_before parts part own =
    ap (λ o. both_texts o (find (is_of heading.Sizes) (parts ++ part ∷ []))) (find_before (is_of heading.Catalogue) parts part (ap (λ h. same_heading h heading.Catalogue) own))
    ∙ ap (both_texts (find (is_of heading.Catalogue) parts)) (find_before (is_of heading.Sizes) parts part (ap (λ h. same_heading h heading.Sizes) own))

-- the texts that were there, and that of the plan
texts_found : (parts : List Part) (part : Part) (texts : MeasuredTexts) (text : List ℕ) → measured_texts_in parts ≡ Ok texts → part.heading ≡ heading.Plan → find is_plan parts ≡ None → text_of part ≡ text
    → claim_texts_in (parts ++ part ∷ []) ≡ Ok (texts_with texts text)
texts_found parts part texts text read own none is =
    let planned : text_in (parts ++ part ∷ []) heading.Plan 0 ≡ Ok text =
    ap (λ o. ok_or (option_map text_of o) (fault.Part (word_of heading.Plan))) (find_last is_plan parts part none (ap (λ h. same_heading h heading.Plan) own)) ∙ ap Ok is in
    ap (λ r. r >>= (λ measured. text_in (parts ++ part ∷ []) heading.Plan 0 >>= (λ plan. Ok (texts_with measured plan)))) (measured_before parts part own ∙ read)
    ∙ ap (λ r. r >>= (λ plan. Ok (texts_with texts plan))) planned

pub placed_texts : (bytes text : List ℕ) (texts : MeasuredTexts) → EndsLine bytes → HasNoPlan bytes → list_all is_clear text ≡ true → measured_texts_of bytes ≡ Ok texts
    → claim_texts_of (with_plan bytes text) ≡ Ok (texts_with texts text)
placed_texts bytes text texts ends no_plan clear read =
    let step = from_step (parts_in nights.Ignored bytes) measured_texts_in texts read in
    let parts : List Part = step.0 in
    let whole = no_word (fault_of nights.Ignored bytes) (parts_of bytes) parts step.1 in
    let none : find is_plan parts ≡ None = subst (λ z. find is_plan z ≡ None) whole.1 no_plan in
    ap (λ r. r >>= claim_texts_in) (parts_with bytes text parts ends no_plan clear step.1)
    ∙ texts_found parts (as_part (cut bytes).parts (placed text) heading.Plan) texts text step.2 refl none (body_clear text clear)
