-- A bundle with the lines of its files in their places, from what its parts come to.
use Rattle.std.proofs.Common.{◌≡◌, ◌+◌, ◌<◌, ◌≤◌, ℕ, true, ◌⊎◌, inl, inr, List, [], ◌∷◌, ◌++◌, length, Option, None, Some, Result, Err, refl, sym, ap, subst, ◌∙◌, arith, append_assoc, append-nil, length-append}
use Rattle.std.specs.Prelude.{Contains, IfSome, filter_map, is_some, map, nat_eq, not}
use Rattle.std.specs.Result.{IsErr, IsErrAnd}
use Rattle.std.specs.List.{concat, flat_map, list_all, starts_with}
use Rattle.std.proofs.lemmas.Bool.{and_parts, cond_both}
use Rattle.std.proofs.lemmas.List.Elements.{Contains-append_right}
use Rattle.wh_text.specs.Line.{whole_lines}
use Rattle.wh_text.specs.declared.fault.LoadFault.TheVariants as fault
use Rattle.wh_text_bundle.specs.Cut.{RawPart, cut}
use Rattle.wh_text_bundle.specs.Files.{HasNoFiled, IsFirstFiled, NamedFile, all_escaped, body_of_file, ended, escaped, filed_bytes, filed_part, filled, is_unfiled}
use Rattle.wh_text_bundle.proofs.CutLemmas.{concat-whole_lines}
use Rattle.wh_text_bundle.proofs.FiledParts.{filled_first, filled_none}
use Rattle.whview.specs.BundleFiles.{AreFilled, AreOfItsFiles, NamesFile, named_files}
use Rattle.whview.specs.Inner.BundleFiles.{HoldsOfSome, IsBundleFault, IsFillingFault, IsLongFilled, IsLongPart, IsPartFault}
use Rattle.whview.specs.declared.files.FileFault.{FileFault}
use Rattle.whview.specs.declared.files.FileFault.TheVariants.{Input, Named}
use Rattle.whview.proofs.Outputs.{many_read, some_bytes}

-- ---- which files are named

unfiled : (part : RawPart) → is_unfiled part ≡ true → filed_part part ≡ None
unfiled part h = elim (filed_part part) as (λ o. not (is_some o) ≡ true → o ≡ None) [ None ↦ λ e. refl | Some n ↦ λ e. cc ] h

named_below : (before rest : List RawPart) → list_all is_unfiled before ≡ true → filter_map filed_part (before ++ rest) ≡ filter_map filed_part rest
named_below [] rest h = refl
named_below (part ∷ before) rest h =
    let each = and_parts (is_unfiled part) (list_all is_unfiled before) h in
    rw (unfiled part each.0) (named_below before rest each.1)

none_named : (parts : List RawPart) → list_all is_unfiled parts ≡ true → filter_map filed_part parts ≡ []
none_named [] h = refl
none_named (part ∷ parts) h =
    let each = and_parts (is_unfiled part) (list_all is_unfiled parts) h in
    rw (unfiled part each.0) (none_named parts each.1)

first_named : (text above heading path below : List ℕ) → IsFirstFiled text above heading path below → named_files text ≡ record { heading = heading; path = path } ∷ named_files below
first_named text above heading path below h =
    ap (filter_map filed_part) h.split ∙ named_below h.before (h.part ∷ (cut below).parts) h.passed ∙ rw h.is refl

-- ---- down to a part

-- these bytes are those of a bundle down to a part, with the lines of its files in their places, and the rest is not gone through yet
pub record IsFilledTo (bundle done rest : List ℕ) : Type 0 where
  pub files : List (List ℕ)
  pub passed : List NamedFile
  pub each : length files ≡ length passed
  pub split : named_files bundle ≡ passed ++ named_files rest
  pub fills : (more : List (List ℕ)) → filled bundle (files ++ more) ≡ done ++ filled rest more

pub at_start : (bundle done : List ℕ) → done ≡ [] → IsFilledTo bundle done bundle
at_start bundle done e = record {
  files = [];
  passed = [];
  each = refl;
  split = refl;
  fills = λ more. ap (λ bs. bs ++ filled bundle more) (sym e);
}

-- what a part of which the lines stand in this file is behind other bytes
joined : (done above part rest : List ℕ) → done ++ (above ++ (part ++ rest)) ≡ ((done ++ above) ++ part) ++ rest
joined done above part rest = sym (append_assoc done above (part ++ rest)) ∙ sym (append_assoc (done ++ above) part rest)

pub one_more : (bundle done rest above heading path below file new : List ℕ) → IsFilledTo bundle done rest → IsFirstFiled rest above heading path below
    → new ≡ (done ++ above) ++ filed_bytes heading file → IsFilledTo bundle new below
one_more bundle done rest above heading path below file new h first is =
    let named : NamedFile = record { heading = heading; path = path } in
    record {
      files = h.files ++ file ∷ [];
      passed = h.passed ++ named ∷ [];
      each = omega (arith, h.each, length-append h.files (file ∷ []), length-append h.passed (named ∷ []));
      split = h.split ∙ ap (λ ns. h.passed ++ ns) (first_named rest above heading path below first) ∙ sym (append_assoc h.passed (named ∷ []) (named_files below));
      fills = λ more. ap (filled bundle) (append_assoc h.files (file ∷ []) more) ∙ h.fills (file ∷ more) ∙ ap (λ bs. done ++ bs) (filled_first rest above heading path below file more first)
          ∙ joined done above (filed_bytes heading file) (filled below more) ∙ ap (λ bs. bs ++ filled below more) (sym is);
    }

pub at_end : (bundle done rest new : List ℕ) → IsFilledTo bundle done rest → HasNoFiled rest → new ≡ done ++ rest → (files : List (List ℕ)) × AreOfItsFiles bundle files × (new ≡ filled bundle files)
at_end bundle done rest new h none is =
    let all : named_files bundle ≡ h.passed = h.split ∙ ap (λ ns. h.passed ++ ns) (none_named (cut rest).parts none) ∙ append-nil h.passed in (
      h.files,
      h.each ∙ ap length (sym all),
      is ∙ ap (λ bs. done ++ bs) (sym (filled_none rest [] none)) ∙ sym (h.fills []) ∙ ap (filled bundle) (append-nil h.files),
    )

-- ---- faults

abbrev no_bytes : List NamedFile → List (List ℕ)
no_bytes [] = []
no_bytes (named ∷ more) = [] ∷ no_bytes more

as_many : (named : List NamedFile) → length (no_bytes named) ≡ length named
as_many [] = refl
as_many (named ∷ more) = let l = as_many more in omega (arith, l)

-- what is there is too long already
long_already : (limit : ℕ) (bundle done rest : List ℕ) → IsFilledTo bundle done rest → limit < length done → IsLongFilled limit bundle
long_already limit bundle done rest h long =
    let others = no_bytes (named_files rest) in
    let all = ap length (h.fills others) in
    record {
      files = h.files ++ others;
      of = length-append h.files others ∙ (λ i. h.each i + as_many (named_files rest) i) ∙ sym (length-append h.passed (named_files rest)) ∙ ap length (sym h.split);
      long = omega (arith, long, all, length-append done (filled rest others));
    }

-- a part is
pub long_part : (limit : ℕ) (bundle done rest above heading path below file : List ℕ) → IsFilledTo bundle done rest → IsFirstFiled rest above heading path below
    → IsLongPart limit (done ++ above) heading file → IsLongFilled limit bundle
long_part limit bundle done rest above heading path below file h first long =
    long_already limit bundle ((done ++ above) ++ filed_bytes heading file) below (one_more bundle done rest above heading path below file ((done ++ above) ++ filed_bytes heading file) h first refl) long

-- what stands above it is
pub long_above : (limit : ℕ) (bundle done rest above heading path below : List ℕ) → IsFilledTo bundle done rest → IsFirstFiled rest above heading path below
    → limit < length (done ++ above) → IsLongFilled limit bundle
long_above limit bundle done rest above heading path below h first long =
    long_part limit bundle done rest above heading path below [] h first (let l = length-append (done ++ above) (filed_bytes heading []) in omega (arith, l, long))

-- the rest is
pub long_rest : (limit : ℕ) (bundle done rest : List ℕ) → IsFilledTo bundle done rest → HasNoFiled rest → limit < length (done ++ rest) → IsLongFilled limit bundle
long_rest limit bundle done rest h none long =
    let all = at_end bundle done rest (done ++ rest) h none refl in
    record { files = all.0; of = all.1; long = subst (λ bs. limit < length bs) all.2 long }

map-append : (xs ys : List NamedFile) → map (λ n. n.path) (xs ++ ys) ≡ map (λ n. n.path) xs ++ map (λ n. n.path) ys
map-append [] ys = refl
map-append (x ∷ xs) ys = ap (λ ps. x.path ∷ ps) (map-append xs ys)

-- its file cannot be read
pub part_named : (bundle done rest above heading path below : List ℕ) → IsFilledTo bundle done rest → IsFirstFiled rest above heading path below → NamesFile bundle path
part_named bundle done rest above heading path below h first =
    let paths : map (λ n. n.path) (named_files bundle) ≡ map (λ n. n.path) h.passed ++ (path ∷ map (λ n. n.path) (named_files below)) =
    ap (map (λ n. n.path)) (h.split ∙ ap (λ ns. h.passed ++ ns) (first_named rest above heading path below first)) ∙ map-append h.passed (record { heading = heading; path = path } ∷ named_files below) in
    subst (λ ps. Contains ps path) (sym paths) (Contains-append_right (map (λ n. n.path) h.passed) (path ∷ map (λ n. n.path) (named_files below)) path (0, omega arith, refl))

-- ---- a part

-- the line of a heading
abbrev pub heading_line : List ℕ → List ℕ
heading_line heading = 64 ∷ heading ++ 10 ∷ []

pub part_bytes : (old heading body : List ℕ) → (old ++ heading_line heading) ++ body ≡ old ++ (64 ∷ heading ++ 10 ∷ body)
part_bytes old heading body = append_assoc old (heading_line heading) body ∙ ap (λ bs. old ++ bs) (append_assoc (64 ∷ heading) (10 ∷ []) body)

longer_line : (line : List ℕ) → length line ≤ length (escaped line)
longer_line line = cond_both (starts_with nat_eq line (64 ∷ [])) (64 ∷ line) line (λ bs. length line ≤ length bs) (λ e. omega arith) (λ e. omega arith)

longer_lines : (lines : List (List ℕ)) → length (concat lines) ≤ length (flat_map escaped lines)
longer_lines [] = omega arith
longer_lines (line ∷ lines) =
    let one = longer_line line in
    let more = longer_lines lines in
    omega (arith, one, more, length-append line (concat lines), length-append (escaped line) (flat_map escaped lines))

longer_ended : (bytes : List ℕ) → length bytes ≤ length (ended bytes)
longer_ended bytes = cond_both _ (bytes ++ 10 ∷ []) bytes (λ bs. length bytes ≤ length bs) (λ e. let l = length-append bytes (10 ∷ []) in omega (arith, l)) (λ e. omega arith)

-- the lines of a part are no fewer bytes than those of its file
longer_body : (file : List ℕ) → length file ≤ length (body_of_file file)
longer_body file =
    let whole = ap length (concat-whole_lines file) in
    let lines = longer_lines (whole_lines file) in
    let last = longer_ended (all_escaped file) in
    omega (arith, whole, lines, last)

-- the line of its heading is too long
pub long_heading : (known : Option (List ℕ)) (limit : ℕ) (old heading new : List ℕ) → new ≡ old ++ heading_line heading → limit < length new → HoldsOfSome known (IsLongPart limit old heading)
long_heading known limit old heading new is long =
    let some = some_bytes known in
    let all = ap length (part_bytes old heading (body_of_file some.0)) in
    let here = ap length is in
    (some.0, some.1, omega (arith, all, here, long, length-append (old ++ heading_line heading) (body_of_file some.0)))

-- its file is longer than what is left
pub long_file : (known : Option (List ℕ)) (limit left : ℕ) (old heading new : List ℕ) → new ≡ old ++ heading_line heading → limit ≤ left + length new → IfSome known (λ all. left < length all)
    → HoldsOfSome known (IsLongPart limit old heading)
long_file known limit left old heading new is fits long =
    let many = many_read known left long in
    let all = ap length (part_bytes old heading (body_of_file many.0)) in
    let here = ap length is in
    let body = longer_body many.0 in
    (many.0, many.1, omega (arith, all, here, many.2, body, fits, length-append (old ++ heading_line heading) (body_of_file many.0)))

-- ---- all of it

-- why the lines of its files could not be put into a bundle, from why a part could not be put in
pub filling_fault : (limit : ℕ) (bundle done rest above heading path below : List ℕ) (f : FileFault) → IsFilledTo bundle done rest → IsFirstFiled rest above heading path below
    → IsPartFault limit (done ++ above) heading path f → IsFillingFault limit bundle f
filling_fault limit bundle done rest above heading path below (Named own) h first is =
    subst (NamesFile bundle) (sym is) (part_named bundle done rest above heading path below h first)
filling_fault limit bundle done rest above heading path below (Input f) h first (inl memory) = inl memory
filling_fault limit bundle done rest above heading path below (Input f) h first (inr long) =
    inr (long.0, long_part limit bundle done rest above heading path below long.1.0 h first long.1.1)

-- and from why the rest could not be
pub rest_fault : (limit : ℕ) (bundle done rest : List ℕ) (f : FileFault) → IsFilledTo bundle done rest → HasNoFiled rest
    → (f ≡ Input fault.Memory) ⊎ ((f ≡ Input fault.TooLong) × (limit < length (done ++ rest))) → IsFillingFault limit bundle f
rest_fault limit bundle done rest f h none (inl memory) = subst (IsFillingFault limit bundle) (sym memory) (inl refl)
rest_fault limit bundle done rest f h none (inr long) = subst (IsFillingFault limit bundle) (sym long.0) (inr (refl, long_rest limit bundle done rest h none long.1))

-- why a bundle could not be had
pub bundle_fault_of : (limit : ℕ) (bundle : List ℕ) (f : FileFault) → length bundle ≤ limit → IsFillingFault limit bundle f → IsBundleFault limit f
bundle_fault_of limit bundle (Named path) fits names = (bundle, fits, names)
bundle_fault_of limit bundle (Input f) fits (inl memory) = inr (inr memory)
bundle_fault_of limit bundle (Input f) fits (inr long) = inr (inl long.0)

-- the same error
pub same_fault : {T E : Type 0} (r : Result T E) (x y : E) → IsErr r × IsErrAnd r (λ z. z ≡ x) → r ≡ Err y → x ≡ y
same_fault r x y h e = sym (subst (λ q. IsErrAnd q (λ z. z ≡ x)) e h.1)

-- a bundle that names no file
pub as_it_is : (limit : ℕ) (bundle : List ℕ) → length bundle ≤ limit → HasNoFiled bundle → AreFilled limit bundle
as_it_is limit bundle fits none = record {
  bundle = bundle;
  files = [];
  fits = fits;
  of = ap length (sym (none_named (cut bundle).parts none));
  is = sym (filled_none bundle [] none);
  within = fits;
}
