-- How far a bundle's parts are read.
use Rattle.std.proofs.Common.{◌≡◌, ◌+◌, ◌||◌, ℕ, Bool, true, false, not, cond, List, [], ◌∷◌, ◌++◌, Some, option_map, unwrap_or, count_by, refl, ap, sym, ◌∙◌, append_assoc, append-nil}
use Rattle.std.specs.List.{cons_option}
use Rattle.std.proofs.lemmas.Bool.{not-true, not-false, or_left, or_right, or_from}
use Rattle.std.proofs.lemmas.List.Sums.{sum_by_push}
use Rattle.wh_text_bundle.specs.Cut.{RawPart, cut}
use Rattle.wh_text_bundle.specs.Heading.{heading_of, is_night, fault_word}
use Rattle.wh_text_bundle.specs.Bundle.{opens_night, text_of_heading, heading_of_part, is_at_fault, is_fault, is_repeated, is_bad_night, first_fault, part_below, parts_below}
use Rattle.wh_text_bundle.specs.Seen.{Recalls}
use Rattle.wh_text_bundle.specs.declared.bundle.heading.Heading.{Heading}
use Rattle.wh_text_bundle.specs.declared.bundle.part.Part.{Part}
use Rattle.wh_text_bundle.specs.declared.bundle.fault.Nights.{Nights}
use Rattle.wh_text_bundle.specs.declared.bundle.seen.Seen.{Seen}

-- the parts above the rest are read, and none of them is at fault
pub record IsReadTo (nights : Nights) (all : List RawPart) (rest : List ℕ) (parts : List Part) (night : ℕ) (seen : Seen) : Type 0 where
  pub above : List RawPart
  pub begins : (cut rest).preface ≡ []
  pub made : parts_below [] all ≡ parts ++ parts_below above (cut rest).parts
  pub sound : first_fault nights [] all ≡ first_fault nights above (cut rest).parts
  pub counted : night ≡ count_by opens_night above
  pub recalls : Recalls seen above

-- at the start nothing is read
pub IsReadTo-start : (nights : Nights) (text : List ℕ) (seen : Seen) → (cut text).preface ≡ [] → Recalls seen [] → IsReadTo nights (cut text).parts text [] 0 seen
IsReadTo-start nights text seen begins recalls = record { above = []; begins = begins; made = refl; sound = refl; counted = refl; recalls = recalls }

-- the night of a part
night_of : ℕ → Bool → ℕ
night_of night true = night + 1
night_of night false = night

module _ (nights : Nights) (all : List RawPart) (rest below : List ℕ) (parts : List Part) (night : ℕ) (seen : Seen) (so_far : IsReadTo nights all rest parts night seen) (raw : RawPart) (next : (cut rest).parts ≡ raw ∷ (cut below).parts) where
  -- the next part is at fault
  pub IsReadTo-fault : is_at_fault nights so_far.above raw ≡ true → first_fault nights [] all ≡ Some (fault_word (text_of_heading raw))
  IsReadTo-fault bad = so_far.sound ∙ ap (first_fault nights so_far.above) next ∙ ap (λ b. cond b (Some (fault_word (text_of_heading raw))) (first_fault nights (so_far.above ++ raw ∷ []) (cut below).parts)) bad

  -- the next part is read
  pub IsReadTo-next : (h : Heading) (later : ℕ) (seen' : Seen) → is_at_fault nights so_far.above raw ≡ false → heading_of_part raw ≡ Some h → (cut below).preface ≡ [] → later ≡ night + cond (is_night h) 1 0 → Recalls seen' (so_far.above ++ raw ∷ [])
      → IsReadTo nights all below (parts ++ record { heading = h; night = later; body = raw.body } ∷ []) later seen'
  IsReadTo-next h later seen' good known begins counts recalls =
      let opens : opens_night raw ≡ is_night h = ap (λ o. unwrap_or (option_map is_night o) false) known in
      let counted : later ≡ count_by opens_night (so_far.above ++ raw ∷ []) =
      counts ∙ ap (λ n. n + cond (is_night h) 1 0) so_far.counted ∙ ap (λ b. count_by opens_night so_far.above + cond b 1 0) (sym opens) ∙ sym (sum_by_push (λ p. cond (opens_night p) 1 0) so_far.above raw) in
      let this : part_below so_far.above raw ≡ Some (record { heading = h; night = later; body = raw.body }) =
      ap (option_map (λ heading. record { heading = heading; night = count_by opens_night (so_far.above ++ raw ∷ []); body = raw.body })) known
      ∙ ap (λ n. Some (record { heading = h; night = n; body = raw.body })) (sym counted) in
      record {
        above = so_far.above ++ raw ∷ [];
        begins = begins;
        made = so_far.made ∙ ap (λ ps. parts ++ parts_below so_far.above ps) next ∙ ap (λ o. parts ++ cons_option o (parts_below (so_far.above ++ raw ∷ []) (cut below).parts)) this
            ∙ sym (append_assoc parts (record { heading = h; night = later; body = raw.body } ∷ []) (parts_below (so_far.above ++ raw ∷ []) (cut below).parts));
        sound = so_far.sound ∙ ap (first_fault nights so_far.above) next
            ∙ ap (λ b. cond b (Some (fault_word (text_of_heading raw))) (first_fault nights (so_far.above ++ raw ∷ []) (cut below).parts)) good;
        counted = counted;
        recalls = recalls;
      }

-- at the end all is read
pub IsReadTo-made : (nights : Nights) (all : List RawPart) (parts : List Part) (night : ℕ) (seen : Seen) → IsReadTo nights all [] parts night seen → parts ≡ parts_below [] all
IsReadTo-made nights all parts night seen so_far = sym (so_far.made ∙ append-nil parts)

module _ (nights : Nights) (above : List RawPart) (raw : RawPart) (text : List ℕ) (h : Heading) (same : text ≡ text_of_heading raw) (known : Some h ≡ heading_of text) where
  pub heading_of_part-known : heading_of_part raw ≡ Some h
  heading_of_part-known = ap heading_of (sym same) ∙ sym known

  is_at_fault-known : is_at_fault nights above raw ≡ (is_repeated h text above || is_bad_night nights h raw.body)
  is_at_fault-known = ap (is_fault nights above raw) heading_of_part-known ∙ ap (λ t. is_repeated h t above || is_bad_night nights h raw.body) (sym same)

  pub is_at_fault-repeated : (fresh : Bool) → fresh ≡ not (is_repeated h text above) → fresh ≡ false → is_at_fault nights above raw ≡ true
  is_at_fault-repeated fresh is old = is_at_fault-known ∙ or_left _ _ (not-false _ (sym is ∙ old))

  pub is_at_fault-night : is_bad_night nights h raw.body ≡ true → is_at_fault nights above raw ≡ true
  is_at_fault-night bad = is_at_fault-known ∙ or_right _ _ bad

  pub not_at_fault : (fresh : Bool) → fresh ≡ not (is_repeated h text above) → fresh ≡ true → is_bad_night nights h raw.body ≡ false → is_at_fault nights above raw ≡ false
  not_at_fault fresh is new good = is_at_fault-known ∙ or_from _ _ (not-true _ (sym is ∙ new)) good
