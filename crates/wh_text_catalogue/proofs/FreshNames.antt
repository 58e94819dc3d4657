-- A name put last among names that are kept as keys of a set.
use Rattle.std.proofs.Common.{◌≡◌, ℕ, Bool, true, false, not, List, [], ◌∷◌, map, Ok, Err, Bor, refl, ap, sym}
use Rattle.std.specs.List.{list_any}
use Rattle.std.specs.Str.{bytes_eq}
use Rattle.std.proofs.lemmas.List.{map-append}
use Rattle.indexmap.specs.IndexSet.{insert_key}
use Rattle.wh_text.specs.declared.fault.LoadFault.TheVariants as fault
use Rattle.wh_text.proofs.DictTexts.{list_any-map}
use Rattle.wh_text_catalogue.specs.ColumnNames.{fresh_name}

-- the names that keys show
abbrev pub shown : List (Bor (List ℕ)) → List (List ℕ)
shown keys = map {A = Bor (List ℕ)} {B = List ℕ} (λ n. n.now) keys

-- whether a name is a key
abbrev pub among : List (Bor (List ℕ)) → Bor (List ℕ) → Bool
among keys name = list_any (λ k. bytes_eq name.now k.now) keys

same-among : (keys : List (Bor (List ℕ))) (name : Bor (List ℕ)) → list_any (bytes_eq name.now) (shown keys) ≡ among keys name
same-among keys name = list_any-map (bytes_eq name.now) (λ n. n.now) keys

pub fresh-added : (keys : List (Bor (List ℕ))) (name : Bor (List ℕ)) → not (among keys name) ≡ true → fresh_name (shown keys) name.now ≡ Ok (shown (insert_key (λ x y. bytes_eq x.now y.now) keys name))
fresh-added keys name = by (among keys name) refl
  where
    by : (b : Bool) → among keys name ≡ b → not b ≡ true → fresh_name (shown keys) name.now ≡ Ok (shown (insert_key (λ x y. bytes_eq x.now y.now) keys name))
    by true is e = cc
    by false is e = rw (same-among keys name, is) (ap Ok (sym (map-append (λ n. n.now) keys (name ∷ []))))

pub fresh-refused : (keys : List (Bor (List ℕ))) (name : Bor (List ℕ)) → not (among keys name) ≡ false → fresh_name (shown keys) name.now ≡ Err (fault.Column name.now)
fresh-refused keys name = by (among keys name) refl
  where
    by : (b : Bool) → among keys name ≡ b → not b ≡ false → fresh_name (shown keys) name.now ≡ Err (fault.Column name.now)
    by true is e = rw (same-among keys name, is) refl
    by false is e = cc
