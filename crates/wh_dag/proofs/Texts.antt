-- Tests over a list of shown values, as tests over the list itself.
use Rattle.std.proofs.Common.{◌≡◌, ℕ, ◌+◌, Bool, List, [], ◌∷◌, length, map, refl, ap, sym, ◌∙◌, cond, take, get_or, ◌<◌}
use Rattle.std.specs.Prelude.{position, ◌||◌, not, String, string_bytes}
use Rattle.std.specs.declared.alloc.Global.{Global}
use Rattle.std.specs.List.{list_any, prefix_len}
use Rattle.std.proofs.lemmas.List.{length-map, take-map, get_or-map}
use Rattle.wh_dag.specs.Written.{texts, name_of, is_named}

pub list_any-map : {X Y : Type 0} (p : Y → Bool) (f : X → Y) (xs : List X) → list_any p (map f xs) ≡ list_any (λ x. p (f x)) xs
list_any-map p f [] = refl
list_any-map p f (x ∷ xs) = ap (λ b. p (f x) || b) (list_any-map p f xs)

pub prefix_len-map : {X Y : Type 0} (p : Y → Bool) (f : X → Y) (xs : List X) → prefix_len p (map f xs) ≡ prefix_len (λ x. p (f x)) xs
prefix_len-map p f [] = refl
prefix_len-map p f (x ∷ xs) = ap (λ n. cond (p (f x)) (1 + n) 0) (prefix_len-map p f xs)

pub position-map : {X Y : Type 0} (p : Y → Bool) (f : X → Y) (xs : List X) → position p (map f xs) ≡ position (λ x. p (f x)) xs
position-map p f xs = rw (prefix_len-map (λ y. not (p y)) f xs, length-map xs f) refl

-- whether a view of a lower number has this name, from the names in memory
pub is_again_from : (names : List (String Global)) (view : ℕ) (own : String Global) (result : Bool) → view < length names →
    own ≡ get_or names view own → result ≡ is_named (texts (take view names)) (string_bytes own) →
    result ≡ is_named (take view (texts names)) (name_of (texts names) view)
is_again_from names view own result l r h =
    let name : name_of (texts names) view ≡ string_bytes own =
    get_or-map string_bytes names view own [] l ∙ ap string_bytes (sym r) in
    h ∙ sym (ap (λ n. is_named (take view (texts names)) n) name ∙ ap (λ ns. is_named ns (string_bytes own)) (take-map string_bytes view names))
