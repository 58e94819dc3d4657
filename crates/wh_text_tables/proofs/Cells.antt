-- The cells of a record, by their places.
use Rattle.std.proofs.Common.{◌≡◌, ◌∙◌, ℕ, zero, suc, List, [], ◌∷◌, get_or, Option, Some, None, refl, sym}
use Rattle.std.specs.Prelude.{option_map, unwrap_or}
use denote.Ref.{Bor}
use Rattle.csv.specs.Records.{field_at}
use Rattle.csv.proofs.RecordFacts.{field-get}

no-cell : (cells : List (List ℕ)) (place : ℕ) → field_at cells place ≡ None → get_or cells place [] ≡ []
unfolding field_at
no-cell [] place e = refl
no-cell (c ∷ cs) zero e = cc e
no-cell (c ∷ cs) (suc place) e = no-cell cs place e

-- the cell that `get` finds, or no bytes
pub cell-get : (cells : List (List ℕ)) (place : ℕ) (o : Option (Bor (List ℕ))) (other : Bor (List ℕ)) → option_map (λ text. text.now) o ≡ field_at cells place → other.now ≡ []
    → (unwrap_or o other).now ≡ get_or cells place []
cell-get cells place None other e none = none ∙ sym (no-cell cells place (sym e))
cell-get cells place (Some text) other e none = sym (field-get cells place text.now (sym e))
