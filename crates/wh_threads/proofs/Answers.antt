-- What the answers of parts are, by what the closure says of each.
use Rattle.std.proofs.Common.{List, Bor, subst, [], ◌∷◌}
use Rattle.std.specs.List.{AllZip}
use Rattle.std.specs.Fn.{FnReturnsAt, Shared}

-- what holds of each lent part and what the closure may answer for it holds of all parts and their answers
pub each-answers : {F P A : Type 0} (g : Shared F (Bor P × Unit {0}) A) (f : F) (R : P → A → Type 0)
    → ((lent : Bor P) (answer : A) → g.post f (lent, tt) answer → R lent.now answer)
    → (parts : List P) (answers : List A) → AllZip (FnReturnsAt g f) parts answers → AllZip R parts answers
each-answers g f R says [] [] h = tt
each-answers g f R says [] (y ∷ ys) h = absurd h
each-answers g f R says (x ∷ xs) [] h = absurd h
each-answers g f R says (x ∷ xs) (y ∷ ys) h =
    (subst (λ part. R part y) h.0.shows (says h.0.shown y h.0.says.met), each-answers g f R says xs ys h.1)
