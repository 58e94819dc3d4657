-- The first tables of a night's state.
use Rattle.std.proofs.Common.{◌≡◌, refl, ap, subst, ◌∙◌, ℕ, zero, suc, ◌+◌, ◌<◌, List, [], ◌∷◌, ◌++◌, take, length, arith}
use Rattle.wh_dag.specs.Catalog.{CatalogOf}
use Rattle.wh_row.specs.Bag.{Bag}
use Rattle.wh_maint.specs.Comp.{bag_at}
use Rattle.wh_carry.specs.Kept.{KeptLists}
use Rattle.wh_carry.specs.Inner.Kept.{AreFirstParts}

pub one_more : (tables : List Bag) (v : ℕ) → v < length tables → take (v + 1) tables ≡ take v tables ++ bag_at tables v ∷ []
one_more [] v l = absurd (omega arith)
one_more (t ∷ tables) zero l = refl
one_more (t ∷ tables) (suc v) l = let e : suc v + 1 ≡ suc (v + 1) = omega arith in ap (λ k. take k (t ∷ tables)) e ∙ ap (λ ts. t ∷ ts) (one_more tables v (omega arith))

take_whole : (tables : List Bag) (n : ℕ) → n ≡ length tables → take n tables ≡ tables
take_whole [] zero e = refl
take_whole [] (suc n) e = refl
take_whole (t ∷ tables) zero e = absurd (omega (arith, e))
take_whole (t ∷ tables) (suc n) e = ap (λ ts. t ∷ ts) (take_whole tables n (omega (arith, e)))

-- where there is a table for each view, the first of them are all
pub all_first : (catalog : CatalogOf) (n : ℕ) (s : KeptLists) → n ≡ length catalog.views.children → length s.tables ≡ length catalog.views.children → AreFirstParts catalog n (record s { tables = take n s.tables })
    → AreFirstParts catalog (length catalog.views.children) s
all_first catalog n s all each parts =
    subst (λ ts. AreFirstParts catalog (length catalog.views.children) (record s { tables = ts })) (take_whole s.tables n (omega (arith, all, each))) (subst (λ m. AreFirstParts catalog m (record s { tables = take n s.tables })) all parts)
