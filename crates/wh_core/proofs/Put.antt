-- The pages that are put in the open night, as parts are gone through.
use Rattle.std.proofs.Common.{◌≡◌, refl, sym, ap, subst, ◌∙◌, ℕ, zero, suc, ◌+◌, List, [], ◌∷◌, ◌++◌, take, drop, Option, Some, None, arith}
use Rattle.std.proofs.lemmas.List.{append_assoc}
use Rattle.wh_maint.specs.declared.fault.MaintFault.{MaintFault}
use Rattle.wh_row.specs.Stored.{plain}
use Rattle.wh_row.specs.Weigh.{Counted}
use Rattle.wh_store.specs.declared.operation.Op.{Op}
use Rattle.wh_store.specs.declared.operation.Op.TheVariants as op
use Rattle.wh_store.specs.Operations.{Operation, Opens, Writes, operation}
use Rattle.wh_carry.specs.declared.course.Part.{Part}
use Rattle.wh_carry.specs.declared.course.Part.TheVariants as part
use Rattle.wh_core.specs.Inner.Standing.{page_in, wave_in}
use Rattle.wh_core.specs.Standing.{HasPut, put_by}

-- a wave puts nothing
wave_next : (parts : List Part) (place : ℕ) (outcomes : List (Option MaintFault)) → wave_in (drop place parts) ≡ Some outcomes → put_by (take (suc place) parts) ≡ put_by (take place parts)
wave_next [] zero outcomes e = cc
wave_next [] (suc place) outcomes e = cc
wave_next (part.Wave os ∷ parts) zero outcomes e = refl
wave_next (part.Page o ∷ parts) zero outcomes e = cc
wave_next (part.Wave os ∷ parts) (suc place) outcomes e = wave_next parts place outcomes e
wave_next (part.Page (op.Put view rows) ∷ parts) (suc place) outcomes e = ap (λ ops. Writes view (plain rows.items) ∷ ops) (wave_next parts place outcomes e)
wave_next (part.Page op.Begin ∷ parts) (suc place) outcomes e = wave_next parts place outcomes e
wave_next (part.Page op.Commit ∷ parts) (suc place) outcomes e = wave_next parts place outcomes e
wave_next (part.Page op.GiveUp ∷ parts) (suc place) outcomes e = wave_next parts place outcomes e

-- what one page puts
one_page : (o : Op) (view : ℕ) (rows : Counted) → operation o ≡ Writes view rows → put_by (part.Page o ∷ []) ≡ operation o ∷ []
one_page (op.Put v rows) view given e = refl
one_page op.Begin view given e = cc
one_page op.Commit view given e = cc
one_page op.GiveUp view given e = cc

-- a page puts its own
page_next : (parts : List Part) (place : ℕ) (o : Op) (view : ℕ) (rows : Counted) → page_in (drop place parts) ≡ Some o → operation o ≡ Writes view rows
    → put_by (take (suc place) parts) ≡ put_by (take place parts) ++ operation o ∷ []
page_next [] zero o view rows e w = cc
page_next [] (suc place) o view rows e w = cc
page_next (part.Wave os ∷ parts) zero o view rows e w = cc
page_next (part.Page p ∷ parts) zero o view rows e w = let same : p ≡ o = cc in ap (λ q. put_by (part.Page q ∷ [])) same ∙ one_page o view rows w
page_next (part.Wave os ∷ parts) (suc place) o view rows e w = page_next parts place o view rows e w
page_next (part.Page (op.Put v rs) ∷ parts) (suc place) o view rows e w = ap (λ ops. Writes v (plain rs.items) ∷ ops) (page_next parts place o view rows e w)
page_next (part.Page op.Begin ∷ parts) (suc place) o view rows e w = page_next parts place o view rows e w
page_next (part.Page op.Commit ∷ parts) (suc place) o view rows e w = page_next parts place o view rows e w
page_next (part.Page op.GiveUp ∷ parts) (suc place) o view rows e w = page_next parts place o view rows e w

-- once a wave is over
pub wave_put : (list : List Operation) (parts : List Part) (place : ℕ) (outcomes : List (Option MaintFault)) → wave_in (drop place parts) ≡ Some outcomes
    → HasPut list (take place parts) → HasPut list (take (place + 1) parts)
wave_put list parts place outcomes e h =
    let next : suc place ≡ place + 1 = omega arith in
    record { before = h.before; list = h.list ∙ ap (λ ops. h.before ++ Opens ∷ ops) (sym (wave_next parts place outcomes e) ∙ ap (λ n. put_by (take n parts)) next) }

-- once a page is put
pub page_put : (list turned : List Operation) (parts : List Part) (place : ℕ) (o : Op) (view : ℕ) (rows : Counted) → page_in (drop place parts) ≡ Some o → operation o ≡ Writes view rows
    → operation o ∷ [] ≡ turned → HasPut list (take place parts) → HasPut (list ++ turned) (take (place + 1) parts)
page_put list turned parts place o view rows e w is h =
    let next : suc place ≡ place + 1 = omega arith in
    record {
      before = h.before;
      list = ap (λ ops. list ++ ops) (sym is) ∙ ap (λ ops. ops ++ operation o ∷ []) h.list ∙ append_assoc h.before (Opens ∷ put_by (take place parts)) (operation o ∷ [])
          ∙ ap (λ ops. h.before ++ Opens ∷ ops) (sym (page_next parts place o view rows e w) ∙ ap (λ n. put_by (take n parts)) next);
    }
