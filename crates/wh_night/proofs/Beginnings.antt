-- Where a night begins: nothing stands in its way, and it stands before its first expression.
use Rattle.std.proofs.Common.{◌≡◌, ◌≢◌, refl, sym, subst, ℕ, List, [], Option, Some, None, inl, inr, ⊎_elim}
use Rattle.std.specs.Prelude.{MatchOption}
use Rattle.wh_dag.specs.Catalog.{CatalogOf, IsCatalog}
use Rattle.wh_row.specs.Bag.{Bag}
use Rattle.wh_strategy.specs.declared.expression.Expression.{Expression}
use Rattle.wh_strategy.specs.Rules.{IsCorrect}
use Rattle.wh_maint.specs.Comp.{bag_at}
use Rattle.wh_maint.specs.declared.fault.MaintFault.{MaintFault}
use Rattle.wh_store.specs.Ledgers.{Ledger}
use Rattle.wh_store.specs.declared.publish_fault.PublishFault.{PublishFault}
use Rattle.wh_carry.specs.Kept.{IsFirst, Kept}
use Rattle.wh_carry.specs.Night.{Night, AreAllowed}
use Rattle.wh_carry.proofs.Parts.{stands_first}
use Rattle.wh_night.specs.Causes.{IsBeginCause}
use Rattle.wh_night.specs.declared.cause.NightCause.{NightCause}
use Rattle.wh_night.specs.declared.left.Aftermath.{Aftermath}
use Rattle.wh_night.specs.declared.left.Aftermath.TheVariants.{Untouched, GivenUp, StillOpen}
use Rattle.wh_night.specs.declared.left.NightFault.{NightFault}
use Rattle.wh_night.specs.Refusals.{IsFirstStageFault, IsRefused, IsRefusedSo}
use Rattle.wh_night.specs.Inner.Underway.{Given, HasCome, IsRefusedLater, night_given}
use Rattle.wh_night.proofs.StageByStage.{comes_first}

-- a night over these tables, behind what is published, if it is published
abbrev pub given_over : List Expression → List Bag → List Bag → Option Ledger → Given
given_over list tables changes l = record { list = list; tables = bag_at tables; changes = bag_at changes; before = l }

-- it stands before its first expression, and nothing is reported
pub begins : (cat : CatalogOf) (list : List Expression) (tables changes : List Bag) (l : Option Ledger) (keys : ℕ) (k : Kept) (steps : List (Expression × ℕ)) → steps ≡ [] → IsCatalog cat → IsCorrect cat.views.children list
    → IsFirst cat (bag_at tables) (bag_at changes) k → HasCome (night_given cat keys (given_over list tables changes l)) 0 k steps
begins cat list tables changes l keys k steps none is ok first =
    subst (HasCome (night_given cat keys (given_over list tables changes l)) 0 k) (sym none)
    (comes_first cat list (bag_at tables) (bag_at changes) keys k (stands_first cat list (bag_at tables) (bag_at changes) keys k is ok first))

-- where nothing stands in its way
pub none_refuses : (o : Option PublishFault) (P : Type 0) (Q : PublishFault → Type 0) → MatchOption o (◌≡◌ {A = Option NightCause} None None) (λ f. ⊥) → P → MatchOption o P Q
none_refuses None P Q h p = p
none_refuses (Some f) P Q h p = absurd h

pub none_then : (o : Option PublishFault) → MatchOption o (◌≡◌ {A = Option NightCause} None None) (λ f. ⊥) → o ≡ None
none_then None h = refl
none_then (Some f) h = absurd h

-- where this does
pub some_refuses : (o : Option PublishFault) (why : NightCause) (P : Type 0) → MatchOption o (◌≡◌ {A = Option NightCause} (Some why) None) (λ fault. IsBeginCause fault why)
    → MatchOption o P (λ fault. IsBeginCause fault why × (◌≡◌ {A = Aftermath} Untouched Untouched))
some_refuses None why P h = absurd (let e = h in cc)
some_refuses (Some fault) why P h = (h, refl)

refused_so : (n : Night) (fault : MaintFault) (left : Aftermath) → AreAllowed n → IsFirstStageFault n fault → left ≢ Untouched → IsRefusedSo n left fault
refused_so n fault Untouched allowed s later = absurd (later refl)
refused_so n fault GivenUp allowed s later = (allowed, s)
refused_so n fault StillOpen allowed s later = (allowed, s)

pub later_so : (n : Night) (f : NightFault) → AreAllowed n → IsRefusedLater n f → IsRefused n f
later_so n f allowed r = record { fault = r.fault; told = r.told; why = ⊎_elim (λ m. inl m) (λ s. inr (refused_so n r.fault f.left allowed s.0 s.1)) r.why }

pub none_gives : (o : Option PublishFault) (P : Type 0) (Q : PublishFault → Type 0) → MatchOption o (◌≡◌ {A = Option NightCause} None None) (λ f. ⊥) → MatchOption o P Q → P
none_gives None P Q h p = p
none_gives (Some f) P Q h p = absurd h
