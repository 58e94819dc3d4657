-- Where a machine stands once more nights are given: where it stood.
use Rattle.std.proofs.Common.{◌≡◌, sym, ap, subst, ◌∙◌, ℕ, zero, suc, List, [], ◌∷◌, ◌++◌, drop, take, Vec, Option, Some, None}
use Rattle.std.specs.Prelude.{slice_get}
use Rattle.std.proofs.lemmas.Option.{same_Some}
use Rattle.std.specs.declared.alloc.Global.{Global}
use Rattle.wh_dag.specs.Catalog.{CatalogOf}
use Rattle.wh_row.specs.Bag.{Bag}
use Rattle.wh_strategy.specs.Rules.{Judged}
use Rattle.wh_store.specs.Versions.{versions_of}
use Rattle.wh_store.specs.Windows.{Shows}
use Rattle.wh_carry.specs.Course.{IsEnd}
use Rattle.wh_core.specs.declared.machine.Machine.{Machine}
use Rattle.wh_core.specs.declared.warehouse.Core.{Core}
use Rattle.wh_core.specs.Laws.{IsGivenNight, IsSetup}
use Rattle.wh_core.specs.Later.{GoesOn}
use Rattle.wh_core.specs.Log.{Log, nights_begun}
use Rattle.wh_core.specs.Nights.{GivenNight, Setup, remaining_in, with_nights}
use Rattle.wh_core.specs.Standing.{AreJudged, AreLeft, HasPut, IsNightFor, KeepsTables, Stands, StandsWith, given_of}
use Rattle.wh_core.proofs.Later.{all_of, goes_on, still_setup}
use Rattle.wh_core.proofs.Waiting.{begun_given, waiting_longer}

module _ (s : Setup) (later : List GivenNight) (log : Log) where
  keeps_longer : GoesOn s log later → (kept : Option (Vec Bag Global)) → KeepsTables s log kept → KeepsTables (with_nights s later) log kept
  keeps_longer g None keeps = tt
  keeps_longer g (Some tables) keeps = (
    λ shut. keeps.0 shut ∙ ap (λ ops. (versions_of s.opening ops).newest) (sym g.same_list),
    λ o. subst (λ n. IsEnd n (Some tables)) (sym (g.same_night o)) (keeps.1 o),
  )

  pub stands_longer : (m : Machine) → Stands s log m → Stands (with_nights s later) log m
  stands_longer m h =
      let g = goes_on s later log h.legal in
      record {
        legal = g.legal;
        shows = subst (Shows m.store s.opening) (sym g.same_list) h.shows;
        versions = h.versions;
        tables = keeps_longer g m.tables h.tables;
        desks = h.desks;
        sessions = h.sessions;
        workers = h.workers;
        holders = h.holders;
        night = λ o. subst (λ n. AreLeft n (remaining_in n log) (drop m.place m.course.parts.items) m.course.stop m.drawn m.done) (sym (g.same_night o)) (h.night o);
        put = λ o. subst (λ list. HasPut list (take m.place m.course.parts.items)) (sym g.same_list) (h.put o);
      }

-- of one item
one_of : {A : Type 0} (P : A → Type 0) (x : A) → P x → (n : ℕ) (y : A) → slice_get (x ∷ []) n ≡ Some y → P y
one_of P x p zero y at = subst P (same_Some x y at) p
one_of P x p (suc n) y at = cc

-- a night more
module _ (nights : List (Vec Bag Global × Judged)) (night : Vec Bag Global × Judged) where
  pub judged_longer : (catalog : CatalogOf) → AreJudged catalog nights → night.1.children ≡ catalog.views.children → AreJudged catalog (nights ++ night ∷ [])
  judged_longer catalog each one =
      let P : Vec Bag Global × Judged → Type 0 = λ given. given.1.children ≡ catalog.views.children in
      all_of P nights (night ∷ []) each (one_of P night one)

  pub setup_longer : (s : Setup) → IsSetup s → IsGivenNight s.catalog (given_of night) → IsSetup (with_nights s (given_of night ∷ []))
  setup_longer s is one = still_setup s (given_of night ∷ []) is (one_of (IsGivenNight s.catalog) (given_of night) one)

  -- the machine with it, whose nights are those of another one
  pub stands_added : {F G : Type 0} (s : Setup) (log : Log) (core longer : Core F G) → core.nights.items ≡ nights → longer.nights.items ≡ nights ++ night ∷ []
      → IsNightFor core night → IsSetup s → StandsWith s log core → IsSetup (with_nights s (given_of night ∷ [])) × StandsWith (with_nights s (given_of night ∷ [])) log (record core { nights = longer.nights })
  stands_added s log core longer were are one is h = (
    setup_longer s is (subst (λ catalog. IsGivenNight catalog (given_of night)) h.catalog one.given),
    record {
      catalog = h.catalog;
      nights = waiting_longer given_of core.nights.items longer.nights.items night s.nights (nights_begun log) (begun_given s log h.stands.legal) (are ∙ ap (λ ns. ns ++ night ∷ []) (sym were)) h.nights;
      judged = subst (AreJudged core.catalog) (sym are) (judged_longer core.catalog (subst (AreJudged core.catalog) were h.judged) one.judged);
      keys = h.keys;
      stands = stands_longer s (given_of night ∷ []) log core.machine h.stands;
    },
  )
