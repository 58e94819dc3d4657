-- Where a machine stands once nights that have not begun are taken back: where it stood.
use Rattle.std.proofs.Common.{◌≡◌, ◌≢◌, refl, sym, ap, subst, ◌∙◌, ℕ, zero, suc, ◌-◌, List, [], ◌∷◌, drop, take, length, Vec, Option, Some, None}
use Rattle.std.specs.Prelude.{slice_get}
use Rattle.std.specs.declared.alloc.Global.{Global}
use Rattle.wh_row.specs.Bag.{Bag}
use Rattle.wh_store.specs.Versions.{versions_of}
use Rattle.wh_store.specs.Windows.{Shows}
use Rattle.wh_carry.specs.Course.{IsEnd}
use Rattle.wh_core.specs.declared.event.Event.TheVariants.{Begin}
use Rattle.wh_core.specs.declared.machine.Machine.{Machine}
use Rattle.wh_core.specs.declared.reply.Reply.{Reply}
use Rattle.wh_core.specs.declared.reply.Reply.TheVariants as reply
use Rattle.wh_core.specs.declared.warehouse.Core.{Core}
use Rattle.wh_core.specs.Log.{Log, logged, nights_begun}
use Rattle.wh_core.specs.Nights.{GivenNight, Setup, remaining_in, with_nights}
use Rattle.wh_core.specs.Replies.{IsLegalLog}
use Rattle.wh_core.specs.Standing.{AreLeft, HasPut, KeepsTables, Stands, StandsWith, given_of}
use Rattle.wh_core.proofs.Later.{goes_on}
use Rattle.wh_core.proofs.Waiting.{begun_given, waiting_shorter}

module _ (s : Setup) (later : List GivenNight) (log : Log) (legal : IsLegalLog s log) where
  keeps_shorter : (kept : Option (Vec Bag Global)) → KeepsTables (with_nights s later) log kept → KeepsTables s log kept
  keeps_shorter None keeps = tt
  keeps_shorter (Some tables) keeps =
      let g = goes_on s later log legal in (
        λ shut. keeps.0 shut ∙ ap (λ ops. (versions_of s.opening ops).newest) g.same_list,
        λ o. subst (λ n. IsEnd n (Some tables)) (g.same_night o) (keeps.1 o),
      )

  pub stands_shorter : (m : Machine) → Stands (with_nights s later) log m → Stands s log m
  stands_shorter m h =
      let g = goes_on s later log legal in
      record {
        legal = legal;
        shows = subst (Shows m.store s.opening) g.same_list h.shows;
        versions = h.versions;
        tables = keeps_shorter m.tables h.tables;
        desks = h.desks;
        sessions = h.sessions;
        workers = h.workers;
        holders = h.holders;
        night = λ o. subst (λ n. AreLeft n (remaining_in n log) (drop m.place m.course.parts.items) m.course.stop m.drawn m.done) (g.same_night o) (h.night o);
        put = λ o. subst (λ list. HasPut list (take m.place m.course.parts.items)) g.same_list (h.put o);
      }

-- what is among the first is among all
among_first : {A : Type 0} (xs : List A) (k n : ℕ) (x : A) → slice_get (take k xs) n ≡ Some x → slice_get xs n ≡ Some x
among_first xs zero n x at = cc
among_first [] (suc k) n x at = at
among_first (y ∷ xs) (suc k) zero x at = at
among_first (y ∷ xs) (suc k) (suc n) x at = among_first xs k n x at

-- the machine without the night behind these, whose nights are those of another one
pub stands_taken_back : {F G : Type 0} (s : Setup) (night : GivenNight) (log : Log) (core shorter : Core F G)
    → IsLegalLog s log → shorter.nights.items ≡ take (length core.nights.items - 1) core.nights.items
    → StandsWith (with_nights s (night ∷ [])) log core → StandsWith s log (record core { nights = shorter.nights })
stands_taken_back s night log core shorter legal are h = record {
  catalog = h.catalog;
  nights = waiting_shorter given_of core.nights.items shorter.nights.items night s.nights (nights_begun log) (begun_given s log legal) are h.nights;
  judged = λ n night at. h.judged n night (among_first core.nights.items (length core.nights.items - 1) n night (ap (λ ns. slice_get ns n) (sym are) ∙ at));
  keys = h.keys;
  stands = stands_shorter s (night ∷ []) log legal core.machine h.stands;
}

-- a Begin that is refused leaves nothing
pub refused_leaves : (log : Log) (r : Reply) → r ≢ reply.Begun → logged log Begin r ≡ log
refused_leaves log reply.Begun other = absurd (other refl)
refused_leaves log r other = refl
