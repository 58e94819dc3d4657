use Rattle.std.proofs.Common.{◌≡◌, refl, sym, ap, subst, ◌∙◌, ℕ, zero, suc, ◌+◌, ◌<◌, List, [], ◌∷◌, length, map, Bool, true, false, Option, Some, None, arith}
use Rattle.std.specs.Prelude.{replicate, slice_get, option_map}
use Rattle.std.proofs.lemmas.Bool.{false≢true}
use Rattle.std.proofs.lemmas.Option.{slice_get-map}
use Rattle.wh_store.specs.Windows.{Shows}
use Rattle.wh_core.specs.Log.{session}
use Rattle.wh_core.specs.Nights.{published}
use Rattle.wh_core.specs.Replies.{nothing}
use Rattle.wh_core.specs.Standing.{session_of}
use Rattle.wh_core.proofs.machine.Machine.new.Goals as goal

free : {A : Type 0} (n : ℕ) (x : A) (w : ℕ) → w < n → slice_get (replicate n x) w ≡ Some x
free zero x w l = absurd (omega arith)
free (suc n) x zero l = refl
free (suc n) x (suc w) l = free n x w (omega arith)

so_many : {A : Type 0} (n : ℕ) (x : A) → length (replicate n x) ≡ n
so_many zero x = refl
so_many (suc n) x = ap suc (so_many n x)

pub returns : goal.returns
unfolding published
returns c = λ s opening desks workers versions. record {
  legal = nothing;
  shows = subst (λ o. Shows c.in_ok-store.store o []) (c.as_slice.ensures.value ∙ sym opening) c.in_ok-store.ensures.shows;
  versions = c.in_ok-store.ensures.limit ∙ sym versions;
  tables = (λ _. sym opening, λ o. absurd (false≢true o));
  desks = ap length c.in_ok-seats.ensures ∙ so_many c.args.desks None ∙ sym desks;
  sessions = λ d l. slice_get-map (option_map session_of) c.in_ok-seats.seats.items d ∙ ap (λ xs. option_map (option_map session_of) (slice_get xs d)) c.in_ok-seats.ensures
      ∙ ap (option_map (option_map session_of)) (free c.args.desks None d (omega (arith, desks, l)));
  workers = ap length c.in_ok-holders.ensures ∙ so_many c.args.workers None ∙ sym workers;
  holders = λ w l. ap (λ xs. slice_get xs w) c.in_ok-holders.ensures ∙ free c.args.workers None w (omega (arith, workers, l));
  night = λ o. absurd (false≢true o);
  put = λ o. absurd (false≢true o);
}
