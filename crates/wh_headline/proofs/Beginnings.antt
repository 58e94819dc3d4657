-- That a beginning of what running nights publish is what running nights publish.
use Rattle.std.proofs.Common.{◌≡◌, refl, sym, ap, ◌∙◌, subst, ℕ, ◌+◌, ◌≤◌, List, [], ◌∷◌, ◌++◌, length, Bool, true, false, arith, ◌⊎◌, ⊎_elim, inl, inr}
use Rattle.std.proofs.lemmas.List.{append-nil, append_assoc}
use mathlib.Core.List.{IsPrefix}
use Rattle.wh_store.specs.Operations.{Operation, Opens, Commits, Gives_up}
use Rattle.wh_carry.specs.Refused.{ArePassedBelow}
use Rattle.wh_carry.specs.Night.{HasEnded, Night}
use Rattle.wh_carry.proofs.NewValues.{passed_have_values}
use Rattle.wh_night.specs.Tonight.{Begin_it, out_below}
use Rattle.wh_core.specs.Nights.{Setup}
use Rattle.wh_headline.specs.RunningNights.{AreEndedNights, AreRunningNights, BeginningsAreRunningNights, CanBegin, all_ended, night_after, none as no_nights, one_more as one_night_more, one_open}
use Rattle.wh_headline.proofs.SeenAlike.{whole_list}

-- ---- beginnings of lists

-- a beginning of two lists, one behind the other, begins the first, or is the first and a beginning of the second
pub splits : (seen rest a b : List Operation) → seen ++ rest ≡ a ++ b → IsPrefix seen a ⊎ ((t : List Operation) × (seen ≡ a ++ t) × IsPrefix t b)
splits seen rest [] b e = inr (seen, refl, (rest, e))
splits [] rest (x ∷ a) b e = inl (x ∷ a, refl)
splits (y ∷ seen) rest (x ∷ a) b e =
    let heads : y ≡ x = cc e in
    let tails : seen ++ rest ≡ a ++ b = cc e in
    ⊎_elim (λ p. inl (p.0, cc (heads, p.1))) (λ q. inr (q.0, cc (heads, q.1), q.2)) (splits seen rest a b tails)

-- one of a list with an operation behind it begins the list, or is the whole
before_last : (seen rest a : List Operation) (last : Operation) → seen ++ rest ≡ a ++ last ∷ [] → IsPrefix seen a ⊎ (seen ≡ a ++ last ∷ [])
before_last [] rest a last e = inl (a, refl)
before_last (y ∷ []) rest [] last e = inr (cc e)
before_last (y ∷ z ∷ seen) rest [] last e = absurd (cc e)
before_last (y ∷ seen) rest (x ∷ a) last e =
    let heads : y ≡ x = cc e in
    let tails : seen ++ rest ≡ a ++ last ∷ [] = cc e in
    ⊎_elim (λ p. inl (p.0, cc (heads, p.1))) (λ q. inr (cc (heads, q))) (before_last seen rest a last tails)

pub empty : (seen rest : List Operation) → seen ++ rest ≡ [] → seen ≡ []
empty [] rest e = refl
empty (x ∷ seen) rest e = cc

-- ---- beginnings of a night

-- a beginning of a night begins with its Begin
pub headed : (n : Night) (op : Operation) (ops : List Operation) → Begin_it n (op ∷ ops) → op ≡ Opens
headed n op ops b = sym (first _ (ops ++ b.rest) b.begins)
  where
    first : (a c : List Operation) → Opens ∷ a ≡ op ∷ c → Opens ≡ op
    first a c e = cc

module _ (n : Night) (seen : List Operation) where
  pub shorter : (ops : List Operation) → IsPrefix seen ops → Begin_it n ops → Begin_it n seen
  shorter ops p b = record {
    place = b.place;
    within = b.within;
    values = b.values;
    rest = p.0 ++ b.rest;
    begins = b.begins ∙ ap (λ o. o ++ b.rest) (sym p.1) ∙ append_assoc seen p.0 b.rest;
  }

  before_end : (ops last : List Operation) (end : Operation) → Begin_it n ops → last ≡ ops ++ end ∷ [] → IsPrefix seen last → Begin_it n seen ⊎ (seen ≡ last)
  before_end ops last end b is p =
      ⊎_elim (λ q. inl (shorter ops q b)) (λ e. inr (e ∙ sym is)) (before_last seen p.0 ops end (p.1 ∙ is))

  -- of a night that ended: one without its end, or the whole
  pub of_ended : (last : List Operation) → HasEnded n last → IsPrefix seen last → Begin_it n seen ⊎ (seen ≡ last)
  of_ended last ended p =
      ⊎_elim
      (λ whole. before_end (out_below n (length n.list)) last Commits (all_begins whole.0) (whole_list n last whole.0 whole.1.night_list) p)
      (λ cut. before_end (Opens ∷ cut.puts) last Gives_up cut.beginning cut.cut p)
      ended
    where
      all_begins : ArePassedBelow n.catalog n.list n.tables n.changes (length n.list) → Begin_it n (out_below n (length n.list))
      all_begins passed = record {
        place = length n.list;
        within = omega arith;
        values = λ p e below at. passed_have_values n.catalog n.changes _ e (passed p e below at);
        rest = [];
        begins = sym (append-nil (out_below n (length n.list)));
      }

-- ---- beginnings of nights

module _ (s : Setup) where
  -- behind nights that ended, a beginning of the next is empty, or the night is open
  pub begun_behind : (n keys : ℕ) (ops seen : List Operation) → AreEndedNights s n ops → CanBegin s ops n keys → Begin_it (night_after s ops n keys) seen
      → AreRunningNights s n false (ops ++ seen) ⊎ AreRunningNights s (n + 1) true (ops ++ seen)
  begun_behind n keys ops [] ended can begins = inl (subst (AreRunningNights s n false) (sym (append-nil ops)) (all_ended n ops ended))
  begun_behind n keys ops (op ∷ puts) ended can begins =
      let head : op ≡ Opens = headed (night_after s ops n keys) op puts begins in
      let these : Begin_it (night_after s ops n keys) (Opens ∷ puts) = subst (λ o. Begin_it (night_after s ops n keys) (o ∷ puts)) head begins in
      inr (subst (λ o. AreRunningNights s (n + 1) true (ops ++ o ∷ puts)) (sym head) (one_open n keys ops puts ended can these))

  -- what running nights publish, of which at most so many have begun
  abbrev RunUpTo : ℕ → List Operation → Type 0
  RunUpTo nights seen = (n : ℕ) × (seen_open : Bool) × (n ≤ nights) × AreRunningNights s n seen_open seen

  one_later : (n : ℕ) (seen : List Operation) → RunUpTo n seen → RunUpTo (n + 1) seen
  one_later n seen r = (let k : ℕ = r.0 in let most : k ≤ n = r.2 in (r.0, r.1, omega (arith, most), r.3))

  begun : (n keys : ℕ) (ops seen : List Operation) → AreEndedNights s n ops → CanBegin s ops n keys → Begin_it (night_after s ops n keys) seen → RunUpTo (n + 1) (ops ++ seen)
  begun n keys ops seen ended can begins = ⊎_elim (λ r. (n, false, omega arith, r)) (λ r. (n + 1, true, omega arith, r)) (begun_behind n keys ops seen ended can begins)

  of_last : (n keys : ℕ) (ops last seen : List Operation) → AreEndedNights s n ops → CanBegin s ops n keys → HasEnded (night_after s ops n keys) last → IsPrefix seen last
      → RunUpTo (n + 1) (ops ++ seen)
  of_last n keys ops last seen before can ended p =
      let whole : RunUpTo (n + 1) (ops ++ last) = (n + 1, false, omega arith, all_ended (n + 1) (ops ++ last) (one_night_more n keys ops last before can ended)) in
      ⊎_elim
      (λ begins. begun n keys ops seen before can begins)
      (λ e. subst (λ o. RunUpTo (n + 1) (ops ++ o)) (sym e) whole)
      (of_ended (night_after s ops n keys) seen last ended p)

  of_ended_nights : (n : ℕ) (ops seen : List Operation) → AreEndedNights s n ops → IsPrefix seen ops → RunUpTo n seen
  of_ended_nights _ _ seen no_nights p = (0, false, omega arith, subst (AreRunningNights s 0 false) (sym (empty seen p.0 p.1)) (all_ended 0 [] no_nights))
  of_ended_nights _ _ seen (one_night_more n keys ops last before can ended) p =
      ⊎_elim
      (λ q. one_later n seen (of_ended_nights n ops seen before q))
      (λ q. subst (RunUpTo (n + 1)) (sym q.1) (of_last n keys ops last q.0 before can ended q.2))
      (splits seen p.0 ops last p.1)

  of_running : (nights : ℕ) (active : Bool) (ops seen : List Operation) → AreRunningNights s nights active ops → IsPrefix seen ops → RunUpTo nights seen
  of_running _ _ _ seen (all_ended n ops ended) p = of_ended_nights n ops seen ended p
  of_running _ _ _ seen (one_open n keys ops puts ended can begins) p =
      ⊎_elim
      (λ q. one_later n seen (of_ended_nights n ops seen ended q))
      (λ q. subst (RunUpTo (n + 1)) (sym q.1) (begun n keys ops q.0 ended can (shorter (night_after s ops n keys) q.0 (Opens ∷ puts) q.2 begins)))
      (splits seen p.0 ops (Opens ∷ puts) p.1)

pub beginnings : BeginningsAreRunningNights
beginnings s nights active ops seen are p = of_running s nights active ops seen are p
