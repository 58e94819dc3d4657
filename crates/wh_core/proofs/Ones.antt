-- An event has one reply, memory aside.
use Rattle.std.proofs.Common.{◌≡◌, refl, sym, ap, ◌∙◌, subst, ℕ, zero, suc, ◌+◌, ◌<◌, List, [], ◌∷◌, ◌++◌, length, arith, Option, Some, ⊎_elim}
use mathlib.Core.Logic.{◌⊎◌, inl, inr}
use Rattle.std.specs.List.{All}
use Rattle.std.proofs.lemmas.Bool.{cases_lt}
use Rattle.wh_row.specs.Bag.{Bag}
use Rattle.wh_dag.specs.Catalog.{CatalogOf}
use Rattle.wh_strategy.specs.declared.expression.Expression.{Expression}
use Rattle.wh_maint.specs.declared.fault.MaintFault.{MaintFault}
use Rattle.wh_maint.specs.declared.fault.MaintFault.TheVariants as fault
use Rattle.wh_carry.specs.Carry.{State}
use Rattle.wh_carry.specs.Refused.{ComesBefore, IsAnswer, IsBaseFault, IsEarlier, IsFirstReason, IsStepFault, Reason, RowIsLacking, BaseIsLarge, ChangeIsLarge, ChangeHasNoValue, CompIsLarge, CompMeetsNoValue, PendingIsLarge, TableIsLarge, rank}
use Rattle.wh_carry.specs.Night.{Night, ArePassedAt, IsFaultAt, IsFirstFaultOf, IsPassedAt, state_at, AreAllowed}
use Rattle.wh_core.proofs.Underway.{all-head, all-tail}
use Rattle.wh_core.specs.declared.reply.Cause.{Cause}
use Rattle.wh_core.specs.declared.reply.Cause.TheVariants as cause
use Rattle.wh_core.specs.declared.reply.Reply.{Reply}
use Rattle.wh_core.specs.declared.reply.Reply.TheVariants as reply
use Rattle.wh_core.specs.Laws.{AreOne, RepliesAreOne}
use Rattle.wh_core.specs.Replies.{IsCarried, IsLarge, IsMemory, IsRuled, Ruling, Says, Takes, Carries, Puts, Starts, cause_of, ruling}

-- ---- reasons

-- the cause that a reason of this turn is answered by
cause_at : ℕ → ℕ → Cause
cause_at zero zero = cause.Absent
cause_at zero (suc k) = cause.Large
cause_at (suc j) zero = cause.Large
cause_at (suc j) (suc zero) = cause.Range
cause_at (suc j) (suc (suc k)) = cause.Large

answered : (tables changes : ℕ → Bag) (reason : Reason) (f : MaintFault) → IsAnswer tables changes reason f
    → (f ≡ fault.Memory) ⊎ (cause_of f ≡ cause_at (rank reason).0 (rank reason).2)
unfolding cause_at
answered tables changes (RowIsLacking b) (fault.Absent v row) h = inr refl
answered tables changes (RowIsLacking b) (fault.Large v) h = inl h
answered tables changes (RowIsLacking b) (fault.Range v) h = inl h
answered tables changes (RowIsLacking b) fault.Memory h = inl h
answered tables changes (BaseIsLarge b) f h = inr (ap cause_of h)
answered tables changes (ChangeIsLarge v) f h = inr (ap cause_of h)
answered tables changes (ChangeHasNoValue v) f h = inr (ap cause_of h)
answered tables changes (CompIsLarge v ys) f h = inr (ap cause_of h)
answered tables changes (CompMeetsNoValue v ys) f h = inr (ap cause_of h)
answered tables changes (PendingIsLarge v ys) f h = inr (ap cause_of h)
answered tables changes (TableIsLarge v) f h = inr (ap cause_of h)

-- of two turns neither of which is earlier, both are one
same_turn : (a b : ℕ × ℕ × ℕ) → ¬ (IsEarlier a b) → ¬ (IsEarlier b a) → (a.0 ≡ b.0) × (a.2 ≡ b.2)
same_turn a b before after = (first, third)
  where
    first : a.0 ≡ b.0
    first = ⊎_elim (λ l. absurd (before (inl l))) (λ l. ⊎_elim (λ m. absurd (after (inl m))) (λ m. omega (arith, l, m)) (cases_lt b.0 a.0)) (cases_lt a.0 b.0)

    second : a.1 ≡ b.1
    second = ⊎_elim (λ l. absurd (before (inr (first, inl l)))) (λ l. ⊎_elim (λ m. absurd (after (inr (sym first, inl m)))) (λ m. omega (arith, l, m)) (cases_lt b.1 a.1)) (cases_lt a.1 b.1)

    third : a.2 ≡ b.2
    third = ⊎_elim (λ l. absurd (before (inr (first, inr (second, l))))) (λ l. ⊎_elim (λ m. absurd (after (inr (sym first, inr (sym second, m))))) (λ m. omega (arith, l, m)) (cases_lt b.2 a.2)) (cases_lt a.2 b.2)

-- of two first reasons the answers have one cause, memory aside
one_cause : (catalog : CatalogOf) (changes : ℕ → Bag) (s : State) (Asked : Reason → Type 0) (a b : Reason) (f g : MaintFault)
    → IsFirstReason catalog changes s Asked ComesBefore a → IsFirstReason catalog changes s Asked ComesBefore b → IsAnswer s.tables changes a f → IsAnswer s.tables changes b g
    → (cause_of f ≡ cause_of g) ⊎ ((f ≡ fault.Memory) ⊎ (g ≡ fault.Memory))
one_cause catalog changes s Asked a b f g first other told said =
    let same = same_turn (rank a) (rank b) (λ l. first.stands (other.earlier a first.asked l)) (λ l. other.stands (first.earlier b other.asked l)) in
    ⊎_elim
    (λ m. inr (inl m))
    (λ e. ⊎_elim (λ m. inr (inr m)) (λ h. inl (e ∙ (λ i. cause_at (same.0 i) (same.1 i)) ∙ sym h)) (answered s.tables changes b g said))
    (answered s.tables changes a f told)

-- ---- places

not_both : (n : Night) (p : ℕ) (f : MaintFault) → IsPassedAt n p → IsFaultAt n p f → ⊥
not_both n p f passed at = at.refused.first.stands (passed at.expression at.there at.refused.reason at.refused.first.asked)

some_one : {A : Type 0} (x y : A) → Some x ≡ Some y → x ≡ y
some_one x y e = cc

-- of two refusals at one place
one_there : (n : Night) (p : ℕ) (f g : MaintFault) → IsFaultAt n p f → IsFaultAt n p g → (cause_of f ≡ cause_of g) ⊎ ((f ≡ fault.Memory) ⊎ (g ≡ fault.Memory))
one_there n p f g a b =
    let same : b.expression ≡ a.expression = some_one _ _ (sym b.there ∙ a.there) in
    let c : IsStepFault n.catalog n.changes (state_at n p) a.expression g = subst (λ e. IsStepFault n.catalog n.changes (state_at n p) e g) same b.refused in
    one_cause n.catalog n.changes (state_at n p) _ a.refused.reason c.reason f g a.refused.first c.first a.refused.answer c.answer

all-amid : (P : ℕ → Type 0) (before : List ℕ) (p : ℕ) (later : List ℕ) → All P (before ++ p ∷ later) → P p
all-amid P [] p later all = all-head P p later all
all-amid P (x ∷ before) p later all = all-amid P before p later (all-tail P x (before ++ p ∷ later) all)

heads : (x y : ℕ) (xs ys : List ℕ) → x ∷ xs ≡ y ∷ ys → x ≡ y
heads x y xs ys e = cc

tails : (x y : ℕ) (xs ys : List ℕ) → x ∷ xs ≡ y ∷ ys → xs ≡ ys
tails x y xs ys e = cc

one_place : (n : Night) (a : List ℕ) (p : ℕ) (c b : List ℕ) (q : ℕ) (d : List ℕ) (f g : MaintFault) → a ++ p ∷ c ≡ b ++ q ∷ d
    → ArePassedAt n a → ArePassedAt n b → IsFaultAt n p f → IsFaultAt n q g → p ≡ q
one_place n [] p c [] q d f g e pa pb fp fq = heads p q c d e
one_place n [] p c (y ∷ b) q d f g e pa pb fp fq = absurd (not_both n p f (subst (IsPassedAt n) (sym (heads p y c (b ++ q ∷ d) e)) (all-head (IsPassedAt n) y b pb)) fp)
one_place n (x ∷ a) p c [] q d f g e pa pb fp fq = absurd (not_both n q g (subst (IsPassedAt n) (heads x q (a ++ p ∷ c) d e) (all-head (IsPassedAt n) x a pa)) fq)
one_place n (x ∷ a) p c (y ∷ b) q d f g e pa pb fp fq =
    one_place n a p c b q d f g (tails x y (a ++ p ∷ c) (b ++ q ∷ d) e) (all-tail (IsPassedAt n) x a pa) (all-tail (IsPassedAt n) y b pb) fp fq

-- ---- rulings

refused_as : (r o : Reply) (f g : MaintFault) → (cause_of f ≡ cause_of g) ⊎ ((f ≡ fault.Memory) ⊎ (g ≡ fault.Memory)) → r ≡ reply.Refused (cause_of f) → o ≡ reply.Refused (cause_of g) → AreOne r o
refused_as r o f g h a b =
    ⊎_elim
    (λ e. inl (a ∙ ap reply.Refused e ∙ sym b))
    (λ m. inr (⊎_elim (λ k. inl (a ∙ ap (λ f. reply.Refused (cause_of f)) k)) (λ k. inr (b ∙ ap (λ f. reply.Refused (cause_of f)) k)) m))
    h

carried_one : (n : Night) (places : List ℕ) (said r o : Reply) → IsCarried n places said r → IsCarried n places said o → AreOne r o
carried_one n places said r o a b =
    ⊎_elim
    (λ p. ⊎_elim (λ q. inl (p.1 ∙ sym q.1)) (λ g. absurd (stopped g.0 p.0 g.1)) b)
    (λ f. ⊎_elim (λ q. absurd (stopped f.0 q.0 f.1)) (λ g. refused_as r o f.0 g.0 (one_first f.0 g.0 f.1 g.1) f.2 g.2) b)
    a
  where
    stopped : (f : MaintFault) → ArePassedAt n places → IsFirstFaultOf n places f → ⊥
    stopped f passed first = not_both n first.place f (all-amid (IsPassedAt n) first.earlier first.place first.later (subst (ArePassedAt n) first.split passed)) first.refused

    one_first : (f g : MaintFault) → IsFirstFaultOf n places f → IsFirstFaultOf n places g → (cause_of f ≡ cause_of g) ⊎ ((f ≡ fault.Memory) ⊎ (g ≡ fault.Memory))
    one_first f g x y =
        let same = one_place n x.earlier x.place x.later y.earlier y.place y.later f g (sym x.split ∙ y.split) x.passed y.passed x.refused y.refused in
        one_there n y.place f g (subst (λ p. IsFaultAt n p f) same x.refused) y.refused

puts_one : (n : Night) (places : List ℕ) (said r o : Reply) → IsRuled (Puts n places said) r → IsRuled (Puts n places said) o → AreOne r o
puts_one n places said r o a b = ⊎_elim (λ c. ⊎_elim (λ d. carried_one n places said r o c d) (λ m. inr (inr m)) b) (λ m. inr (inl m)) a

ruled_one : (ruling : Ruling) (r o : Reply) → IsRuled ruling r → IsRuled ruling o → AreOne r o
ruled_one (Says said) r o a b = inl (a ∙ sym b)
ruled_one (Takes page) r o a b = ⊎_elim (λ e. ⊎_elim (λ f. inl (e ∙ sym f)) (λ m. inr (inr m.1)) b) (λ m. inr (inl m.1)) a
ruled_one (Carries n places said) r o a b = carried_one n places said r o a b
ruled_one (Puts n places said) r o a b = puts_one n places said r o a b
ruled_one (Starts n places said) r o a b =
    ⊎_elim
    (λ c. ⊎_elim (λ d. puts_one n places said r o c.1 d.1) (λ g. absurd (lacking g.0 c.0 g.1)) b)
    (λ f. ⊎_elim
    (λ d. absurd (lacking f.0 d.0 f.1))
    (λ g. told f.0 g.0 f.1 g.1 f.2 g.2) b)
    a
  where
    lacking : (f : MaintFault) → AreAllowed n → IsBaseFault n.catalog n.tables n.changes f → ⊥
    lacking f allowed refused = refused.first.stands (allowed refused.reason refused.first.asked)

    told : (f g : MaintFault) → IsBaseFault n.catalog n.tables n.changes f → IsBaseFault n.catalog n.tables n.changes g
        → (r ≡ reply.Refused (cause_of f)) ⊎ (IsLarge f × IsMemory r) → (o ≡ reply.Refused (cause_of g)) ⊎ (IsLarge g × IsMemory o) → AreOne r o
    told f g x y h k =
        ⊎_elim
        (λ e. ⊎_elim (λ d. refused_as r o f g (one_cause n.catalog n.changes _ _ x.reason y.reason f g x.first y.first x.answer y.answer) e d) (λ m. inr (inr m.1)) k)
        (λ m. inr (inl m.1))
        h

pub replies_are_one : RepliesAreOne
replies_are_one s log event r o a b = ruled_one (ruling s log event) r o a b
