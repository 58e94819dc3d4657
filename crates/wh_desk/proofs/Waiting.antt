-- What waits in a writer.
use Rattle.std.proofs.Common.{◌≡◌, List, [], ◌∷◌, fold, drop, Option, None, Result, Ok, Err, MatchResult, ap, sym, subst, ◌∙◌}
use Rattle.wh_store.specs.Laws.{WellFormedGoesOn, WindowsFollow}
use Rattle.wh_store.specs.Ledgers.{ledger, with_held}
use Rattle.wh_store.specs.declared.ended.Ended.{Ended}
use Rattle.wh_desk.specs.declared.inner.Inner.{Inner}
use Rattle.wh_desk.specs.declared.kept.Kept.{Kept}
use Rattle.wh_desk.specs.declared.kept.Publication.{Publication}
use Rattle.wh_desk.specs.Known.{IsStory, Known}
use Rattle.wh_desk.specs.Rules.{IsCopy, taken_in}
use Rattle.wh_desk.specs.Writers.{and_held, copy_of, held_of, ledger_in, waiting, written, written_of}
use Rattle.wh_desk.specs.Inner.Writers.{IsWriter, Waits, end_of_held}
use Rattle.wh_desk.proofs.Keeps.{copy_next}

pub nothing_waits : (w : Inner) → w.held ≡ None → drop w.raw.behind w.raw.log.items ≡ [] → waiting w ≡ []
nothing_waits w nil none = (λ i. and_held (none i) (nil i))

-- the history is the published list with what waits
pub out : (x : Kept) (ps : List Publication) (h : Known) → Waits x ps h
    → written h.book (ledger h.of h.list None) ≡ written x.front.book (ledger x.front.of (with_held x.front.list (held_of ps)) None)
out x [] h is = ap (λ (k : Known). written k.book (ledger k.of k.list None)) is
out x (p ∷ []) h is = ap (λ (k : Known). written k.book (ledger k.of k.list None)) is.1
out x (p ∷ q ∷ ps) h is = absurd is

-- with nothing waiting, the history is that of the copy
pub history_of : (w : Inner) → waiting w ≡ [] → IsWriter w → w.history ≡ (copy_of w).front
history_of w none is = subst (λ ps. Waits (copy_of w) ps w.history) none is.1

-- with nothing waiting it is the published list
pub whole : (w : Inner) → waiting w ≡ [] → IsWriter w → written w.history.book (ledger w.history.of w.history.list None) ≡ written_of w
whole w none is =
    let same = history_of w none is in
    (λ i. written (same i).book (ledger (same i).of (same i).list (held_of (sym none i))))

-- a copy that took in what waits shows the whole history
taken : WindowsFollow → WellFormedGoesOn → (x : Kept) (ps : List Publication) (h : Known) → IsCopy x → Waits x ps h → IsCopy (fold taken_in x ps) × (h ≡ (fold taken_in x ps).front)
taken follow goes_on x [] h copy is = (copy, is)
taken follow goes_on x (p ∷ []) h copy is = (copy_next follow goes_on x p copy (is.0 ∙ is.1) is.2, sym is.0)
taken follow goes_on x (p ∷ q ∷ ps) h copy is = absurd is

module _ {E : Type 0} (follow : WindowsFollow) (goes_on : WellFormedGoesOn) (V : Type 0) (x : Kept) (w : Inner) (ps : List Publication) (ends : Option Ended) where
  -- what waits was published, or still waits
  pub published : (r : Result (Unit {0}) E) → w.held ≡ None → IsCopy x → Waits x ps w.history → IsStory w.history → ends ≡ end_of_held (held_of ps) → MatchResult r (λ _. w.ends ≡ None) (λ _. w.ends ≡ ends)
      → MatchResult r (λ _. (copy_of w ≡ fold taken_in x ps) × (drop w.raw.behind w.raw.log.items ≡ []) × V) (λ _. (copy_of w ≡ x) × (drop w.raw.behind w.raw.log.items ≡ ps))
      → IsWriter w × MatchResult r (λ _. written_of w ≡ written w.history.book (ledger w.history.of w.history.list None)) (λ _. written_of w ≡ written x.front.book (ledger_in x ps))
  published (Ok u) nil copy is story end kept m =
      let t = taken follow goes_on x ps w.history copy is in
      let none = nothing_waits w nil m.1 in
      let same : w.history ≡ (copy_of w).front = t.1 ∙ ap (λ (k : Kept). k.front) (sym m.0) in
      let are : IsWriter w = (subst IsCopy (sym m.0) t.0, subst (λ qs. Waits (copy_of w) qs w.history) (sym none) same, story, kept ∙ ap (λ qs. end_of_held (held_of qs)) (sym none)) in
      (are, sym (whole w none are))
  published (Err u) nil copy is story end kept m =
      let same : waiting w ≡ ps = (λ i. and_held (m.1 i) (nil i)) in (
        (
          subst IsCopy (sym m.0) copy,
          subst (λ (t : Kept × List Publication). Waits t.0 t.1 w.history) (λ i. (sym m.0 i, sym same i)) is,
          story,
          kept ∙ (end ∙ ap (λ qs. end_of_held (held_of qs)) (sym same)),
        ),
        (λ i. written ((m.0 i).front.book) (ledger_in (m.0 i) (same i))),
      )
