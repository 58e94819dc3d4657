-- The page in turn of a legal run may be put.
use Rattle.std.proofs.Common.{◌≡◌, ◌≢◌, refl, sym, ap, subst, ◌∙◌, ℕ, [], ◌∷◌, ◌++◌, length, drop, Bool, true, false, Option, Some, None, ◌⊎◌, ⊎_elim}
use Rattle.std.specs.Prelude.{IsTrue, is_some, if◌then◌else◌, nat_lt}
use Rattle.wh_row.specs.Weigh.{Counted}
use Rattle.wh_store.specs.Laws.{WellFormedAreAccepted}
use Rattle.wh_store.specs.Operations.{operation}
use Rattle.wh_store.specs.Pages.{Contents, is_page}
use Rattle.wh_store.specs.Refusals.{page_refusal, refusal}
use Rattle.wh_store.specs.Versions.{is_well_formed}
use Rattle.wh_store.specs.declared.fault.StoreFault.{StoreFault}
use Rattle.wh_store.specs.declared.fault.StoreFault.TheVariants.{NoNight, NoView, BadPage, LastVersion}
use Rattle.wh_store.specs.declared.operation.Op.{Op}
use Rattle.wh_core.specs.declared.event.Event.TheVariants as event
use Rattle.wh_core.specs.declared.machine.Machine.{Machine}
use Rattle.wh_core.specs.declared.reply.Reply.TheVariants as reply
use Rattle.wh_core.specs.Laws.{IsSetup, PublishedAreWellFormed}
use Rattle.wh_core.specs.Log.{Log, Paged_in}
use Rattle.wh_core.specs.Nights.{Setup, page_in_turn, published, turn}
use Rattle.wh_core.specs.Replies.{IsLegalLog, IsReply, more}
use Rattle.wh_core.specs.Standing.{Stands}
use Rattle.wh_core.specs.Inner.Standing.{page_in}
use Rattle.wh_core.proofs.Moves.{page_done, page_in_turn_there, page_there}

-- the last number stands in no page's way
no_last : (draft : Option Contents) (view : ℕ) (rows : Counted) → page_refusal draft view rows ≡ Some LastVersion → ⊥
no_last None view rows e = let f : Some NoNight ≡ Some LastVersion = e in cc
no_last (Some contents) view rows e = by_view (nat_lt view (length contents)) (is_page rows) e
  where
    by_view : (there good : Bool) → (if there then (if good then None else Some BadPage) else Some NoView) ≡ Some LastVersion → ⊥
    by_view true true e = let f : ◌≡◌ {A = Option StoreFault} None (Some LastVersion) = e in cc
    by_view true false e = let f : Some BadPage ≡ Some LastVersion = e in cc
    by_view false good e = let f : Some NoView ≡ Some LastVersion = e in cc

pub page_accepted : PublishedAreWellFormed → WellFormedAreAccepted → (s : Setup) (log : Log) (m : Machine) → IsSetup s → (h : Stands s log m) → is_some m.store.draft ≡ true → (op : Op) → page_in (drop m.place m.course.parts.items) ≡ Some op
    → (drop 1 (drop m.place m.course.parts.items) ≢ []) ⊎ (m.course.stop ≡ None) → refusal m.store (operation op) ≡ None
unfolding published
page_accepted formed_law accepted s log m setup h active op first on =
    let there = page_there s log m h active op first in
    let r : IsReply s log event.PageIn (reply.Paged (length there.rows)) = page_done s log m h active op first on in
    let legal : IsLegalLog s (Paged_in ∷ log) = more log event.PageIn (reply.Paged (length there.rows)) h.legal r in
    let put : page_in_turn (turn s log) ≡ operation op ∷ [] = ap page_in_turn (page_in_turn_there s log m h active op first) ∙ ap (λ o. o ∷ []) (sym there.writes) in
    let formed : IsTrue (is_well_formed (length s.opening) (published s log ++ operation op ∷ [])) =
    subst (λ ops. IsTrue (is_well_formed (length s.opening) (published s log ++ ops))) put (formed_law s (Paged_in ∷ log) setup legal) in
    ⊎_elim
    (λ e. e)
    (λ e. absurd (no_last m.store.draft there.view there.rows (ap (refusal m.store) (sym there.writes) ∙ e)))
    ((accepted s.opening (published s log ++ operation op ∷ [])).0 formed (published s log) [] (operation op) m.store refl h.shows)
