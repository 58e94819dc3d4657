-- What callers see of a writer, and what holds of it: what only proofs and private contracts use.
use Rattle.std.specs.Prelude.{◌≡◌, ℕ, List, [], ◌∷◌, ◌++◌, Option, Some, None, refl}
use Rattle.std.specs.Coded.{Coded, code_by, coded×, coded_ℕ}
use Rattle.logbook.specs.Pages.{Book, book_coded}
use Rattle.wh_store.specs.Operations.{Operation, operation, Opens, Writes, Commits, Gives_up}
use Rattle.wh_store.specs.Refusals.{refusal}
use Rattle.wh_store.specs.Ledgers.{Ledger}
use Rattle.wh_store.specs.Inner.Codes.{coded_ledger}
use Rattle.wh_store.specs.declared.ended.Ended.{Ended}
use Rattle.wh_store.specs.declared.ended.Ended.TheVariants.{Committed, GivenUp}
use Rattle.wh_desk.specs.declared.inner.Inner.{Inner}
use Rattle.wh_desk.specs.declared.kept.Kept.{Kept}
use Rattle.wh_desk.specs.declared.kept.Publication.{Publication}
use Rattle.wh_desk.specs.Known.{Known, known, IsStory}
use Rattle.wh_desk.specs.Rules.{IsCopy}
use Rattle.wh_desk.specs.Writers.{Writing, writing, written, copy_of, waiting, held_of}

-- what waits, one operation at most, goes on from the published list of x up to the whole history h
abbrev pub Waits : Kept → List Publication → Known → Type 0
Waits x [] h = h ≡ x.front
Waits x (p ∷ []) h =
    (p.front ≡ h) × (h ≡ known x.front.book x.front.of (x.front.list ++ operation p.op ∷ [])) × (refusal x.store (operation p.op) ≡ None)
Waits x (p ∷ q ∷ ps) h = ⊥

-- how an operation ends the night, if it does
abbrev pub end_of : Operation → Option Ended
end_of Opens = None
end_of (Writes view rows) = None
end_of Commits = Some Committed
end_of Gives_up = Some GivenUp

abbrev pub end_of_held : Option Operation → Option Ended
end_of_held None = None
end_of_held (Some op) = end_of op

abbrev pub IsWriter : Inner → Type 0
IsWriter w =
    IsCopy (copy_of w) × Waits (copy_of w) (waiting w) w.history × IsStory w.history × (w.ends ≡ end_of_held (held_of (waiting w)))

abbrev pub coded_writing : Coded Writing
coded_writing =
    code_by (Book × (Ledger × ℕ)) (coded× book_coded (coded× coded_ledger coded_ℕ)) (λ w. (w.book, (w.ledger, w.refused_ends)))
    (λ t. writing (written t.0 t.1.0) t.1.1) (λ _. refl)
