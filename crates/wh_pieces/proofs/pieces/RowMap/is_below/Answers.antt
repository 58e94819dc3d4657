use Rattle.std.proofs.Common.{◌≡◌, refl, ◌∷◌, ◌++◌, [], List, drop, sym, ap, subst, ◌∙◌}
use Rattle.wh_pieces.specs.Row.{Row}
use Rattle.wh_pieces.specs.Place.{AreRisingRows}
use Rattle.wh_pieces.specs.Pieces.{from}
use Rattle.wh_pieces.proofs.EntryLaws.{none_from, above_none, no_length}
use Rattle.wh_pieces.proofs.MergeLaws.{above_front, rising_joined}
use Rattle.wh_pieces.proofs.pieces.RowMap.is_below.Goals as goal

pub returns-in-Some-first : goal.returns-in-Some-first
returns-in-Some-first g c =
    let Entries : Type 0 = List (Row × g.row.T.Denot) in
    let es = c.args.self.now in
    let e : Row × g.row.T.Denot = (c.in-Some.row.now, c.in-Some.field-0-1) in
    let rest = drop 1 c.entries.result in
    let other : c.args.other.now ≡ e ∷ rest = sym c.entries.ensures.entries ∙ c.in-Some.ensures in
    let none : AreRisingRows (es ++ c.args.other.now) → from e.0 es ≡ [] = λ rising. none_from e.0 es (above_front es e rest (subst (λ (xs : Entries). AreRisingRows (es ++ xs)) other rising)) in
    (λ f. cc, λ rising. absurd (no_length _ _ (sym c.in-Some-first.ensures ∙ c.entries_from.ensures ∙ none rising)))

pub returns-in-None : goal.returns-in-None
returns-in-None g c =
    let Entries : Type 0 = List (Row × g.row.T.Denot) in
    let es = c.args.self.now in
    let e : Row × g.row.T.Denot = (c.in-Some.row.now, c.in-Some.field-0-1) in
    let rest = drop 1 c.entries.result in
    let other : c.args.other.now ≡ e ∷ rest = sym c.entries.ensures.entries ∙ c.in-Some.ensures in
    let above = above_none e.0 es (sym c.entries_from.ensures ∙ c.in-None.ensures) in
    let after = subst (λ (xs : Entries). AreRisingRows xs) (c.in-Some.ensures) c.entries.ensures.rising in
    (λ _. subst (λ (xs : Entries). AreRisingRows (es ++ xs)) (sym other) (rising_joined es e rest above c.len.ensures.rising after), λ _. refl)
