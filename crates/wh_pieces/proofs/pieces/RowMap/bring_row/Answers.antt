use Rattle.std.proofs.Common.{rules, ◌≡◌, ◌≢◌, Option, Some, None, refl, cond, ap, ◌∙◌}
use Rattle.wh_pieces.specs.Row.{is_row}
use Rattle.wh_pieces.specs.Pieces.{found}
use Rattle.wh_pieces.proofs.BringLaws.{found-with, found-without, found-remade}
use Rattle.wh_pieces.proofs.NotedLaws.{here_kept, here_new, here_gone}
use Rattle.wh_pieces.proofs.pieces.RowMap.bring_row.Goals as goal

some_of : {T : Type 0} (o : Option T) → o ≢ None → (s : T) × (o ≡ Some s)
some_of None h = absurd (h refl)
some_of (Some s) h = (s, refl)

pub returns-then-is_some-clause-here : goal.returns-then-is_some-clause-here
returns-then-is_some-clause-here g c = λ q.
    let old = c.args.self.now in
    let row = c.args.row.now in
    let some : found row old ≢ None = search rules in
    let s = some_of (found row old) some in
    let made = c.in_ok-stood.ensures.there s.0 s.1 in
    let kept : made.0 ≡ Some s.0 = search (rules, made.1) in
    here_kept row c.args.value old q (found q c.insert_or.new.self) s.0 s.1
    (found-remade old c.insert_or.new.self row made.0 made.2 made.3 q ∙ ap (λ o. cond (is_row q row) o (found q old)) kept)

pub returns-clause-here : goal.returns-clause-here
returns-clause-here g c = λ q.
    let old = c.args.self.now in
    let row = c.args.row.now in
    let none : found row old ≡ None = search rules in
    here_new row c.args.value old q (found q c.insert_or.new.self) none (ap (found q) (c.in_ok-stood.ensures.new none) ∙ found-with old row c.args.value q)

pub returns-in_default-clause-err : goal.returns-in_default-clause-err
returns-in_default-clause-err g c = λ q.
    let old = c.args.self.now in
    let row = c.args.row.now in
    let between = c.insert_or.new.self in
    let none : found row old ≡ None = search rules in
    here_gone row c.args.value old q (found q c.remove.new.self) (found q between) none
    (ap (found q) (c.in_ok-stood.ensures.new none) ∙ found-with old row c.args.value q)
    (found-without between c.remove.new.self row c.remove.ensures.entries c.remove.ensures.gone q)
