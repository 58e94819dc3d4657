use Rattle.std.proofs.Common.{◌≡◌, ◌<◌, ◌≤◌, ◌+◌, ◌-◌, ◌++◌, List, length, drop, ap, subst, sym, ◌∙◌, arith}
use Rattle.wh_pieces.specs.Row.{Row}
use Rattle.wh_pieces.specs.Pieces.{all_of}
use Rattle.wh_pieces.specs.Inner.Pieces.{AreNotEmpty, BeginsAt}
use Rattle.wh_pieces.proofs.EntryLaws.{run_within, whole_passed}
use Rattle.wh_pieces.proofs.entries.Entries.run.Goals as goal

pub returns-then-most-left : goal.returns-then-most-left
returns-then-most-left g c =
    let place = c.self.inside.place in
    let x = c.in-Some.piece.now in
    let s = all_of c.in-Some.rest.now in
    let cut = c.in-Some.ensures.cases.0 in
    let begins : (place < length x) × AreNotEmpty c.in-Some.rest.now = subst (λ (ls : List (List (Row × g.row.T.Denot))). BeginsAt ls place) cut c.self.invariant in
    let within : place + c.args.most ≤ length x = omega (arith, begins.0, c.len.ensures) in
    record {
      rows = sym c.self.view_is
          ∙ ap (λ (ls : List (List (Row × g.row.T.Denot))). drop place (all_of ls)) cut
          ∙ run_within x s place c.args.most within
          ∙ (λ i. sym c.run-run.ensures.rows i ++ drop (place + c.args.most) (all_of (sym cut i)));
      even = c.run-run.ensures.cells;
      some = omega (arith, c.run-run.ensures.count);
      few = omega (arith, c.run-run.ensures.count);
    }

pub returns : goal.returns
returns g c =
    let place = c.self.inside.place in
    let x = c.in-Some.piece.now in
    let s = all_of c.in-Some.rest.now in
    let cut = c.in-Some.ensures.cases.0 in
    let begins : (place < length x) × AreNotEmpty c.in-Some.rest.now = subst (λ (ls : List (List (Row × g.row.T.Denot))). BeginsAt ls place) cut c.self.invariant in
    let left = length x - place in
    let all : c.len.result - place ≡ left = omega (arith, c.len.ensures) in
    record {
      rows = sym c.self.view_is
          ∙ ap (λ (ls : List (List (Row × g.row.T.Denot))). drop place (all_of ls)) cut
          ∙ run_within x s place (c.len.result - place) (omega (arith, begins.0, c.len.ensures))
          ∙ (λ i. sym c.run-run-2.ensures.rows i ++ sym (whole_passed x c.in-Some.rest.now (place + (c.len.result - place)) (omega (arith, begins.0, c.len.ensures))) i);
      even = c.run-run-2.ensures.cells;
      some = omega (arith, begins.0, c.len.ensures, c.run-run-2.ensures.count);
      few = omega (arith, c.len.ensures, c.run-run-2.ensures.count, c.if-most-left.false);
    }
