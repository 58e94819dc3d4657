use Rattle.std.proofs.Common.{◌≡◌, ◌<◌, ◌+◌, ◌^◌, ℕ, List, set, get_or, cond, ap, subst, sym, ◌∙◌, arith, slice_get, Option, Some, None}
use Rattle.std.specs.List.{remove}
use Rattle.wh_pieces.specs.Row.{Row}
use Rattle.wh_pieces.specs.Place.{AreRisingRows, IsAbove}
use Rattle.wh_pieces.specs.Inner.Place.{IsAt, IsGapFor, set_at}
use Rattle.wh_pieces.specs.Pieces.{found, with_entry, without_entry, all_of}
use Rattle.wh_pieces.specs.Inner.Pieces.{AreCounted, IsPieceFor, piece_at}
use Rattle.wh_pieces.proofs.RowLaws.{itself}
use Rattle.wh_pieces.proofs.PieceLaws.{piece_read, rising-nth, found_there, found_nowhere, with_there, with_new, without_there, counted_there, counted_new, counted_less}
use Rattle.wh_pieces.proofs.MergeLaws.{on_err}
use Rattle.wh_pieces.proofs.LastLaws.{found_above, with_above}
use Rattle.wh_pieces.proofs.BringLaws.{found-with, gone_without}
use Rattle.wh_pieces.proofs.pieces.RowMap.insert_or.Goals as goal

none_there : {T : Type 0} {X : Type 0} (o : Option T) (v : T) → o ≡ None → o ≡ Some v → X
none_there o v none some = absurd (let bad : None ≡ Some v = sym none ∙ some in cc)

-- ---- the row is above all that are there

above_all : {T : Type 0} (row : Row) (es fs : List (Row × T)) → es ≡ fs → IsAbove row es → IsAbove row fs
above_all {T} row es fs is h = subst (λ (xs : List (Row × T)). IsAbove row xs) is h

pub returns-then-is_above_all-clause-gives : goal.returns-then-is_above_all-clause-gives
returns-then-is_above_all-clause-gives g c =
    sym (found_above c.args.row.now c.args.self.now (above_all c.args.row.now (all_of c.self.inside.pieces.items) c.args.self.now c.self.view_is (c.is_above_all.ensures.above c.if-is_above_all.true)))

pub returns-then-is_above_all-clause-there : goal.returns-then-is_above_all-clause-there
returns-then-is_above_all-clause-there g c = λ old h. none_there (found c.args.row.now c.args.self.now) old
    (found_above c.args.row.now c.args.self.now (above_all c.args.row.now (all_of c.self.inside.pieces.items) c.args.self.now c.self.view_is (c.is_above_all.ensures.above c.if-is_above_all.true))) h

pub returns-in_err-push-clause-there : goal.returns-in_err-push-clause-there
returns-in_err-push-clause-there g c = λ old h. none_there (found c.args.row.now c.args.self.now) old
    (found_above c.args.row.now c.args.self.now (above_all c.args.row.now (all_of c.self.inside.pieces.items) c.args.self.now c.self.view_is (c.is_above_all.ensures.above c.if-is_above_all.true))) h

pub returns-then-is_above_all-clause-new : goal.returns-then-is_above_all-clause-new
returns-then-is_above_all-clause-new g c = λ _.
    c.in_ok-push.ensures.ok
    ∙ sym (with_above c.args.row.now c.args.value c.args.self.now (above_all c.args.row.now (all_of c.self.inside.pieces.items) c.args.self.now c.self.view_is (c.is_above_all.ensures.above c.if-is_above_all.true)))

pub returns-in_err-push-clause-memory : goal.returns-in_err-push-clause-memory
returns-in_err-push-clause-memory g c =
    on_err c.from_residual.result (found c.args.row.now c.args.self.now ≡ None)
    (found_above c.args.row.now c.args.self.now (above_all c.args.row.now (all_of c.self.inside.pieces.items) c.args.self.now c.self.view_is (c.is_above_all.ensures.above c.if-is_above_all.true)))

-- ---- the piece in which it is looked for was read

pub find-requires : goal.find-requires
find-requires g c =
    let ls = c.self.inside.pieces.items in
    let nth = c.find_piece-nth.result in
    let at = c.find_piece-nth.ensures in
    subst (λ (x : List (Row × g.row.T.Denot)). AreRisingRows x) (sym (piece_read ls nth c.index.result.now at.within c.index.ensures)) (rising-nth ls nth at.within c.self.invariant.pieces.rising)

module _ {T : Type 0} (row : Row) (ls : List (List (Row × T))) (nth place : ℕ) (at : IsPieceFor row ls nth) (x : List (Row × T)) (read : x ≡ get_or ls nth x) where
  gap : IsGapFor row x place → IsGapFor row (piece_at ls nth) place
  gap h = subst (λ (y : List (Row × T)). IsGapFor row y place) (piece_read ls nth x at.within read) h

  here : IsAt row x place → IsAt row (piece_at ls nth) place
  here h = subst (λ (y : List (Row × T)). IsAt row y place) (piece_read ls nth x at.within read) h

  nowhere : IsGapFor row x place → AreRisingRows (all_of ls) → (es : List (Row × T)) → all_of ls ≡ es → found row es ≡ None
  nowhere h rising es is = ap (found row) (sym is) ∙ found_nowhere row ls nth place at (gap h) rising

  stands : IsAt row x place → (y : List (Row × T)) → y ≡ get_or ls nth y → (r : Row) (v : T) → slice_get y place ≡ Some (r, v) → (es : List (Row × T)) → all_of ls ≡ es → Some v ≡ found row es
  stands h y again r v got es is =
      sym (found_there row ls nth place at r v (here h) (ap (λ (z : List (Row × T)). slice_get z place) (sym (piece_read ls nth y at.within again)) ∙ got)) ∙ ap (found row) is

  put_back : IsAt row x place → (y : List (Row × T)) → y ≡ get_or ls nth y → (v : T) (made : List (Row × T)) → made ≡ set_at y place v → (es : List (Row × T)) → all_of ls ≡ es
      → all_of (set ls nth made) ≡ with_entry es row v
  put_back h y again v made m es is =
      ap (λ (z : List (Row × T)). all_of (set ls nth z)) (m ∙ ap (λ (z : List (Row × T)). set_at z place v) (piece_read ls nth y at.within again))
      ∙ sym (with_there row ls nth place at v (here h))
      ∙ ap (λ (zs : List (Row × T)). with_entry zs row v) is

  put_counted : IsAt row x place → (y : List (Row × T)) → y ≡ get_or ls nth y → (v : T) (made : List (Row × T)) → made ≡ set_at y place v → (n : ℕ) → AreCounted ls n → AreCounted (set ls nth made) n
  put_counted h y again v made m n counted =
      subst (λ (z : List (Row × T)). AreCounted (set ls nth z) n) (sym (m ∙ ap (λ (z : List (Row × T)). set_at z place v) (piece_read ls nth y at.within again)))
      (counted_there row v ls nth place n counted at (here h))

  taken : IsAt row x place → (ms : List (List (Row × T))) → all_of ms ≡ all_of (set ls nth (remove (piece_at ls nth) place)) → (es : List (Row × T)) → all_of ls ≡ es → all_of ms ≡ without_entry es row
  taken h ms m es is = m ∙ sym (without_there row ls nth place at (here h)) ∙ ap (λ (zs : List (Row × T)). without_entry zs row) is

-- ---- it stands there, and what is made of its value is put in its place

pub invariant_of-self : goal.invariant_of-self
invariant_of-self g c =
    put_counted c.args.row.now c.self.inside.pieces.items c.find_piece-nth.result c.in-Ok.here c.find_piece-nth.ensures c.index.result.now c.index.ensures c.in-Ok.ensures
    c.index_mut.result.now c.index_mut.ensures.value c.in-Some.made c.set.new.self c.set.ensures c.self.inside.len c.self.invariant

pub returns-in-Some-clause-gives : goal.returns-in-Some-clause-gives
returns-in-Some-clause-gives g c =
    stands c.args.row.now c.self.inside.pieces.items c.find_piece-nth.result c.in-Ok.here c.find_piece-nth.ensures c.index.result.now c.index.ensures c.in-Ok.ensures
    c.index-in-Ok.result.now c.index-in-Ok.ensures c.get-stood.result.0.now c.get-stood.result.1 c.get-stood.ensures c.args.self.now c.self.view_is

pub returns-in-Some-clause-new : goal.returns-in-Some-clause-new
returns-in-Some-clause-new g c = λ none. none_there (found c.args.row.now c.args.self.now) c.get-stood.result.1 none (sym (returns-in-Some-clause-gives g c))

pub returns-in-Some-clause-there : goal.returns-in-Some-clause-there
returns-in-Some-clause-there g c = λ old h.
    let row = c.args.row.now in
    let es = c.args.self.now in
    let made = c.in-Some.made in
    let same : Some c.get-stood.result.1 ≡ Some old = returns-in-Some-clause-gives g c ∙ h in
    let is : c.get-stood.result.1 ≡ old = cc in
    let entries : all_of (set c.self.inside.pieces.items c.find_piece-nth.result c.set.new.self) ≡ with_entry es row made =
    put_back row c.self.inside.pieces.items c.find_piece-nth.result c.in-Ok.here c.find_piece-nth.ensures c.index.result.now c.index.ensures c.in-Ok.ensures
    c.index_mut.result.now c.index_mut.ensures.value made c.set.new.self c.set.ensures es c.self.view_is in (
      Some made,
      subst (λ (x : g.row.T.Denot). g.F.Fn.post c.args.change.now (x, tt) (Some made)) is c.in-Some.ensures,
      entries,
      ap (found row) entries ∙ found-with es row made row ∙ ap (λ b. cond b (Some made) (found row es)) (itself row),
    )

-- ---- it stands there, and is taken out

pub invariant_of-self-in-None : goal.invariant_of-self-in-None
invariant_of-self-in-None g c =
    let ls = c.self.inside.pieces.items in
    let at = c.find_piece-nth.ensures in
    counted_less c.args.row.now ls c.take_from.new.pieces.items c.find_piece-nth.result c.in-Ok.here c.self.inside.len c.self.invariant at
    (here c.args.row.now ls c.find_piece-nth.result c.in-Ok.here at c.index.result.now c.index.ensures c.in-Ok.ensures) c.take_from.ensures.all c.take_from.ensures.some

pub returns-in-None-clause-gives : goal.returns-in-None-clause-gives
returns-in-None-clause-gives g c =
    stands c.args.row.now c.self.inside.pieces.items c.find_piece-nth.result c.in-Ok.here c.find_piece-nth.ensures c.index.result.now c.index.ensures c.in-Ok.ensures
    c.index-in-Ok.result.now c.index-in-Ok.ensures c.get-stood.result.0.now c.get-stood.result.1 c.get-stood.ensures c.args.self.now c.self.view_is

pub returns-in-None-clause-new : goal.returns-in-None-clause-new
returns-in-None-clause-new g c = λ none. none_there (found c.args.row.now c.args.self.now) c.get-stood.result.1 none (sym (returns-in-None-clause-gives g c))

pub returns-in-None-clause-there : goal.returns-in-None-clause-there
returns-in-None-clause-there g c = λ old h.
    let row = c.args.row.now in
    let es = c.args.self.now in
    let same : Some c.get-stood.result.1 ≡ Some old = returns-in-None-clause-gives g c ∙ h in
    let is : c.get-stood.result.1 ≡ old = cc in
    let entries : all_of c.take_from.new.pieces.items ≡ without_entry es row =
    taken row c.self.inside.pieces.items c.find_piece-nth.result c.in-Ok.here c.find_piece-nth.ensures c.index.result.now c.index.ensures c.in-Ok.ensures
    c.take_from.new.pieces.items c.take_from.ensures.all es c.self.view_is in
    let rising = subst (λ (zs : List (Row × g.row.T.Denot)). AreRisingRows zs) c.self.view_is c.self.invariant.pieces.rising in (
      None,
      subst (λ (x : g.row.T.Denot). g.F.Fn.post c.args.change.now (x, tt) None) is c.in-None.ensures,
      entries,
      ap (found row) entries ∙ gone_without row es rising,
    )

-- ---- it stands nowhere

pub invariant_of-self-in-Err : goal.invariant_of-self-in-Err
invariant_of-self-in-Err g c =
    let ls = c.self.inside.pieces.items in
    let at = c.find_piece-nth.ensures in
    let small : c.self.inside.len + 1 < 2 ^ 63 = omega arith in
    counted_new c.args.row.now c.args.value ls c.put.new.pieces.items c.find_piece-nth.result c.in-Err.place c.self.inside.len c.self.invariant at
    (gap c.args.row.now ls c.find_piece-nth.result c.in-Err.place at c.index.result.now c.index.ensures c.in-Err.ensures) c.in_ok-put-in-Err.ensures.ok c.in_ok-put-in-Err.ensures.some small

pub returns-in_ok-put-in-Err-clause-gives : goal.returns-in_ok-put-in-Err-clause-gives
returns-in_ok-put-in-Err-clause-gives g c =
    sym (nowhere c.args.row.now c.self.inside.pieces.items c.find_piece-nth.result c.in-Err.place c.find_piece-nth.ensures c.index.result.now c.index.ensures
    c.in-Err.ensures c.self.invariant.pieces.rising c.args.self.now c.self.view_is)

pub returns-in_ok-put-in-Err-clause-new : goal.returns-in_ok-put-in-Err-clause-new
returns-in_ok-put-in-Err-clause-new g c = λ _.
    let ls = c.self.inside.pieces.items in
    let at = c.find_piece-nth.ensures in
    let row = c.args.row.now in
    c.in_ok-put-in-Err.ensures.ok
    ∙ sym (with_new row ls c.find_piece-nth.result c.in-Err.place at (gap row ls c.find_piece-nth.result c.in-Err.place at c.index.result.now c.index.ensures c.in-Err.ensures) c.args.value)
    ∙ ap (λ (es : List (Row × g.row.T.Denot)). with_entry es row c.args.value) c.self.view_is

pub returns-in_ok-put-in-Err-clause-there : goal.returns-in_ok-put-in-Err-clause-there
returns-in_ok-put-in-Err-clause-there g c = λ old h. none_there (found c.args.row.now c.args.self.now) old (sym (returns-in_ok-put-in-Err-clause-gives g c)) h

pub returns-then-self-ge-LARGEST-clause-memory : goal.returns-then-self-ge-LARGEST-clause-memory
returns-then-self-ge-LARGEST-clause-memory g c =
    nowhere c.args.row.now c.self.inside.pieces.items c.find_piece-nth.result c.in-Err.place c.find_piece-nth.ensures c.index.result.now c.index.ensures
    c.in-Err.ensures c.self.invariant.pieces.rising c.args.self.now c.self.view_is

pub returns-then-self-ge-LARGEST-clause-there : goal.returns-then-self-ge-LARGEST-clause-there
returns-then-self-ge-LARGEST-clause-there g c = λ old h. none_there (found c.args.row.now c.args.self.now) old (returns-then-self-ge-LARGEST-clause-memory g c) h

pub returns-in_err-put-in-Err-clause-memory : goal.returns-in_err-put-in-Err-clause-memory
returns-in_err-put-in-Err-clause-memory g c =
    on_err c.from_residual-in_err-put-in-Err.result (found c.args.row.now c.args.self.now ≡ None)
    (nowhere c.args.row.now c.self.inside.pieces.items c.find_piece-nth.result c.in-Err.place c.find_piece-nth.ensures c.index.result.now c.index.ensures
    c.in-Err.ensures c.self.invariant.pieces.rising c.args.self.now c.self.view_is)

pub returns-in_err-put-in-Err-clause-there : goal.returns-in_err-put-in-Err-clause-there
returns-in_err-put-in-Err-clause-there g c = λ old h. none_there (found c.args.row.now c.args.self.now) old
    (nowhere c.args.row.now c.self.inside.pieces.items c.find_piece-nth.result c.in-Err.place c.find_piece-nth.ensures c.index.result.now c.index.ensures
    c.in-Err.ensures c.self.invariant.pieces.rising c.args.self.now c.self.view_is) h
