use Rattle.std.proofs.Common.{rules, ◌≡◌, refl, sym, ap, ◌∙◌, ℤ, List, [], ◌∷◌, ◌++◌, length, map, arith}
use Rattle.std.proofs.lemmas.List.{append-nil, append_assoc}
use Rattle.wh_row.specs.Bag.{count, written}
use Rattle.wh_row.specs.Row.{Row}
use Rattle.wh_row.specs.Stored.{plain}
use Rattle.wh_row.specs.Weigh.{Counted}
use Rattle.wh_store.specs.Operations.{Writes}
use Rattle.wh_carry.specs.NightList.{pages_of}
use Rattle.wh_store.specs.Ledgers.{Ledger}
use Rattle.wh_carry.proofs.Growing.{longer}
use Rattle.wh_carry.proofs.Lengths.{plain_length}
use Rattle.wh_night.proofs.Outs.{on_err, on_err_so, on_ok, out_pages, partly_none, partly_pages}
use Rattle.wh_night.proofs.Taken.{full_good, last_good, takes_more}
use Rattle.wh_night.proofs.pages.publish_change.Goals as goal

pub returns-in_err-make_room-clause-err : goal.returns-in_err-make_room-clause-err
returns-in_err-make_room-clause-err g c =
    let i = c.loop-row.invariant.told in
    let rest : Counted = map {A = List ℤ × ℤ} {B = Row × ℤ} (λ e. (e.0, count c.args.table.now e.0)) c.loop-row.row-iterator in
    on_err _ c.from_residual.result
    (partly_pages (g.P.Publish.kept c.args.writer.now) (g.P.Publish.kept c.loop-row.writer) (g.P.Publish.kept c.make_room.new.writer) c.args.view i.0 (pages_of c.args.pages.now.keys (plain c.loop-row.page.items ++ rest)) _ i.1 i.2
    (c.in_err-make_room.ensures.err rest))

pub loop-row-preserved : goal.loop-row-preserved
loop-row-preserved g c =
    let f : List ℤ × ℤ → Row × ℤ = λ e. (e.0, count c.args.table.now e.0) in
    let e : List ℤ × ℤ = (c.in-Some.row.now, c.in-Some.field-0-1) in
    let it : c.loop-row.row-iterator ≡ e ∷ c.next.new.self = search rules in
    let i = c.loop-row.invariant.told in
    let m = c.in_ok-make_room.ensures.out in
    let kept : Counted = plain c.make_room.new.page.items in
    let rest : Counted = map f c.next.new.self in
    let page : plain c.put_row.new.page.items ≡ kept ++ f e ∷ [] = c.in_ok-put_row.ensures in
    let after : plain c.put_row.new.page.items ++ rest ≡ kept ++ map f c.loop-row.row-iterator =
    ap (λ ps. ps ++ rest) page ∙ append_assoc kept (f e ∷ []) rest ∙ ap (λ es. kept ++ map f es) (sym it) in
    record {
      home = c.in_ok-make_room.ensures.home ∙ c.loop-row.invariant.home;
      refused_ends = c.in_ok-make_room.ensures.refused_ends ∙ c.loop-row.invariant.refused_ends;
      few =
          let room = c.in_ok-make_room.ensures.room in
          let old = plain_length c.make_room.new.page.items in
          let new = plain_length c.put_row.new.page.items in
          let l = longer kept (f e) in
          let k = ap length page in
          omega (arith, room, old, new, l, k);
      told = (
        i.0 ++ m.pages,
        out_pages (g.P.Publish.kept c.args.writer.now) (g.P.Publish.kept c.loop-row.writer) (g.P.Publish.kept c.make_room.new.writer) c.args.view i.0 m.pages (i.0 ++ m.pages) i.1 refl m.out,
        append_assoc i.0 m.pages (pages_of c.args.pages.now.keys (plain c.put_row.new.page.items ++ rest))
            ∙ ap (λ ps. i.0 ++ ps) (ap (λ rows. m.pages ++ pages_of c.args.pages.now.keys rows) after ∙ m.cut (map f c.loop-row.row-iterator)) ∙ i.2,
      );
    }

pub returns-in_err-put_row-clause-err : goal.returns-in_err-put_row-clause-err
returns-in_err-put_row-clause-err g c =
    let i = c.loop-row.invariant.told in
    let m = c.in_ok-make_room.ensures.out in
    let l : Ledger = g.P.Publish.kept c.args.writer.now in
    let mid : Ledger = g.P.Publish.kept c.make_room.new.writer in
    let rest : Counted = map {A = List ℤ × ℤ} {B = Row × ℤ} (λ e. (e.0, count c.args.table.now e.0)) c.loop-row.row-iterator in
    let more : List Counted = pages_of c.args.pages.now.keys (plain c.make_room.new.page.items ++ rest) in
    on_err _ c.from_residual-in_err-put_row.result
    (partly_pages l mid mid c.args.view (i.0 ++ m.pages) more _
    (out_pages l (g.P.Publish.kept c.loop-row.writer) mid c.args.view i.0 m.pages (i.0 ++ m.pages) i.1 refl m.out)
    (append_assoc i.0 m.pages more ∙ ap (λ ps. i.0 ++ ps) (m.cut rest) ∙ i.2)
    (partly_none mid (map (Writes c.args.view) more) (ap (λ (x : Ledger). x.held) m.out)))

pub returns-clause-err : goal.returns-clause-err
returns-clause-err g c =
    let i = c.loop-row.invariant.told in
    let f : List ℤ × ℤ → Row × ℤ = λ e. (e.0, count c.args.table.now e.0) in
    let none : c.loop-row.row-iterator ≡ [] = search rules in
    let whole : i.0 ++ pages_of c.args.pages.now.keys (plain c.loop-row.page.items) ≡ pages_of c.args.pages.now.keys (map f (written c.args.change.now)) =
    ap (λ rows. i.0 ++ pages_of c.args.pages.now.keys rows) (sym (append-nil (plain c.loop-row.page.items)) ∙ ap (λ es. plain c.loop-row.page.items ++ map f es) (sym none)) ∙ i.2 in
    on_err_so _ _ c.close_last.result
    (λ partly. partly_pages (g.P.Publish.kept c.args.writer.now) (g.P.Publish.kept c.loop-row.writer) (g.P.Publish.kept c.close_last.new.writer) c.args.view i.0 (pages_of c.args.pages.now.keys (plain c.loop-row.page.items)) _ i.1 whole partly)
    c.close_last.ensures.err

pub returns-clause-out : goal.returns-clause-out
returns-clause-out g c =
    let i = c.loop-row.invariant.told in
    let f : List ℤ × ℤ → Row × ℤ = λ e. (e.0, count c.args.table.now e.0) in
    let none : c.loop-row.row-iterator ≡ [] = search rules in
    let whole : i.0 ++ pages_of c.args.pages.now.keys (plain c.loop-row.page.items) ≡ pages_of c.args.pages.now.keys (map f (written c.args.change.now)) =
    ap (λ rows. i.0 ++ pages_of c.args.pages.now.keys rows) (sym (append-nil (plain c.loop-row.page.items)) ∙ ap (λ es. plain c.loop-row.page.items ++ map f es) (sym none)) ∙ i.2 in
    on_ok _ _ c.close_last.result
    (λ out. out_pages (g.P.Publish.kept c.args.writer.now) (g.P.Publish.kept c.loop-row.writer) (g.P.Publish.kept c.close_last.new.writer) c.args.view i.0 (pages_of c.args.pages.now.keys (plain c.loop-row.page.items)) _ i.1 whole out)
    c.close_last.ensures.out

pub make_room-requires-clause-takes : goal.make_room-requires-clause-takes
make_room-requires-clause-takes g c =
    let i = c.loop-row.invariant.told in
    takes_more (g.P.Publish.kept c.args.writer.now) (g.P.Publish.kept c.loop-row.writer) c.args.view i.0 c.requires.takes i.1

pub make_room-requires-clause-good : goal.make_room-requires-clause-good
make_room-requires-clause-good g c = λ full.
    let i = c.loop-row.invariant.told in
    let f : List ℤ × ℤ → Row × ℤ = λ e. (e.0, count c.args.table.now e.0) in
    let l = plain_length c.loop-row.page.items in
    full_good c.args.pages.now.keys i.0 (plain c.loop-row.page.items) (map f c.loop-row.row-iterator) (map f (written c.args.change.now)) c.requires.some c.requires.good i.2 (omega (arith, l, full))

pub close_last-requires-clause-takes : goal.close_last-requires-clause-takes
close_last-requires-clause-takes g c =
    let i = c.loop-row.invariant.told in
    takes_more (g.P.Publish.kept c.args.writer.now) (g.P.Publish.kept c.loop-row.writer) c.args.view i.0 c.requires.takes i.1

pub close_last-requires-clause-good : goal.close_last-requires-clause-good
close_last-requires-clause-good g c = λ some.
    let i = c.loop-row.invariant.told in
    let f : List ℤ × ℤ → Row × ℤ = λ e. (e.0, count c.args.table.now e.0) in
    let none : c.loop-row.row-iterator ≡ [] = search rules in
    let l = plain_length c.loop-row.page.items in
    let few = c.loop-row.invariant.few in
    let whole : i.0 ++ pages_of c.args.pages.now.keys (plain c.loop-row.page.items) ≡ pages_of c.args.pages.now.keys (map f (written c.args.change.now)) =
    ap (λ rows. i.0 ++ pages_of c.args.pages.now.keys rows) (sym (append-nil (plain c.loop-row.page.items)) ∙ ap (λ es. plain c.loop-row.page.items ++ map f es) (sym none)) ∙ i.2 in
    last_good c.args.pages.now.keys i.0 (plain c.loop-row.page.items) (map f (written c.args.change.now)) c.requires.good whole (omega (arith, l, few)) (λ e. let k = ap length e in omega (arith, k, l, some))
