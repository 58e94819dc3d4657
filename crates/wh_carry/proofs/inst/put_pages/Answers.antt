use Rattle.std.proofs.Common.{rules, ◌≡◌, sym, ap, subst, ◌∙◌, ℤ, List, [], ◌∷◌, ◌++◌, length, map, arith}
use Rattle.std.proofs.lemmas.List.{append-nil, append_assoc}
use Rattle.wh_row.specs.Bag.{count, written}
use Rattle.wh_row.specs.Row.{Row}
use Rattle.wh_row.specs.Stored.{plain}
use Rattle.wh_row.specs.Weigh.{Counted}
use Rattle.wh_carry.specs.NightList.{pages_of}
use Rattle.wh_carry.specs.Inner.Standing.{PutsPages}
use Rattle.wh_carry.proofs.Growing.{longer}
use Rattle.wh_carry.proofs.Lengths.{plain_length}
use Rattle.wh_carry.proofs.Pages.{puts_more}
use Rattle.wh_carry.proofs.inst.put_pages.Goals as goal

pub loop-row-preserved : goal.loop-row-preserved
loop-row-preserved c =
    let f : List ℤ × ℤ → Row × ℤ = λ e. (e.0, count c.args.table.now e.0) in
    let e : List ℤ × ℤ = (c.in-Some.row.now, c.in-Some.field-0-1) in
    let it : c.loop-row.row-iterator ≡ e ∷ c.next.new.self = search rules in
    let i = c.loop-row.invariant.told in
    let m = c.in_ok-make_room.ensures.puts in
    let kept : Counted = plain c.make_room.new.page.items in
    let rest : Counted = map f c.next.new.self in
    let page : plain c.put_row.new.page.items ≡ kept ++ f e ∷ [] = c.in_ok-put_row.ensures in
    let after : plain c.put_row.new.page.items ++ rest ≡ kept ++ map f c.loop-row.row-iterator =
    ap (λ ps. ps ++ rest) page ∙ append_assoc kept (f e ∷ []) rest ∙ ap (λ es. kept ++ map f es) (sym it) in
    record {
      few =
          let room = c.in_ok-make_room.ensures.room in
          let old = plain_length c.make_room.new.page.items in
          let new = plain_length c.put_row.new.page.items in
          let l = longer kept (f e) in
          let k = ap length page in
          omega (arith, room, old, new, l, k);
      told = (
        i.0 ++ m.pages,
        puts_more c.args.view i.0 m.pages c.args.parts.now.items c.loop-row.parts.items c.make_room.new.parts.items i.1 m.puts,
        append_assoc i.0 m.pages (pages_of c.args.keys (plain c.put_row.new.page.items ++ rest))
            ∙ ap (λ ps. i.0 ++ ps) (ap (λ rows. m.pages ++ pages_of c.args.keys rows) after ∙ m.cut (map f c.loop-row.row-iterator)) ∙ i.2,
      );
    }

pub returns : goal.returns
returns c =
    let i = c.loop-row.invariant.told in
    let f : List ℤ × ℤ → Row × ℤ = λ e. (e.0, count c.args.table.now e.0) in
    let none : c.loop-row.row-iterator ≡ [] = search rules in
    let whole : i.0 ++ pages_of c.args.keys (plain c.loop-row.page.items) ≡ pages_of c.args.keys (map f (written c.args.change.now)) =
    ap (λ rows. i.0 ++ pages_of c.args.keys rows) (sym (append-nil (plain c.loop-row.page.items)) ∙ ap (λ es. plain c.loop-row.page.items ++ map f es) (sym none)) ∙ i.2 in
    subst (λ pages. PutsPages c.args.view pages c.args.parts.now.items c.close_last.new.parts.items) whole
    (puts_more c.args.view i.0 (pages_of c.args.keys (plain c.loop-row.page.items)) c.args.parts.now.items c.loop-row.parts.items c.close_last.new.parts.items i.1 c.in_ok-close_last.ensures)
