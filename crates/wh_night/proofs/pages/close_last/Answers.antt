use Rattle.std.proofs.Common.{rules, ◌≡◌, ◌≢◌, sym, ap, subst, [], length, map, None, arith}
use Rattle.wh_row.specs.Stored.{plain}
use Rattle.wh_store.specs.Operations.{Writes}
use Rattle.wh_carry.proofs.Lengths.{plain_length}
use Rattle.wh_carry.proofs.Pages.{last_page, no_rows}
use Rattle.wh_night.specs.Tonight.{goes_out}
use Rattle.wh_night.specs.Inner.Underway.{IsPartly}
use Rattle.wh_night.proofs.Outs.{nothing_out, on_err_so, on_ok}
use Rattle.wh_night.proofs.pages.close_last.Goals as goal

pub returns-then-len-eq0-clause-out : goal.returns-then-len-eq0-clause-out
returns-then-len-eq0-clause-out g c =
    let none : length c.args.page.now.items ≡ 0 = search rules in
    subst (λ pages. g.P.Publish.kept c.args.writer.now ≡ goes_out (g.P.Publish.kept c.args.writer.now) (map (Writes c.args.view) pages) None) (sym (no_rows c.args.pages.now.keys c.args.page.now.items none))
    (nothing_out (g.P.Publish.kept c.args.writer.now) c.requires.takes.free)

pub returns-clause-out : goal.returns-clause-out
returns-clause-out g c =
    let l = plain_length c.args.page.now.items in
    let few = c.requires.few in
    let some : plain c.args.page.now.items ≢ [] = λ e. let k = ap length e in let no = c.if-len-eq0.false in omega (arith, k, l, no) in
    on_ok _ _ c.publish_page.result
    (λ out. subst (λ pages. g.P.Publish.kept c.publish_page.new.writer ≡ goes_out (g.P.Publish.kept c.args.writer.now) (map (Writes c.args.view) pages) None)
    (sym (last_page c.args.pages.now.keys (plain c.args.page.now.items) (omega (arith, l, few)) some)) out)
    c.publish_page.ensures.out

pub returns-clause-err : goal.returns-clause-err
returns-clause-err g c =
    let l = plain_length c.args.page.now.items in
    let few = c.requires.few in
    let some : plain c.args.page.now.items ≢ [] = λ e. let k = ap length e in let no = c.if-len-eq0.false in omega (arith, k, l, no) in
    on_err_so _ _ c.publish_page.result
    (λ partly. subst (λ pages. IsPartly (g.P.Publish.kept c.args.writer.now) (map (Writes c.args.view) pages) (g.P.Publish.kept c.publish_page.new.writer))
    (sym (last_page c.args.pages.now.keys (plain c.args.page.now.items) (omega (arith, l, few)) some)) (partly []))
    c.publish_page.ensures.err
