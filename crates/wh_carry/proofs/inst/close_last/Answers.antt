use Rattle.std.proofs.Common.{rules, ◌≡◌, ◌≢◌, sym, ap, subst, [], length, arith}
use Rattle.wh_row.specs.Stored.{plain}
use Rattle.wh_carry.specs.Inner.Standing.{PutsPages}
use Rattle.wh_carry.proofs.Lengths.{plain_length}
use Rattle.wh_carry.proofs.Pages.{last_page, no_rows, puts_none}
use Rattle.wh_carry.proofs.inst.close_last.Goals as goal

pub returns-then-len-eq0 : goal.returns-then-len-eq0
returns-then-len-eq0 c =
    let none : length c.args.page.now.items ≡ 0 = search rules in
    subst (λ pages. PutsPages c.args.view pages c.args.parts.now.items c.args.parts.now.items) (sym (no_rows c.args.keys c.args.page.now.items none)) (puts_none c.args.view c.args.parts.now.items)

pub returns : goal.returns
returns c =
    let l = plain_length c.args.page.now.items in
    let some : plain c.args.page.now.items ≢ [] = λ e. let k = ap length e in let no = c.if-len-eq0.false in omega (arith, k, l, no) in
    subst (λ pages. PutsPages c.args.view pages c.args.parts.now.items c.close_page.new.parts.items) (sym (last_page c.args.keys (plain c.args.page.now.items) (omega arith) some)) c.in_ok-close_page.ensures.puts
