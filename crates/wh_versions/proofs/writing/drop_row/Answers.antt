use Rattle.std.proofs.Common.{◌≡◌, ◌-◌, ap, sym, refl, rules, None, Some, cond, true, false}
use Rattle.wh_pieces.specs.Pieces.{found}
use Rattle.wh_versions.specs.Rows.{is_unread}
use Rattle.wh_versions.specs.Inner.Tables.{begun}
use Rattle.wh_versions.proofs.TouchLaws.{dropped, unchanged}
use Rattle.wh_versions.proofs.writing.drop_row.Goals as goal

pub returns-in_default : goal.returns-in_default
returns-in_default g c =
    let none : found c.args.row.now c.args.rows.now ≡ None = search rules in
    unchanged (begun g.row.N c.args.version) c.args.row.now c.args.rows.now None none refl

pub returns-then-is_unread : goal.returns-then-is_unread
returns-then-is_unread g c =
    let t : is_unread (g.row.N - 1) c.args.version c.in-Some.old ≡ true = search rules in
    dropped (begun g.row.N c.args.version) c.args.row.now c.args.rows.now (Some c.in-Some.old) (sym c.in-Some.ensures) c.remove.new.self (ap (λ b. cond b None (Some c.in-Some.old)) t) c.remove.ensures.entries c.remove.ensures.gone

pub returns-else-is_unread : goal.returns-else-is_unread
returns-else-is_unread g c =
    let t : is_unread (g.row.N - 1) c.args.version c.in-Some.old ≡ false = search rules in
    unchanged (begun g.row.N c.args.version) c.args.row.now c.args.rows.now (Some c.in-Some.old) (sym c.in-Some.ensures) (ap (λ b. cond b None (Some c.in-Some.old)) t)
