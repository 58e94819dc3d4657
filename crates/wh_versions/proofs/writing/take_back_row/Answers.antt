use Rattle.std.proofs.Common.{◌≡◌, ap, sym, refl, rules, None, Some}
use Rattle.wh_pieces.specs.Pieces.{found}
use Rattle.wh_versions.specs.Tables.{given_up}
use Rattle.wh_versions.proofs.TouchLaws.{changed, unchanged}
use Rattle.wh_versions.proofs.writing.take_back_row.Goals as goal

pub returns-in_default : goal.returns-in_default
returns-in_default g c =
    let none : found c.args.row.now c.args.rows.now ≡ None = search rules in
    unchanged (given_up c.args.version) c.args.row.now c.args.rows.now None none refl

pub returns : goal.returns
returns g c = changed (given_up c.args.version) c.args.row.now c.args.rows.now (Some c.in-Some.old) (sym c.in-Some.ensures) c.insert.new.self c.without.result (ap Some (sym c.without.ensures)) c.in-Ok.ensures.ok
