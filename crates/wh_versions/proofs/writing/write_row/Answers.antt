use Rattle.std.proofs.Common.{rules, FitsSigned}
use mir.Syntax.{w64}
use Rattle.wh_versions.specs.Rows.{with_pair}
use Rattle.wh_versions.proofs.TouchLaws.{made_there}
use Rattle.wh_versions.proofs.writing.write_row.Goals as goal

pub returns : goal.returns
returns g c =
    let fits : FitsSigned w64 c.args.count = search rules in
    made_there (with_pair g.row.N c.args.version c.args.count) c.args.row.now c.args.rows.now c.insert_or.new.self c.requires.there (λ ps e. let t = c.in-Ok.ensures.there ps e in (t.0, search (rules, t.1, fits), t.2))
