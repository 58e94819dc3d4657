use Rattle.std.proofs.Common.{sym, ap, ◌∙◌}
use Rattle.wh_dag.specs.Written.{number_of}
use Rattle.wh_text.proofs.Named.{no_name}
use Rattle.wh_text.proofs.names.Names.position.Goals as goal

pub returns-in-Err : goal.returns-in-Err
returns-in-Err c =
    sym (ap (λ names. number_of names c.args.word.now) (sym c.self.view_is) ∙ no_name c.self.inside.names.items c.args.word.now c.in-Err.ensures.cases.0)
