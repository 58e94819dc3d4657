use Rattle.std.proofs.Common.{IfSome}
use Rattle.std.proofs.lemmas.Option.{IfSome_then}
use Rattle.wh_text.specs.Columns.{kinds_of}
use Rattle.wh_text_tables.specs.Inner.Pieces.{IsRenumberedBy}
use Rattle.wh_text_tables.proofs.PieceLaws.{all-there}
use Rattle.wh_threads.proofs.Answers.{each-answers}
use Rattle.wh_text_tables.proofs.table.renumbered.renumbered_beside.Goals as goal

pub returns : goal.returns
returns g c =
    let kinds = kinds_of c.args.columns.now in
    let answers = c.in-Ok.answers.items in
    let each = each-answers _ _ (λ part answer. IfSome answer (IsRenumberedBy kinds part)) (λ lent answer met. met) c.args.parts.now answers c.in-Ok.ensures.answers in
    IfSome_then c.all_of.result c.all_of.ensures (λ all is. all-there (IsRenumberedBy kinds) c.args.parts.now answers all.items each is)
