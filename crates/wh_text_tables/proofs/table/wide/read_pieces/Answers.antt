use Rattle.std.proofs.Common.{IfSome}
use Rattle.std.proofs.lemmas.Option.{IfSome_then}
use Rattle.wh_text.specs.Columns.{kinds_of}
use Rattle.wh_text_tables.specs.Inner.Pieces.{IsPieceRead}
use Rattle.wh_text_tables.specs.Records.{records_of}
use Rattle.wh_text_tables.proofs.PieceLaws.{all-there}
use Rattle.wh_threads.proofs.Answers.{each-answers}
use Rattle.wh_text_tables.proofs.table.wide.read_pieces.Goals as goal

pub returns : goal.returns
returns g c =
    let count = c.args.layout.counting in
    let kinds = kinds_of c.args.reader.now.columns.now in
    let width = c.args.layout.width in
    let answers = c.in-Ok.answers.items in
    let each = each-answers _ _ (λ text answer. IfSome answer (λ read. IsPieceRead count kinds width (records_of text.now) read.dict read.counted)) (λ lent answer met. met) c.args.texts.now answers c.in-Ok.ensures.answers in
    IfSome_then c.all_of.result c.all_of.ensures (λ all is.
    all-there (λ text read. IsPieceRead count kinds width (records_of text.now) read.dict read.counted) c.args.texts.now answers all.items each is)
