use Rattle.std.proofs.lemmas.Option.{IfSome_then}
use Rattle.wh_text.specs.Columns.{kinds_of}
use Rattle.wh_text_tables.proofs.PieceLaws.{parts-same}
use Rattle.wh_text_tables.proofs.table.renumbered.renumbered_parts.Goals as goal

pub returns-else-have_texts : goal.returns-else-have_texts
returns-else-have_texts g c =
    IfSome_then c.as_read.result c.as_read.ensures (λ all is. rw is (parts-same (kinds_of c.args.columns.now) c.args.parts.items (c.have_texts.ensures c.if-have_texts.false)))
