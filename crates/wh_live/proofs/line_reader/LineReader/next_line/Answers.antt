use Rattle.std.proofs.Common.{◌++◌, OnErr, subst}
use Rattle.std.specs.Io.KnownBytes.{Keeps, prepend_known}
use Rattle.wh_live.proofs.line_reader.LineReader.next_line.Goals as goal

pub returns-clause-err : goal.returns-clause-err
returns-clause-err g c =
    let read = c.read_line in
    subst (λ held. OnErr read.result (Keeps (prepend_known held (g.R.Source.remaining c.args.source.now)) (prepend_known (read.new.begun.items ++ read.new.block) (g.R.Source.remaining read.new.source))))
    c.self.view_is read.ensures.err
