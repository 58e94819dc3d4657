use Rattle.std.proofs.Common.{rules}
use Rattle.wh_live.proofs.HandedOut.{kept_by_failure}
use Rattle.wh_live.proofs.line_reader.read_on.Goals as goal

pub returns-in_err-line-clause-err : goal.returns-in_err-line-clause-err
returns-in_err-line-clause-err g c =
    let kept = kept_by_failure _ _ _ _ _ _ _ c.loop-turn.invariant.kept c.in-Ok-true.ensures.bytes c.in_err-line.ensures.err.0 c.in_err-line.ensures.err.1 in
    search (rules, kept)
