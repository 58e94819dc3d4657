use Rattle.std.proofs.Common.{refl}
use Rattle.wh_text_lines.proofs.plan.line.pair_in.Goals as goal

pub returns : goal.returns
returns c =
    rw (c.pair_from.ensures, c.position.ensures, c.position-2.ensures, c.position-3.ensures, c.natural.ensures, c.word_at.ensures, c.word_at-2.ensures, c.word_at-3.ensures, c.word_at-4.ensures) refl
