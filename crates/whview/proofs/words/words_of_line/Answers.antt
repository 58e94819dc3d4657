use Rattle.std.proofs.Common.{lit<, not, length, rules}
use Rattle.std.specs.Prelude.{◌==◌}
use Rattle.std.proofs.lemmas.Iterator.Consumers.{YieldsList-from_filter, map_from_collect}
use Rattle.std.proofs.lemmas.Iterator.Splits.{YieldsList-from_str_split}
use Rattle.whview.proofs.words.words_of_line.Goals as goal

pub returns : goal.returns
returns c =
    let line = c.args.line.now in
    map_from_collect _ c.collect.ensures.ran
    (YieldsList-from_filter _ (λ word. not (length word == 0))
    (YieldsList-from_str_split 32 line (lit< tt) (search rules) (search rules) (search rules)) c.filter.ensures.closure
    (λ x b q k. search rules))
