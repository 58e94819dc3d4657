use Rattle.std.proofs.Common.{rules, tests, ◌∙◌, ap}
use Rattle.std.proofs.lemmas.Iterator.Consumers.{map_from_collect, YieldsList-from_filter}
use Rattle.std.proofs.lemmas.Iterator.Splits.{YieldsList-from_slice_split}
use Rattle.wh_text.specs.Line.{is_blank}
use Rattle.wh_text_lines.specs.Words.{is_word}
use Rattle.wh_text_lines.proofs.words.words_of.Goals as goal

pub returns : goal.returns
returns c =
    let at = c.filter.ensures.source in
    map_from_collect _ c.collect.ensures.ran
    (YieldsList-from_filter _ is_word
    (YieldsList-from_slice_split _ is_blank c.args.line.now (ap (λ s. s.rest.now) at ∙ c.split.ensures.rest) (ap (λ s. s.done) at ∙ c.split.ensures.done) (ap (λ s. s.pred) at ∙ c.split.ensures.closure) (λ x b q k. search (rules, tests)))
    c.filter.ensures.closure (λ x b q k. search (rules, tests)))
