use Rattle.std.proofs.Common.{◌≡◌, ◌++◌, drop, map, option_map}
use Rattle.wh_text_lines.specs.ExpressionText.{views_of}
use Rattle.wh_text_lines.proofs.expression.views_of.Given as goal

abbrev pub invariant-loop-word : goal.invariant-loop-word
invariant-loop-word l = views_of l.names (map (λ word. word.now) l.words) ≡ option_map (λ views. l.views.items ++ views) (views_of l.names (map (λ word. word.now) (drop l.word-index l.words)))
