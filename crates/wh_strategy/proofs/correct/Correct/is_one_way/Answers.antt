use Rattle.std.proofs.Common.{ap, ◌∙◌, subst, IsTrue, ◌↔◌}
use Rattle.wh_strategy.specs.Rules.{IsOneWay}
use Rattle.wh_strategy.proofs.correct.Correct.is_one_way.Goals as goal

pub returns : goal.returns
returns c = subst (λ list. IsTrue c.each_from_one.result ↔ IsOneWay list) (c.as_slice.ensures ∙ ap (λ j. j.list) c.self.view_is) c.each_from_one.ensures
