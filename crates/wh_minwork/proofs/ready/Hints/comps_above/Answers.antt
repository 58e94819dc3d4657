use Rattle.std.proofs.Common.{◌∙◌, inl, inr}
use Rattle.std.proofs.lemmas.Bool.{or_left, or_right}
use Rattle.wh_minwork.proofs.ready.Hints.comps_above.Goals as goal

pub returns-in-Some-clause-done : goal.returns-in-Some-clause-done
returns-in-Some-clause-done c = inl (_, c.in-Some.ensures.1)

pub returns-in-None-clause-more : goal.returns-in-None-clause-more
returns-in-None-clause-more c a s = c.join.ensures a ∙ or_left _ _ s

pub returns-in-None-clause-done : goal.returns-in-None-clause-done
returns-in-None-clause-done c = inr (λ a s. c.join.ensures a ∙ or_right _ _ s)
