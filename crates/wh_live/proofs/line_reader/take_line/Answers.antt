use Rattle.std.proofs.Common.{ap, ◌∙◌}
use Rattle.wh_live.proofs.HandedOut.{line_found, line_goes_on}
use Rattle.wh_live.proofs.line_reader.take_line.Goals as goal

pub returns-in_ok-extend_from_slice-in-Some-clause-ok : goal.returns-in_ok-extend_from_slice-in-Some-clause-ok
returns-in_ok-extend_from_slice-in-Some-clause-ok c =
    line_found _ _ _ _ _ _ c.in-Some.place c.requires c.left-left.ensures c.in-Some.ensures (ap (λ v. v.items) c.replace.ensures.value ∙ c.in_ok-extend_from_slice-in-Some.ensures.items)
    (ap (λ v. v.items) c.replace.ensures.after ∙ c.new.ensures.items) c.take.ensures

pub returns-in_ok-extend_from_slice-in-None-clause-begun : goal.returns-in_ok-extend_from_slice-in-None-clause-begun
returns-in_ok-extend_from_slice-in-None-clause-begun c = line_goes_on _ _ _ c.requires c.in-None.ensures c.in_ok-extend_from_slice-in-None.ensures.items
