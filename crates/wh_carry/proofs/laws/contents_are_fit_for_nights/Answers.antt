use Rattle.wh_carry.proofs.FitNights.{contents_are_fit_for_nights}
use Rattle.wh_carry.proofs.laws.contents_are_fit_for_nights.Goals as goal

pub returns : goal.returns
returns c = contents_are_fit_for_nights
