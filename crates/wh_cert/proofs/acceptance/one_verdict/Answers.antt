use Rattle.wh_cert.proofs.OneVerdict.{verdicts_same}
use Rattle.wh_cert.proofs.acceptance.one_verdict.Goals as goal

pub returns : goal.returns
returns c shape sizes prices work certificate verdict other a b = verdicts_same shape sizes prices work certificate verdict other a b
