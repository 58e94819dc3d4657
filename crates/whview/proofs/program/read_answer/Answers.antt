use Rattle.whview.specs.Output.{IsCommandOutput}
use Rattle.whview.specs.Status.{status_number}
use Rattle.whview.proofs.IfOks.{if_ok}
use Rattle.whview.proofs.Outputs.{answers_within}
use Rattle.whview.proofs.program.read_answer.Goals as goal

pub returns : goal.returns
returns g c =
    if_ok c.answer_to.result _ _ c.answer_to.ensures
    (λ a is. answers_within c.limit_of.result _ c.limit_of.ensures c.read_all-read.result (λ v. v.items) (λ v. v.len) (λ v. v.ok.0) (g.R.Source.remaining c.args.input.now) (g.R.Source.faults c.args.input.now) _ (IsCommandOutput c.args.asked.now) a.text (status_number a.status)
    c.read_all-read.ensures.within c.read_all-read.ensures.bytes c.read_all-read.ensures.too_long c.read_all-read.ensures.failed c.read_all-read.ensures.faultless is)
