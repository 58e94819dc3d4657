use Rattle.whview.specs.CommandLine.{usual_limit}
use Rattle.whview.specs.Output.{IsLineAnswer}
use Rattle.whview.specs.Status.{status_number}
use Rattle.whview.proofs.IfOks.{if_ok}
use Rattle.whview.proofs.Outputs.{answers_reading}
use Rattle.whview.proofs.program.input_answer.Goals as goal

pub returns : goal.returns
returns g c =
    if_ok c.line_answer_to.result _ _ c.line_answer_to.ensures
    (λ a is. answers_reading c.read_all-read.result (λ v. v.items) (λ v. v.len) (λ v. v.ok.0) (g.R.Source.remaining c.args.input.now) (g.R.Source.faults c.args.input.now) _ usual_limit IsLineAnswer a.text (status_number a.status)
    c.read_all-read.ensures.within c.read_all-read.ensures.bytes c.read_all-read.ensures.too_long c.read_all-read.ensures.failed c.read_all-read.ensures.faultless is)
