use Rattle.std.proofs.Common.{subst}
use Rattle.whview.specs.BundleFiles.{AreFilled}
use Rattle.whview.specs.Inner.BundleFiles.{IsBundleFault}
use Rattle.whview.specs.Output.{IsCommandOutput}
use Rattle.whview.specs.Status.{status_number}
use Rattle.whview.proofs.IfOks.{if_ok}
use Rattle.whview.proofs.Outputs.{filled_answer, shown_fault}
use Rattle.whview.proofs.program.filled_answer.Goals as goal

pub returns-in-Ok : goal.returns-in-Ok
returns-in-Ok g c =
    if_ok c.command_answer.result _ _ c.command_answer.ensures
    (λ a is. filled_answer _ (IsCommandOutput c.args.asked.now) c.in-Ok.filled.items a.text (status_number a.status)
    (subst (λ n. AreFilled n c.in-Ok.filled.items) c.limit_of.ensures c.in-Ok.ensures.ok)
    (subst (λ bs. IsCommandOutput c.args.asked.now bs a.text (status_number a.status)) c.deref.ensures.value is))

pub returns-in-Err : goal.returns-in-Err
returns-in-Err g c =
    shown_fault c.answer.result _ (IsCommandOutput c.args.asked.now) c.in-Err.fault (subst (λ n. IsBundleFault n c.in-Err.fault) c.limit_of.ensures c.in-Err.ensures.err) c.answer.ensures.shown c.answer.ensures.told
