use Rattle.std.proofs.Common.{subst, sym}
use Rattle.wh_carry.proofs.HandedOn.{handed_on}
use Rattle.whview.specs.BundleFiles.{AreFilled}
use Rattle.whview.specs.Inner.LiveOutput.{IsFaultOfOpening}
use Rattle.whview.proofs.Opened.{files_fault, opening_fault}
use Rattle.whview.proofs.live.opening_of.Goals as goal

pub returns-in_err-bytes-clause-err : goal.returns-in_err-bytes-clause-err
returns-in_err-bytes-clause-err g c =
    handed_on (IsFaultOfOpening c.args.from.now.limit) c.from_residual.result c.in_err-bytes.field-0.0 c.from_residual.ensures (files_fault c.args.from.now.limit c.in_err-bytes.field-0.0 c.in_err-bytes.ensures.err)

pub returns-in-Ok-clause-ok : goal.returns-in-Ok-clause-ok
returns-in-Ok-clause-ok g c =
    record { bytes = c.deref.result.now; had = subst (AreFilled c.args.from.now.limit) (sym c.deref.ensures.value) c.in_ok-bytes.ensures.ok; read = c.in-Ok.ensures.ok }

pub returns-clause-err : goal.returns-clause-err
returns-clause-err g c =
    opening_fault c.args.from.now.limit c.deref.result.now c.in-Err.fault (subst (AreFilled c.args.from.now.limit) (sym c.deref.ensures.value) c.in_ok-bytes.ensures.ok) c.in-Err.ensures.err
