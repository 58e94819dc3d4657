use Rattle.std.proofs.Common.{◌≡◌, ◌-◌, ◌+◌, ◌∙◌, ap, sym, arith, rules, of_z, FitsSigned}
use mir.Syntax.{w64}
use Rattle.wh_versions.specs.Rows.{read}
use Rattle.wh_versions.proofs.PlaceLaws.{is_none}
use Rattle.wh_versions.proofs.TableLaws.{not_unread, unread_more}
use Rattle.wh_versions.proofs.row.VersionRow.is_unread.Goals as goal

pub returns-then-read-ne0 : goal.returns-then-read-ne0
returns-then-read-ne0 g c =
    let at = c.read.ensures ∙ ap (λ s. read s c.args.self) c.saturating_sub.ensures in
    sym (not_unread (g.row.N - 1) c.loop-back.back c.args.night c.args.self c.loop-back.auto.back (omega arith) (λ e. c.if-read-ne0.true (ap (of_z w64) (at ∙ e))))

pub loop-back-preserved : goal.loop-back-preserved
loop-back-preserved g c =
    let fits : FitsSigned w64 c.read.result = search rules in
    let at = c.read.ensures ∙ ap (λ s. read s c.args.self) c.saturating_sub.ensures in
    let same : c.loop-back.back + 1 - 1 ≡ c.loop-back.back = omega arith in
    unread_more (c.loop-back.back - 1) (c.loop-back.back + 1 - 1) c.args.night c.args.self (omega arith) c.loop-back.invariant
    (ap (λ k. read (c.args.night - k) c.args.self) same ∙ sym at ∙ is_none c.read.result fits c.if-read-ne0.false)
