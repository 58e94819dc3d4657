use Rattle.std.proofs.Common.{rules, ◌≡◌, ◌∙◌, ap, false}
use Rattle.std.specs.Prelude.{is_some}
use Rattle.wh_core.specs.Tables.{sizes_of}
use Rattle.wh_core.proofs.TableSizes.{kept_newest, where_ok}
use Rattle.wh_core.proofs.machine.Machine.sizes.Goals as goal

pub returns-in-Some : goal.returns-in-Some
returns-in-Some c =
    let m = c.args.self.now in
    let idle : is_some m.store.draft ≡ false = search rules in
    where_ok c.sizes_of.result _ _ c.sizes_of.ensures (λ sizes same s log h. same ∙ ap sizes_of (c.deref.ensures.value ∙ kept_newest s log m h c.in-Some.tables c.in-Some.is idle))
