use Rattle.std.proofs.Common.{rules, ◌≤◌, length, subst}
use Rattle.wh_text_bundle.specs.Files.{HasNoFiled}
use Rattle.whview.proofs.FilledBundles.{as_it_is}
use Rattle.whview.proofs.files.bundle_in.Goals as goal

pub returns-then-is_none-clause-ok : goal.returns-then-is_none-clause-ok
returns-then-is_none-clause-ok g c =
    let fits : length c.in_ok-bundle.bundle.items ≤ c.args.from.now.limit = search rules in
    let none : HasNoFiled c.in_ok-bundle.bundle.items = subst HasNoFiled c.deref.ensures.value (search rules) in
    as_it_is c.args.from.now.limit c.in_ok-bundle.bundle.items fits none
