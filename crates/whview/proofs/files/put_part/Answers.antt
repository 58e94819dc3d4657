use Rattle.std.proofs.Common.{rules, ◌≡◌, ◌<◌, ◌≤◌, ◌+◌, ◌-◌, ◌++◌, ap, length}
use Rattle.std.specs.Prelude.{Err}
use Rattle.wh_text_bundle.specs.declared.read.ReadFault.TheVariants.{TooLong}
use Rattle.whview.proofs.FilledBundles.{heading_line, long_file, long_heading, same_fault}
use Rattle.whview.proofs.files.put_part.Goals as goal

pub returns-then-len-limit-clause-too_long : goal.returns-then-len-limit-clause-too_long
returns-then-len-limit-clause-too_long g c e =
    let is : c.put_heading.new.all.items ≡ c.args.all.now.items ++ heading_line c.args.heading.now = search rules in
    let long : c.args.limit < length c.put_heading.new.all.items = search rules in
    long_heading (g.R.Source.remaining c.args.file.now) c.args.limit c.args.all.now.items c.args.heading.now c.put_heading.new.all.items is long

pub returns-in_err-bytes-clause-too_long : goal.returns-in_err-bytes-clause-too_long
returns-in_err-bytes-clause-too_long g c e =
    let is : c.put_heading.new.all.items ≡ c.args.all.now.items ++ heading_line c.args.heading.now = search rules in
    let left : c.args.limit ≤ (c.args.limit - c.len-2.result) + length c.put_heading.new.all.items = search rules in
    let same : c.in_err-bytes.field-0.0 ≡ TooLong = same_fault c.from_residual.result c.in_err-bytes.field-0.0 TooLong c.from_residual.ensures e in
    long_file (g.R.Source.remaining c.args.file.now) c.args.limit (c.args.limit - c.len-2.result) c.args.all.now.items c.args.heading.now c.put_heading.new.all.items is left
    (c.in_err-bytes.ensures.too_long (ap (λ x. Err x) same))
