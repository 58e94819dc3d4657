use Rattle.std.proofs.Common.{◌∙◌, ap, sym, subst, arith, ℤ, slice_set, to_z-of_z, rules, FitsSigned}
use mir.Syntax.{w64}
use Rattle.wh_versions.specs.Rows.{with_pair}
use Rattle.wh_versions.specs.Inner.Rows.{AreStored, pairs_of}
use Rattle.wh_versions.proofs.PlaceLaws.{pushed}
use Rattle.wh_versions.proofs.row.VersionRow.with.Goals as goal

pub invariant_of-result-2 : goal.invariant_of-result-2
invariant_of-result-2 g c =
    let f : FitsSigned w64 c.args.count = search rules in
    let h = pushed g.row.N c.self.inside.numbers c.copy_within.new.self c.self.inside.counts c.copy_within-2.new.self c.args.version c.args.count c.self.invariant c.requires (omega arith) c.if-begins_with.ensures c.copy_within.ensures.after c.copy_within-2.ensures.after in
    subst (λ (z : ℤ). AreStored g.row.N (slice_set c.copy_within.new.self 0 c.args.version) (slice_set c.copy_within-2.new.self 0 z)) (sym (to_z-of_z f)) h.stored

pub returns : goal.returns
returns g c =
    let f : FitsSigned w64 c.args.count = search rules in
    let h = pushed g.row.N c.self.inside.numbers c.copy_within.new.self c.self.inside.counts c.copy_within-2.new.self c.args.version c.args.count c.self.invariant c.requires (omega arith) c.if-begins_with.ensures c.copy_within.ensures.after c.copy_within-2.ensures.after in
    ap (λ z. pairs_of (slice_set c.copy_within.new.self 0 c.args.version) (slice_set c.copy_within-2.new.self 0 z)) (to_z-of_z f)
    ∙ h.pairs
    ∙ ap (with_pair g.row.N c.args.version c.args.count) c.self.view_is
