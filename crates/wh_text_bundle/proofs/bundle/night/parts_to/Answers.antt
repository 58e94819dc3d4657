use Rattle.std.proofs.Common.{nat_le, rules, tests, sym}
use Rattle.std.proofs.lemmas.List.Sorted.{IsPartitionedBy-leb, IsPartitionPoint-from_clause}
use Rattle.wh_text_bundle.specs.declared.bundle.part.Part.{Part}
use Rattle.wh_text_bundle.proofs.NightLemmas.{filter-front}
use Rattle.wh_text_bundle.proofs.bundle.night.parts_to.Goals as goal

pub returns : goal.returns
returns c =
    let parts = c.args.parts.now in
    let night = c.args.night in
    let i = c.partition_point.result in
    let point = IsPartitionPoint-from_clause (λ (p : Part). nat_le p.night night) parts i c.partition_point.ensures.partitioned (IsPartitionedBy-leb (λ p. p.night) parts night c.requires) (λ a r q k. search (rules, tests)) in
    sym (filter-front (λ p. nat_le p.night night) parts i c.partition_point.ensures.bound point.0 point.1)
