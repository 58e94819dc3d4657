use Rattle.std.proofs.Common.{nat_lt, nat_le, rules, tests, ◌∙◌, sym}
use Rattle.std.proofs.lemmas.Bool.{ltb-true, ltb-false, le-leb, lt-leb}
use Rattle.std.proofs.lemmas.List.{take_rest}
use Rattle.std.proofs.lemmas.List.Sorted.{IsPartitionedBy-ltb, IsPartitionPoint-from_clause}
use Rattle.wh_text_bundle.specs.declared.bundle.part.Part.{Part}
use Rattle.wh_text_bundle.proofs.NightLemmas.{filter-back}
use Rattle.wh_text_bundle.proofs.bundle.night.parts_from.Goals as goal

pub returns-clause-parts : goal.returns-clause-parts
returns-clause-parts c =
    let parts = c.args.parts.now in
    let night = c.args.night in
    let i = c.partition_point.result in
    let point = IsPartitionPoint-from_clause (λ (p : Part). nat_lt p.night night) parts i c.partition_point.ensures.partitioned (IsPartitionedBy-ltb (λ p. p.night) parts night c.requires) (λ a r q k. search (rules, tests)) in
    take_rest parts i
    ∙ sym (filter-back (λ p. nat_le night p.night) parts i c.partition_point.ensures.bound
    (λ k d l h. lt-leb night _ (ltb-true _ night (point.0 k d l h)))
    (λ k d l h. le-leb night _ (ltb-false _ night (point.1 k d l h))))
