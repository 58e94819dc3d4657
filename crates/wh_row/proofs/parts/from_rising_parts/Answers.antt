use Rattle.std.proofs.Common.{rules, ◌≡◌, ◌≤◌, ◌*◌, ◌/◌, ◌∙◌, ap, subst, List, length, arith}
use Rattle.std.proofs.lemmas.Option.{IfSome_then}
use Rattle.wh_row.specs.Bag.{bag_of}
use Rattle.wh_row.specs.Weigh.{Counted}
use Rattle.wh_row.specs.Records.{joined}
use Rattle.wh_row.specs.Inner.Parts.{weight, grouped}
use Rattle.wh_row.proofs.PartLaws.{light_fits, shared_room}
use Rattle.wh_row.proofs.parts.from_rising_parts.Goals as goal

pub returns-clause-bag : goal.returns-clause-bag
returns-clause-bag g c =
    let same : grouped c.as_slice.result.now ≡ c.args.parts.now = ap grouped c.as_slice.ensures.value ∙ c.in_ok-groups.ensures in
    IfSome_then c.from_groups.result c.from_groups.ensures.bag (λ bag is. is ∙ ap (λ (parts : List Counted). bag_of (joined parts)) same)

pub returns-clause-fits : goal.returns-clause-fits
returns-clause-fits g c =
    let parts = c.args.parts.now in
    let room = c.in_ok-room.room in
    let is : room ≡ 9223372036854775807 / length parts = search rules in
    let all = shared_room 9223372036854775807 room (length parts) is in
    let same : grouped c.as_slice.result.now ≡ parts = ap grouped c.as_slice.ensures.value ∙ c.in_ok-groups.ensures in
    IfSome_then c.from_groups.result c.from_groups.ensures.light (λ bag light.
    let here : weight (joined parts) ≤ room * length parts = subst (λ (ps : List Counted). weight (joined ps) ≤ room * length ps) same light in
    light_fits (joined parts) (omega (arith, here, all)))
