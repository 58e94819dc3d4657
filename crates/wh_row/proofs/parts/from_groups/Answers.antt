use Rattle.std.proofs.Common.{◌≡◌, ◌≤◌, ◌*◌, ◌∙◌, ap, List, length, map, Bor, Option, IfSome}
use Rattle.std.proofs.lemmas.Option.{IfSome_then}
use Rattle.std.specs.List.{AllZip}
use Rattle.wh_threads.proofs.Answers.{each-answers}
use Rattle.wh_row.specs.Bag.{Bag, bag_of}
use Rattle.wh_row.specs.Weigh.{Counted}
use Rattle.wh_row.specs.Records.{joined}
use Rattle.wh_row.specs.Inner.Parts.{weight, AreBagsOf}
use Rattle.wh_row.proofs.PartLaws.{told_of, if_some, zip_made, joined_groups, light_groups}
use Rattle.wh_row.proofs.parts.from_groups.Goals as goal

pub returns-clause-bag : goal.returns-clause-bag
returns-clause-bag g c =
    let groups = c.args.groups.now in
    let bags = c.in_ok-ok.field-0.items in
    let answers = told_of _ c.each-bags.result c.in_ok-ok.field-0 c.in_ok-ok.ensures.value c.each-bags.ensures.answers in
    let each : AllZip (λ (group : Bor (List Counted)) (bag : Option Bag). IfSome bag (λ bag. bag ≡ bag_of (joined group.now))) groups bags = each-answers _ _ _ (λ lent answer met. met.0) groups bags answers in
    let are : AreBagsOf (map (λ (group : Bor (List Counted)). joined group.now) groups) bags = zip_made (λ (group : Bor (List Counted)). joined group.now) (λ es bag. IfSome bag (λ bag. bag ≡ bag_of es)) groups bags each in
    IfSome_then c.together.result (c.together.ensures.bag _ are) (λ bag is. is ∙ ap bag_of (joined_groups groups))

pub returns-clause-light : goal.returns-clause-light
returns-clause-light g c =
    let groups = c.args.groups.now in
    let bags = c.in_ok-ok.field-0.items in
    let answers = told_of _ c.each-bags.result c.in_ok-ok.field-0 c.in_ok-ok.ensures.value c.each-bags.ensures.answers in
    let each : AllZip (λ (group : Bor (List Counted)) (bag : Option Bag). IfSome bag (λ _. weight (joined group.now) ≤ c.args.room * length group.now)) groups bags = each-answers _ _ _ (λ lent answer met. met.1) groups bags answers in
    if_some c.together.result (λ some. light_groups groups bags c.args.room each (c.together.ensures.all some))
