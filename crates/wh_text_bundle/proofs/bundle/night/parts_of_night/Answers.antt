use Rattle.std.proofs.Common.{◌∙◌, ap, filter, nat_le}
use Rattle.wh_text_bundle.specs.declared.bundle.part.Part.{Part}
use Rattle.wh_text_bundle.proofs.NightLemmas.{filter-night}
use Rattle.wh_text_bundle.proofs.bundle.night.parts_of_night.Goals as goal

pub returns : goal.returns
returns c =
    c.parts_to.ensures
    ∙ ap (filter (λ (p : Part). nat_le p.night c.args.night)) c.parts_from.ensures.parts
    ∙ filter-night c.args.night c.args.parts.now
