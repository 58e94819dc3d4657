use Rattle.std.proofs.Common.{rules, ◌≡◌, ◌≢◌, ◌∙◌, ap, subst, sym}
use Rattle.wh_core.specs.declared.reply.Reply.TheVariants as reply
use Rattle.wh_later.proofs.TextsGrow.{taken_back}
use Rattle.wh_stay.specs.Standing.{StandingOf, core_of, standing_of, with_texts}
use Rattle.wh_stay.specs.Told.{IsTold}
use Rattle.wh_stay.specs.declared.told.NightTold.TheVariants as told
use Rattle.wh_stay.proofs.Nights.{left_after}
use Rattle.wh_stay.proofs.standing.Live.begin_night.Goals as goal

pub returns-clause-told : goal.returns-clause-told
returns-clause-told g c = λ s log is h.
    let w = standing_of c.args.self.now in
    let read = c.read_and_begin-told.new.self in
    let said = c.read_and_begin-told.result in
    let texts = (standing_of read).texts in
    let other : said ≢ told.Replied reply.Begun = search rules in
    let kept : c.truncate.new.self ≡ w.texts = taken_back w.texts texts c.truncate.new.self c.len-before.result c.read_and_begin-told.ensures.begins c.len-before.ensures.len c.truncate.ensures in
    let same : with_texts (standing_of read) c.truncate.new.self ≡ w =
    ap (with_texts (standing_of read)) kept ∙ ap (λ (stands : StandingOf). with_texts stands w.texts) c.read_and_begin-told.ensures.others in
    subst (λ (stands : StandingOf). IsTold s log w c.args.parts.now said stands (core_of read)) (left_after w said texts other ∙ sym same) (c.read_and_begin-told.ensures.told s log is h)
