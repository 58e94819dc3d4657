-- What stands after a night's parts were read: what only private contracts use.
use Rattle.wh_core.specs.declared.reply.Reply.TheVariants as reply
use Rattle.wh_text_catalogue.specs.FormulaKinds.{Texts}
use Rattle.wh_stay.specs.Standing.{StandingOf, with_texts}
use Rattle.wh_stay.specs.declared.told.NightTold.{NightTold}
use Rattle.wh_stay.specs.declared.told.NightTold.TheVariants as told

-- a night that has begun leaves its texts, and any other none
abbrev pub standing_after : StandingOf → NightTold → Texts → StandingOf
standing_after w (told.Replied reply.Begun) texts = with_texts w texts
standing_after w said texts = w
