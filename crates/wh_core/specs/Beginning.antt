-- A night that is given and begun by one call.
use Rattle.std.specs.Prelude.{◌⊎◌, [], ◌∷◌}
use Rattle.wh_core.specs.declared.event.Event.TheVariants.{Begin}
use Rattle.wh_core.specs.declared.reply.Reply.{Reply}
use Rattle.wh_core.specs.Log.{Log}
use Rattle.wh_core.specs.Nights.{GivenNight, Setup, with_nights}
use Rattle.wh_core.specs.Replies.{IsMemory, IsReply}

-- the reply is one to a Begin after what was done, where this night stands behind those that were given; or there was no memory for one night more
abbrev pub IsBeginOf : Setup → Log → GivenNight → Reply → Type 0
IsBeginOf s log given r = IsReply (with_nights s (given ∷ [])) log Begin r ⊎ IsMemory r
