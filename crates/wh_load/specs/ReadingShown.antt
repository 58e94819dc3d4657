-- What was read, as it lies in memory.
use Rattle.std.specs.Prelude.{map}
use Rattle.wh_text_catalogue.specs.Definitions.{shown_view}
use Rattle.wh_load.specs.ReadingCertify as certify
use Rattle.wh_load.specs.ReadingCheck as check
use Rattle.wh_load.specs.ReadingNight as night
use Rattle.wh_load.specs.ReadingPlan as plan
use Rattle.wh_load.specs.ReadingReplay as replay
use Rattle.wh_load.specs.declared.reading.inputs.CertifyInput.{CertifyInput}
use Rattle.wh_load.specs.declared.reading.inputs.CheckInput.{CheckInput}
use Rattle.wh_load.specs.declared.reading.inputs.MeasuredViews.{MeasuredViews}
use Rattle.wh_load.specs.declared.reading.inputs.NightInput.{NightInput}
use Rattle.wh_load.specs.declared.reading.inputs.GivenNight.{GivenNight}
use Rattle.wh_load.specs.declared.reading.inputs.Opening.{Opening}
use Rattle.wh_load.specs.declared.reading.inputs.ReplayInput.{ReplayInput}

-- ---- what the calls that read a bundle answer

-- the views and their sizes
abbrev pub shown_measured : MeasuredViews → plan.Measured
shown_measured m = record { shape = m.shape; sizes = m.sizes }

-- what a check is made of
abbrev pub shown_check : CheckInput → check.Inputs
shown_check i = record { measured = shown_measured i.measured; list = i.strategy }

-- what is certified
abbrev pub shown_claim : CertifyInput → certify.Claim
shown_claim c = record { measured = shown_measured c.measured; plan = c.plan }

-- what nights begin from
abbrev pub shown_opening : Opening → night.Opening
shown_opening o = record { views = map shown_view o.views.items; texts = o.texts; tables = o.tables.items }

-- what is given of one night
abbrev pub shown_given : GivenNight → night.GivenNight
shown_given g = record { changes = g.changes.items; list = g.strategy }

-- what a night begins from and what is given of it, over their shape
abbrev pub shown_night : NightInput → night.Night
shown_night n = record { shape = n.shape; opening = shown_opening n.opening; given = shown_given n.given }

-- the views make a catalogue over the shape, and there are tables and changes of each
abbrev pub IsReadNight : NightInput → Type 0
IsReadNight n = night.AreReadFor n.shape (map shown_view n.opening.views.items) n.opening.tables.items n.given.changes.items

-- what is replayed
abbrev pub shown_replay : ReplayInput → replay.Replay
shown_replay r = record { shape = r.shape; opening = shown_opening r.opening; nights = map shown_given r.nights.items; schedule = r.schedule }

-- the views make a catalogue over the shape, there is a table of each, and there are changes of each in each night
abbrev pub IsReadReplay : ReplayInput → Type 0
IsReadReplay r = replay.AreReadForNights r.shape (map shown_view r.opening.views.items) r.opening.tables.items (map shown_given r.nights.items)
