-- What a bundle gives to be certified: its views, their sizes, and a plan.
use Rattle.std.specs.Prelude.{ℕ, List, Result, Ok}
use Rattle.wh_text.specs.declared.fault.LoadFault.{LoadFault}
use Rattle.wh_text_bundle.specs.declared.bundle.fault.Nights.TheVariants as nights
use Rattle.wh_text_bundle.specs.declared.bundle.heading.Heading.TheVariants as heading
use Rattle.wh_text_bundle.specs.declared.bundle.part.Part.{Part}
use Rattle.wh_text_catalogue.specs.Catalogue.{◌>>=◌}
use Rattle.wh_text_lines.specs.PlanText.{plan_of}
use Rattle.wh_text_lines.specs.declared.plan.Plan.{Plan}
use Rattle.wh_load.specs.ReadingParts.{parts_in, text_in}
use Rattle.wh_load.specs.ReadingPlan.{Measured, MeasuredTexts, measured_in, measured_texts_in}

-- what is certified: the views with their sizes, and the plan
pub record Claim : Type 0 where
  pub measured : Measured
  pub plan : Plan

-- the texts of the parts that have the views, their sizes and the plan
pub record ClaimTexts : Type 0 where
  pub measured : MeasuredTexts
  pub plan : List ℕ

-- the texts of a claim among the parts of a bundle; the first that is missing, in the order of the headings, is a fault
abbrev pub claim_texts_in : List Part → Result ClaimTexts LoadFault
claim_texts_in parts = do
  measured ← measured_texts_in parts
  plan ← text_in parts heading.Plan 0
  Ok (record { measured = measured; plan = plan })

-- what these texts say, or their first fault: the catalogue's, the sizes', the plan's
abbrev pub claim_in : ClaimTexts → Result Claim LoadFault
claim_in texts = do
  measured ← measured_in texts.measured
  plan ← plan_of measured.shape.names texts.plan
  Ok (record { measured = measured; plan = plan })

-- the texts of a claim in a bundle of any nights, or its first fault
abbrev pub claim_texts_of : List ℕ → Result ClaimTexts LoadFault
claim_texts_of bytes = parts_in nights.Ignored bytes >>= claim_texts_in

-- what the bytes of a bundle claim, or their first fault
abbrev pub claim_of : List ℕ → Result Claim LoadFault
claim_of bytes = claim_texts_of bytes >>= claim_in
