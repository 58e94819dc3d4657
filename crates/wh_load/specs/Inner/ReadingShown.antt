-- What was read, as it lies in memory: what only proofs and private contracts use.
use Rattle.std.specs.Cow.{cow_slice_items}
use Rattle.wh_load.specs.ReadingCertify as certify
use Rattle.wh_load.specs.ReadingCheck as check
use Rattle.wh_load.specs.ReadingPlan as plan
use Rattle.wh_load.specs.declared.reading.texts.CheckTexts.{CheckTexts}
use Rattle.wh_load.specs.declared.reading.texts.ClaimTexts.{ClaimTexts}
use Rattle.wh_load.specs.declared.reading.texts.MeasuredTexts.{MeasuredTexts}

abbrev pub shown_measured_texts : MeasuredTexts → plan.MeasuredTexts
shown_measured_texts t = record { catalogue = cow_slice_items t.catalogue; sizes = cow_slice_items t.sizes }

abbrev pub shown_check_texts : CheckTexts → check.CheckTexts
shown_check_texts t = record { measured = shown_measured_texts t.measured; strategy = cow_slice_items t.strategy }

abbrev pub shown_claim_texts : ClaimTexts → certify.ClaimTexts
shown_claim_texts t = record { measured = shown_measured_texts t.measured; plan = cow_slice_items t.plan }
