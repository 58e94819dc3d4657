use Rattle.std.proofs.Common.{[]}
use Rattle.test_core.proofs.machine.schedules.assert_steps.Goals as goal

pub assert_further_steps-requires : goal.assert_further_steps-requires
assert_further_steps-requires g c = record { setup = c.requires.setup; log = []; is_setup = c.requires.is_setup; stands = c.requires.stands }
