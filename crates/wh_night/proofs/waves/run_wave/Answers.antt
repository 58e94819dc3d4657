use Rattle.std.proofs.Common.{inr}
use Rattle.wh_night.proofs.Puts.{item}
use Rattle.wh_night.proofs.waves.run_wave.Goals as goal

pub returns-in-Ok-clause-added : goal.returns-in-Ok-clause-added
returns-in-Ok-clause-added g c = record {
  each = c.in-Ok.ensures.done.len;
  are = λ j job p is_job is_p. (c.in-Ok.ensures.done.each j p is_p).met.0 job is_job;
}

pub returns-in-Err-Refused-clause-refused : goal.returns-in-Err-Refused-clause-refused
returns-in-Err-Refused-clause-refused g c =
    let first = rw c.in-Err-Refused.field-0-is at c.in-Err-Refused.ensures.refused in
    let at = item c.args.jobs.now c.in-Err-Refused.field-0-0 first.below in
    inr (record {
      number = c.in-Err-Refused.field-0-0;
      job = at.0;
      there = at.1;
      earlier = λ j other l is_other. let x = first.earlier j l in (x.1.met.0 other is_other).can;
      refused = first.refused.met.1 at.0 at.1;
    })
