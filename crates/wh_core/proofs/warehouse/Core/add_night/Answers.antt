use Rattle.std.proofs.Common.{refl}
use Rattle.std.specs.Prelude.{[], ◌∷◌}
use Rattle.wh_core.specs.Nights.{with_nights}
use Rattle.wh_core.specs.Standing.{given_of}
use Rattle.wh_core.proofs.Longer.{stands_added}
use Rattle.wh_core.proofs.warehouse.Core.add_night.Goals as goal

pub returns-clause-stands : goal.returns-clause-stands
returns-clause-stands g c =
    let r = c.requires.standing in
    let core = c.args.self.now in
    let both = stands_added core.nights.items c.args.night r.setup r.log core (record core { nights = c.push_back.new.self }) refl c.in_ok-push_back.ensures.items c.requires.night r.is_setup r.stands in
    record { setup = with_nights r.setup (given_of c.args.night ∷ []); log = r.log; is_setup = both.0; stands = both.1 }

pub returns-clause-added : goal.returns-clause-added
returns-clause-added g c = λ s log is h.
    let core = c.args.self.now in
    stands_added core.nights.items c.args.night s log core (record core { nights = c.push_back.new.self }) refl c.in_ok-push_back.ensures.items c.requires.night is h
