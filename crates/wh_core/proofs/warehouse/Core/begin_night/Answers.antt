use Rattle.std.proofs.Common.{rules, refl, subst, [], ◌∷◌}
use mathlib.Core.Logic.{inl}
use Rattle.wh_core.specs.Laws.{IsSetup}
use Rattle.wh_core.specs.Log.{Log, Began}
use Rattle.wh_core.specs.Nights.{Setup, with_nights}
use Rattle.wh_core.specs.Standing.{StandsWith, given_of}
use Rattle.wh_core.proofs.Longer.{stands_added}
use Rattle.wh_core.proofs.Shorter.{refused_leaves}
use Rattle.wh_core.proofs.warehouse.Core.begin_night.Goals as goal

pub begin-requires : goal.begin-requires
begin-requires g c =
    let r = c.requires.standing in
    let core = c.args.self.now in
    let both = stands_added core.nights.items c.args.night r.setup r.log core (record core { nights = c.push_back.new.self }) refl c.in-Ok.ensures.items c.requires.night r.is_setup r.stands in
    (search rules, (search rules, record { setup = with_nights r.setup (given_of c.args.night ∷ []); log = r.log; is_setup = both.0; stands = both.1 }))

pub returns-in-Begun-clause-stands : goal.returns-in-Begun-clause-stands
returns-in-Begun-clause-stands g c =
    let r = c.requires.standing in
    let core = c.args.self.now in
    let s = with_nights r.setup (given_of c.args.night ∷ []) in
    let both = stands_added core.nights.items c.args.night r.setup r.log core (record core { nights = c.push_back.new.self }) refl c.in-Ok.ensures.items c.requires.night r.is_setup r.stands in
    record { setup = s; log = Began ∷ r.log; is_setup = both.0; stands = (c.in-Begun.ensures.reply s r.log both.0 both.1).0 }

pub returns-in-Begun-clause-reply : goal.returns-in-Begun-clause-reply
returns-in-Begun-clause-reply g c = λ s log is h.
    let core = c.args.self.now in
    let both = stands_added core.nights.items c.args.night s log core (record core { nights = c.push_back.new.self }) refl c.in-Ok.ensures.items c.requires.night is h in
    inl ((c.in-Begun.ensures.reply (with_nights s (given_of c.args.night ∷ [])) log both.0 both.1).1)

pub returns-in-Begun-clause-begun : goal.returns-in-Begun-clause-begun
returns-in-Begun-clause-begun g c = λ e s log is h.
    let core = c.args.self.now in
    let both = stands_added core.nights.items c.args.night s log core (record core { nights = c.push_back.new.self }) refl c.in-Ok.ensures.items c.requires.night is h in
    (both.0, (c.in-Begun.ensures.reply (with_nights s (given_of c.args.night ∷ [])) log both.0 both.1).0)

-- the night was taken back
pub returns-in_default-begin : goal.returns-in_default-begin
returns-in_default-begin g c =
    let core = c.args.self.now in
    let added = λ (s : Setup) (log : Log) (is : IsSetup s) (h : StandsWith s log core).
    stands_added core.nights.items c.args.night s log core (record core { nights = c.push_back.new.self }) refl c.in-Ok.ensures.items c.requires.night is h in
    let answered = λ (s : Setup) (log : Log) (is : IsSetup s) (h : StandsWith s log core).
    c.begin.ensures.reply (with_nights s (given_of c.args.night ∷ [])) log (added s log is h).0 (added s log is h).1 in
    let back = λ (s : Setup) (log : Log) (is : IsSetup s) (h : StandsWith s log core).
    c.take_back.ensures s log (given_of c.args.night) h.stands.legal
    (subst (λ l. StandsWith (with_nights s (given_of c.args.night ∷ [])) l c.begin.new.self) (refused_leaves log c.begin.result c.in_default-begin.not-Begun) (answered s log is h).0) in
    let r = c.requires.standing in
    record {
      stands = record { setup = r.setup; log = r.log; is_setup = r.is_setup; stands = back r.setup r.log r.is_setup r.stands };
      reply = λ s log is h. inl (answered s log is h).1;
      begun = λ e. absurd (c.in_default-begin.not-Begun e);
      refused = λ no s log is h. back s log is h;
    }
