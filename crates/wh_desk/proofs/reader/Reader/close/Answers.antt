use Rattle.std.specs.Prelude.{option_map}
use Rattle.std.proofs.Common.{None, refl}
use Rattle.wh_desk.specs.Reading.{stand_of}
use Rattle.wh_desk.proofs.Turns.{closed, had_none, had_session, not_closed}
use Rattle.wh_desk.proofs.reader.Reader.close.Goals as goal

pub returns-in-Ok : goal.returns-in-Ok
returns-in-Ok c =
    closed c.args.self.now.desk c.close.new.self (option_map stand_of c.args.self.now.place) None (had_session c.args.self.now.desk.session c.in-Ok.field-0 c.in-Ok.ensures.refused) c.in-Ok.ensures.closed refl

pub returns-in-Err : goal.returns-in-Err
returns-in-Err c =
    let none = had_none c.args.self.now.desk.session c.in-Err.fault c.in-Err.ensures.refused in
    not_closed c.args.self.now.desk c.close.new.self (option_map stand_of c.args.self.now.place) c.in-Err.fault none.0 none.1 c.in-Err.ensures.closed
