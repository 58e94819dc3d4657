use Rattle.std.specs.Prelude.{option_map}
use Rattle.std.proofs.Common.{None, refl}
use Rattle.wh_desk.specs.Reading.{stand_of}
use Rattle.wh_desk.proofs.Turns.{not_opened, opened}
use Rattle.wh_desk.proofs.reader.Reader.open.Goals as goal

pub returns-in-Ok : goal.returns-in-Ok
returns-in-Ok c = opened c.args.self.now.desk c.open.new.self (option_map stand_of c.args.self.now.place) None c.in-Ok.version c.in-Ok.ensures.answer refl

pub returns-in-Err : goal.returns-in-Err
returns-in-Err c = not_opened c.args.self.now.desk c.open.new.self (option_map stand_of c.args.self.now.place) c.in-Err.fault c.in-Err.ensures.answer
