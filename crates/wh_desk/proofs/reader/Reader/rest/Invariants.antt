use Rattle.std.specs.Prelude.{option_map}
use Rattle.wh_desk.specs.Reading.{stand_of}
use Rattle.wh_desk.proofs.Turns.{IsAmidst}
use Rattle.wh_desk.proofs.reader.Reader.rest.Given as goal

abbrev pub invariant-loop : goal.invariant-loop
invariant-loop l = IsAmidst l.fn.self.desk (option_map stand_of l.fn.self.place) l.view l.limit l.rows l.self.desk (option_map stand_of l.self.place)
