use Rattle.std.proofs.Common.{take}
use Rattle.std.specs.Prelude.{option_map}
use Rattle.wh_desk.specs.Reading.{AreTurns, stand_of}
use Rattle.wh_desk.proofs.reader.Reader.ask_all.Given as goal

abbrev pub invariant-loop-number : goal.invariant-loop-number
invariant-loop-number l = AreTurns l.fn.self.desk (option_map stand_of l.fn.self.place) (take l.number l.asks) l.answers.items l.self.desk (option_map stand_of l.self.place)
