-- Reading all bytes of a reader.
use Rattle.std.specs.Prelude.{ℕ}
use Rattle.wh_text_bundle.specs.declared.read.ReadFault.{ReadFault}
use Rattle.wh_text_bundle.specs.declared.read.ReadFault.TheVariants.{Read, TooLong, Memory}

-- the fault's number among the faults of an input
abbrev pub number_of_read_fault : ReadFault → ℕ
number_of_read_fault Read = 10
number_of_read_fault Memory = 11
number_of_read_fault TooLong = 13
