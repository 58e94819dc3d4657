-- How a fault is numbered, and how it is printed.
use Rattle.std.specs.Prelude.{ℕ, List, ◌++◌, codes, decimal}
use Rattle.wh_dag.specs.declared.fault.ShapeFault.{ShapeFault}
use Rattle.wh_dag.specs.declared.fault.ShapeFault.TheVariants as shape
use Rattle.wh_text.specs.declared.fault.Key.{Key}
use Rattle.wh_text.specs.declared.fault.Key.TheVariants as key
use Rattle.wh_text.specs.declared.fault.LoadFault.{LoadFault}
use Rattle.wh_text.specs.declared.fault.LoadFault.TheVariants as fault

-- a key as the catalogue writes it
abbrev pub key_text : Key → List ℕ
key_text key.View = codes "view"
key_text key.Name = codes "name"
key_text key.Columns = codes "columns"
key_text key.Over = codes "over"
key_text key.Join = codes "join"
key_text key.Where = codes "where"
key_text key.Keep = codes "keep"
key_text key.Group = codes "group"
key_text key.Count = codes "count"
key_text key.Sum = codes "sum"

-- the line of a shape's fault: it names the view at fault, or the child as it was written
abbrev pub shape_text : ShapeFault → List ℕ
shape_text (shape.Duplicate view name) = codes "fault shape duplicate " ++ name
shape_text (shape.Unknown view child) = codes "fault shape unknown " ++ child
shape_text (shape.Forward view child) = codes "fault shape forward " ++ child
shape_text (shape.Repeated view child) = codes "fault shape repeated " ++ child
shape_text (shape.TooMany view name) = codes "fault shape toomany " ++ name
shape_text (shape.EmptyOver view name) = codes "fault shape empty " ++ name
shape_text shape.Memory = codes "memory"

-- the line that is printed for a fault, without its LF
abbrev pub fault_text : LoadFault → List ℕ
fault_text fault.Toml = codes "fault toml"
fault_text (fault.Key k) = codes "fault key " ++ key_text k
fault_text (fault.Column column) = codes "fault column " ++ column
fault_text (fault.Kind view) = codes "fault kind " ++ view
fault_text (fault.Csv record_number) = codes "fault csv " ++ decimal record_number
fault_text (fault.Number record_number) = codes "fault number " ++ decimal record_number
fault_text fault.Header = codes "fault header"
fault_text (fault.Sizes view) = codes "fault sizes " ++ view
fault_text (fault.Strategy line) = codes "fault strategy " ++ decimal line
fault_text (fault.Plan line) = codes "fault plan " ++ decimal line
fault_text (fault.Schedule line) = codes "fault schedule " ++ decimal line
fault_text fault.Read = codes "fault read"
fault_text fault.Memory = codes "memory"
fault_text (fault.Part heading) = codes "fault part " ++ heading
fault_text fault.TooLong = codes "fault toolong"
fault_text (fault.Shape f) = shape_text f

-- the number of a shape's fault among those of the input: want of memory has its own
abbrev pub shape_number : ShapeFault → ℕ
shape_number shape.Memory = 11
shape_number _ = 14

-- the number of a fault, by its kind, from 1
abbrev pub fault_number : LoadFault → ℕ
fault_number fault.Toml = 1
fault_number (fault.Key k) = 2
fault_number (fault.Column column) = 3
fault_number (fault.Kind view) = 4
fault_number (fault.Csv record_number) = 5
fault_number (fault.Number record_number) = 6
fault_number fault.Header = 7
fault_number (fault.Sizes view) = 8
fault_number (fault.Strategy line) = 9
fault_number (fault.Plan line) = 9
fault_number (fault.Schedule line) = 9
fault_number fault.Read = 10
fault_number fault.Memory = 11
fault_number (fault.Part heading) = 12
fault_number fault.TooLong = 13
fault_number (fault.Shape f) = shape_number f
