-- What the text of a catalogue says of its views: their names, and which views each is over: what only proofs and private contracts use.
use Rattle.std.specs.Prelude.{List, Option, String, Vec}
use Rattle.std.specs.declared.alloc.Global.{Global}
use Rattle.wh_dag.specs.Written.{texts, written}
use Rattle.wh_text_catalogue.specs.Catalogue.{WrittenViews}

-- the written views that these vectors hold
abbrev pub seen : List (String Global) → List (Option (Vec (String Global) Global)) → WrittenViews
seen names over = record { names = texts names; over = written over }
