use Rattle.std.proofs.Common.{◌≡◌, take}
use Rattle.csv.specs.declared.parser.State.TheVariants as st
use Rattle.wh_text_tables.specs.Inner.Cut.{state_after, state_of}
use Rattle.wh_text_tables.proofs.cut.quoted_end.Given as goal

abbrev pub invariant-loop-place : goal.invariant-loop-place
invariant-loop-place l = state_of l.standing ≡ state_after st.StartRecord (take l.place l.text)
