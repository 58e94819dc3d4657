use Rattle.std.proofs.Common.{◌∙◌, refl, inr, arith}
use Rattle.csv.specs.Reading.{strip_bom}
use Rattle.csv.specs.declared.parser.State.TheVariants as st
use Rattle.wh_text_tables.specs.Unread.{records_after}
use Rattle.wh_text_tables.proofs.RecordLists.{length-records_after, length-strip_bom}
use Rattle.wh_text_tables.proofs.records.CsvRecords.behind.Goals as goal

pub invariant_of-result : goal.invariant_of-result
invariant_of-result c =
    let made = c.from_reader-reader.ensures in
    let few = length-records_after st.StartRecord (strip_bom c.args.text.now) in
    let short = length-strip_bom c.args.text.now in
    record {
      reading = λ _. record {
        config = rw (c.flexible.ensures, c.has_headers.ensures) at made.config ∙ c.new.ensures.config;
        trims = rw (c.flexible.ensures, c.has_headers.ensures) at made.trim ∙ c.new.ensures.trim;
        ready = inr (inr (rw (c.flexible.ensures, c.has_headers.ensures) at made.has_headers, made.headers));
        known = rw made.source refl;
      };
      fits = rw (made.source, made.state) (omega (arith, c.requires, few, short, c.type_inv.text));
    }

pub returns : goal.returns
unfolding records_after
returns c = rw (c.from_reader-reader.ensures.source, c.from_reader-reader.ensures.state) refl
