use Rattle.std.proofs.Common.{◌≡◌, Option, Result, Ok, Err, IfOk, IfSome}
use Rattle.std.specs.Result.{result_ok}
use Rattle.std.proofs.lemmas.Option.{IfSome_then}
use Rattle.wh_row.specs.Bag.{bag_of}
use Rattle.wh_row.specs.Records.{EachSumFits, joined}
use Rattle.wh_text.specs.Columns.{kinds_of}
use Rattle.wh_text_tables.proofs.PieceLaws.{parts-renumbered}
use Rattle.wh_text_tables.proofs.table.wide.bag_of.Goals as goal

some-both : {T E : Type 0} (o : Option T) (r : Result T E) (P Q : T → Type 0) → o ≡ result_ok r → IfOk r P → IfOk r Q → IfSome o (λ x. P x × Q x)
some-both o (Ok x) P Q is p q = rw is (p, q)
some-both o (Err f) P Q is p q = rw is tt

pub returns-clause-bag : goal.returns-clause-bag
returns-clause-bag g c =
    let parts = c.in_ok-parts.parts.items in
    let kinds = kinds_of c.args.columns.now in
    let summed = some-both c.ok.result c.from_parts.result (λ bag. EachSumFits (joined parts)) (λ bag. bag ≡ bag_of (joined parts)) c.ok.ensures.value
    (rw c.deref.ensures.value at c.from_parts.ensures.fits) (rw c.deref.ensures.value at c.from_parts.ensures.ok) in
    IfSome_then c.ok.result summed (λ bag (fits, is). record {
      entries = parts;
      renumbered = parts-renumbered kinds c.number_texts.new.dict c.args.pieces.items c.in-Ok.numbered.items parts c.in-Ok.ensures.numbers c.in_ok-parts.ensures;
      fits = fits;
      is = is;
    })
