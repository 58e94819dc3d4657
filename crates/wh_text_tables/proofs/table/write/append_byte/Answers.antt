use Rattle.std.proofs.Common.{◌++◌, ◌∷◌, ◌∙◌, [], ap, sym, append_assoc}
use Rattle.std.proofs.lemmas.Bool.{ne_eqb}
use Rattle.csv.specs.Writing.{default_writer, escaped}
use Rattle.wh_text_tables.proofs.TableLines.{escaped-plain, escaped-quote}
use Rattle.wh_text_tables.proofs.table.write.append_byte.Goals as goal

pub returns-then-byte-eq34 : goal.returns-then-byte-eq34
returns-then-byte-eq34 c rest =
    ap (λ t. t ++ escaped default_writer rest) c.in_ok-extend_from_slice.ensures.items
    ∙ append_assoc c.args.out.now.items (34 ∷ 34 ∷ []) (escaped default_writer rest)
    ∙ ap (λ t. c.args.out.now.items ++ t) (sym (escaped-quote rest) ∙ ap (λ b. escaped default_writer (b ∷ rest)) (sym c.if-byte-eq34.true))

pub returns : goal.returns
returns c rest =
    ap (λ t. t ++ escaped default_writer rest) c.in_ok-push.ensures.items
    ∙ append_assoc c.args.out.now.items (c.args.byte ∷ []) (escaped default_writer rest)
    ∙ ap (λ t. c.args.out.now.items ++ t) (sym (escaped-plain c.args.byte rest (ne_eqb c.args.byte 34 c.if-byte-eq34.false)))
