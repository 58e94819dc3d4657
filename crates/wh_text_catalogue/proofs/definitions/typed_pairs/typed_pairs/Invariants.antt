use Rattle.std.proofs.Common.{◌≡◌, [], drop, map}
use Rattle.wh_text.specs.Inner.Dict.{Grows}
use Rattle.wh_text_catalogue.specs.Pairs.{typed_columns, typed_pairs}
use Rattle.wh_text_catalogue.specs.Inner.Pairs.{seen_pair}
use Rattle.wh_text_catalogue.proofs.definitions.typed_pairs.typed_pairs.Given as goal

abbrev pub invariant-loop-pair : goal.invariant-loop-pair
invariant-loop-pair l = record {
  read : typed_pairs l.header l.rule (typed_columns l.initial.columns.items []) (map seen_pair l.pairs) l.initial.texts ≡ typed_pairs l.header l.rule (typed_columns l.columns.items l.exprs.items) (map seen_pair (drop l.pair-index l.pairs)) l.texts;
  grows : Grows l.initial.texts l.texts;
}
