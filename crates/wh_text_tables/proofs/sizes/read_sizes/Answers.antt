use Rattle.std.proofs.Common.{◌≡◌, ◌∙◌, ap, length, replicate, subst, sym, Ok, None}
use Rattle.std.specs.List.{filter_map}
use Rattle.wh_strategy.specs.Sizes.{AreSizeRows}
use Rattle.wh_text_tables.specs.Part.{part_of}
use Rattle.wh_text_tables.specs.SizesText.{sizes_scheme}
use Rattle.wh_text_tables.proofs.SizeLimits.{given-sizes}
use Rattle.wh_text_tables.proofs.sizes.read_sizes.Goals as goal

pub unreachable-requires : goal.unreachable-requires
unreachable-requires c =
    let names = c.args.shape.now.names in
    let rows : c.in_ok-rows.rows.items ≡ filter_map (λ size. size) c.read_part.new.state.items =
    c.in_ok-rows.ensures.ok ∙ ap (λ given. filter_map (λ size. size) given) c.deref.ensures.value in
    let given : part_of (sizes_scheme names) (replicate (length names) None) c.args.text.now ≡ Ok c.read_part.new.state.items =
    rw (c.in_ok-given.ensures, c.len.ensures.len, ← c.len.ensures.named) at c.in_ok-read_part.ensures.ok in
    let sizes : AreSizeRows c.in_ok-rows.rows.items = subst AreSizeRows (sym rows) (given-sizes names c.args.text.now c.read_part.new.state.items given) in
    c.in-Err.ensures.err.outside (sizes c.in-Err.field-0.0 c.in-Err.ensures.err.row c.in-Err.ensures.err.there)
