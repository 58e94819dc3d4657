use Rattle.std.proofs.Common.{rules, ◌≡◌, sym, ap, ◌∙◌, ◌+◌, ℕ, ℤ, zero, suc, List, [], ◌∷◌, ◌++◌, take, Some, slice_get, arith, append_assoc, to_z, of_z, to_z-of_z, FitsSigned}
use Rattle.std.proofs.lemmas.List.{append-nil}
use Rattle.std.specs.Prelude.{flat_map}
use mir.Syntax.{w64}
use Rattle.wh_row.specs.Row.{Row}
use Rattle.wh_row.specs.Weigh.{Counted}
use Rattle.wh_replies.specs.ReplyText.{entry_text}
use Rattle.wh_replies.proofs.reply.append_entries.Goals as goal

-- the text of one record more
one_more : (es : Counted) (place : ℕ) (e : Row × ℤ) → slice_get es place ≡ Some e → flat_map entry_text (take place es) ++ entry_text e ≡ flat_map entry_text (take (place + 1) es)
one_more [] place e h = cc
one_more (x ∷ es) zero e h = let same : x ≡ e = cc in ap entry_text (sym same) ∙ sym (append-nil (entry_text x))
one_more (x ∷ es) (suc place) e h =
    let next : suc (place + 1) ≡ suc place + 1 = omega arith in
    append_assoc (entry_text x) (flat_map entry_text (take place es)) (entry_text e)
    ∙ ap (λ text. entry_text x ++ text) (one_more es place e h)
    ∙ ap (λ n. flat_map entry_text (take n (x ∷ es))) next

pub loop-place-preserved : goal.loop-place-preserved
loop-place-preserved c =
    let begun = c.args.out.now.items in
    let rows = c.args.rows.now in
    let place = c.loop-place.place in
    let row = c.get-count.result.0.now in
    let count : ℤ = c.get-count.result.1 in
    let fits : FitsSigned w64 count = search rules in
    let same : to_z w64 (of_z w64 count) ≡ count = to_z-of_z fits in
    c.in_ok-append_entry.ensures
    ∙ (λ i. c.loop-place.invariant i ++ entry_text (row, same i))
    ∙ append_assoc begun (flat_map entry_text (take place rows)) (entry_text (row, count))
    ∙ ap (λ text. begun ++ text) (one_more rows place (row, count) c.get-count.ensures)
