use Rattle.std.proofs.Common.{◌≡◌, ◌≤◌, ◌<◌, ◌*◌, ◌+◌, ◌-◌, ◌++◌, ℕ, [], List, ℤ, take, drop, length, sym, ap, ◌∙◌, arith, append-nil, length-append, length-drop}
use Rattle.std.proofs.lemmas.List.{drop_all, take_all}
use Rattle.wh_pieces.specs.Flat.{flat}
use Rattle.wh_pieces.proofs.FlatLaws.{place_within, length-flat}
use Rattle.wh_row.specs.Weigh.{Counted}
use Rattle.wh_versions.specs.Inner.Pages.{leading}
use Rattle.wh_versions.specs.Pages.{shown_of}
use Rattle.wh_versions.specs.Rows.{Pairs}
use Rattle.wh_versions.proofs.PageLaws.{told}
use Rattle.wh_versions.proofs.RunLaws.{are_some, leading_few, cut_run, run_parts, some_shown, some_more}
use Rattle.wh_versions.proofs.shown.add_shown.Goals as goal

-- a slice from a place on has what is behind it
behind : (ps : List Pairs) (from : ℕ) → take (length ps - from) (drop from ps) ≡ drop from ps
behind ps from = take_all (length ps - from) (drop from ps) (omega (arith, length-drop from ps))

within : (s : ℕ) (ps : List Pairs) (from n : ℕ) → n ≡ length (leading s (take (length ps - from) (drop from ps))) → from < length ps → from + n ≤ length ps
within s ps from n is l = omega (arith, is, ap (λ (qs : List Pairs). length (leading s qs)) (behind ps from), leading_few s (drop from ps), length-drop from ps, l)

pub overflow_mul-width-in-loop-from : goal.overflow_mul-width-in-loop-from
overflow_mul-width-in-loop-from g c =
    let here = within c.args.version c.args.pairs.now c.loop-from.from c.read_leading.result c.read_leading.ensures.few (omega (arith, c.loop-from-test.true)) in
    omega (arith, place_within c.args.width (c.loop-from.from + c.read_leading.result) (length c.args.pairs.now) here, c.requires.even)

pub slice_bounds-add_run-end : goal.slice_bounds-add_run-end
slice_bounds-add_run-end g c =
    let here = within c.args.version c.args.pairs.now c.loop-from.from c.read_leading.result c.read_leading.ensures.few (omega (arith, c.loop-from-test.true)) in
    omega (arith, place_within c.args.width (c.loop-from.from + c.read_leading.result) (length c.args.pairs.now) here, c.requires.even)

pub returns-in_err-add_run-clause-memory : goal.returns-in_err-add_run-clause-memory
returns-in_err-add_run-clause-memory g c =
    let s = c.args.version in
    let w = c.args.width in
    let cells = c.args.cells.now in
    let ps = c.args.pairs.now in
    let from = c.loop-from.from in
    let all = flat w cells ps in
    let n = c.read_leading.result in
    let counts = c.read_leading.new.counts in
    let k : from + n - from ≡ n = omega arith in
    let is : take (from + n - from) counts ≡ leading s (drop from ps) = ap (λ m. take m counts) k ∙ c.read_leading.ensures.counts ∙ ap (leading s) (behind ps from) in
    let some : 0 < length (leading s (drop from ps)) = omega (arith, are_some (take (from + n - from) counts) c.in_err-add_run.ensures.memory, ap (λ (xs : List ℤ). length xs) is) in
    told (some_more c.loop-from.rows (shown_of s (drop from all)) c.args.rows.now (shown_of s all) c.loop-from.invariant.so_far c.loop-from.invariant.longer (some_shown s w cells ps from some)) c.from_residual.result

pub loop-from-preserved : goal.loop-from-preserved
loop-from-preserved g c =
    let s = c.args.version in
    let w = c.args.width in
    let cells = c.args.cells.now in
    let ps = c.args.pairs.now in
    let from = c.loop-from.from in
    let n = c.read_leading.result in
    let counts = c.read_leading.new.counts in
    let lead = leading s (drop from ps) in
    let all = flat w cells ps in
    let before = c.args.rows.now ++ shown_of s all in
    let cut = take (w * (from + n) - w * from) (drop (w * from) cells) in
    let ns = take (from + n - from) counts in
    let is = c.read_leading.ensures.counts ∙ ap (leading s) (behind ps from) in
    let many = c.read_leading.ensures.few ∙ ap (λ (qs : List Pairs). length (leading s qs)) (behind ps from) in
    let here = within s ps from n c.read_leading.ensures.few (omega (arith, c.loop-from-test.true)) in
    let parts = run_parts s w cells ps from c.loop-from.rows c.add_run.new.rows before cut ns c.loop-from.invariant.so_far (cut_run w from n cells counts lead many is) c.in_ok-add_run.ensures.ok in
    record {
      within = omega (arith, here);
      so_far = ap (λ k. c.add_run.new.rows ++ shown_of s (drop (from + k + 1) all)) many ∙ parts;
      longer = omega (arith, ap (λ (xs : Counted). length xs) c.in_ok-add_run.ensures.ok, length-append c.loop-from.rows (flat w cut ns), c.loop-from.invariant.longer);
    }

pub returns-clause-ok : goal.returns-clause-ok
returns-clause-ok g c =
    let es = flat c.args.width c.args.cells.now c.args.pairs.now in
    let none : drop c.loop-from.from es ≡ [] = drop_all c.loop-from.from es (omega (arith, length-flat c.args.width c.args.cells.now c.args.pairs.now, c.loop-from-test.false)) in
    sym (append-nil c.loop-from.rows) ∙ ap (λ (xs : List _). c.loop-from.rows ++ shown_of c.args.version xs) (sym none) ∙ c.loop-from.invariant.so_far
