use Rattle.std.proofs.Common.{rules, ◌≡◌, ℕ, zero, suc, ◌<◌, ◌^◌, ◌≢◌, ℤ, pos, ◌+ℤ◌, ◌*ℤ◌, List, [], ◌∷◌, length, get_or, refl, sym, ap, subst, ◌∙◌, arith, below_more, get_or-set_other, get_or-set_same, to_z, of_z, to_z-of_z, FitsSigned, w64}
use Rattle.std.specs.Prelude.{Err}
use Rattle.std.proofs.lemmas.List.{length-set}
use Rattle.std.proofs.lemmas.Int.{ints, fits_signed_mul}
use mir.Syntax.{w128}
use Rattle.wh_row.specs.Bag.{plus, count, empty}
use Rattle.wh_maint.proofs.pending.add_each.Goals as goal

wider : (n : ℤ) → FitsSigned w64 n → FitsSigned w128 n
wider n f = search (rules, ints)

the_product : (n v : ℤ) → FitsSigned w64 n → FitsSigned w64 v
    → (a b : ℤ) → a ≡ to_z w64 (of_z w64 n) → b ≡ to_z w64 (of_z w64 v)
    → to_z w128 (of_z w128 (to_z w128 (of_z w128 a) *ℤ to_z w128 (of_z w128 b))) ≡ to_z w64 (of_z w64 n) *ℤ v
the_product n v f g a b d e =
    (λ i. to_z w128 (of_z w128 ((ap (λ x. to_z w128 (of_z w128 x)) (d ∙ to_z-of_z f) ∙ to_z-of_z (wider n f)) i *ℤ (ap (λ x. to_z w128 (of_z w128 x)) (e ∙ to_z-of_z g) ∙ to_z-of_z (wider v g)) i)))
    ∙ to_z-of_z (fits_signed_mul w128 n v (2 ^ 63) (2 ^ 63) (omega (arith, ints)) (omega (arith, ints)) (omega arith))
    ∙ ap (λ x. x *ℤ v) (sym (to_z-of_z f))

same_default : {A : Type 0} (xs : List A) (i : ℕ) (d e : A) → i < length xs → get_or xs i d ≡ get_or xs i e
same_default [] i d e l = absurd (omega arith)
same_default (x ∷ xs) zero d e l = refl
same_default (x ∷ xs) (suc i) d e l = same_default xs i d e (omega arith)

pub loop-j-preserved : goal.loop-j-preserved
loop-j-preserved c =
    let j = c.loop-j.j in
    let sums = c.loop-j.sums in
    let lt : j < length sums = omega arith in
    let f : FitsSigned w64 c.args.count = c.ranges.count in
    let g : FitsSigned w64 (get_or c.args.values.now j (pos 0)) = search rules in
    let here : c.add.new.self ≡ plus (get_or c.args.sums.now j empty) c.args.group.now (to_z w64 (of_z w64 c.args.count) *ℤ get_or c.args.values.now j (pos 0)) =
    c.in-Ok.ensures.ok ∙ (λ i. plus ((same_default sums j c.index-sums-j.result empty lt ∙ c.loop-j.invariant.after j (omega arith)) i) c.args.group.now (the_product c.args.count (get_or c.args.values.now j (pos 0)) f g c.from.result c.from-in-loop-j.result c.from.ensures c.from-in-loop-j.ensures i)) in
    record {
      same_length = length-set sums j c.add.new.self ∙ c.loop-j.invariant.same_length;
      before = below_more _ _
          (λ k h. let ne : k ≢ j = omega arith in rw get_or-set_other (c.loop-j.invariant.before k h))
          (rw get_or-set_same here);
      after = λ k h. let ne : k ≢ j = omega arith in rw get_or-set_other (c.loop-j.invariant.after k (omega arith));
    }

pub unreachable-requires : goal.unreachable-requires
unreachable-requires c =
    let j = c.loop-j.j in
    let sums = c.loop-j.sums in
    let lt : j < length sums = omega arith in
    let f : FitsSigned w64 c.args.count = c.ranges.count in
    let g : FitsSigned w64 (get_or c.args.values.now j (pos 0)) = search rules in
    c.in-Err-Large.ensures.large.0 (ap Err c.in-Err-Large.field-0-is)
    (subst (FitsSigned w128)
    (λ i. count (sym (same_default sums j c.index-sums-j.result empty lt ∙ c.loop-j.invariant.after j (omega arith)) i) c.args.group.now +ℤ sym (the_product c.args.count (get_or c.args.values.now j (pos 0)) f g c.from.result c.from-in-loop-j.result c.from.ensures c.from-in-loop-j.ensures) i)
    (subst (λ z. FitsSigned w128 (count (get_or c.args.sums.now j empty) c.args.group.now +ℤ (z *ℤ get_or c.args.values.now j (pos 0)))) (sym (to_z-of_z c.ranges.count)) (c.requires.fits j (omega arith))))
