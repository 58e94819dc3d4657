use Rattle.std.proofs.Common.{rules, ◌≡◌, ◌∙◌, ◌++◌, ◌∷◌, [], ◌+◌, ◌<◌, pos, false, true, length, take, refl, sym, ap, subst, arith, length-append, FitsSigned, to_z-of_z}
use mir.Syntax.{w64}
use Rattle.std.proofs.lemmas.List.{length-take-le}
use Rattle.wh_text.specs.Dict.{number_of_text, with_text, with_texts}
use Rattle.wh_text.specs.Inner.Dict.{BeginsWith}
use Rattle.wh_text.proofs.DictGrowth.{begins-texts, with_texts-append}
use Rattle.wh_text_tables.proofs.PieceLaws.{numbers-next, take-one}
use Rattle.wh_text_tables.proofs.table.renumbered.numbers_of.Goals as goal

pub loop-place-init : goal.loop-place-init
unfolding with_texts
loop-place-init c = (refl, ap length c.new-numbers.ensures.items, λ text has. absurd (let bad : false ≡ true = has in cc))

pub loop-place-preserved : goal.loop-place-preserved
unfolding with_texts
loop-place-preserved c =
    let texts = c.args.texts.now in
    let place = c.loop-place.place in
    let (is, long, numbers) = c.loop-place.invariant in
    let own = c.text_at.result.now in
    let below : place < length texts = search rules in
    let more : take (place + 1) texts ≡ take place texts ++ own ∷ [] = take-one texts place own c.text_at.ensures in
    let few = length-take-le place texts (omega (arith, below)) in
    let next = numbers-next c.args.dict.now c.loop-place.dict (take place texts) own c.loop-place.numbers.items is (omega (arith, long, few)) numbers in
    let fits : FitsSigned w64 c.in_ok-number.number = search rules in
    let back = to_z-of_z fits in
    let pushed : c.push.new.self.items ≡ c.loop-place.numbers.items ++ pos (number_of_text c.loop-place.dict own) ∷ [] =
    c.in_ok-push.ensures.items ∙ (λ i. c.loop-place.numbers.items ++ back i ∷ []) ∙ ap (λ n. c.loop-place.numbers.items ++ n ∷ []) c.in_ok-number.ensures.number in
    let longer = ap length pushed ∙ length-append c.loop-place.numbers.items (pos (number_of_text c.loop-place.dict own) ∷ []) in (
      c.in_ok-number.ensures.texts ∙ ap (λ d. with_text d own) is ∙ sym (with_texts-append c.args.dict.now (take place texts) (own ∷ [])) ∙ ap (with_texts c.args.dict.now) (sym more),
      omega (arith, longer, long),
      rw (c.in_ok-number.ensures.texts, more, pushed) next,
    )

pub returns-in_err-number-clause-begins : goal.returns-in_err-number-clause-begins
returns-in_err-number-clause-begins c =
    subst (BeginsWith c.args.dict.now) (sym (c.in_err-number.ensures.err ∙ c.loop-place.invariant.0)) (begins-texts c.args.dict.now _)

pub returns-in_err-push-clause-begins : goal.returns-in_err-push-clause-begins
unfolding with_texts
returns-in_err-push-clause-begins c =
    let texts = take c.loop-place.place c.args.texts.now in
    let own = c.text_at.result.now in
    let all : c.intern.new.self ≡ with_texts c.args.dict.now (texts ++ own ∷ []) = c.in_ok-number.ensures.texts ∙ ap (λ d. with_text d own) c.loop-place.invariant.0 ∙ sym (with_texts-append c.args.dict.now texts (own ∷ [])) in
    subst (BeginsWith c.args.dict.now) (sym all) (begins-texts c.args.dict.now (texts ++ own ∷ []))

pub returns-clause-begins : goal.returns-clause-begins
returns-clause-begins c = subst (BeginsWith c.args.dict.now) (sym c.loop-place.invariant.0) (begins-texts c.args.dict.now _)
