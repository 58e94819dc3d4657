use Rattle.std.proofs.Common.{rules, ◌≡◌, true, false, true≢false, ◌∙◌, sym, arith, length-drop}
use Rattle.std.specs.Prelude.{nat_eq}
use Rattle.std.specs.List.{starts_with}
use Rattle.std.proofs.lemmas.List.{take_all}
use Rattle.wh_text_bundle.proofs.Fronts.{name_after-some, name_after-none}
use Rattle.wh_text_bundle.proofs.bundle.spelling.name_after.Goals as goal
use Rattle.wh_text_bundle.proofs.bundle.spelling.name_after.Goals.{else-starts_with-via-then-starts_with+then-at-text+else-text-word-eq32, else-starts_with-via-then-starts_with+else-at-text, else-starts_with-via-else-starts_with}

pub returns-then-text-word-eq32 : goal.returns-then-text-word-eq32
returns-then-text-word-eq32 c =
    let value = c.starts_with.ensures.value in
    let result = c.if-starts_with.true in
    let begins : starts_with nat_eq c.args.text.now c.args.word.now ≡ true = cc in
    rw (name_after-some c.args.word.now c.args.text.now begins c.if-at-text.true c.if-text-word-eq32.true) (search (rules, take_all, length-drop))

pub returns-else-starts_with : goal.returns-else-starts_with
returns-else-starts_with c =
    sym (name_after-none c.args.word.now c.args.text.now (λ begins more blank.
    elim c.else-starts_with.branch [
      | else-starts_with-via-then-starts_with+then-at-text+else-text-word-eq32 w ↦ w.if-text-word-eq32.false blank
      | else-starts_with-via-then-starts_with+else-at-text w ↦ let less = w.if-at-text.false in omega arith
      | else-starts_with-via-else-starts_with w ↦
          let value = c.starts_with.ensures.value in
          let result = w.if-starts_with.false in
          let ends : starts_with nat_eq c.args.text.now c.args.word.now ≡ false = cc in
          true≢false (sym begins ∙ ends)
    ]))
