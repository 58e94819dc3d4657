-- The text of what a night changes, view by view.
use Rattle.std.proofs.Common.{◌≡◌, refl, sym, ap, ◌∙◌, ℕ, zero, suc, ◌+◌, List, [], ◌∷◌, ◌++◌, drop, map, length, Bool, true, false, Option, Some, None, cond, append_assoc, arith}
use Rattle.std.specs.Prelude.{codes, is_none, is_some, option_map, slice_get}
use Rattle.std.proofs.lemmas.Option.{same_Some}
use Rattle.wh_dag.specs.Written.{name_of}
use Rattle.wh_row.specs.Bag.{Bag}
use Rattle.wh_replies.specs.ReplyText.{line}
use Rattle.wh_stay.specs.Standing.{StandingOf}
use Rattle.wh_text_catalogue.specs.Definitions.{ViewOf}
use Rattle.wh_text_tables.specs.TableWritten.{table_text}
use Rattle.wh_dialogue.specs.Said.{change_text, change_texts}

is_there : {A : Type 0} (o : Option A) → is_none o ≡ false → is_some o ≡ true
is_there None e = cc
is_there (Some x) e = refl

-- of a derived view, and of a base view
pub derived_text : (w : StandingOf) (number : ℕ) (view : ViewOf) (change : Bag) → is_none view.definition ≡ false
    → change_text w number view change ≡ line (codes "changes " ++ name_of w.names number) ++ table_text view.columns w.texts change
derived_text w number view change e =
    ap (λ b. cond b (line (codes "changes " ++ name_of w.names number) ++ table_text view.columns w.texts change) []) (is_there view.definition e)

pub next_of : {A : Type 0} (xs : List A) (i : ℕ) (x : A) → slice_get xs i ≡ Some x → drop i xs ≡ x ∷ drop (i + 1) xs
next_of [] i x e = cc
next_of (y ∷ ys) zero x e = let f : y ≡ x = same_Some y x e in ap (λ z. z ∷ ys) f
next_of (y ∷ ys) (suc i) x e = let f : suc (i + 1) ≡ suc i + 1 = omega arith in next_of ys i x e ∙ ap (λ k. x ∷ drop k (y ∷ ys)) f

-- one view more is written
pub one_more_text : {A : Type 0} (shown : A → ViewOf) (w : StandingOf) (views : List A) (i : ℕ) (own : A) (change : ℕ → Bag) (all before after : List ℕ) → slice_get views i ≡ Some own
    → all ≡ before ++ change_texts w i (map shown (drop i views)) change → after ≡ before ++ change_text w i (shown own) (change i)
    → all ≡ after ++ change_texts w (i + 1) (map shown (drop (i + 1) views)) change
one_more_text shown w views i own change all before after there so_far now =
    so_far ∙ ap (λ rest. before ++ change_texts w i (map shown rest) change) (next_of views i own there)
    ∙ sym (append_assoc before (change_text w i (shown own) (change i)) (change_texts w (i + 1) (map shown (drop (i + 1) views)) change))
    ∙ ap (λ done. done ++ change_texts w (i + 1) (map shown (drop (i + 1) views)) change) (sym now)

pub joined_text : (o a n e t : List ℕ) → (((o ++ a) ++ n) ++ e) ++ t ≡ o ++ (((a ++ n) ++ e) ++ t)
joined_text o a n e t = ap (λ z. (z ++ e) ++ t) (append_assoc o a n) ∙ ap (λ z. z ++ t) (append_assoc o (a ++ n) e) ∙ append_assoc o ((a ++ n) ++ e) t
