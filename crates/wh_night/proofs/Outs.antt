-- What goes out, one piece behind another.
use Rattle.std.proofs.Common.{◌≡◌, refl, sym, ap, subst, ◌∙◌, ℕ, List, [], ◌∷◌, ◌++◌, map, Option, Some, None, true, false}
use Rattle.std.specs.Prelude.{Result, Ok, Err, OnOk, OnErr, IfOk, IfErr}
use Rattle.std.proofs.lemmas.List.{append-nil, append_assoc}
use Rattle.wh_row.specs.Weigh.{Counted}
use Rattle.wh_store.specs.Operations.{Operation, Writes}
use Rattle.wh_store.specs.Ledgers.{Ledger, ledger, with_held}
use Rattle.wh_store.specs.Faults.{refused}
use Rattle.wh_store.specs.declared.publish_fault.PublishFault.{PublishFault}
use Rattle.wh_store.specs.declared.publish_fault.PublishFault.TheVariants.{NightOpen, NoNight, NoView, BadPage, LastVersion, Held, Memory}
use Rattle.wh_night.specs.Tonight.{goes_out}
use Rattle.wh_night.specs.Inner.Underway.{IsPartly, behind}

pub nothing_out : (l : Ledger) → l.held ≡ None → l ≡ goes_out l [] None
nothing_out l e = λ i. ledger l.of (sym (append-nil l.list) i) (e i)

pub out_more : (l m o : Ledger) (a b : List Operation) (held : Option Operation) → m ≡ goes_out l a None → o ≡ goes_out m b held → o ≡ goes_out l (a ++ b) held
out_more l m o a b held e f = f ∙ (λ i. goes_out (e i) b held) ∙ (λ i. ledger l.of (append_assoc l.list a b i) held)

-- the same where perhaps nothing is published
pub behind_more : (l m o : Option Ledger) (a b : List Operation) → m ≡ behind l a → o ≡ behind m b → o ≡ behind l (a ++ b)
behind_more None m o a b e f = f ∙ ap (λ x. behind x b) e
behind_more (Some l) m o a b e f = f ∙ ap (λ x. behind x b) e ∙ (λ i. Some (ledger l.of (append_assoc l.list a b i) None))

pub partly_none : (l : Ledger) (ops : List Operation) → l.held ≡ None → IsPartly l ops l
partly_none l ops e = record { out = []; held = None; rest = ops; now = nothing_out l e; split = refl }

partly_held : (l m : Ledger) (op : Operation) (rest : List Operation) → m ≡ ledger l.of l.list (Some op) → IsPartly l (op ∷ rest) m
partly_held l m op rest e = record { out = []; held = Some op; rest = rest; now = e ∙ (λ i. ledger l.of (sym (append-nil l.list) i) (Some op)); split = refl }

pub partly_refused : (l m : Ledger) (op : Operation) (rest : List Operation) (fault : PublishFault) → l.held ≡ None → m ≡ refused l op fault → IsPartly l (op ∷ rest) m
partly_refused l m op rest (Memory true) none e = partly_held l m op rest e
partly_refused l m op rest (Memory false) none e = subst (IsPartly l (op ∷ rest)) (sym e) (partly_none l (op ∷ rest) none)
partly_refused l m op rest NightOpen none e = subst (IsPartly l (op ∷ rest)) (sym e) (partly_none l (op ∷ rest) none)
partly_refused l m op rest NoNight none e = subst (IsPartly l (op ∷ rest)) (sym e) (partly_none l (op ∷ rest) none)
partly_refused l m op rest NoView none e = subst (IsPartly l (op ∷ rest)) (sym e) (partly_none l (op ∷ rest) none)
partly_refused l m op rest BadPage none e = subst (IsPartly l (op ∷ rest)) (sym e) (partly_none l (op ∷ rest) none)
partly_refused l m op rest LastVersion none e = subst (IsPartly l (op ∷ rest)) (sym e) (partly_none l (op ∷ rest) none)
partly_refused l m op rest Held none e = subst (IsPartly l (op ∷ rest)) (sym e) (partly_none l (op ∷ rest) none)

pub held_behind : (a b : List Operation) (held : Option Operation) → with_held (a ++ b) held ≡ a ++ with_held b held
held_behind a b None = refl
held_behind a b (Some op) = append_assoc a b (op ∷ [])

pub partly_more : (l m o : Ledger) (a b : List Operation) → m ≡ goes_out l a None → IsPartly m b o → IsPartly l (a ++ b) o
partly_more l m o a b e p = record {
  out = a ++ p.out;
  held = p.held;
  rest = p.rest;
  now = out_more l m o a p.out p.held e p.now;
  split = ap (λ x. a ++ x) p.split ∙ sym (ap (λ x. x ++ p.rest) (held_behind a p.out p.held) ∙ append_assoc a (with_held p.out p.held) p.rest);
}

pub writes_append : (v : ℕ) (a b : List Counted) → map (Writes v) (a ++ b) ≡ map (Writes v) a ++ map (Writes v) b
writes_append v [] b = refl
writes_append v (x ∷ a) b = ap (λ l. Writes v x ∷ l) (writes_append v a b)

-- ---- answers

pub on_err : {A : Type 0} {E : Type 0} (P : Type 0) (r : Result A E) → P → OnErr r P
on_err P (Ok x) p = tt
on_err P (Err e) p = p

pub on_err_so : {A : Type 0} {E : Type 0} (P Q : Type 0) (r : Result A E) → (P → Q) → OnErr r P → OnErr r Q
on_err_so P Q (Ok x) f h = tt
on_err_so P Q (Err e) f h = f h

pub on_ok : {A : Type 0} {E : Type 0} (P Q : Type 0) (r : Result A E) → (P → Q) → OnOk r P → OnOk r Q
on_ok P Q (Ok x) f h = f h
on_ok P Q (Err e) f h = tt

pub on_both : {A : Type 0} {E : Type 0} (P Q S : Type 0) (r : Result A E) → (P → Q → S) → OnOk r P → OnOk r Q → OnOk r S
on_both P Q S (Ok x) f h k = f h k
on_both P Q S (Err e) f h k = tt

pub if_err : {A : Type 0} {E : Type 0} (P Q : E → Type 0) (r : Result A E) → ((e : E) → P e → Q e) → IfErr r P → IfErr r Q
if_err P Q (Ok x) f h = tt
if_err P Q (Err e) f h = f e h

-- ---- pages

pub out_pages : (l m o : Ledger) (v : ℕ) (done rest all : List Counted) → m ≡ goes_out l (map (Writes v) done) None → done ++ rest ≡ all → o ≡ goes_out m (map (Writes v) rest) None → o ≡ goes_out l (map (Writes v) all) None
out_pages l m o v done rest all e f h =
    out_more l m o (map (Writes v) done) (map (Writes v) rest) None e h ∙ ap (λ ops. goes_out l ops None) (sym (writes_append v done rest) ∙ ap (map (Writes v)) f)

pub partly_pages : (l m o : Ledger) (v : ℕ) (done rest all : List Counted) → m ≡ goes_out l (map (Writes v) done) None → done ++ rest ≡ all → IsPartly m (map (Writes v) rest) o → IsPartly l (map (Writes v) all) o
partly_pages l m o v done rest all e f p =
    subst (λ ops. IsPartly l ops o) (sym (writes_append v done rest) ∙ ap (map (Writes v)) f) (partly_more l m o (map (Writes v) done) (map (Writes v) rest) e p)

pub ok_from : {A : Type 0} {E : Type 0} (P : Type 0) (r : Result A E) → P → OnOk r P
ok_from P (Ok x) p = p
ok_from P (Err e) p = tt

pub on_four : {A : Type 0} {E : Type 0} (P Q S T U : Type 0) (r : Result A E) → (P → Q → S → T → U) → OnOk r P → OnOk r Q → OnOk r S → OnOk r T → OnOk r U
on_four P Q S T U (Ok x) f a b c d = f a b c d
on_four P Q S T U (Err e) f a b c d = tt

pub if_ok_both : {A : Type 0} {E : Type 0} (P : Type 0) (Q S : A → Type 0) (r : Result A E) → ((x : A) → P → Q x → S x) → OnOk r P → IfOk r Q → IfOk r S
if_ok_both P Q S (Ok x) f a b = f x a b
if_ok_both P Q S (Err e) f a b = tt

pub if_ok : {A : Type 0} {E : Type 0} (P Q : A → Type 0) (r : Result A E) → ((x : A) → P x → Q x) → IfOk r P → IfOk r Q
if_ok P Q (Ok x) f h = f x h
if_ok P Q (Err e) f h = tt

pub if_ok_on : {A : Type 0} {E : Type 0} (P : A → Type 0) (Q : Type 0) (r : Result A E) → ((x : A) → P x → Q) → IfOk r P → OnOk r Q
if_ok_on P Q (Ok x) f h = f x h
if_ok_on P Q (Err e) f h = tt

pub if_err_both : {A : Type 0} {E : Type 0} (P Q S : E → Type 0) (r : Result A E) → ((e : E) → P e → Q e → S e) → IfErr r P → IfErr r Q → IfErr r S
if_err_both P Q S (Ok x) f a b = tt
if_err_both P Q S (Err e) f a b = f e a b

pub on_three : {A : Type 0} {E : Type 0} (P Q S T : Type 0) (r : Result A E) → (P → Q → S → T) → OnOk r P → OnOk r Q → OnOk r S → OnOk r T
on_three P Q S T (Ok x) f a b c = f a b c
on_three P Q S T (Err e) f a b c = tt

pub if_ok_two : {A : Type 0} {E : Type 0} (P Q S : A → Type 0) (r : Result A E) → ((x : A) → P x → Q x → S x) → IfOk r P → IfOk r Q → IfOk r S
if_ok_two P Q S (Ok x) f a b = f x a b
if_ok_two P Q S (Err e) f a b = tt

pub if_ok_three : {A : Type 0} {E : Type 0} (P Q S T : A → Type 0) (r : Result A E) → ((x : A) → P x → Q x → S x → T x) → IfOk r P → IfOk r Q → IfOk r S → IfOk r T
if_ok_three P Q S T (Ok x) f a b c = f x a b c
if_ok_three P Q S T (Err e) f a b c = tt
