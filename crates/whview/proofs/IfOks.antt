-- A fact of an Ok from others of it.
use Rattle.std.specs.Prelude.{Result, Ok, Err, IfErr, IfOk}

pub if_ok : {T E : Type 0} (r : Result T E) (P Q : T → Type 0) → IfOk r P → ((x : T) → P x → Q x) → IfOk r Q
if_ok (Ok x) P Q p f = f x p
if_ok (Err e) P Q p f = tt

pub if_ok_both : {T E : Type 0} (r : Result T E) (P P' Q : T → Type 0) → IfOk r P → IfOk r P' → ((x : T) → P x → P' x → Q x) → IfOk r Q
if_ok_both (Ok x) P P' Q p p' f = f x p p'
if_ok_both (Err e) P P' Q p p' f = tt

pub if_ok_three : {T E : Type 0} (r : Result T E) (P P' P'' Q : T → Type 0) → IfOk r P → IfOk r P' → IfOk r P'' → ((x : T) → P x → P' x → P'' x → Q x) → IfOk r Q
if_ok_three (Ok x) P P' P'' Q p p' p'' f = f x p p' p''
if_ok_three (Err e) P P' P'' Q p p' p'' f = tt

-- the same of an Err
pub if_err : {T E : Type 0} (r : Result T E) (P Q : E → Type 0) → IfErr r P → ((e : E) → P e → Q e) → IfErr r Q
if_err (Ok x) P Q p f = tt
if_err (Err e) P Q p f = f e p
