-- What holds on success.
use Rattle.std.specs.Prelude.{OnOk, IfOk, IfSome, Option, Some, None, Result, Ok, Err}

-- what holds on success, in other words
pub on_ok : {A E : Type 0} (r : Result A E) (P Q : Type 0) → (P → Q) → OnOk r P → OnOk r Q
on_ok (Ok x) P Q f h = f h
on_ok (Err e) P Q f h = tt

-- what holds in any case
pub on_any : {A E : Type 0} (r : Result A E) (P : Type 0) → P → OnOk r P
on_any (Ok x) P h = h
on_any (Err e) P h = tt

pub if_ok : {A E : Type 0} (r : Result A E) (P Q : A → Type 0) → ((x : A) → P x → Q x) →
    IfOk r P → IfOk r Q
if_ok (Ok x) P Q f h = f x h
if_ok (Err e) P Q f h = tt

-- what holds on success by two facts
pub on_both : {A E : Type 0} (r : Result A E) (P : Type 0) (Q : A → Type 0) (R : A → Type 0) →
    ((x : A) → P → Q x → R x) → OnOk r P → IfOk r Q → IfOk r R
on_both (Ok x) P Q R f p q = f x p q
on_both (Err e) P Q R f p q = tt

-- what holds of a value, in other words
pub if_some : {A : Type 0} (o : Option A) (P Q : A → Type 0) → ((x : A) → P x → Q x) →
    IfSome o P → IfSome o Q
if_some (Some x) P Q f h = f x h
if_some None P Q f h = tt
