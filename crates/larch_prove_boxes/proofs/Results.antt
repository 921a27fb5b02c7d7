-- What an answer keeps.
use Rattle.std.specs.Prelude.{Err, IfOk, Ok, OnOk, Result}

-- what says more of an answer
pub ok_kept : {A E : Type 0} (P Q : A → Type 0) (o : Result A E) → IfOk o P → ((x : A) → P x → Q x) → IfOk o Q
ok_kept P Q (Ok x) h f = f x h
ok_kept P Q (Err e) h f = h

-- what says more where there is one
pub there_kept : {A E : Type 0} (P Q : Type 0) (o : Result A E) → OnOk o P → (P → Q) → OnOk o Q
there_kept P Q (Ok x) h f = f h
there_kept P Q (Err e) h f = h

-- what is said in any case
pub there_too : {A E : Type 0} (P : Type 0) (o : Result A E) → P → OnOk o P
there_too P (Ok x) h = h
there_too P (Err e) h = tt
