-- What is known of an Ok value, taken further.
use Rattle.std.specs.Prelude.{Result, Ok, Err, IfOk}

pub IfOk-map : {T E : Type 0} {P Q : T → Type 0} (r : Result T E) → IfOk r P → ((x : T) → P x → Q x) → IfOk r Q
IfOk-map (Ok x) p f = f x p
IfOk-map (Err e) p f = tt

-- the same of two facts
pub IfOk-two : {T E : Type 0} {P Q R : T → Type 0} (r : Result T E) → IfOk r P → IfOk r Q → ((x : T) → P x → Q x → R x) → IfOk r R
IfOk-two (Ok x) p q f = f x p q
IfOk-two (Err e) p q f = tt
