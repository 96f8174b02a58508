-- Items up to one that says that there are no more.
use Rattle.std.proofs.Common.{◌≡◌, ◌∙◌, sym, ap, ℕ, zero, suc, ◌+◌, ◌-◌, ◌<◌, ◌≤◌, List, [], ◌∷◌, ◌++◌, length, Option, Some, None, Bool, true, false, Ok, Err, Result, refl, arith, length-append}
use Rattle.dw_read.specs.Reading.{Read}
use Rattle.dw_read.specs.Reasons.{◌=>>◌, if_so}
use Rattle.dw_read.specs.Declarations.{items_after, items_read}
use Rattle.dw_read.specs.declared.error.ReadError.{ReadError}
use Rattle.dw_read.specs.declared.error.ReadError.TheVariants.{UnexpectedEof}

-- the value before a step that gave a value
pub then_parts : {A B : Type 0} (r : Result A ReadError) (f : A → Result B ReadError) (x : B) → (r =>> f) ≡ Ok x → (a : A) × (r ≡ Ok a) × (f a ≡ Ok x)
then_parts (Ok a) f x e = (a, refl, e)
then_parts (Err y) f x e = absurd (cc)

-- a value that passed a test is the one that was tested
pub if_so_parts : {A : Type 0} (b : Bool) (y : ReadError) (r : Result A ReadError) (x : A) → if_so b y r ≡ Ok x → r ≡ Ok x
if_so_parts true y r x e = e
if_so_parts false y r x e = absurd (cc)

-- an item takes a byte at least, and from no bytes none is read
pub record IsOne (A : Type 0) (one : List A → Read (Option A)) : Type 0 where
  pub empty : (before : List A) → one before [] ≡ Err UnexpectedEof
  pub shorter : (before : List A) (bytes : List ℕ) (x : Option A × List ℕ) → one before bytes ≡ Ok x → length x.1 < length bytes

-- what is read from the beginning is what is read from here on, after the items before
pub record Collects (A : Type 0) (one : List A → Read (Option A)) (bytes : List ℕ) (front : List A) (rest : List ℕ) : Type 0 where
  pub is : items_read one (length bytes) [] bytes ≡ items_read one (length bytes - length front) front rest
  pub shorter : length rest + length front ≤ length bytes

pub collects_none : (A : Type 0) (one : List A → Read (Option A)) (bytes : List ℕ) → Collects A one bytes [] bytes
collects_none A one bytes = let e : length bytes ≡ length bytes - 0 = omega arith in record { is = ap (λ (n : ℕ). items_read one n [] bytes) e; shorter = omega arith }

pub one_step : (A : Type 0) (one : List A → Read (Option A)) (fuel : ℕ) (front : List A) (rest : List ℕ) → items_read one (suc fuel) front rest ≡ (one front rest =>> items_after (items_read one fuel) front)
unfolding items_read
one_step A one fuel front rest = refl

pub no_fuel : (A : Type 0) (one : List A → Read (Option A)) (front : List A) (rest : List ℕ) → items_read one zero front rest ≡ Err UnexpectedEof
unfolding items_read
no_fuel A one front rest = refl

length-zero : (rest : List ℕ) → length rest ≡ 0 → rest ≡ []
length-zero [] h = refl
length-zero (b ∷ bs) h = absurd (omega arith)

-- the step at a fuel that is not below the bytes left
step_at : (A : Type 0) (one : List A → Read (Option A)) (fuel : ℕ) (front : List A) (rest : List ℕ) → IsOne A one → length rest ≤ fuel → items_read one fuel front rest ≡ (one front rest =>> items_after (items_read one (fuel - 1)) front)
step_at A one zero front rest i h =
    let e : rest ≡ [] = length-zero rest (omega arith) in
    let r : one front rest ≡ Err UnexpectedEof = ap (one front) e ∙ i.empty front in
    no_fuel A one front rest ∙ sym (ap (λ o. o =>> items_after (items_read one (zero - 1)) front) r)
step_at A one (suc fuel) front rest i h =
    let e : suc fuel - 1 ≡ fuel = omega arith in
    one_step A one fuel front rest ∙ ap (λ (n : ℕ). one front rest =>> items_after (items_read one n) front) (sym e)

pub collects_end : (A : Type 0) (one : List A → Read (Option A)) (bytes : List ℕ) (front : List A) (rest more : List ℕ) → IsOne A one → Collects A one bytes front rest → one front rest ≡ Ok (None, more) → items_read one (length bytes) [] bytes ≡ Ok (front, more)
collects_end A one bytes front rest more i c e =
    let s : length rest + length front ≤ length bytes = c.shorter in
    c.is ∙ step_at A one (length bytes - length front) front rest i (omega arith) ∙ ap (λ o. o =>> items_after (items_read one (length bytes - length front - 1)) front) e

pub collects_more : (A : Type 0) (one : List A → Read (Option A)) (bytes : List ℕ) (front next : List A) (x : A) (rest more : List ℕ) → IsOne A one → Collects A one bytes front rest → one front rest ≡ Ok (Some x, more) → next ≡ front ++ x ∷ [] → Collects A one bytes next more
collects_more A one bytes front next x rest more i c e q =
    let s : length rest + length front ≤ length bytes = c.shorter in
    let t : length more < length rest = i.shorter front rest (Some x, more) e in
    let l : length next ≡ length front + 1 = ap length q ∙ length-append front (x ∷ []) in
    let f : length bytes - length front - 1 ≡ length bytes - length next = omega arith in
    record {
      is = c.is ∙ step_at A one (length bytes - length front) front rest i (omega arith) ∙ ap (λ o. o =>> items_after (items_read one (length bytes - length front - 1)) front) e
          ∙ ap (λ (n : ℕ). items_read one n (front ++ x ∷ []) more) f ∙ ap (λ (z : List A). items_read one (length bytes - length next) z more) (sym q);
      shorter = omega arith;
    }

pub collects_err : (A : Type 0) (one : List A → Read (Option A)) (bytes : List ℕ) (front : List A) (rest : List ℕ) (e : ReadError) → IsOne A one → Collects A one bytes front rest → one front rest ≡ Err e → items_read one (length bytes) [] bytes ≡ Err e
collects_err A one bytes front rest e i c h =
    let s : length rest + length front ≤ length bytes = c.shorter in
    c.is ∙ step_at A one (length bytes - length front) front rest i (omega arith) ∙ ap (λ o. o =>> items_after (items_read one (length bytes - length front - 1)) front) h

items_after_shorter : (A : Type 0) (more : List A → Read (List A)) (before : List A) (o : Option A × List ℕ) (x : List A × List ℕ) → ((front : List A) (y : List A × List ℕ) → more front o.1 ≡ Ok y → length y.1 ≤ length o.1) → items_after more before o ≡ Ok x → length x.1 ≤ length o.1
items_after_shorter A more before (None, bytes) x h e = let q : (before, bytes) ≡ x = cc in let r : bytes ≡ x.1 = ap (λ (y : List A × List ℕ). y.1) q in omega (arith, ap length r)
items_after_shorter A more before (Some y, bytes) x h e = h (before ++ y ∷ []) x e

pub items_shorter : (A : Type 0) (one : List A → Read (Option A)) (fuel : ℕ) (before : List A) (bytes : List ℕ) (x : List A × List ℕ) → IsOne A one → items_read one fuel before bytes ≡ Ok x → length x.1 ≤ length bytes
items_shorter A one zero before bytes x i e = let z : items_read one zero before bytes ≡ Err UnexpectedEof = no_fuel A one before bytes in absurd (cc)
items_shorter A one (suc fuel) before bytes x i e =
    let p = then_parts (one before bytes) (items_after (items_read one fuel) before) x (sym (one_step A one fuel before bytes) ∙ e) in
    let s : length p.0.1 < length bytes = i.shorter before bytes p.0 p.1 in
    let t : length x.1 ≤ length p.0.1 = items_after_shorter A (items_read one fuel) before p.0 x (λ front y f. items_shorter A one fuel front p.0.1 y i f) p.2 in
    omega arith
