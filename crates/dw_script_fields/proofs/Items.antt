-- Each item takes a field or more, so that a list has no more items than fields.
use Rattle.std.proofs.Common.{◌≡◌, ◌∙◌, ℕ, zero, suc, ◌<◌, ◌≤◌, [], ◌∷◌, length, Ok, Err, ap, refl, arith}
use Rattle.dw_ends.specs.declared.reason.Reason.{Reason}
use Rattle.dw_ends.specs.Fields.{Fields, Outcome}
use Rattle.dw_script_fields.specs.Items.{Items, item_before, items_on, items_up_to, items_of}

-- what is read takes a field or more
abbrev pub TakesSome : {A : Type 0} → (Fields → Outcome (A × Fields)) → Type 0
TakesSome {A} read = (fields : Fields) (got : A × Fields) → read fields ≡ Ok got → length got.1 < length fields

-- a list goes on alike, whatever item comes next
on_alike : {A : Type 0} (next other : Fields → Items A) (o : Outcome (A × Fields)) → ((got : A × Fields) → o ≡ Ok got → next got.1 ≡ other got.1) → items_on next o ≡ items_on other o
on_alike next other (Ok got) alike = ap (item_before got.0) (alike got refl)
on_alike next other (Err _) alike = refl

-- as many items as there are fields are enough
items-enough : {A : Type 0} (read : Fields → Outcome (A × Fields)) (takes : TakesSome read) (m n : ℕ) (fields : Fields) → length fields ≤ m → length fields ≤ n → items_up_to read m fields ≡ items_up_to read n fields
unfolding items_up_to
items-enough read takes zero zero fields few enough = refl
items-enough read takes zero (suc n) [] few enough = refl
items-enough read takes zero (suc n) (field ∷ fields) few enough = absurd (omega arith)
items-enough read takes (suc m) zero [] few enough = refl
items-enough read takes (suc m) zero (field ∷ fields) few enough = absurd (omega arith)
items-enough read takes (suc m) (suc n) [] few enough = refl
items-enough read takes (suc m) (suc n) (field ∷ fields) few enough =
    on_alike (items_up_to read m) (items_up_to read n) (read (field ∷ fields)) (λ got e.
    let shorter : length got.1 < length (field ∷ fields) = takes (field ∷ fields) got e in
    items-enough read takes m n got.1 (omega arith) (omega arith))

-- no fields are a list without items
pub items-none : {A : Type 0} (read : Fields → Outcome (A × Fields)) (fields : Fields) → length fields ≡ 0 → items_of read fields ≡ ([], Ok tt)
unfolding items_up_to
items-none read [] e = refl
items-none read (field ∷ fields) e = absurd (omega arith)

-- an item, and the list that the fields after it are
pub items-step : {A : Type 0} (read : Fields → Outcome (A × Fields)) (takes : TakesSome read) (fields : Fields) (item : A) (rest : Fields) → read fields ≡ Ok (item, rest) → items_of read fields ≡ item_before item (items_of read rest)
unfolding items_up_to
items-step read takes [] item rest e = absurd (let shorter : length rest < 0 = takes [] (item, rest) e in omega arith)
items-step read takes (field ∷ fields) item rest e =
    let shorter : length rest < length (field ∷ fields) = takes (field ∷ fields) (item, rest) e in
    ap (items_on (items_up_to read (length fields))) e ∙ ap (item_before item) (items-enough read takes (length fields) (length rest) rest (omega arith) (omega arith))

-- a list that can't be read on
pub items-failed : {A : Type 0} (read : Fields → Outcome (A × Fields)) (fields : Fields) (reason : Reason) → 0 < length fields → read fields ≡ Err reason → items_of read fields ≡ ([], Err reason)
unfolding items_up_to
items-failed read [] reason some e = absurd (omega arith)
items-failed read (field ∷ fields) reason some e = ap (items_on (items_up_to read (length fields))) e
