-- Laws of bytes written over others.
use Rattle.std.specs.Prelude.{◌≡◌, ℕ, suc, zero, ◌+◌, ◌≤◌, List, [], ◌∷◌, ◌++◌, length, take, drop, refl}
use Rattle.std.proofs.Common.{sym, ◌∙◌, ap, arith}
use Rattle.dw_writer.specs.Texts.{overwrite, zeros}

pub length-overwrite : (p : ℕ) (xs bs : List ℕ) → length (overwrite p xs bs) ≡ length bs
length-overwrite p xs [] = refl
length-overwrite zero [] (b ∷ bs) = refl
length-overwrite zero (x ∷ xs) (b ∷ bs) = ap suc (length-overwrite zero xs bs)
length-overwrite (suc p) xs (b ∷ bs) = ap suc (length-overwrite p xs bs)

pub overwrite-none : (p : ℕ) (bs : List ℕ) → overwrite p [] bs ≡ bs
overwrite-none p [] = refl
overwrite-none zero (b ∷ bs) = refl
overwrite-none (suc p) (b ∷ bs) = ap (λ r. b ∷ r) (overwrite-none p bs)

-- bytes over others of the same number, in the middle
pub overwrite-middle : (hs zs xs bs : List ℕ) → length xs ≡ length zs → overwrite (length hs) xs ((hs ++ zs) ++ bs) ≡ (hs ++ xs) ++ bs
overwrite-middle [] [] [] bs e = overwrite-none 0 bs
overwrite-middle [] [] (x ∷ xs) bs e = cc
overwrite-middle [] (z ∷ zs) [] bs e = cc
overwrite-middle [] (z ∷ zs) (x ∷ xs) bs e = ap (λ r. x ∷ r) (overwrite-middle [] zs xs bs (omega arith))
overwrite-middle (a ∷ hs) zs xs bs e = ap (λ r. a ∷ r) (overwrite-middle hs zs xs bs e)

-- written over bytes that lie inside the first part
pub overwrite-append : (p : ℕ) (xs hs bs : List ℕ) → p + length xs ≤ length hs → overwrite p xs (hs ++ bs) ≡ overwrite p xs hs ++ bs
overwrite-append p [] hs bs h = overwrite-none p (hs ++ bs) ∙ sym (ap (λ r. r ++ bs) (overwrite-none p hs))
overwrite-append p (x ∷ xs) [] bs h = absurd (omega arith)
overwrite-append zero (x ∷ xs) (a ∷ hs) bs h = ap (λ r. x ∷ r) (overwrite-append zero xs hs bs (omega arith))
overwrite-append (suc p) (x ∷ xs) (a ∷ hs) bs h = ap (λ r. a ∷ r) (overwrite-append p (x ∷ xs) hs bs (omega arith))

-- written twice over the same place
pub overwrite-twice : (p : ℕ) (xs ys bs : List ℕ) → length xs ≡ length ys → overwrite p xs (overwrite p ys bs) ≡ overwrite p xs bs
overwrite-twice p xs ys [] e = refl
overwrite-twice zero [] [] (b ∷ bs) e = refl
overwrite-twice zero [] (y ∷ ys) (b ∷ bs) e = cc
overwrite-twice zero (x ∷ xs) [] (b ∷ bs) e = cc
overwrite-twice zero (x ∷ xs) (y ∷ ys) (b ∷ bs) e = ap (λ r. x ∷ r) (overwrite-twice zero xs ys bs (omega arith))
overwrite-twice (suc p) xs ys (b ∷ bs) e = ap (λ r. b ∷ r) (overwrite-twice p xs ys bs e)

-- two places apart from one another
pub overwrite-apart : (p q : ℕ) (xs ys bs : List ℕ) → p + length xs ≤ q → overwrite p xs (overwrite q ys bs) ≡ overwrite q ys (overwrite p xs bs)
overwrite-apart p q xs ys [] h = refl
overwrite-apart p q [] ys (b ∷ bs) h = overwrite-none p (overwrite q ys (b ∷ bs)) ∙ sym (ap (overwrite q ys) (overwrite-none p (b ∷ bs)))
overwrite-apart zero zero (x ∷ xs) ys (b ∷ bs) h = absurd (omega arith)
overwrite-apart zero (suc q) (x ∷ xs) ys (b ∷ bs) h = ap (λ r. x ∷ r) (overwrite-apart zero q xs ys bs (omega arith))
overwrite-apart (suc p) zero (x ∷ xs) ys (b ∷ bs) h = absurd (omega arith)
overwrite-apart (suc p) (suc q) (x ∷ xs) ys (b ∷ bs) h = ap (λ r. b ∷ r) (overwrite-apart p q (x ∷ xs) ys bs (omega arith))

-- the part that ends before the place
pub part-before : (q w p : ℕ) (xs bs : List ℕ) → q + w ≤ p → take w (drop q (overwrite p xs bs)) ≡ take w (drop q bs)
part-before q w p xs [] h = refl
part-before zero zero p xs (b ∷ bs) h = refl
part-before zero (suc w) zero xs (b ∷ bs) h = absurd (omega arith)
part-before zero (suc w) (suc p) xs (b ∷ bs) h = ap (λ r. b ∷ r) (part-before zero w p xs bs (omega arith))
part-before (suc q) w zero xs (b ∷ bs) h = absurd (omega arith)
part-before (suc q) w (suc p) xs (b ∷ bs) h = part-before q w p xs bs (omega arith)

-- what lies past the place
pub drop-overwrite : (q p : ℕ) (xs bs : List ℕ) → p + length xs ≤ q → drop q (overwrite p xs bs) ≡ drop q bs
drop-overwrite q p xs [] h = refl
drop-overwrite q zero [] (b ∷ bs) h = refl
drop-overwrite zero zero (x ∷ xs) (b ∷ bs) h = absurd (omega arith)
drop-overwrite (suc q) zero (x ∷ xs) (b ∷ bs) h = drop-overwrite q zero xs bs (omega arith)
drop-overwrite zero (suc p) xs (b ∷ bs) h = absurd (omega arith)
drop-overwrite (suc q) (suc p) xs (b ∷ bs) h = drop-overwrite q p xs bs (omega arith)

-- the part at the place itself
pub part-same : (p : ℕ) (xs bs : List ℕ) → p + length xs ≤ length bs → take (length xs) (drop p (overwrite p xs bs)) ≡ xs
part-same p [] bs h = refl
part-same p (x ∷ xs) [] h = absurd (omega arith)
part-same zero (x ∷ xs) (b ∷ bs) h = ap (λ r. x ∷ r) (part-same zero xs bs (omega arith))
part-same (suc p) (x ∷ xs) (b ∷ bs) h = part-same p (x ∷ xs) bs (omega arith)

pub length-zeros : (n : ℕ) → length (zeros n) ≡ n
length-zeros zero = refl
length-zeros (suc n) = ap suc (length-zeros n)

-- bytes over others, in parts
pub overwrite-parts : (p n : ℕ) (xs bs : List ℕ) → n ≡ p + length xs → n ≤ length bs → overwrite p xs bs ≡ take p bs ++ (xs ++ drop n bs)
overwrite-parts zero zero [] [] e h = refl
overwrite-parts (suc p) n xs [] e h = absurd (omega arith)
overwrite-parts zero (suc n) xs [] e h = absurd (omega arith)
overwrite-parts zero zero (x ∷ xs) bs e h = absurd (omega arith)
overwrite-parts zero zero [] (b ∷ bs) e h = refl
overwrite-parts zero (suc n) [] (b ∷ bs) e h = absurd (omega arith)
overwrite-parts zero (suc n) (x ∷ xs) (b ∷ bs) e h = ap (λ r. x ∷ r) (overwrite-parts zero n xs bs (omega arith) (omega arith))
overwrite-parts (suc p) zero xs (b ∷ bs) e h = absurd (omega arith)
overwrite-parts (suc p) (suc n) xs (b ∷ bs) e h = ap (λ r. b ∷ r) (overwrite-parts p n xs bs (omega arith) (omega arith))

-- the same, as a write to a part of a slice leaves it
pub overwrite-put : (p k : ℕ) (xs bs : List ℕ) → length xs ≡ k → p + k ≤ length bs → take p bs ++ (xs ++ drop k (drop p bs)) ≡ overwrite p xs bs
overwrite-put zero zero [] bs e h = sym (overwrite-none 0 bs)
overwrite-put zero zero (x ∷ xs) bs e h = absurd (omega arith)
overwrite-put zero (suc k) [] bs e h = absurd (omega arith)
overwrite-put zero (suc k) (x ∷ xs) [] e h = absurd (omega arith)
overwrite-put zero (suc k) (x ∷ xs) (b ∷ bs) e h = ap (λ r. x ∷ r) (overwrite-put zero k xs bs (omega arith) (omega arith))
overwrite-put (suc p) k xs [] e h = absurd (omega arith)
overwrite-put (suc p) k xs (b ∷ bs) e h = ap (λ r. b ∷ r) (overwrite-put p k xs bs e (omega arith))
