-- Bytes that stand within a field: printable, and no space.
use Rattle.std.proofs.Common.{◌≡◌, ℕ, ◌<◌, ◌≤◌, Bool, true, false, ◌&&◌, nat_le, List, arith, ◌==◌}
use Rattle.std.specs.List.{All, list_all}
use Rattle.std.proofs.lemmas.Bool.Decides.{nat_tests}
use Rattle.std.proofs.lemmas.Grind.{common_steps}
use Rattle.std.proofs.lemmas.List.Sums.{AllPass-from_list_all, list_all-from_AllPass}
use Rattle.dw_ends.specs.Fields.{all_printable}

-- printable, and no space
abbrev pub IsVisible : ℕ → Type 0
IsVisible b = (33 ≤ b) × (b ≤ 126)

-- printable
abbrev pub IsPrintable : ℕ → Type 0
IsPrintable b = (32 ≤ b) × (b ≤ 126)

-- the same as a test
abbrev pub is_visible : ℕ → Bool
is_visible b = nat_le 33 b && nat_le b 126

seen : (b : ℕ) → is_visible b ≡ true → IsVisible b
seen b e = grind (arith, nat_tests, common_steps, e)

-- what passes the test is visible
pub tested : (bs : List ℕ) → list_all is_visible bs ≡ true → All IsVisible bs
tested bs e k d inside = seen _ (AllPass-from_list_all is_visible bs e k d inside)

-- what is visible is printable
pub printed : (bs : List ℕ) → All IsVisible bs → All IsPrintable bs
printed bs all k d inside = let v = all k d inside in (omega (arith, v.0), v.1)

unlike : (b c : ℕ) → c < b → (b == c) ≡ false
unlike b c above = grind (arith, nat_tests)

-- none of them is a space, which is 32
pub no_space : (bs : List ℕ) → All IsVisible bs → All (λ b. (b == 32) ≡ false) bs
no_space bs all k d inside = let v = all k d inside in unlike _ 32 (omega (arith, v.0))

-- nor is a printable byte a newline, which is 10
pub no_newline : (bs : List ℕ) → All IsPrintable bs → All (λ b. (b == 10) ≡ false) bs
no_newline bs all k d inside = let v = all k d inside in unlike _ 10 (omega (arith, v.0))

passes : (b : ℕ) → IsPrintable b → (nat_le 32 b && nat_le b 126) ≡ true
passes b v = grind (arith, nat_tests, common_steps, v.0, v.1)

pub all_pass : (bs : List ℕ) → All IsPrintable bs → all_printable bs ≡ true
all_pass bs all = list_all-from_AllPass (λ b. nat_le 32 b && nat_le b 126) bs (λ k d inside. passes _ (all k d inside))
