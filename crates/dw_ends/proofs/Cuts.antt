-- The first piece of some bytes, and the pieces after it.
use Rattle.std.proofs.Common.{◌≡◌, ℕ, suc, ◌+◌, ◌<◌, ◌≤◌, Bool, true, false, cond, List, [], ◌∷◌, length, take, drop, Some, None, refl, arith, rules, tests, subst, nat_lt, not, inl, inr, ◌==◌}
use Rattle.std.specs.Prelude.{position}
use Rattle.std.specs.List.{slice_split, position_or_len, onto_first}
use Rattle.std.proofs.lemmas.List.Splits.{slice_split_first, length-slice_split}
use Rattle.std.proofs.lemmas.List.Sums.{count_by-le-length}
use Rattle.std.proofs.lemmas.Option.{cond_some}
use Rattle.std.proofs.lemmas.Bool.{cases_lt}
use Rattle.std.proofs.lemmas.Bool.Decides.{nat_tests}
use Rattle.dw_ends.specs.Pieces.{pieces}

-- the place of the first that passes, if one does
place : {n len at : ℕ} → cond (nat_lt n len) (Some n) None ≡ Some at → (n < len) × (n ≡ at)
place {n} {len} {at} e = let p : (nat_lt n len ≡ true) × (n ≡ at) = cond_some _ _ _ e in (search (rules, tests), p.1)

-- there is at most one piece more than bytes
pub length-pieces : (separator : ℕ) (bytes : List ℕ) → length (pieces separator bytes) ≤ length bytes + 1
length-pieces separator bytes =
    omega (arith, length-slice_split (λ b. b == separator) bytes, count_by-le-length (λ b. b == separator) bytes)

-- a separator cuts off what stands before it
pub pieces_found : (separator : ℕ) (bytes : List ℕ) (at : ℕ) → position (λ b. b == separator) bytes ≡ Some at → pieces separator bytes ≡ take at bytes ∷ pieces separator (drop (at + 1) bytes)
pieces_found separator bytes at e =
    let p = place e in
    let first = slice_split_first (λ b. b == separator) bytes 0 p.0 in
    subst (λ (n : ℕ). pieces separator bytes ≡ take n bytes ∷ pieces separator (drop (n + 1) bytes)) p.1 first

-- where none passes, the place of the first is the length
no_place : {n len : ℕ} → cond (nat_lt n len) (Some n) None ≡ None → len ≤ n
no_place {n} {len} e =
    elim (cases_lt n len) [ inl h ↦ absurd (grind (arith, nat_tests, e, h)) | inr h ↦ h ]

-- the first byte, by whether it is a separator, and the bytes after it
whole_cons : (passes : Bool) (b : ℕ) (rest : List ℕ) (n : ℕ) (parts : List (List ℕ)) → suc (length rest) ≤ cond (not passes) (1 + n) 0 → (length rest ≤ n → parts ≡ rest ∷ []) → cond passes ([] ∷ parts) (onto_first b parts) ≡ (b ∷ rest) ∷ []
whole_cons true b rest n parts h later = absurd (omega arith)
whole_cons false b rest n parts h later =
    let e : parts ≡ rest ∷ [] = later (omega arith) in rw e refl

-- bytes of which none passes are the one part
slice_split_whole : (p : ℕ → Bool) (bytes : List ℕ) → length bytes ≤ position_or_len p bytes → slice_split p bytes ≡ bytes ∷ []
slice_split_whole p [] h = refl
slice_split_whole p (b ∷ bytes) h =
    whole_cons (p b) b bytes (position_or_len p bytes) (slice_split p bytes) h (slice_split_whole p bytes)

-- with no separator the bytes are one piece
pub pieces_none : (separator : ℕ) (bytes : List ℕ) → position (λ b. b == separator) bytes ≡ None → pieces separator bytes ≡ bytes ∷ []
pieces_none separator bytes e = slice_split_whole (λ b. b == separator) bytes (no_place e)
