-- An input's lines, one more at a time.
use Rattle.std.proofs.Common.{◌≡◌, ◌∙◌, sym, ap, ℕ, ◌+◌, List, ◌∷◌}
use Rattle.std.specs.Prelude.{Result, Ok, Err}
use Rattle.dw_ends.specs.Fields.{Outcome}
use Rattle.dw_ends.specs.Listed.{RefusedAt, RefusedWhole}
use Rattle.dw_ends.specs.declared.reason.Reason.{Reason}
use Rattle.dw_ends.specs.declared.whole_listing.ListingError.{ListingError}
use Rattle.dw_ends.specs.declared.whole_listing.ListingError.TheVariants.{Refused, NoMemory}
use Rattle.dw_live_code.specs.LiveLines.{InputValue, after_input_line, after_input_lines, input_of}

-- what is left to do after line n
after_outcome : ℕ → List (List ℕ) → Outcome InputValue → Result InputValue (ℕ × Reason)
after_outcome n lines r = elim r as (λ _. Result InputValue (ℕ × Reason)) [ Ok v ↦ after_input_lines (n + 1) v lines | Err reason ↦ Err (n, reason) ]

-- a line that is taken, and one that is refused
pub after_lines-ok : (n : ℕ) (v next : InputValue) (line : List ℕ) (lines : List (List ℕ)) → after_input_line v line ≡ Ok next → after_input_lines n v (line ∷ lines) ≡ after_input_lines (n + 1) next lines
unfolding after_outcome
after_lines-ok n v next line lines e = ap (after_outcome n lines) e

after_lines-err : (n : ℕ) (v : InputValue) (reason : Reason) (line : List ℕ) (lines : List (List ℕ)) → after_input_line v line ≡ Err reason → after_input_lines n v (line ∷ lines) ≡ Err (n, reason)
unfolding after_outcome
after_lines-err n v reason line lines e = ap (after_outcome n lines) e

-- the first line that is refused is that of all
pub input_refused : (bytes : List ℕ) (n : ℕ) (v : InputValue) (line : List ℕ) (lines : List (List ℕ)) (x : ListingError) → after_input_lines n v (line ∷ lines) ≡ input_of bytes → RefusedAt n (after_input_line v line) x → RefusedWhole (input_of bytes) x
input_refused bytes n v line lines (Refused number reason) same h =
    sym same ∙ after_lines-err n v reason line lines h.1 ∙ ap (λ (k : ℕ). let x : Result InputValue (ℕ × Reason) = Err (k, reason) in x) (sym h.0)
input_refused bytes n v line lines NoMemory same h = tt
