-- A script's lines, one more at a time.
use Rattle.std.proofs.Common.{◌≡◌, ◌∙◌, sym, ap, ℕ, ◌+◌, List, ◌∷◌}
use Rattle.std.specs.Prelude.{Result, Ok, Err, IfOk}
use Rattle.dw_ends.specs.Pieces.{newline, pieces}
use Rattle.dw_build.specs.Script.{RefusedAt, RefusedWhole, after_each, after_line, after_lines}
use Rattle.dw_build.specs.ScriptValue.{ScriptValue}
use Rattle.dw_build.specs.Sets.{after_link_line, ended, sets}
use Rattle.dw_build.specs.SetsValue.{SetsValue, BegunValue, all_sets, empty_begun, sets_in}
use Rattle.dw_build.specs.declared.script.Refusal.{Refusal}
use Rattle.dw_build.specs.declared.script.ScriptError.{ScriptError}
use Rattle.dw_build.specs.declared.script.ScriptError.TheVariants as whole
use Rattle.dw_build.specs.declared.sets.Sets.{Sets}
use Rattle.dw_ends.specs.declared.reason.Reason.{Reason}

module _ {S : Type 0} (step : S → List ℕ → Result S Reason) where
  -- what is left to do after line n
  after_outcome : ℕ → List (List ℕ) → Result S Reason → Result S Refusal
  after_outcome n lines r = elim r as (λ _. Result S Refusal) [ Ok t ↦ after_each step (n + 1) t lines | Err reason ↦ Err (record { line = n; reason = reason }) ]

  -- a line that is accepted, and one that is refused
  pub after_each-ok : (n : ℕ) (s t : S) (line : List ℕ) (lines : List (List ℕ)) → step s line ≡ Ok t → after_each step n s (line ∷ lines) ≡ after_each step (n + 1) t lines
  unfolding after_outcome
  after_each-ok n s t line lines e = ap (after_outcome n lines) e

  pub after_each-err : (n : ℕ) (s : S) (reason : Reason) (line : List ℕ) (lines : List (List ℕ)) → step s line ≡ Err reason →
      after_each step n s (line ∷ lines) ≡ Err (record { line = n; reason = reason })
  unfolding after_outcome
  after_each-err n s reason line lines e = ap (after_outcome n lines) e

-- the same of lines of scripts
pub after_lines-ok : (n : ℕ) (s t : ScriptValue) (line : List ℕ) (lines : List (List ℕ)) → after_line s line ≡ Ok t →
    after_lines n s (line ∷ lines) ≡ after_lines (n + 1) t lines
after_lines-ok n s t line lines e = after_each-ok after_line n s t line lines e

pub after_lines-err : (n : ℕ) (s : ScriptValue) (reason : Reason) (line : List ℕ) (lines : List (List ℕ)) → after_line s line ≡ Err reason →
    after_lines n s (line ∷ lines) ≡ Err (record { line = n; reason = reason })
after_lines-err n s reason line lines e = after_each-err after_line n s reason line lines e

-- what lines of the command `link` came to, once all were accepted
pub sets_ended : (bytes : List ℕ) (b : BegunValue) (r : Result Sets ScriptError) → after_each after_link_line 1 empty_begun (pieces newline bytes) ≡ Ok b → IfOk r (λ s. sets_in s ≡ all_sets b) → IfOk r (λ s. sets bytes ≡ Ok (sets_in s))
unfolding sets
sets_ended bytes b (Ok s) e h = ap ended e ∙ ap Ok (sym h)
sets_ended bytes b (Err x) e h = tt

-- and where one is refused
pub sets_refused : (bytes : List ℕ) (n : ℕ) (b : BegunValue) (line : List ℕ) (lines : List (List ℕ)) (x : ScriptError) → after_each after_link_line n b (line ∷ lines) ≡ after_each after_link_line 1 empty_begun (pieces newline bytes) →
    RefusedAt n (after_link_line b line) x → RefusedWhole (sets bytes) x
unfolding sets
sets_refused bytes n b line lines (whole.Refused r) same h =
    ap ended (sym same ∙ after_each-err after_link_line n b r.reason line lines h.0)
    ∙ ap (λ (k : ℕ). let x : Result SetsValue Refusal = Err (record { line = k; reason = r.reason }) in x) (sym h.1)
sets_refused bytes n b line lines whole.NoMemory same h = tt
