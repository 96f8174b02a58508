-- Printed texts, grouped as they are defined.
use Rattle.std.proofs.Common.{◌≡◌, sym, ℕ, List, length, ◌++◌, append_assoc}
use Rattle.std.specs.Prelude.{codes, decimal, sum}
use Rattle.dw_ends.specs.Reasons.{reason_text}
use Rattle.dw_program.specs.Texts.{refusal_text, counts_text}
use Rattle.dw_build.specs.declared.script.Refusal.{Refusal}

pub refusal_text-grouped : (r : Refusal) → codes "line " ++ (decimal r.line ++ (codes ": " ++ (reason_text r.reason ++ codes "\n"))) ≡ refusal_text r
refusal_text-grouped r = sym (simp append_assoc)

pub counts_text-grouped : (units entries : ℕ) (info abbrevs : List ℕ) →
    codes "units " ++ (decimal units ++ (codes " entries " ++ (decimal entries ++ (codes " info " ++ (decimal (length info) ++ (codes " abbrev " ++ (decimal (length abbrevs) ++ (codes " sum " ++ (decimal (sum info) ++ codes "\n"))))))))) ≡ counts_text units entries info abbrevs
counts_text-grouped units entries info abbrevs = sym (simp append_assoc)
