-- What the parts of a file add.
use Rattle.std.proofs.Common.{◌≡◌, ℕ, Bool, true, false, List, [], ◌∷◌, Option, Some, None, unwrap_or}
use Rattle.dw_writer.specs.Meaning.{Meaning, Adds, Appends}
use Rattle.dw_writer.proofs.Steps.{Adds-appends}
use Rattle.dw_line.specs.Files.{source_size, source_text}
use Rattle.dw_line.specs.declared.line_string.LineString.{LineString}
use Rattle.dw_line.specs.declared.line_string.LineString.TheVariants.{String}
use Rattle.dw_line.proofs.Steps.{Adds-none}

pub no_source : {m : Meaning} (w : ℕ) (strings line_strings : List (List ℕ)) (t : Bool) (s : LineString) → t ≡ false → Appends m m (source_size w t s) (source_text w strings line_strings t s)
no_source {m} w strings line_strings true s e = cc
no_source {m} w strings line_strings false s e = Adds-appends (Adds-none m)

pub empty_source : {a b : Meaning} (w : ℕ) (strings line_strings : List (List ℕ)) (t : Bool) (s : Option LineString) → t ≡ true → s ≡ None → Adds a b (0 ∷ []) →
    Appends a b (source_size w t (unwrap_or s (String []))) (source_text w strings line_strings t (unwrap_or s (String [])))
empty_source w strings line_strings true None e n p = Adds-appends p
empty_source w strings line_strings true (Some x) e n p = cc
empty_source w strings line_strings false s e n p = cc
