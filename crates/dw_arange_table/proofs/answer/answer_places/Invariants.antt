use Rattle.std.proofs.Common.{◌≡◌, ◌++◌, map, drop}
use Rattle.dw_arange_table.specs.Printed.{places_text}
use Rattle.dw_arange_table.proofs.answer.answer_places.Given as goal

-- what is printed, and the lines of the other places, are all
abbrev pub invariant-loop-place : goal.invariant-loop-place
invariant-loop-place l = l.text.items ++ places_text (map (λ u. u.0) (drop l.place-index l.places)) ≡ places_text (map (λ u. u.0) l.places)
