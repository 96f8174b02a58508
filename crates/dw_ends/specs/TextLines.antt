-- The lines of a text.
use Rattle.std.specs.Prelude.{ℕ, List}
use Rattle.dw_ends.specs.Pieces.{newline, pieces_after}
use Rattle.dw_ends.specs.declared.text_lines.TextLines.{TextLines}

-- the lines that are still to come
unfoldable pub lines_left : TextLines → List (List ℕ)
lines_left l = pieces_after newline l.rest
