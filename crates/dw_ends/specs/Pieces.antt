-- Bytes, cut at each separator.
use Rattle.std.specs.Prelude.{ℕ, List, [], Option, Some, None, ◌==◌}
use Rattle.std.specs.List.{slice_split}
use Rattle.std.specs.Borrow.{Bor}
use Rattle.dw_ends.specs.declared.pieces.Pieces.{Pieces}

-- what ends a line
abbrev pub newline : ℕ
newline = 10

-- what stands between two fields
abbrev pub space : ℕ
space = 32

-- the parts between the separators, some of them empty; with no separator the one part is the whole
abbrev pub pieces : ℕ → List ℕ → List (List ℕ)
pieces separator bytes = slice_split (λ b. b == separator) bytes

-- the pieces of the bytes after a separator, where there was one
abbrev pub pieces_after : ℕ → Option (Bor (List ℕ)) → List (List ℕ)
pieces_after separator None = []
pieces_after separator (Some rest) = pieces separator rest.now

-- the pieces that are still to come
unfoldable pub pieces_left : Pieces → List (List ℕ)
pieces_left p = pieces_after p.separator p.rest
