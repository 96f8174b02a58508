-- The texts of parts, one behind another, taken apart.
use Rattle.std.specs.Prelude.{◌≡◌, ℕ, ◌+◌, ◌&&◌, Bool, true, false, List, ◌++◌, Some, None, refl, IsTrue, if◌then◌else◌}
use Rattle.std.proofs.Common.{sym, ◌∙◌, ap}
use Rattle.std.proofs.lemmas.Bool.{and_parts}
use Rattle.dw_base.specs.Numbers.{when, num, number_at, is_width, fits, word_of, escape_of, length_fits}
use Rattle.dw_base.specs.declared.common.Format.{Format}
use Rattle.dw_base.proofs.NumberLaws.{number-fits-again}
use Rattle.dw_writer.specs.Texts.{Text, followed, num_text}
use Rattle.dw_frame_instructions.specs.Pieces.{both}
use Rattle.dw_frame.specs.Parts.{Part, Placed, in_turn}
use Rattle.dw_frame.specs.Entries.{length_piece, with_length, with_count}
use Rattle.dw_frame.specs.Reading.{at_zero}

-- a text is its bytes
abbrev pub IsText : Bool → Part → List ℕ → Type 0
IsText big p xs = p.piece.text big at_zero ≡ Some xs

pub record Split (t u : Text) (zs : List ℕ) : Type 0 where
  pub xs : List ℕ
  pub ys : List ℕ
  pub whole : zs ≡ xs ++ ys
  pub first : t ≡ Some xs
  pub second : u ≡ Some ys

pub split : (t u : Text) (zs : List ℕ) → followed t u ≡ Some zs → Split t u zs
unfolding followed
split None u zs e = cc
split (Some xs) None zs e = cc
split (Some xs) (Some ys) zs e = record { xs = xs; ys = ys; whole = let f : xs ++ ys ≡ zs = cc in sym f; first = refl; second = refl }

-- the texts of two parts
pub turned : (p q : Placed) (at : ℕ) (big : Bool) (zs : List ℕ) → IsText big (in_turn p q at) zs → Split ((p at).piece.text big at_zero) ((q (at + (p at).piece.size)).piece.text big at_zero) zs
unfolding in_turn both
turned p q at big zs e = split ((p at).piece.text big at_zero) ((q (at + (p at).piece.size)).piece.text big at_zero) zs e

pub turn_size : (p q : Placed) (at : ℕ) → (in_turn p q at).piece.size ≡ (p at).piece.size + (q (at + (p at).piece.size)).piece.size
unfolding in_turn both
turn_size p q at = refl

pub some_if : (b : Bool) (ys xs : List ℕ) → ◌≡◌ {A = Text} (if b then Some ys else None) (Some xs) → IsTrue b × (ys ≡ xs)
some_if true ys xs e = (refl, cc)
some_if false ys xs e = cc

pub when_some : (b : Bool) (ys xs : List ℕ) → ◌≡◌ {A = Text} (when b (Some ys)) (Some xs) → IsTrue b × (ys ≡ xs)
when_some true ys xs e = (refl, cc)
when_some false ys xs e = cc

-- a number is read again
pub number_again : (big : Bool) (w n : ℕ) (xs rest : List ℕ) → num_text big w n ≡ Some xs → number_at big w (xs ++ rest) ≡ Some (n, rest)
unfolding num_text
number_again big w n xs rest e =
    let p = some_if (is_width w && fits w n) (num big w n) xs e in
    ap (λ ys. number_at big w (ys ++ rest)) (sym p.1) ∙ number-fits-again big w n rest (and_parts (is_width w) (fits w n) p.0).1

-- a part behind its length
pub record Measured (format : Format) (p : Part) (big : Bool) (zs : List ℕ) : Type 0 where
  pub ys : List ℕ
  pub fit : IsTrue (length_fits format p.piece.size)
  pub whole : zs ≡ (escape_of format ++ num big (word_of format) p.piece.size) ++ ys
  pub body : IsText big p ys

pub measured_parts : (format : Format) (p : Part) (big : Bool) (zs : List ℕ) → IsText big (with_length format p) zs → Measured format p big zs
unfolding with_length both
measured_parts format p big zs e =
    let s = split ((length_piece format p.piece.size).text big at_zero) (p.piece.text big at_zero) zs e in
    let f = when_some (length_fits format p.piece.size) (escape_of format ++ num big (word_of format) p.piece.size) s.xs s.first in
    record { ys = s.ys; fit = f.0; whole = s.whole ∙ ap (λ xs. xs ++ s.ys) (sym f.1); body = s.second }

pub counted_parts : (p : Part) (big : Bool) (zs : List ℕ) → IsText big (with_count p) zs → Split (num_text big 1 p.piece.size) (p.piece.text big at_zero) zs
unfolding with_count both
counted_parts p big zs e = split (num_text big 1 p.piece.size) (p.piece.text big at_zero) zs e
