-- Texts over a layout, and the texts over no layout at all that they turn into once numbers are known.
use Rattle.std.specs.Prelude.{◌≡◌, ℕ, ◌+◌, Bool, true, false, List, Some, refl, if◌then◌else◌}
use Rattle.std.proofs.Common.{sym, ◌∙◌, ap, ap₂, subst, add_assoc}
use Rattle.dw_base.specs.Numbers.{is_width, length_size, word_of}
use Rattle.dw_base.specs.declared.common.Encoding.{Encoding}
use Rattle.dw_base.specs.declared.common.Format.{Format}
use Rattle.dw_base.specs.declared.error.Error.{Error}
use Rattle.dw_writer.specs.Layout.{Layout}
use Rattle.dw_writer.specs.Texts.{followed, num_text, zeros}
use Rattle.dw_writer.proofs.Laws.{followed-somes}
use Rattle.dw_frame_instructions.specs.Pieces.{Piece, missing, bytes, number, both}
use Rattle.dw_frame.specs.Parts.{Part, Placed, free, caused, only_if, in_turn}
use Rattle.dw_frame.specs.Entries.{length_piece, with_length, with_count, padding, padded, entry, counted}
use Rattle.dw_frame.specs.Reading.{at_zero}
use Rattle.dw_frame.proofs.TextParts.{split}

module _ (big : Bool) (l : Layout) where
  -- a piece of the same size, with this text
  pub record Holds (p : Piece) (n : ℕ) (xs : List ℕ) : Type 0 where
    pub size : p.size ≡ n
    pub text : p.text big at_zero ≡ Some xs

  -- what a piece's text over the layout is, is another's over none
  abbrev pub Turns : Piece → Piece → Type 0
  Turns p q = (xs : List ℕ) → p.text big l ≡ Some xs → Holds q p.size xs

  pub bytes_turn : (ys : List ℕ) → Turns (bytes ys) (bytes ys)
  bytes_turn ys xs e = record { size = refl; text = e }

  pub missing_turn : (q : Piece) → Turns missing q
  missing_turn q xs e = cc

  pub number_turn : (w n : ℕ) → Turns (number w n) (number w n)
  number_turn w n xs e = record { size = refl; text = e }

  pub both_turn : (p q r s : Piece) → Turns p q → Turns r s → Turns (both p r) (both q s)
  unfolding both
  both_turn p q r s h k zs e =
      let t = split (p.text big l) (r.text big l) zs e in
      let a = h t.xs t.first in
      let b = k t.ys t.second in
      record { size = ap₂ (λ m n. m + n) a.size b.size; text = ap₂ followed a.text b.text ∙ followed-somes t.xs t.ys ∙ ap Some (sym t.whole) }

  pub if_turn : (b : Bool) (p q r s : Piece) → Turns p r → Turns q s → Turns (if b then p else q) (if b then r else s)
  if_turn true p q r s h k = h
  if_turn false p q r s h k = k

  -- Parts that hang on their places, which the layout moves by where the writer's own part starts

  abbrev pub Moves : Placed → Placed → ℕ → Type 0
  Moves p q at = Turns (p at).piece (q (l.own_start + at)).piece

  -- where the second of two parts comes to stand
  next_place : (p q : Placed) (at : ℕ) → (q (l.own_start + at)).piece.size ≡ (p at).piece.size → l.own_start + (at + (p at).piece.size) ≡ l.own_start + at + (q (l.own_start + at)).piece.size
  next_place p q at same = sym (add_assoc l.own_start at (p at).piece.size) ∙ ap (λ n. l.own_start + at + n) (sym same)

  -- two parts, of which the second is asked for where it stands
  pub turn_moves_there : (p q r s : Placed) (at : ℕ) → Moves p q at →
      (l.own_start + (at + (p at).piece.size) ≡ l.own_start + at + (q (l.own_start + at)).piece.size → Moves r s (at + (p at).piece.size)) → Moves (in_turn p r) (in_turn q s) at
  unfolding in_turn both
  turn_moves_there p q r s at h k zs e =
      let t = split ((p at).piece.text big l) ((r (at + (p at).piece.size)).piece.text big l) zs e in
      let a = h t.xs t.first in
      let next = next_place p q at a.size in
      let c = subst (λ n. Holds (s n).piece (r (at + (p at).piece.size)).piece.size t.ys) next (k next t.ys t.second) in
      record { size = ap₂ (λ m n. m + n) a.size c.size; text = ap₂ followed a.text c.text ∙ followed-somes t.xs t.ys ∙ ap Some (sym t.whole) }

  pub turn_moves : (p q r s : Placed) (at : ℕ) → Moves p q at → Moves r s (at + (p at).piece.size) → Moves (in_turn p r) (in_turn q s) at
  turn_moves p q r s at h k = turn_moves_there p q r s at h (λ next. k)

  pub if_moves : (b : Bool) (p q r s : Placed) (at : ℕ) → Moves p r at → Moves q s at → Turns ((if b then p else q) at).piece ((if b then r else s) (l.own_start + at)).piece
  if_moves true p q r s at h k = h
  if_moves false p q r s at h k = k

  pub only_moves : (b : Bool) (p q : Placed) (at : ℕ) → Moves p q at → Moves (only_if b p) (only_if b q) at
  only_moves true p q at h = h
  only_moves false p q at h = λ xs e. record { size = refl; text = e }

  -- Entries

  length_turn : (format : Format) (p q : Part) → Turns p.piece q.piece → Turns (with_length format p).piece (with_length format q).piece
  unfolding with_length both
  length_turn format p q h zs e =
      let t = split ((length_piece format p.piece.size).text big l) (p.piece.text big l) zs e in
      let a = h t.ys t.second in
      let size : (length_piece format q.piece.size).text big at_zero ≡ Some t.xs = ap (λ n. (length_piece format n).text big at_zero) a.size ∙ t.first in
      record { size = ap (λ n. (length_piece format p.piece.size).size + n) a.size; text = ap₂ followed size a.text ∙ followed-somes t.xs t.ys ∙ ap Some (sym t.whole) }

  count_turn : (p q : Part) → Turns p.piece q.piece → Turns (with_count p).piece (with_count q).piece
  unfolding with_count both
  count_turn p q h zs e =
      let t = split (num_text big 1 p.piece.size) (p.piece.text big l) zs e in
      let a = h t.ys t.second in
      let size : num_text big 1 q.piece.size ≡ Some t.xs = ap (num_text big 1) a.size ∙ t.first in
      record { size = ap (λ n. 1 + n) a.size; text = ap₂ followed size a.text ∙ followed-somes t.xs t.ys ∙ ap Some (sym t.whole) }

  -- a part behind what takes up so many bytes
  further : (p q : Placed) (at n : ℕ) → Moves p q (at + n) → Turns (p (at + n)).piece (q (l.own_start + at + n)).piece
  further p q at n h = subst (λ k. Turns (p (at + n)).piece (q k).piece) (sym (add_assoc l.own_start at n)) h

  pub counted_moves : (p q : Placed) (at : ℕ) → Moves p q (at + 1) → Moves (counted p) (counted q) at
  counted_moves p q at h = count_turn (p (at + 1)) (q (l.own_start + at + 1)) (further p q at 1 h)

  padded_by : (b : Bool) (ys xs : List ℕ) (f : Error → Bool) (m n : ℕ) → ((if b then free (bytes ys) else caused missing f) m).piece.text big l ≡ Some xs →
      Holds ((if b then free (bytes ys) else caused missing f) n).piece ((if b then free (bytes ys) else caused missing f) m).piece.size xs
  padded_by true ys xs f m n e = record { size = refl; text = e }
  padded_by false ys xs f m n e = cc

  -- the contents of an entry, and the padding behind them
  abbrev pub filled : Encoding → Placed → Placed
  filled e p n = in_turn p (padded e (p n).piece.size) n

  pub filled_moves : (e : Encoding) (p q : Placed) (at : ℕ) → Moves p q at → Moves (filled e p) (filled e q) at
  unfolding in_turn both
  filled_moves e p q at h zs is =
      let size = (p at).piece.size in
      let t = split ((p at).piece.text big l) ((padded e size (at + size)).piece.text big l) zs is in
      let there = l.own_start + at in
      let a = h t.xs t.first in
      let b = padded_by (is_width e.address_size) (zeros (padding e.address_size (word_of e.format + size))) t.ys _ (at + size) (there + (q there).piece.size) t.second in
      let c = subst (λ n. Holds (padded e n (there + (q there).piece.size)).piece (padded e size (at + size)).piece.size t.ys) (sym a.size) b in
      record { size = ap₂ (λ m n. m + n) a.size c.size; text = ap₂ followed a.text c.text ∙ followed-somes t.xs t.ys ∙ ap Some (sym t.whole) }

  pub entry_moves : (e : Encoding) (p q : Placed) (at : ℕ) → Moves p q (at + length_size e.format) → Moves (entry e p) (entry e q) at
  entry_moves e p q at h =
      let n = length_size e.format in
      length_turn e.format (filled e p (at + n)) (filled e q (l.own_start + at + n)) (further (filled e p) (filled e q) at n (filled_moves e p q (at + n) h))
