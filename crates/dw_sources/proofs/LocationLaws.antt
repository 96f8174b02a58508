-- Pieces and locations of WebAssembly, from what the calls in them answered.
use Rattle.std.proofs.Common.{◌≡◌, ◌∙◌, ap, subst, ℕ, ◌-◌, ◌*◌, ◌<◌, ◌≤◌, ◌^◌, List, Some, Ok, Err, Bool, true, false, refl}
use Rattle.std.proofs.lemmas.Bool.{lt-ltb, le-ltb, ne_eqb}
use Rattle.dw_base.specs.Numbers.{number_at}
use Rattle.dw_base.specs.Leb128.{uleb_at}
use Rattle.dw_base.specs.declared.constants.TheConstants.{DW_OP_WASM_location, DW_OP_breg0}
use Rattle.dw_base.specs.declared.common.Encoding.{Encoding}
use Rattle.dw_read.specs.Reading.{Reading, Reads, Read, left}
use Rattle.dw_read.specs.Reasons.{◌=>>◌, number_read, uleb_read, sleb_read}
use Rattle.dw_read.specs.Took.{Took}
use Rattle.dw_read.specs.declared.error.ReadError.{ReadError}
use Rattle.dw_read.specs.declared.error.ReadError.TheVariants.{InvalidPiece}
use Rattle.dw_read.proofs.Laws.{uleb_law, number_law}
use Rattle.dw_read.proofs.Chain.{took_of, took, went, went_then, went_order}
use Rattle.dw_sources.specs.Operations.{Operation, Piece, RegisterOffset}
use Rattle.dw_sources.specs.OperationTable.{one, is_from, invalid, piece_read, wasm_of, wasm_read, location_rows, locations}

-- the size of a piece
pub piece_took : (n : ℕ) (old new : Reading) → Reads ℕ uleb_at old new n → n * 8 < 2 ^ 64 → Took Operation piece_read old new (Piece n)
piece_took n old new h l =
    let t = took_of ℕ uleb_at uleb_read old new n uleb_law h in
    took Operation piece_read old new (Piece n) (went ℕ uleb_read old new n t) (rw (t.value, lt-ltb (n * 8) (2 ^ 64) l) refl)

pub piece_large : (n : ℕ) (old new : Reading) → Reads ℕ uleb_at old new n → 2 ^ 64 ≤ n * 8 → piece_read (left old) ≡ Err InvalidPiece
piece_large n old new h l = let t = took_of ℕ uleb_at uleb_read old new n uleb_law h in rw (t.value, le-ltb (n * 8) (2 ^ 64) l) refl

pub piece_not : (bs : List ℕ) (e : ReadError) → uleb_read bs ≡ Err e → piece_read bs ≡ Err e
piece_not bs e h = rw h refl

-- what a location of WebAssembly is in
wasm_by : (big : Bool) (k : ℕ) (bs mid : List ℕ) → number_read big 1 bs ≡ Ok (k, mid) → wasm_read big bs ≡ wasm_of big k mid
unfolding wasm_read
wasm_by big k bs mid h = ap (λ r. r =>> λ kind. wasm_of big kind.0 kind.1) h

pub wasm_not : (big : Bool) (bs : List ℕ) (e : ReadError) → number_read big 1 bs ≡ Err e → wasm_read big bs ≡ Err e
unfolding wasm_read
wasm_not big bs e h = rw h refl

module _ (old mid : Reading) (k : ℕ) (kind : Reads ℕ (number_at old.is_big 1) old mid k) where
  -- its kind was read
  known : Took ℕ (number_read old.is_big 1) old mid k
  known = took_of ℕ (number_at old.is_big 1) (number_read old.is_big 1) old mid k (number_law old.is_big 1) kind

  by_kind : (n : ℕ) → k ≡ n → wasm_read old.is_big (left old) ≡ wasm_of old.is_big n (left mid)
  by_kind n e = wasm_by old.is_big k (left old) (left mid) known.value ∙ ap (λ (m : ℕ). wasm_of old.is_big m (left mid)) e

  pub wasm_took : (n : ℕ) (A : Type 0) (p : Read A) (f : A → Operation) (new : Reading) (x : A) → k ≡ n → wasm_of old.is_big n (left mid) ≡ one p f (left mid) → Took A p mid new x → Took Operation (wasm_read old.is_big) old new (f x)
  wasm_took n A p f new x e r h =
      took Operation (wasm_read old.is_big) old new (f x) (went_then old mid new (went ℕ (number_read old.is_big 1) old mid k known) (went A p mid new x h))
      (by_kind n e ∙ r ∙ ap (λ r. r =>> λ a. Ok (f a.0, a.1)) h.value)

  pub wasm_cut : (n : ℕ) (A : Type 0) (p : Read A) (f : A → Operation) (y : ReadError) → k ≡ n → wasm_of old.is_big n (left mid) ≡ one p f (left mid) → p (left mid) ≡ Err y → wasm_read old.is_big (left old) ≡ Err y
  wasm_cut n A p f y e r h = by_kind n e ∙ r ∙ ap (λ r. r =>> λ a. Ok (f a.0, a.1)) h

  pub wasm_unknown : (k ≡ 0 → ⊥) → (k ≡ 1 → ⊥) → (k ≡ 2 → ⊥) → (k ≡ 3 → ⊥) → wasm_read old.is_big (left old) ≡ Err (invalid DW_OP_WASM_location)
  wasm_unknown a b c d = wasm_by old.is_big k (left old) (left mid) known.value ∙ rw (ne_eqb k 0 a, ne_eqb k 1 b, ne_eqb k 2 c, ne_eqb k 3 d) refl

  -- a number in the order of the reader before
  pub number_after : (w x : ℕ) (new : Reading) → Reads ℕ (number_at mid.is_big w) mid new x → Took ℕ (number_read old.is_big w) mid new x
  number_after w x new h =
      let o = went_order old mid (went ℕ (number_read old.is_big 1) old mid k known) in
      subst (λ (b : Bool). Took ℕ (number_read b w) mid new x) o (took_of ℕ (number_at mid.is_big w) (number_read mid.is_big w) mid new x (number_law mid.is_big w) h)

  pub number_not_after : (w : ℕ) (y : ReadError) → number_read mid.is_big w (left mid) ≡ Err y → number_read old.is_big w (left mid) ≡ Err y
  number_not_after w y h =
      let o = went_order old mid (went ℕ (number_read old.is_big 1) old mid k known) in
      subst (λ (b : Bool). number_read b w (left mid) ≡ Err y) o h

-- the code of a base register, and every other
pub based_row : (big : Bool) (e : Encoding) (code n : ℕ) → is_from DW_OP_breg0 code ≡ true → n ≡ code - DW_OP_breg0.0 → locations big e code ≡ Some (one sleb_read (RegisterOffset n))
unfolding locations
based_row big e code n h k = rw (h, k) refl

pub other_rows : (big : Bool) (e : Encoding) (code : ℕ) → is_from DW_OP_breg0 code ≡ false → locations big e code ≡ location_rows big e code
unfolding locations
other_rows big e code h = rw h refl
