-- What writes of parts that hang on their places come to.
use Rattle.std.specs.Prelude.{◌≡◌, ℕ, ◌+◌, Bool, true, false, List, [], Result, Ok, Err, OnOk, IfErr, refl, if◌then◌else◌}
use Rattle.std.proofs.Common.{subst}
use Rattle.dw_base.specs.declared.error.Error.{Error}
use Rattle.dw_writer.specs.Meaning.{Meaning, Adds}
use Rattle.dw_writer.specs.Causes.{BytesRefused}
use Rattle.dw_expr.specs.Places.{Refused}
use Rattle.dw_frame_instructions.specs.Pieces.{bytes, IsWritten}
use Rattle.dw_frame_instructions.specs.Causes.{IsNone, Writes}
use Rattle.dw_frame.specs.Parts.{Placed, free, only_if, in_turn, Puts}
use Rattle.dw_frame_instructions.proofs.Steps.{Writes-then, Writes-bytes, refused_first, written-nothing}

-- one call of a writer, with the clauses that it has
pub called : {T P : Type 0} {Q : Error → Type 0} (r : Result T Error) (a b : Meaning) (p : Placed) →
    OnOk r (IsWritten a b (p a.size).piece) → OnOk r P → IfErr r Q →
    (P → IsNone ((p a.size).fails a.is_plain)) → ((e : Error) → Q e → Refused a b ((p a.size).fails a.is_plain) e) → Puts r a b p
called (Ok x) a b p ok fits err none why = (ok, none fits)
called (Err e) a b p ok fits err none why = why e err

-- a part behind one that was written
pub Puts-then : {T : Type 0} (r : Result T Error) (a b c : Meaning) (p q : Placed) → Puts {T = Unit {0}} (Ok tt) a b p → Puts r b c q → Puts r a c (in_turn p q)
unfolding in_turn
Puts-then r a b c p q h k =
    let at : b.size ≡ a.size + (p a.size).piece.size = h.0.size in
    let kind : b.is_plain ≡ a.is_plain = h.0.same.kind in
    let there : Writes r b c (q b.size).piece ((q b.size).fails a.is_plain) = subst (λ plain. Writes r b c (q b.size).piece ((q b.size).fails plain)) kind k in
    let here = subst (λ n. Writes r b c (q n).piece ((q n).fails a.is_plain)) at there in
    Writes-then r a b c (p a.size).piece (q (a.size + (p a.size).piece.size)).piece ((p a.size).fails a.is_plain) ((q (a.size + (p a.size).piece.size)).fails a.is_plain) h here

-- the first of two parts is refused
pub Puts-first : (T : Type 0) (a b : Meaning) (p q : Placed) (e : Error) → Refused a b ((p a.size).fails a.is_plain) e → Puts {T = T} (Err e) a b (in_turn p q)
unfolding in_turn
Puts-first T a b p q e h = refused_first a b ((p a.size).fails a.is_plain) ((q (a.size + (p a.size).piece.size)).fails a.is_plain) e h

-- bytes
pub Puts-bytes : {T : Type 0} (r : Result T Error) (a b : Meaning) (xs : List ℕ) → OnOk r (Adds a b xs) → IfErr r (BytesRefused a b) → Puts r a b (free (bytes xs))
Puts-bytes r a b xs ok err = Writes-bytes r a b xs ok err

pub Puts-nothing : (m : Meaning) → Puts {T = Unit {0}} (Ok tt) m m (free (bytes []))
Puts-nothing m = (written-nothing m, λ e. refl)

-- the same part, told otherwise
pub Puts-is : {T : Type 0} (r : Result T Error) (a b : Meaning) (p q : Placed) → Puts r a b p → p ≡ q → Puts r a b q
Puts-is r a b p q h e = subst (λ x. Puts r a b x) e h

-- a part that is there or not
pub only_none : (b : Bool) (p : Placed) (m : Meaning) → b ≡ false → Puts {T = Unit {0}} (Ok tt) m m (only_if b p)
only_none true p m e = cc
only_none false p m e = (written-nothing m, λ e. refl)

pub only_puts : {T : Type 0} (r : Result T Error) (a c : Meaning) (b : Bool) (p : Placed) → b ≡ true → Puts r a c p → Puts r a c (only_if b p)
only_puts r a c true p e h = h
only_puts r a c false p e h = cc

pub Puts-if : {T : Type 0} (r : Result T Error) (a c : Meaning) (b : Bool) (p q : Placed) → b ≡ true → Puts r a c p → Puts r a c (if b then p else q)
Puts-if r a c true p q e h = h
Puts-if r a c false p q e h = cc

pub Puts-else : {T : Type 0} (r : Result T Error) (a c : Meaning) (b : Bool) (p q : Placed) → b ≡ false → Puts r a c q → Puts r a c (if b then p else q)
Puts-else r a c true p q e h = cc
Puts-else r a c false p q e h = h

pub Puts-as : {T : Type 0} (r : Result T Error) (a b : Meaning) (p q : Placed) → Puts r a b p → p a.size ≡ q a.size → Puts r a b q
Puts-as r a b p q h e = subst (λ x. Writes r a b x.piece (x.fails a.is_plain)) e h
