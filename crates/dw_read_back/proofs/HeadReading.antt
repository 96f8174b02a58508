-- Entries begin by the writer's definition as by the reader's.
use Rattle.std.specs.Prelude.{◌≡◌, ℕ, ◌+◌, ◌-◌, ◌<◌, ◌==◌, ◌&&◌, nat_le, IsTrue, Bool, true, false, List, ◌++◌, length, Option, Some, None, Result, Ok, refl, if◌then◌else◌}
use Rattle.std.specs.Result.{result_ok}
use Rattle.std.proofs.Common.{◌∙◌, ap, arith, append_assoc}
use Rattle.std.proofs.lemmas.Bool.{ne_eqb}
use Rattle.dw_base.specs.Numbers.{◌>>=◌, when, num, number_at, initial_length_at, length_size, length_fits, escape_of, word_of}
use Rattle.dw_base.specs.declared.common.Format.{Format}
use Rattle.dw_base.specs.declared.common.Format.TheVariants.{Dwarf32, Dwarf64}
use Rattle.dw_base.proofs.NumberLaws.{initial_length-again}
use Rattle.dw_read.specs.Reasons.{◌=>>◌, or_refuse, number_read, initial_length_read}
use Rattle.dw_read.specs.declared.error.ReadError.{ReadError}
use Rattle.dw_read.specs.declared.error.ReadError.TheVariants.{UnexpectedEof, InvalidCiePointer}
use Rattle.dw_read.proofs.Laws.{read_is, initial_length_law}
use Rattle.dw_frame.specs.declared.kind.FrameKind.{FrameKind}
use Rattle.dw_frame.specs.declared.kind.FrameKind.TheVariants.{Debug, Eh}
use Rattle.dw_read_frames.specs.Heads.{led_back, owner_read, head_read}
use Rattle.dw_read_back.specs.Heads.{is_eh, owner_at, OwnersAreOne}
use Rattle.dw_read_back.proofs.OperandReading.{bytes_back}

-- the reader's way from the field
abbrev from_field : Bool → ℕ → ℕ → Option (ℕ × List ℕ) → Option (Option ℕ × List ℕ)
from_field eh k place o =
    result_ok (or_refuse UnexpectedEof o =>> λ n. if n.0 == k then Ok (None, n.1) else (or_refuse (InvalidCiePointer n.0) (led_back eh place n.0) =>> λ c. Ok (Some c, n.1)))

-- the writer's way
abbrev is_id : ℕ → Option (ℕ × List ℕ) → Option (Bool × List ℕ)
is_id k o = o >>= λ i. Some (i.0 == k, i.1)

abbrev before : Bool → ℕ → List ℕ → Option (ℕ × List ℕ)
before t m rest = when t (Some (m, rest))

abbrev back : ℕ → Option (ℕ × List ℕ) → Option (ℕ × List ℕ)
back place o = o >>= λ x. before (nat_le x.0 place) (place - x.0) x.1

abbrev told_by : Option (Bool × List ℕ) → Option (ℕ × List ℕ) → Option (Option ℕ × List ℕ)
told_by i c = i >>= λ x. if x.0 then Some (None, x.1) else (c >>= λ y. Some (Some y.0, y.1))

if_ok : {X : Type 0} (b : Bool) (r s : Result X ReadError) (o p : Option X) → result_ok r ≡ o → result_ok s ≡ p → result_ok (if b then r else s) ≡ (if b then o else p)
if_ok true r s o p h k = h
if_ok false r s o p h k = k

debug_same : (k place : ℕ) (o : Option (ℕ × List ℕ)) → from_field false k place o ≡ told_by (is_id k o) o
debug_same k place None = refl
debug_same k place (Some x) = if_ok (x.0 == k) _ _ _ _ refl refl

led_same : (t : Bool) (e : ReadError) (m : ℕ) (rest : List ℕ) → result_ok {T = Option ℕ × List ℕ} (or_refuse e (if t then Some m else None) =>> λ c. Ok (Some c, rest)) ≡ (before t m rest >>= λ y. Some (Some y.0, y.1))
led_same true e m rest = refl
led_same false e m rest = refl

eh_same : (k place : ℕ) (o : Option (ℕ × List ℕ)) → from_field true k place o ≡ told_by (is_id k o) (back place o)
eh_same k place None = refl
eh_same k place (Some x) = if_ok (x.0 == k) _ _ _ _ refl (led_same (nat_le x.0 place) (InvalidCiePointer x.0) (place - x.0) x.1)

pub owners_one : (kind : FrameKind) (big : Bool) (format : Format) → OwnersAreOne kind big format
unfolding owner_read number_read
owners_one Debug big Dwarf32 place bytes = debug_same 0xffff_ffff place (number_at big 4 bytes)
owners_one Debug big Dwarf64 place bytes = debug_same 0xffff_ffff_ffff_ffff place (number_at big 8 bytes)
owners_one Eh big format place bytes = eh_same 0 place (number_at big 4 bytes)

pub owner_back : (kind : FrameKind) (big : Bool) (format : Format) (place : ℕ) (bytes : List ℕ) (x : Option ℕ × List ℕ) → owner_at kind big format place bytes ≡ Some x → owner_read (is_eh kind) big format place bytes ≡ Ok x
owner_back kind big format place bytes x h = read_is (Option ℕ) (owner_at kind big format place) (owner_read (is_eh kind) big format place) bytes x (owners_one kind big format place) h

not_ended : (eh : Bool) (n : ℕ) → 0 < n → (eh && (n == 0)) ≡ false
not_ended true n h = ne_eqb n 0 (λ e. omega (arith, h, e))
not_ended false n h = refl

pub length_back : (big : Bool) (format : Format) (n : ℕ) (rest : List ℕ) → IsTrue (length_fits format n) → initial_length_read big (escape_of format ++ (num big (word_of format) n ++ rest)) ≡ Ok ((format, n), rest)
length_back big format n rest h =
    read_is (Format × ℕ) (initial_length_at big) (initial_length_read big) (escape_of format ++ (num big (word_of format) n ++ rest)) ((format, n), rest) (initial_length_law big) (initial_length-again big format n rest h)

-- an entry behind its length
pub head_back : (eh big : Bool) (format : Format) (at size : ℕ) (zs body rest tail : List ℕ) (owner : Option ℕ) → IsTrue (length_fits format size) → zs ≡ (escape_of format ++ num big (word_of format) size) ++ body → length body ≡ size → 0 < size →
    owner_read eh big format (at + length_size format) body ≡ Ok (owner, tail) → head_read eh big at (zs ++ rest) ≡ Ok (Some (record { format = format; cie = owner; body = tail }), rest)
unfolding head_read
head_back eh big format at size zs body rest tail owner fit whole long some read =
    let n = num big (word_of format) size in
    let apart : zs ++ rest ≡ escape_of format ++ (n ++ (body ++ rest)) = ap (λ ys. ys ++ rest) whole ∙ append_assoc (escape_of format ++ n) body rest ∙ append_assoc (escape_of format) n (body ++ rest) in
    rw (apart, length_back big format size (body ++ rest) fit, not_ended eh size some, bytes_back size body rest long, read) refl
