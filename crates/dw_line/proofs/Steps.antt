-- What several calls that add bytes come to.
use Rattle.std.specs.Prelude.{◌≡◌, ◌≢◌, ℕ, ◌<◌, Bool, true, false, not, ◌==◌, List, [], ◌∷◌}
use Rattle.std.proofs.Common.{subst, arith}
use Rattle.std.proofs.lemmas.Bool.Decides.{nat_tests}
use Rattle.dw_base.specs.Numbers.{num}
use Rattle.dw_writer.specs.Meaning.{Meaning, IsSameWriter, Adds}
use Rattle.dw_writer.specs.Causes.{HasRisen}
use Rattle.dw_writer.proofs.FaultLaws.{HasRisen-from}
pub use Rattle.dw_writer.proofs.Parts.{Adds-none}
use Rattle.dw_writer.proofs.Plain.{num-byte}
use Rattle.dw_line.specs.RowTexts.{where_needed}

-- one byte, in either order
pub Adds-byte : {a b : Meaning} (n : ℕ) → n < 256 → Adds a b (num a.is_big 1 n) → Adds a b (n ∷ [])
Adds-byte {a} {b} n small p = subst (Adds a b) (num-byte a.is_big n small) p

-- what is added where it is needed
pub needed : {a b : Meaning} (t : Bool) (xs : List ℕ) → t ≡ true → Adds a b xs → Adds a b (where_needed t xs)
needed true xs e p = p
needed false xs e p = cc

pub left_out : {m : Meaning} (t : Bool) (xs : List ℕ) → t ≡ false → Adds m m (where_needed t xs)
left_out {m} true xs e = cc
left_out {m} false xs e = Adds-none m

pub other : (a b : ℕ) → a ≢ b → not (a == b) ≡ true
other a b e = grind (arith, nat_tests)

pub equal : (a b : ℕ) → a ≡ b → not (a == b) ≡ false
equal a b e = grind (arith, nat_tests)

-- a count that rose in a later call
pub risen_before : {a b : Meaning} (c : Meaning) → IsSameWriter a b → HasRisen b c → HasRisen a c
risen_before {a} {b} c same h = HasRisen-from a b c same.faults h
