-- Which strings of line programs are equal, and what a hasher is fed of one.
use Rattle.std.specs.Prelude.{◌≡◌, ◌==◌, ◌++◌, Bool, true, false, nat_eq}
use Rattle.std.specs.Bool.{Decides}
use Rattle.std.specs.Cmp.{IsEquivalence, IsPartialEquivalence, partial_equiv_from_equiv, decided, unsigned_Decides}
use Rattle.std.specs.Cmp.Lexicographic.{pointwise, pointwise_decides}
use Rattle.std.specs.Hash as fed
use Rattle.std.proofs.Common.{ap}
use Rattle.std.proofs.lemmas.Bool.Decides.{Decides-like}
use Rattle.dw_line.specs.declared.line_string.LineString.{LineString}
use Rattle.dw_line.specs.declared.line_string.LineString.TheVariants.{String, StringRef, LineStringRef}

-- the same bytes, or the same string of the same table
abbrev pub line_string_eq : LineString → LineString → Bool
line_string_eq (String a) (String b) = pointwise nat_eq a b
line_string_eq (StringRef a) (StringRef b) = a.0 == b.0
line_string_eq (LineStringRef a) (LineStringRef b) = a.0 == b.0
line_string_eq _ _ = false

-- the number of a variant, and then what it holds
abbrev pub line_string_fed : LineString → fed.HashWrites
line_string_fed (String s) = fed.u8 0 ++ fed.slice fed.u8 s
line_string_fed (StringRef i) = fed.u8 1 ++ fed.usize i.0
line_string_fed (LineStringRef i) = fed.u8 2 ++ fed.usize i.0

pub line_string_Decides : (a b : LineString) → Decides (line_string_eq a b) (a ≡ b)
line_string_Decides (String a) (String b) = Decides-like (pointwise nat_eq a b) (λ e. ap String e) (λ e. cc) (pointwise_decides unsigned_Decides a b)
line_string_Decides (StringRef a) (StringRef b) = Decides-like (a.0 == b.0) (λ e. ap (λ i. StringRef (record { 0 = i })) e) (λ e. ap (λ i. i.0) (let same : a ≡ b = cc in same)) (unsigned_Decides a.0 b.0)
line_string_Decides (LineStringRef a) (LineStringRef b) = Decides-like (a.0 == b.0) (λ e. ap (λ i. LineStringRef (record { 0 = i })) e) (λ e. ap (λ i. i.0) (let same : a ≡ b = cc in same)) (unsigned_Decides a.0 b.0)
line_string_Decides (String a) (StringRef b) = (λ e. cc, λ e. cc)
line_string_Decides (String a) (LineStringRef b) = (λ e. cc, λ e. cc)
line_string_Decides (StringRef a) (String b) = (λ e. cc, λ e. cc)
line_string_Decides (StringRef a) (LineStringRef b) = (λ e. cc, λ e. cc)
line_string_Decides (LineStringRef a) (String b) = (λ e. cc, λ e. cc)
line_string_Decides (LineStringRef a) (StringRef b) = (λ e. cc, λ e. cc)

pub line_string_equiv : IsEquivalence line_string_eq
line_string_equiv = decided line_string_eq line_string_Decides

pub line_string_per : IsPartialEquivalence line_string_eq
line_string_per = partial_equiv_from_equiv line_string_equiv

-- equal strings are fed alike
pub line_string-fed : (a b : LineString) → line_string_eq a b ≡ true → line_string_fed a ≡ line_string_fed b
line_string-fed a b e = ap line_string_fed ((line_string_Decides a b).0 e)
