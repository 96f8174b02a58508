-- Descriptions that can be converted, and some that can't.
use Rattle.std.proofs.Common.{◌≡◌, ℕ, ◌<◌, ◌≤◌, Bool, true, List, [], ◌∷◌, refl, arith}
use Rattle.std.specs.Prelude.{◌==◌, nat_le}
use Rattle.std.specs.List.{list_all}
use Rattle.std.proofs.Math.Bool.{not}
use Rattle.std.proofs.lemmas.Bool.{leb-true, not-true, eqb-false}
use Rattle.std.proofs.lemmas.List.Elements.{All-weaker, All-get_or}
use Rattle.std.proofs.lemmas.List.Sums.{AllPass-from_list_all}
use Rattle.dw_base.specs.declared.constants.DwLnct.{DwLnct}
use Rattle.dw_base.specs.declared.constants.TheConstants.{DW_FORM_implicit_const, DW_LNCT_path, DW_LNCT_MD5}
use Rattle.dw_convert_lines.specs.FormatLists.{known_contents, times_told, IsConvertible}
use Rattle.dw_convert_lines.proofs.FormatWalks.{IsPlain}

abbrev Parts : Type 0
Parts = List (ℕ × ℕ)

-- tests that compute
abbrev plain : ℕ × ℕ → Bool
plain part = not (part.1 == DW_FORM_implicit_const.0)

abbrev once : Parts → DwLnct → Bool
once parts content = nat_le (times_told content parts) 1

abbrev IsOnce : Parts → DwLnct → Type 0
IsOnce parts content = times_told content parts ≤ 1

convertible : (parts : Parts) (count : ℕ) → list_all plain parts ≡ true → list_all (once parts) known_contents ≡ true → (0 < count → 0 < times_told DW_LNCT_path parts) → IsConvertible parts count
convertible parts count p o n = record {
  no_constants = All-weaker _ IsPlain (λ part h. eqb-false part.1 DW_FORM_implicit_const.0 (not-true _ h)) parts (AllPass-from_list_all plain parts p);
  once = All-weaker _ (IsOnce parts) (λ content h. leb-true (times_told content parts) 1 h) known_contents (AllPass-from_list_all (once parts) known_contents o);
  named = n;
}

-- a path and the number of a directory, each a string or a byte
path_and_directory : (count : ℕ) → IsConvertible ((0x01, 0x08) ∷ (0x02, 0x0b) ∷ []) count
path_and_directory count = convertible _ count refl refl (λ _. omega arith)

-- a content that isn't known, twice
unknown_twice : IsConvertible ((0x01, 0x08) ∷ (0x2002, 0x0b) ∷ (0x2002, 0x0b) ∷ []) 1
unknown_twice = convertible _ 1 refl refl (λ _. omega arith)

-- no path, and no entry
no_path_of_none : IsConvertible ((0x02, 0x0b) ∷ []) 0
no_path_of_none = convertible _ 0 refl refl (λ h. absurd (omega arith))

abbrev no_path : Parts
no_path = (0x02, 0x0b) ∷ []

-- no path, and an entry
no_path_of_one : IsConvertible no_path 1 → ⊥
no_path_of_one c = let h : 0 < times_told DW_LNCT_path no_path = c.named (omega arith) in omega arith

abbrev constant_of : ℕ → Parts
constant_of content = (0x01, 0x08) ∷ (content, 0x21) ∷ []

-- a value in the description, whatever it tells
constant_within : (content count : ℕ) → IsConvertible (constant_of content) count → ⊥
constant_within content count c = All-get_or IsPlain (constant_of content) 1 (0, 0) (omega arith) c.no_constants refl

abbrev two_paths : Parts
two_paths = (0x01, 0x08) ∷ (0x01, 0x0e) ∷ []

paths_twice : (count : ℕ) → IsConvertible two_paths count → ⊥
paths_twice count c =
    let h : times_told DW_LNCT_path two_paths ≤ 1 = All-get_or (IsOnce two_paths) known_contents 0 DW_LNCT_path (omega arith) c.once in
    omega arith

abbrev two_checksums : Parts
two_checksums = (0x05, 0x1e) ∷ (0x01, 0x08) ∷ (0x05, 0x1e) ∷ []

checksums_twice : (count : ℕ) → IsConvertible two_checksums count → ⊥
checksums_twice count c =
    let h : times_told DW_LNCT_MD5 two_checksums ≤ 1 = All-get_or (IsOnce two_checksums) known_contents 4 DW_LNCT_path (omega arith) c.once in
    omega arith
