-- Entries up to version 4 take bytes.
use Rattle.std.proofs.Common.{◌≡◌, ap, ℕ, zero, suc, ◌<◌, Bool, true, false, List, [], ◌∷◌, length, Option, Some, None, Result, Ok, Err, refl, arith}
use Rattle.std.specs.Prelude.{◌==◌, if◌then◌else◌}
use Rattle.dw_base.specs.Numbers.{◌>>=◌}
use Rattle.dw_base.specs.Forms.{text_at}
use Rattle.dw_read.specs.Reasons.{◌=>>◌, or_refuse, text_read, uleb_read}
use Rattle.dw_read.specs.declared.error.ReadError.{ReadError}
use Rattle.dw_read.specs.declared.error.ReadError.TheVariants.{UnexpectedEof}
use Rattle.dw_read.proofs.Declared.{uleb_shorter}
use Rattle.dw_read_lines.specs.LineEntries.{Entry, old_directory, old_file, old_directory_read, old_file_read}

abbrev grown : ℕ → List ℕ × List ℕ → Option (List ℕ × List ℕ)
grown b x = Some (suc b ∷ x.0, x.1)

back : (x y : List ℕ × List ℕ) → Some x ≡ Some y → x.1 ≡ y.1
back x y h = let e : x ≡ y = cc in ap (λ (p : List ℕ × List ℕ). p.1) e

longer : (b : ℕ) (bs : List ℕ) (r : Option (List ℕ × List ℕ)) (y : List ℕ × List ℕ) → ((x : List ℕ × List ℕ) → r ≡ Some x → length x.1 < length bs) → (r >>= grown b) ≡ Some y → length y.1 < length (suc b ∷ bs)
longer b bs None y f h = absurd (cc)
longer b bs (Some x) y f h =
    let z : List ℕ × List ℕ = (suc b ∷ x.0, x.1) in
    let is : length x.1 ≡ length y.1 = ap length (back z y h) in
    let l : length x.1 < length bs = f x refl in
    omega arith

text_at_shorter : (bytes : List ℕ) (y : List ℕ × List ℕ) → text_at bytes ≡ Some y → length y.1 < length bytes
unfolding text_at
text_at_shorter [] y h = absurd (cc)
text_at_shorter (zero ∷ bs) y h =
    let z : List ℕ × List ℕ = ([], bs) in
    let is : length bs ≡ length y.1 = ap length (back z y h) in
    omega arith
text_at_shorter (suc b ∷ bs) y h = longer b bs (text_at bs) y (text_at_shorter bs) h

some_of : (r : Option (List ℕ × List ℕ)) (y : List ℕ × List ℕ) → or_refuse UnexpectedEof r ≡ Ok y → r ≡ Some y
some_of None y h = absurd (cc)
some_of (Some x) y h = let e : x ≡ y = cc in ap Some e

text_shorter : (bytes : List ℕ) (y : List ℕ × List ℕ) → text_read bytes ≡ Ok y → length y.1 < length bytes
unfolding text_read
text_shorter bytes y h = text_at_shorter bytes y (some_of (text_at bytes) y h)

-- the parts of what was read in two steps
record Both {A B : Type 0} (r : Result A ReadError) (f : A → Result B ReadError) (y : B) : Type 0 where
  x : A
  first : r ≡ Ok x
  second : f x ≡ Ok y

both : {A B : Type 0} (r : Result A ReadError) (f : A → Result B ReadError) (y : B) → (r =>> f) ≡ Ok y → Both r f y
both (Ok x) f y h = record { x = x; first = refl; second = h }
both (Err e) f y h = absurd (cc)

abbrev Next : Type 0
Next = Option Entry × List ℕ

abbrev ok : Next → Result Next ReadError
ok x = Ok x

ends : (x y : Next) → ok x ≡ ok y → x.1 ≡ y.1
ends x y h = let e : x ≡ y = cc in ap (λ (p : Next). p.1) e

is_none : (x y : Next) → ok x ≡ ok y → x.0 ≡ y.0
is_none x y h = let e : x ≡ y = cc in ap (λ (p : Next). p.0) e

abbrev directory_by : Bool → List ℕ × List ℕ → Result Next ReadError
directory_by b name = if b then Ok (None, name.1) else Ok (Some (old_directory name.0), name.1)

abbrev directory_after : List ℕ × List ℕ → Result Next ReadError
directory_after name = directory_by (length name.0 == 0) name

directory_end : (b : Bool) (name : List ℕ × List ℕ) (y : Next) → directory_by b name ≡ Ok y → length y.1 ≡ length name.1
directory_end true name y h = let z : Next = (None, name.1) in let e : name.1 ≡ y.1 = ends z y h in let l : length name.1 ≡ length y.1 = ap length e in omega arith
directory_end false name y h = let z : Next = (Some (old_directory name.0), name.1) in let e : name.1 ≡ y.1 = ends z y h in let l : length name.1 ≡ length y.1 = ap length e in omega arith

pub directory_shorter : (bytes : List ℕ) (y : Option Entry × List ℕ) → old_directory_read bytes ≡ Ok y → length y.1 < length bytes
unfolding old_directory_read
directory_shorter bytes y h =
    let a : Both (text_read bytes) directory_after y = both (text_read bytes) directory_after y h in
    let l : length a.x.1 < length bytes = text_shorter bytes a.x a.first in
    let e : length y.1 ≡ length a.x.1 = directory_end (length a.x.0 == 0) a.x y a.second in
    omega arith

abbrev size_after : List ℕ → ℕ → ℕ → ℕ × List ℕ → Result Next ReadError
size_after name directory timestamp size = Ok (Some (old_file name directory timestamp size.0), size.1)

abbrev timestamp_after : List ℕ → ℕ → ℕ × List ℕ → Result Next ReadError
timestamp_after name directory timestamp = uleb_read timestamp.1 =>> size_after name directory timestamp.0

abbrev directory_number_after : List ℕ → ℕ × List ℕ → Result Next ReadError
directory_number_after name directory = uleb_read directory.1 =>> timestamp_after name directory.0

abbrev file_by : Bool → List ℕ × List ℕ → Result Next ReadError
file_by b name = if b then Ok (None, name.1) else (uleb_read name.1 =>> directory_number_after name.0)

abbrev file_after : List ℕ × List ℕ → Result Next ReadError
file_after name = file_by (length name.0 == 0) name

file_end : (b : Bool) (name : List ℕ × List ℕ) (e : Entry) (rest : List ℕ) → file_by b name ≡ Ok (Some e, rest) → length rest < length name.1
file_end true name e rest h =
    let z : Next = (None, name.1) in
    let y : Next = (Some e, rest) in
    let n : None ≡ Some e = is_none z y h in
    absurd (cc)
file_end false name e rest h =
    let y : Next = (Some e, rest) in
    let a : Both (uleb_read name.1) (directory_number_after name.0) y = both (uleb_read name.1) (directory_number_after name.0) y h in
    let b : Both (uleb_read a.x.1) (timestamp_after name.0 a.x.0) y = both (uleb_read a.x.1) (timestamp_after name.0 a.x.0) y a.second in
    let c : Both (uleb_read b.x.1) (size_after name.0 a.x.0 b.x.0) y = both (uleb_read b.x.1) (size_after name.0 a.x.0 b.x.0) y b.second in
    let z : Next = (Some (old_file name.0 a.x.0 b.x.0 c.x.0), c.x.1) in
    let l : length a.x.1 < length name.1 = uleb_shorter name.1 a.x a.first in
    let m : length b.x.1 < length a.x.1 = uleb_shorter a.x.1 b.x b.first in
    let n : length c.x.1 < length b.x.1 = uleb_shorter b.x.1 c.x c.first in
    let e : length c.x.1 ≡ length rest = ap length (ends z y c.second) in
    omega arith

pub file_shorter : (bytes : List ℕ) (e : Entry) (rest : List ℕ) → old_file_read bytes ≡ Ok (Some e, rest) → length rest < length bytes
unfolding old_file_read
file_shorter bytes e rest h =
    let y : Next = (Some e, rest) in
    let a : Both (text_read bytes) file_after y = both (text_read bytes) file_after y h in
    let l : length a.x.1 < length bytes = text_shorter bytes a.x a.first in
    let m : length rest < length a.x.1 = file_end (length a.x.0 == 0) a.x e rest a.second in
    omega arith
