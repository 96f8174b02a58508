-- What a call that failed may have added or replaced.
use Rattle.std.specs.Prelude.{◌≡◌, ℕ, ℤ, ◌+◌, ◌<◌, nat_lt, ◌-◌, ◌++◌, Bool, true, false, ◌&&◌, List, [], length, take, Some, None, refl, Result, Ok, Err, OnOk, OnErr, IfErr, IsTrue, if◌then◌else◌}
use Rattle.std.proofs.Common.{sym, ◌∙◌, ap, subst, inl, inr, arith, length-append}
use Rattle.std.proofs.Math.Seq.{take-length}
use Rattle.std.proofs.lemmas.Bool.Decides.{nat_tests}
use Rattle.std.proofs.lemmas.List.{append-nil}
use Rattle.dw_base.specs.Numbers.{num, is_width, fits, word_of, escape_of, length_fits}
use Rattle.dw_base.specs.declared.common.Format.{Format}
use Rattle.dw_base.specs.declared.error.Error.{Error}
use Rattle.dw_writer.specs.Texts.{Text, zeros, followed, patched}
use Rattle.dw_base.specs.declared.error.Error.TheVariants.{OffsetOutOfBounds, LengthOutOfBounds}
use Rattle.dw_writer.specs.Causes.{KeptOutside}
use Rattle.dw_writer.specs.SignedNumbers.{signed_fits, signed_num}
use Rattle.dw_writer.specs.Meaning.{Meaning, IsSameWriter, Adds, AddsWith, AddsSome, AddsSomeWith, Replaces, ReplacesWith, ReplacesSome, ReplacesSomeWith, spelled_num, spelled_signed, spelled_length}
use Rattle.dw_writer.specs.declared.relocate.Relocation.{Relocation}
use Rattle.dw_writer.proofs.Places.{overwrite-none, length-zeros}
use Rattle.dw_writer.proofs.Outcomes.{OnErr-always}

pub followed-nothing : (t : Text) → followed t (Some []) ≡ t
unfolding followed
followed-nothing None = refl
followed-nothing (Some xs) = ap Some (append-nil xs)

pub patched-nothing : (p : ℕ) (t : Text) → patched p (Some []) t ≡ t
unfolding patched
patched-nothing p None = refl
patched-nothing p (Some xs) = ap Some (overwrite-none p xs)

-- a writer that nothing happened to
pub IsSameWriter-same : (m : Meaning) → IsSameWriter m m
IsSameWriter-same m = record { order = refl; kind = refl; faults = omega arith }

-- a call that added nothing
pub Adds-none : (m : Meaning) → Adds m m []
Adds-none m = record { same = record { order = refl; kind = refl; faults = omega arith }; size = omega arith; told = sym (followed-nothing m.bytes); records = refl }

-- a call that did nothing
pub AddsSome-none : (m : Meaning) (bytes : List ℕ) → AddsSome m m bytes
AddsSome-none m bytes = record { count = 0; size = omega arith; told = sym (followed-nothing m.bytes); records = refl }

pub ReplacesSome-none : (m : Meaning) (p : ℕ) (bytes : List ℕ) → ReplacesSome m m p bytes
ReplacesSome-none m p bytes = record { count = 0; size = refl; told = sym (patched-nothing p m.bytes); records = refl }

pub replaces_nothing : (m : Meaning) (p : ℕ) (bytes : List ℕ) → ReplacesSome m m p bytes
replaces_nothing = ReplacesSome-none

pub AddsSomeWith-none : (m : Meaning) (bytes : List ℕ) (more : List Relocation) → AddsSomeWith m m bytes more
AddsSomeWith-none m bytes more = record { count = 0; size = omega arith; told = sym (followed-nothing m.bytes); records = inr refl }

pub ReplacesSomeWith-none : (m : Meaning) (p : ℕ) (bytes : List ℕ) (more : List Relocation) → ReplacesSomeWith m m p bytes more
ReplacesSomeWith-none m p bytes more = record { count = 0; size = refl; told = sym (patched-nothing p m.bytes); records = inr refl }

-- a call that was refused for its place changed nothing
pub KeptOutside-same : (old new : Meaning) (e : Error) → new ≡ old → KeptOutside old new e
KeptOutside-same old new OffsetOutOfBounds h = h
KeptOutside-same old new LengthOutOfBounds h = h
KeptOutside-same old new _ h = tt

pub IfErr-kept : {T : Type 0} (r : Result T Error) (old new : Meaning) → OnErr r (new ≡ old) → IfErr r (KeptOutside old new)
IfErr-kept (Ok x) old new h = tt
IfErr-kept (Err e) old new h = KeptOutside-same old new e h

pub OnErr-none : {T : Type 0} (r : Result T Error) (m : Meaning) (bytes : List ℕ) → OnErr r (AddsSome m m bytes)
OnErr-none r m bytes = OnErr-always r (AddsSome-none m bytes)

pub OnErr-nothing_replaced : {T : Type 0} (r : Result T Error) (m : Meaning) (p : ℕ) (bytes : List ℕ) → OnErr r (ReplacesSome m m p bytes)
OnErr-nothing_replaced r m p bytes = OnErr-always r (ReplacesSome-none m p bytes)

-- a call that added all its bytes
Adds-some : {a b : Meaning} {xs : List ℕ} → Adds a b xs → AddsSome a b xs
Adds-some {a} {b} {xs} p =
    let whole : take (length xs) xs ≡ xs = take-length xs in
    record { count = length xs; size = p.size ∙ ap (λ l. a.size + length l) (sym whole); told = p.told ∙ ap (λ l. followed a.bytes (Some l)) (sym whole); records = p.records }

-- calls that added bytes and no record
pub Adds-with : {T : Type 0} (r : Result T Error) (a b : Meaning) (xs ys : List ℕ) → OnOk r (Adds a b xs) → xs ≡ ys → OnOk r (AddsWith a b ys [])
Adds-with (Ok x) a b xs ys p e =
    subst (λ l. AddsWith a b l []) e (record { same = p.same; size = p.size; told = p.told; records = p.records ∙ sym (append-nil a.records) })
Adds-with (Err x) a b xs ys p e = tt

pub Replaces-with : {T : Type 0} (r : Result T Error) (a b : Meaning) (p : ℕ) (xs ys : List ℕ) → OnOk r (Replaces a b p xs) → xs ≡ ys → OnOk r (ReplacesWith a b p ys [])
Replaces-with (Ok x) a b p xs ys q e =
    subst (λ l. ReplacesWith a b p l []) e
    (record { same = q.same; within = q.within; size = q.size; told = q.told; records = q.records ∙ sym (append-nil a.records) })
Replaces-with (Err x) a b p xs ys q e = tt

pub AddsSome-with : {a b : Meaning} {xs : List ℕ} → AddsSome a b xs → AddsSomeWith a b xs []
AddsSome-with {a} {b} {xs} p = record { count = p.count; size = p.size; told = p.told; records = inl (p.records ∙ sym (append-nil a.records)) }

pub ReplacesSome-with : {T : Type 0} (r : Result T Error) (a b : Meaning) (p : ℕ) (xs ys : List ℕ) → OnErr r (ReplacesSome a b p xs) → xs ≡ ys → OnErr r (ReplacesSomeWith a b p ys [])
ReplacesSome-with (Ok x) a b p xs ys q e = tt
ReplacesSome-with (Err x) a b p xs ys q e =
    subst (λ l. ReplacesSomeWith a b p l []) e
    (record { count = q.count; size = q.size; told = q.told; records = inl (q.records ∙ sym (append-nil a.records)) })

-- what a call has added after either result, as another names its bytes
pub AddsSome-either : {T : Type 0} (r : Result T Error) (a b : Meaning) (xs ys : List ℕ) → OnOk r (Adds a b xs) → OnErr r (AddsSome a b xs) → xs ≡ ys → AddsSome a b ys
AddsSome-either (Ok x) a b xs ys p q e = subst (λ l. AddsSome a b l) e (Adds-some p)
AddsSome-either (Err x) a b xs ys p q e = subst (λ l. AddsSome a b l) e q

pub both : (a b : Bool) (xs : List ℕ) → IsTrue a → IsTrue b → xs ≡ (if a && b then xs else [])
both true true xs h k = refl
both true false xs h k = cc
both false b xs h k = cc

-- a number that has a spelling
pub num-spelled : (big : Bool) (w n : ℕ) → IsTrue (is_width w) → IsTrue (fits w n) → num big w n ≡ spelled_num big w n
num-spelled big w n h k = both (is_width w) (fits w n) (num big w n) h k

pub signed-spelled : (big : Bool) (w : ℕ) (z : ℤ) → IsTrue (is_width w) → IsTrue (signed_fits w z) → signed_num big w z ≡ spelled_signed big w z
signed-spelled big w z h k = both (is_width w) (signed_fits w z) (signed_num big w z) h k

pub if_true : (b : Bool) (xs : List ℕ) → IsTrue b → xs ≡ (if b then xs else [])
if_true true xs h = refl
if_true false xs h = cc

pub below : (n k : ℕ) → n < k → IsTrue (nat_lt n k)
below n k h = grind (arith, nat_tests)

pub length-spelled : (big : Bool) (format : Format) (n : ℕ) → IsTrue (length_fits format n) → num big (word_of format) n ≡ spelled_length big format n
length-spelled big format n h = if_true (length_fits format n) (num big (word_of format) n) h

pub AddsSomeWith-either : {T : Type 0} (r : Result T Error) (a b : Meaning) (xs ys : List ℕ) → OnOk r (Adds a b xs) → OnErr r (AddsSome a b xs) → xs ≡ ys → AddsSomeWith a b ys []
AddsSomeWith-either r a b xs ys p q e = AddsSome-with (AddsSome-either r a b xs ys p q e)

-- a number that was added, as its spelling is
pub Adds-spelled : {T : Type 0} (r : Result T Error) (a b : Meaning) (w n : ℕ) → OnOk r (Adds a b (num a.is_big w n)) → OnOk r (IsTrue (is_width w) × IsTrue (fits w n)) → OnOk r (Adds a b (spelled_num a.is_big w n))
Adds-spelled (Ok x) a b w n p fit = subst (λ xs. Adds a b xs) (num-spelled a.is_big w n fit.0 fit.1) p
Adds-spelled (Err x) a b w n p fit = tt

pub Adds-number_with : {T : Type 0} (r : Result T Error) (a b : Meaning) (w n : ℕ) → OnOk r (Adds a b (num a.is_big w n)) → OnOk r (IsTrue (is_width w) × IsTrue (fits w n)) → OnOk r (AddsWith a b (spelled_num a.is_big w n) [])
Adds-number_with r a b w n p fit = Adds-with r a b (spelled_num a.is_big w n) (spelled_num a.is_big w n) (Adds-spelled r a b w n p fit) refl

pub AddsSome-number_with : {T : Type 0} (r : Result T Error) (a b : Meaning) (w n : ℕ) → OnOk r (Adds a b (num a.is_big w n)) → OnErr r (AddsSome a b (spelled_num a.is_big w n)) → OnOk r (IsTrue (is_width w) × IsTrue (fits w n)) →
    AddsSomeWith a b (spelled_num a.is_big w n) []
AddsSome-number_with r a b w n p q fit = AddsSomeWith-either r a b (spelled_num a.is_big w n) (spelled_num a.is_big w n) (Adds-spelled r a b w n p fit) q refl

-- the same bytes by another name
pub Adds-is : {T : Type 0} (r : Result T Error) (a b : Meaning) {xs ys : List ℕ} → OnOk r (Adds a b xs) → xs ≡ ys → OnOk r (Adds a b ys)
Adds-is r a b p e = subst (λ l. OnOk r (Adds a b l)) e p

pub AddsSome-is : {T : Type 0} (r : Result T Error) (a b : Meaning) {xs ys : List ℕ} → OnErr r (AddsSome a b xs) → xs ≡ ys → OnErr r (AddsSome a b ys)
AddsSome-is r a b p e = subst (λ l. OnErr r (AddsSome a b l)) e p

pub Replaces-is : {T : Type 0} (r : Result T Error) (a b : Meaning) (p : ℕ) {xs ys : List ℕ} → OnOk r (Replaces a b p xs) → xs ≡ ys → OnOk r (Replaces a b p ys)
Replaces-is r a b p h e = subst (λ l. OnOk r (Replaces a b p l)) e h

pub ReplacesSome-is : {T : Type 0} (r : Result T Error) (a b : Meaning) (p : ℕ) {xs ys : List ℕ} → OnErr r (ReplacesSome a b p xs) → xs ≡ ys → OnErr r (ReplacesSome a b p ys)
ReplacesSome-is r a b p h e = subst (λ l. OnErr r (ReplacesSome a b p l)) e h

-- where the zeros of a length begin
pub length-place : (format : Format) (old new len word : ℕ) (xs : List ℕ) → len ≡ new → new ≡ old + length xs → xs ≡ escape_of format ++ zeros (word_of format) → word ≡ word_of format → len - word ≡ old + length (escape_of format)
length-place format old new len word xs e f g h =
    omega (arith, ap length g, length-append (escape_of format) (zeros (word_of format)), length-zeros (word_of format))
