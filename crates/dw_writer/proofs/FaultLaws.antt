-- Counts of faults that rose in one of several calls.
use Rattle.std.specs.Prelude.{◌≡◌, ℕ, ◌≤◌, List, [], None, true, false, IsTrue, refl, Result, Ok, Err, OnOk, OnErr, IfErr, IsErrOf}
use Rattle.std.proofs.Common.{◌∙◌, ap, inl, inr, arith}
use Rattle.std.proofs.lemmas.Result.{IfErr-at_err}
use Rattle.dw_base.specs.Faults.{HasRisen as CountHasRisen}
use Rattle.dw_base.specs.declared.section_id.SectionId.TheVariants.{DebugAbbrev, DebugInfo}
use Rattle.dw_writer.specs.Contents.{Meaning}
use Rattle.dw_base.specs.declared.error.Error.{Error}
use Rattle.dw_base.specs.declared.error.Error.TheVariants.{NoMemory, WriteFault, OffsetOutOfBounds, LengthOutOfBounds}
use Rattle.dw_writer.specs.Causes.{HasRisen, BytesRefused, PatchCause, KeptOutside}
use Rattle.dw_writer.specs.Meaning.{IsSameWriter, Adds, AddsSome, Replaces, ReplacesSome}
use Rattle.dw_writer.specs.Relocating.{with_faults}
use Rattle.dw_writer.specs.Sections.{SomeHasRisen}
use Rattle.dw_writer.specs.declared.sections.Sections.{Sections}

count-from : (a b c : ℕ) → a ≤ b → CountHasRisen b c → CountHasRisen a c
count-from a b c le (inl h) = inl (omega arith)
count-from a b c le (inr h) = inr h

count-to : (a b c : ℕ) → CountHasRisen a b → b ≤ c → CountHasRisen a c
count-to a b c (inl h) le = inl (omega arith)
count-to a b c (inr h) le = inr (omega arith)

-- a count that rose in the last call has risen in all of them
pub HasRisen-from : (a b c : Meaning) → a.faults ≤ b.faults → HasRisen b c → HasRisen a c
HasRisen-from a b c le h = count-from a.faults b.faults c.faults le h

-- and so has one that rose in the first
pub HasRisen-to : (a b c : Meaning) → HasRisen a b → b.faults ≤ c.faults → HasRisen a c
HasRisen-to a b c h le = count-to a.faults b.faults c.faults h le

still : (a b : ℕ) → a ≡ 0 → b ≡ 0 → CountHasRisen a b → ⊥
still a b x y (inl h) = omega arith
still a b x y (inr h) = omega arith

module _ {W : Type 0} (meaning : W → Meaning) (old new : Sections W) where
  pub SomeHasRisen-abbrev : HasRisen (meaning old.debug_abbrev.0) (meaning new.debug_abbrev.0) → SomeHasRisen meaning old new
  SomeHasRisen-abbrev h = record { id = DebugAbbrev; before = old.debug_abbrev.0; after = new.debug_abbrev.0; was = refl; is = refl; risen = h }

  pub SomeHasRisen-info : HasRisen (meaning old.debug_info.0) (meaning new.debug_info.0) → SomeHasRisen meaning old new
  SomeHasRisen-info h = record { id = DebugInfo; before = old.debug_info.0; after = new.debug_info.0; was = refl; is = refl; risen = h }

  -- writers that never fail
  pub SomeHasRisen-never : ((w : W) → (meaning w).faults ≡ 0) → SomeHasRisen meaning old new → ⊥
  SomeHasRisen-never none h = still (meaning h.before).faults (meaning h.after).faults (none h.before) (none h.after) h.risen

-- What a writer that never fails does, with a count of faults beside it.
module _ (a b : Meaning) (n m : ℕ) where
  pub counted_same : IsSameWriter a b → n ≤ m → IsSameWriter (with_faults a n) (with_faults b m)
  counted_same h le = record { order = h.order; kind = h.kind; faults = le }

  pub counted_adds : {T : Type 0} (r : Result T Error) (xs : List ℕ) → n ≤ m → OnOk r (Adds a b xs) → OnOk r (Adds (with_faults a n) (with_faults b m) xs)
  counted_adds (Ok x) xs le h = record { same = counted_same h.same le; size = h.size; told = h.told; records = h.records }
  counted_adds (Err e) xs le h = tt

  pub counted_some : {T : Type 0} (r : Result T Error) (xs : List ℕ) → OnErr r (AddsSome a b xs) → OnErr r (AddsSome (with_faults a n) (with_faults b m) xs)
  counted_some (Ok x) xs h = tt
  counted_some (Err e) xs h = record { count = h.count; size = h.size; told = h.told; records = h.records }

  pub counted_replaces : {T : Type 0} (r : Result T Error) (p : ℕ) (xs : List ℕ) → n ≤ m → OnOk r (Replaces a b p xs) → OnOk r (Replaces (with_faults a n) (with_faults b m) p xs)
  counted_replaces (Ok x) p xs le h = record { same = counted_same h.same le; within = h.within; size = h.size; told = h.told; records = h.records }
  counted_replaces (Err e) p xs le h = tt

  pub counted_replaces_some : {T : Type 0} (r : Result T Error) (p : ℕ) (xs : List ℕ) → OnErr r (ReplacesSome a b p xs) → OnErr r (ReplacesSome (with_faults a n) (with_faults b m) p xs)
  counted_replaces_some (Ok x) p xs h = tt
  counted_replaces_some (Err e) p xs h = record { count = h.count; size = h.size; told = h.told; records = h.records }

  pub counted_kept : {T : Type 0} (r : Result T Error) → m ≡ n → IfErr r (KeptOutside a b) → IfErr r (KeptOutside (with_faults a n) (with_faults b m))
  counted_kept (Ok x) e h = tt
  counted_kept (Err OffsetOutOfBounds) e h = ap (λ k. with_faults k m) h ∙ ap (with_faults a) e
  counted_kept (Err LengthOutOfBounds) e h = ap (λ k. with_faults k m) h ∙ ap (with_faults a) e
  counted_kept (Err _) e h = tt

-- a writer of which only the count of faults matters
abbrev pub faults_only : ℕ → Meaning
faults_only n = record { bytes = None; size = 0; is_big = false; is_plain = true; records = []; faults = n }

pub counted_refused : {T : Type 0} (r : Result T Error) (n m : ℕ) → IfErr r (BytesRefused (faults_only 0) (faults_only 0)) → IfErr r (BytesRefused (faults_only n) (faults_only m))
counted_refused (Ok x) n m h = tt
counted_refused (Err NoMemory) n m h = tt
counted_refused (Err WriteFault) n m h = absurd (still 0 0 refl refl h)
counted_refused (Err _) n m h = absurd h

pub counted_patch : {T : Type 0} (r : Result T Error) (size p k n m : ℕ) → IfErr r (PatchCause size (CountHasRisen 0 0) p k) → IfErr r (PatchCause size (CountHasRisen n m) p k)
counted_patch (Ok x) size p k n m h = tt
counted_patch (Err NoMemory) size p k n m h = tt
counted_patch (Err WriteFault) size p k n m h = absurd (still 0 0 refl refl h)
counted_patch (Err OffsetOutOfBounds) size p k n m h = h
counted_patch (Err LengthOutOfBounds) size p k n m h = h
counted_patch (Err _) size p k n m h = absurd h

-- a call of such a writer is no fault
pub never_faulty : {T : Type 0} (r : Result T Error) → IfErr r (BytesRefused (faults_only 0) (faults_only 0)) → IsErrOf r WriteFault → ⊥
never_faulty r h e = still 0 0 refl refl (IfErr-at_err (BytesRefused (faults_only 0) (faults_only 0)) e h)

pub never_faulty_at : {T : Type 0} (r : Result T Error) (size p k : ℕ) → IfErr r (PatchCause size (CountHasRisen 0 0) p k) → IsErrOf r WriteFault → ⊥
never_faulty_at r size p k h e = still 0 0 refl refl (IfErr-at_err (PatchCause size (CountHasRisen 0 0) p k) e h)

-- a call that isn't to fail doesn't fail
pub not_failing : {A : Type 0} → IsTrue false → A
not_failing e = cc
