-- Tables that are written one after another.
use Rattle.std.specs.Prelude.{◌≡◌, ℕ, ◌+◌, ◌<◌, ◌||◌, not, cond, nat_lt, Bool, true, false, List, [], ◌∷◌, ◌++◌, length, take, Option, Some, None, refl, get_or, slice_get, zero, suc}
use Rattle.std.specs.List.{list_any, position_or_len}
use Rattle.std.specs.Option.{option_map}
use Rattle.std.proofs.Common.{sym, ◌∙◌, ap, ap₂, subst, arith, ⊎_elim}
use Rattle.std.proofs.lemmas.Bool.{eqb-true}
use Rattle.std.proofs.lemmas.Bool.Decides.{nat_tests}
use Rattle.std.proofs.lemmas.List.{take_more}
use Rattle.dw_base.specs.declared.error.Error.{Error}
use Rattle.dw_base.specs.declared.error.Error.TheVariants as errors
use Rattle.dw_writer.specs.Layout.{section_number}
use Rattle.dw_writer.specs.Causes.{BytesRefused}
use Rattle.dw_writer.specs.Meaning.{Meaning}
use Rattle.dw_base.specs.declared.section_id.SectionId.{SectionId}
use Rattle.dw_writer.specs.Sections.{section_of}
use Rattle.dw_writer.specs.Visits.{written_ids}
use Rattle.dw_writer.specs.declared.sections.Sections.{Sections}
use Rattle.dw_frame.specs.declared.kind.FrameKind.{FrameKind}
use Rattle.dw_frame.specs.declared.table.FrameTable.{FrameTable}
use Rattle.dw_frame_instructions.specs.Causes.{IsNone}
use Rattle.dw_frame.specs.Tables.{causes_of}
use Rattle.dw_frame.proofs.TableSteps.{got_at}
use Rattle.dw_link_frames.specs.declared.error.LinkFrameError.{LinkFrameError}
use Rattle.dw_link_frames.specs.declared.error.LinkFrameError.TheVariants.{Write, Link, NoMemory}
use Rattle.dw_link_frames.specs.Written.{new_recorder, IsTaken, AreTaken, IsToldWhole, AreAllTold, TableRefused, is_same, IsWrittenSet, AreWritten}
use Rattle.dw_link.specs.declared.error.LinkError.{LinkError}
use Rattle.dw_link.specs.declared.error.LinkError.TheVariants as links
use Rattle.dw_link.specs.Outcome.{LinkRefused, is_other, differs, is_mixed, first_mixed}
use Rattle.dw_link.proofs.SectionSteps.{number_same}
use Rattle.dw_link.specs.Sets.{parts_of, sets_of}
use Rattle.dw_link_frames.specs.Placed.{section_id}
use Rattle.dw_link_frames.specs.Outcome.{refused_at, TablesRefused, not_linked, LinkTablesRefused}

-- a writer that counts no fault refuses bytes for want of memory alone
pub only_memory : (old new : Meaning) (e : Error) → old.faults ≡ 0 → new.faults ≡ 0 → BytesRefused old new e → e ≡ errors.NoMemory
only_memory old new errors.NoMemory a b h = refl
only_memory old new errors.WriteFault a b h = ⊎_elim (λ less. absurd (omega (arith, a, b, less))) (λ last. absurd (omega (arith, b, last))) h
only_memory old new e a b h = absurd h

-- a table that a new recorder takes, at a writer that is one
pub taken_at : (big : Bool) (kind : FrameKind) (t : FrameTable) (m : Meaning) → m ≡ new_recorder big → IsTaken kind t → IsNone (causes_of kind t m)
taken_at big kind t m is h = subst (λ x. IsNone (causes_of kind t x)) (sym is) h

taken_more : (kind : FrameKind) (ts : List FrameTable) (t : FrameTable) → AreTaken kind ts → IsTaken kind t → AreTaken kind (ts ++ t ∷ [])
taken_more kind [] t h k = (k, tt)
taken_more kind (x ∷ ts) t h k = (h.0, taken_more kind ts t h.1 k)

told_more : (kind : FrameKind) (ts : List FrameTable) (t : FrameTable) → AreAllTold kind ts → IsToldWhole kind t → AreAllTold kind (ts ++ t ∷ [])
told_more kind [] t h k = (k, tt)
told_more kind (x ∷ ts) t h k = (h.0, told_more kind ts t h.1 k)

module _ {W : Type 0} (meaning : W → Meaning) (big : Bool) (kind : FrameKind) where
  written_more : (ts : List FrameTable) (sets : List (Sections W)) (t : FrameTable) (s : Sections W) → AreWritten meaning big kind ts sets → IsWrittenSet meaning big kind t s → AreWritten meaning big kind (ts ++ t ∷ []) (sets ++ s ∷ [])
  written_more [] [] t s h k = (k, tt)
  written_more [] (x ∷ sets) t s h k = absurd h
  written_more (x ∷ ts) [] t s h k = absurd h
  written_more (x ∷ ts) (y ∷ sets) t s h k = (h.0, written_more ts sets t s h.1 k)

  pub written_next : (ts : List FrameTable) (i : ℕ) (t : FrameTable) (sets more : List (Sections W)) (s : Sections W) → i < length ts → t ≡ get_or ts i t → more ≡ sets ++ s ∷ [] →
      AreWritten meaning big kind (take i ts) sets → IsWrittenSet meaning big kind t s → AreWritten meaning big kind (take (i + 1) ts) more
  written_next ts i t sets more s below is same h k =
      subst (λ xs. AreWritten meaning big kind xs more) (sym (take_more ts i t below ∙ ap (λ x. take i ts ++ x ∷ []) (sym is)))
      (subst (AreWritten meaning big kind (take i ts ++ t ∷ [])) (sym same) (written_more (take i ts) sets t s h k))

pub taken_next : (kind : FrameKind) (ts : List FrameTable) (i : ℕ) (t : FrameTable) → i < length ts → t ≡ get_or ts i t → AreTaken kind (take i ts) → IsTaken kind t → AreTaken kind (take (i + 1) ts)
taken_next kind ts i t below is h k =
    subst (AreTaken kind) (sym (take_more ts i t below ∙ ap (λ x. take i ts ++ x ∷ []) (sym is))) (taken_more kind (take i ts) t h k)

pub told_next : (kind : FrameKind) (ts : List FrameTable) (i : ℕ) (t : FrameTable) → i < length ts → t ≡ get_or ts i t → AreAllTold kind (take i ts) → IsToldWhole kind t → AreAllTold kind (take (i + 1) ts)
told_next kind ts i t below is h k =
    subst (AreAllTold kind) (sym (take_more ts i t below ∙ ap (λ x. take i ts ++ x ∷ []) (sym is))) (told_more kind (take i ts) t h k)

-- the first table that is refused
pub refused_by : (kind : FrameKind) (ts : List FrameTable) (i : ℕ) (t : FrameTable) (e : Error) → i < length ts → t ≡ get_or ts i t → AreTaken kind (take i ts) → TableRefused kind t e → TablesRefused kind ts (refused_at i e)
refused_by kind ts i t errors.NoMemory below is h k = tt
refused_by kind ts i t e below is h k = record { table = t; is = got_at ts i t below is; cause = k; other = tt; before = h }

-- each of tables that are taken
taken_one : (kind : FrameKind) (ts : List FrameTable) (i : ℕ) (t : FrameTable) → AreTaken kind ts → slice_get ts i ≡ Some t → IsTaken kind t
taken_one kind [] zero t h e = cc
taken_one kind [] (suc i) t h e = cc
taken_one kind (x ∷ ts) zero t h e = let same : x ≡ t = cc in subst (IsTaken kind) same h.0
taken_one kind (x ∷ ts) (suc i) t h e = taken_one kind ts i t h.1 e

pub taken_here : (kind : FrameKind) (ts : List FrameTable) (i : ℕ) (t : FrameTable) → AreTaken kind ts → i < length ts → t ≡ get_or ts i t → IsTaken kind t
taken_here kind ts i t h below is = taken_one kind ts i t h (got_at ts i t below is)

pub refused_memory : (i : ℕ) (e : Error) → e ≡ errors.NoMemory → refused_at i e ≡ NoMemory
refused_memory i e h = ap (refused_at i) h

-- Joining

pub not_linked_by : {W : Type 0} (meaning : W → Meaning) (big : Bool) (kind : FrameKind) (ts : List FrameTable) (symbols : List ℕ) (sets : List (Sections W)) (e : LinkError) →
    AreTaken kind ts → AreWritten meaning big kind ts sets → LinkRefused big (sets_of meaning sets) symbols e → LinkTablesRefused meaning big kind ts symbols (not_linked e)
not_linked_by meaning big kind ts symbols sets links.NoMemory taken written cause = tt
not_linked_by meaning big kind ts symbols sets e taken written cause = record { taken = taken; sets = sets; written = written; cause = cause; other = tt }

pub tables_refused : {W : Type 0} (meaning : W → Meaning) (big : Bool) (kind : FrameKind) (ts : List FrameTable) (symbols : List ℕ) (e : LinkFrameError) → TablesRefused kind ts e → LinkTablesRefused meaning big kind ts symbols e
tables_refused meaning big kind ts symbols (Write n e) h = h
tables_refused meaning big kind ts symbols (Link e) h = absurd h
tables_refused meaning big kind ts symbols NoMemory h = tt

-- The sets are in the byte order

not_below : (n : ℕ) → nat_lt n n ≡ false
not_below n = grind (arith, nat_tests)

pub same_section : (s t : SectionId) → is_same s t ≡ true → s ≡ t
same_section s t h = number_same s t (eqb-true (section_number s) (section_number t) h)

not_other : (a b : Bool) → a ≡ b → is_other a b ≡ false
not_other true b e = ap not (sym e)
not_other false b e = sym e

module _ {W : Type 0} (meaning : W → Meaning) (big : Bool) (kind : FrameKind) where
  order_of : (t : FrameTable) (s : Sections W) → IsWrittenSet meaning big kind t s → (id : SectionId) (w : W) → section_of s id ≡ Some w → (meaning w).is_big ≡ big
  order_of t s h id w is = by_same (is_same id (section_id kind)) refl
    where
      by_same : (b : Bool) → is_same id (section_id kind) ≡ b → (meaning w).is_big ≡ big
      by_same true e = (h.part w (ap (section_of s) (sym (same_section id (section_id kind) e)) ∙ is)).same.order
      by_same false e = ap (λ (m : Meaning). m.is_big) (h.others id w e is)

  agrees : (o : Option W) → ((w : W) → o ≡ Some w → (meaning w).is_big ≡ big) → differs big (option_map meaning o) ≡ false
  agrees None h = refl
  agrees (Some w) h = not_other (meaning w).is_big big (h w refl)

  none_differs : (t : FrameTable) (s : Sections W) → IsWrittenSet meaning big kind t s → (ids : List SectionId) → list_any (λ id. differs big (parts_of meaning s id)) ids ≡ false
  none_differs t s h [] = refl
  none_differs t s h (id ∷ ids) = ap₂ (λ a b. a || b) (agrees (section_of s id) (order_of t s h id)) (none_differs t s h ids)

  all_pass : (ts : List FrameTable) (sets : List (Sections W)) → AreWritten meaning big kind ts sets → position_or_len (is_mixed big) (sets_of meaning sets) ≡ length (sets_of meaning sets)
  all_pass [] [] h = refl
  all_pass [] (s ∷ sets) h = absurd h
  all_pass (t ∷ ts) [] h = absurd h
  all_pass (t ∷ ts) (s ∷ sets) h =
      let rest = position_or_len (is_mixed big) (sets_of meaning sets) in
      let first : position_or_len (is_mixed big) (sets_of meaning (s ∷ sets)) ≡ 1 + rest = ap (λ b. cond (not b) (1 + rest) 0) (none_differs t s h.0 written_ids) in
      omega (arith, first, all_pass ts sets h.1)

  pub none_mixed : (ts : List FrameTable) (sets : List (Sections W)) → AreWritten meaning big kind ts sets → first_mixed big (sets_of meaning sets) ≡ None
  none_mixed ts sets h =
      let p = position_or_len (is_mixed big) (sets_of meaning sets) in
      ap (λ n. cond (nat_lt p n) (Some p) None) (sym (all_pass ts sets h)) ∙ ap (λ b. cond b (Some p) None) (not_below p)
