-- Records of a part that is there wherever other sections start lead to sections that are joined.
use Rattle.std.specs.Prelude.{◌≡◌, ◌⊎◌, ℕ, suc, zero, ◌+◌, ◌^◌, ◌<◌, ◌&&◌, nat_lt, Bool, true, false, not, List, [], ◌∷◌, ◌++◌, map, length, Option, Some, None, refl, ℤ, pos, negsuc, ◌+ℤ◌, IsTrue, slice_get, unsigned_abs, if◌then◌else◌}
use Rattle.std.specs.Option.{is_some}
use Rattle.std.proofs.Common.{sym, ◌∙◌, ap, subst, inl, inr, ⊎_elim, arith}
use Rattle.std.proofs.lemmas.Bool.{and_parts}
use Rattle.std.proofs.lemmas.Bool.Decides.{nat_tests}
use Rattle.std.proofs.lemmas.Int.{ints}
use Rattle.std.proofs.lemmas.Option.{none-some}
use Rattle.dw_base.specs.Numbers.{◌>>=◌, when, num, is_width, fits}
use Rattle.dw_base.specs.declared.constants.DwEhPe.{DwEhPe}
use Rattle.dw_base.specs.declared.section_id.SectionId.{SectionId}
use Rattle.dw_base.specs.declared.section_id.SectionId.TheVariants.{DebugAbbrev, DebugStr, DebugLineStr, DebugLine, DebugRanges, DebugRngLists, DebugLoc, DebugLocLists, DebugInfo, DebugFrame, EhFrame, DebugAddr, DebugStrOffsets, DebugMacinfo, DebugMacro, DebugAranges}
use Rattle.dw_writer.specs.Texts.{Text, num_text, int_text, patched}
use Rattle.dw_writer.specs.Pointers.{address_of, pointer_text}
use Rattle.dw_writer.specs.Layout.{Layout, section_number, start_of, target_value, is_symbol, is_at_zero}
use Rattle.dw_writer.specs.Contents.{Meaning}
use Rattle.dw_writer.specs.Resolved.{number_at_place, sum_text, record_text, is_inside, put_record, put_records, resolved}
use Rattle.dw_writer.specs.Visits.{written_ids}
use Rattle.dw_writer.specs.declared.relocate.Relocation.{Relocation}
use Rattle.dw_writer.specs.declared.relocate.RelocationTarget.{RelocationTarget}
use Rattle.dw_writer.specs.declared.relocate.RelocationTarget.TheVariants.{Symbol, Section}
use Rattle.dw_link.specs.Faults.{unless, target_fault}
use Rattle.dw_link.specs.Outcome.{part_fault}
use Rattle.dw_link.specs.declared.fault.Fault.{Fault}
use Rattle.dw_link.specs.declared.fault.Fault.TheVariants.{UnknownSymbol, UnknownSection}
use Rattle.dw_link.proofs.Faultless.{Put, put_first, none_put, unless_plain, part_target}

-- a section that is joined
abbrev pub is_joined : SectionId → Bool
is_joined s = nat_lt (section_number s) 11

-- a target that is a symbol, or such a section
abbrev pub IsJoined : RelocationTarget → Type 0
IsJoined (Symbol n) = Unit {0}
IsJoined (Section s) = is_joined s ≡ true

abbrev pub AllJoined : List Relocation → Type 0
AllJoined [] = Unit {0}
AllJoined (r ∷ rs) = IsJoined r.target × AllJoined rs

-- A layout in which the sections that aren't joined start very far

abbrev pub far : (SectionId → ℕ) → ℕ → List ℕ → ℕ → Layout
far f own symbols k = record { starts = map f written_ids ++ (k ∷ k ∷ k ∷ k ∷ k ∷ []); own_start = own; symbols = symbols }

module _ (f : SectionId → ℕ) (own : ℕ) (symbols : List ℕ) where
  -- a section that is joined starts where it does; another very far
  start_far : (s : SectionId) → (is_joined s ≡ true) × ((k : ℕ) → start_of (far f own symbols k) s ≡ f s) ⊎ ((is_joined s ≡ false) × ((k : ℕ) → start_of (far f own symbols k) s ≡ k))
  start_far DebugAbbrev = inl (refl, λ k. refl)
  start_far DebugStr = inl (refl, λ k. refl)
  start_far DebugLineStr = inl (refl, λ k. refl)
  start_far DebugLine = inl (refl, λ k. refl)
  start_far DebugRanges = inl (refl, λ k. refl)
  start_far DebugRngLists = inl (refl, λ k. refl)
  start_far DebugLoc = inl (refl, λ k. refl)
  start_far DebugLocLists = inl (refl, λ k. refl)
  start_far DebugInfo = inl (refl, λ k. refl)
  start_far DebugFrame = inl (refl, λ k. refl)
  start_far EhFrame = inl (refl, λ k. refl)
  start_far DebugAddr = inr (refl, λ k. refl)
  start_far DebugStrOffsets = inr (refl, λ k. refl)
  start_far DebugMacinfo = inr (refl, λ k. refl)
  start_far DebugMacro = inr (refl, λ k. refl)
  start_far DebugAranges = inr (refl, λ k. refl)

-- a sum with a number that is large enough fits no bytes
too_far : (n m : ℕ) (a : ℤ) → pos n +ℤ a +ℤ pos (2 ^ 64 + unsigned_abs a) ≡ pos m → m < 2 ^ 64 → ⊥
too_far n m (pos j) e h = omega (arith, ints, e, h)
too_far n m (negsuc j) e h = omega (arith, ints, e, h)

some_if : (b : Bool) (ys xs : List ℕ) → ◌≡◌ {A = Text} (if b then Some ys else None) (Some xs) → IsTrue b × (ys ≡ xs)
some_if true ys xs e = (refl, cc)
some_if false ys xs e = cc

short : (w n : ℕ) → IsTrue (is_width w) → IsTrue (fits w n) → n < 2 ^ 64
short w n h k = grind (arith, nat_tests)

int_short : (big : Bool) (w : ℕ) (z : ℤ) (xs : List ℕ) → int_text big w z ≡ Some xs → (m : ℕ) × (z ≡ pos m) × (m < 2 ^ 64)
unfolding int_text num_text
int_short big w (pos m) xs e =
    let p = some_if (is_width w && fits w m) (num big w m) xs e in
    let q = and_parts (is_width w) (fits w m) p.0 in
    (m, refl, short w m q.0 q.1)
int_short big w (negsuc m) xs e = cc

no_pointer : (b : Bool) (t : Text) (xs : List ℕ) → b ≡ false → when b t ≡ Some xs → ⊥
no_pointer true t xs h e = cc
no_pointer false t xs h e = none-some xs e

sum_far : (big : Bool) (w place : ℕ) (o : Option DwEhPe) (n : ℕ) (a : ℤ) (xs : List ℕ) → sum_text big w place false o (pos n +ℤ a +ℤ pos (2 ^ 64 + unsigned_abs a)) ≡ Some xs → ⊥
unfolding sum_text
sum_far big w place None n a xs e =
    let p = int_short big w (pos n +ℤ a +ℤ pos (2 ^ 64 + unsigned_abs a)) xs e in
    too_far n p.0 a p.1 p.2
sum_far big w place (Some encoding) n a xs e =
    no_pointer false (address_of (pos n +ℤ a +ℤ pos (2 ^ 64 + unsigned_abs a)) >>= pointer_text big w encoding.0 place) xs refl e

record_far : (big : Bool) (l : Layout) (r : Relocation) (s : SectionId) (n : ℕ) (xs : List ℕ) → r.target ≡ Section s → start_of l s ≡ 2 ^ 64 + unsigned_abs r.addend → record_text big l r n ≡ Some xs → ⊥
unfolding record_text
record_far big l r s n xs is at e =
    let sum : ℕ → RelocationTarget → Text = λ v target. sum_text big r.size (l.own_start + r.offset) (is_symbol target) r.eh_pe (pos n +ℤ r.addend +ℤ pos v) in
    let here = sym (ap (λ target. target_value l target >>= λ v. sum v target) is) ∙ e in
    sum_far big r.size (l.own_start + r.offset) r.eh_pe n r.addend xs (sym (ap (λ v. sum v (Section s)) at) ∙ here)

module _ (big : Bool) (f : SectionId → ℕ) (own : ℕ) (symbols : List ℕ) where
  abbrev away : ℕ → Layout
  away k = far f own symbols k

  abbrev IsThere : Text → Type 0
  IsThere t = (xs : List ℕ) × (t ≡ Some xs)

  target_joined : (r : Relocation) (target : RelocationTarget) (b : List ℕ) → r.target ≡ target → ((k : ℕ) → Put big (away k) r b) → IsJoined target
  target_joined r (Symbol n) b is puts = tt
  target_joined r (Section s) b is puts =
      ⊎_elim (λ h. h.0) (λ h.
      let p = puts (2 ^ 64 + unsigned_abs r.addend) in
      absurd (record_far big (away (2 ^ 64 + unsigned_abs r.addend)) r s (number_at_place big r.offset r.size b) p.text is (h.1 (2 ^ 64 + unsigned_abs r.addend)) p.is)) (start_far f own symbols s)

  value_same : (target : RelocationTarget) (k : ℕ) → IsJoined target → target_value (away k) target ≡ target_value (away 0) target
  value_same (Symbol n) k h = refl
  value_same (Section s) k h =
      ⊎_elim (λ p. ap (λ (v : ℕ). Some v) (p.1 k ∙ sym (p.1 0))) (λ p. absurd (let e : true ≡ false = sym h ∙ p.0 in cc)) (start_far f own symbols s)

  record_same : (r : Relocation) (k n : ℕ) → IsJoined r.target → record_text big (away k) r n ≡ record_text big (away 0) r n
  unfolding record_text
  record_same r k n h = ap (λ o. o >>= λ v. sum_text big r.size (own + r.offset) (is_symbol r.target) r.eh_pe (pos n +ℤ r.addend +ℤ pos v)) (value_same r.target k h)

  put_same : (r : Relocation) (k : ℕ) (b : List ℕ) → IsJoined r.target → put_record big (away k) r (Some b) ≡ put_record big (away 0) r (Some b)
  unfolding put_record
  put_same r k b h = ap (λ t. if is_inside (length b) r then patched r.offset t (Some b) else None) (record_same r k (number_at_place big r.offset r.size b) h)

  all_joined : (rs : List Relocation) (t : Text) → ((k : ℕ) → IsThere (put_records big (away k) rs t)) → AllJoined rs
  all_joined [] t h = tt
  all_joined (r ∷ rs) None h =
      let none : put_record big (away 0) r None ≡ None = none_put big (away 0) (r ∷ []) in
      absurd (none-some (h 0).0 (sym (ap (put_records big (away 0) rs) none ∙ none_put big (away 0) rs) ∙ (h 0).1))
  all_joined (r ∷ rs) (Some b) h =
      let puts : (k : ℕ) → Put big (away k) r b = λ k. put_first big (away k) r rs b (h k).0 (put_record big (away k) r (Some b)) refl (h k).1 in
      let joined = target_joined r r.target b refl puts in
      (joined, all_joined rs (put_record big (away 0) r (Some b)) (λ k. ((h k).0, ap (put_records big (away k) rs) (sym (put_same r k b joined)) ∙ (h k).1)))

-- the same of a part
pub part_joined : (f : SectionId → ℕ) (own : ℕ) (symbols : List ℕ) (m : Meaning) → ((k : ℕ) → (xs : List ℕ) × (resolved (far f own symbols k) m ≡ Some xs)) → AllJoined m.records
unfolding resolved
part_joined f own symbols m h =
    all_joined m.is_big f own symbols m.records m.bytes
    (λ k. ((h k).0, unless_plain (m.is_plain && not (is_at_zero (far f own symbols k))) (put_records m.is_big (far f own symbols k) m.records m.bytes) (h k).0 (h k).1))

-- Such a record isn't at fault

start_there : (g : SectionId → ℕ) (s : SectionId) → is_joined s ≡ true → is_some (slice_get (map g written_ids) (section_number s)) ≡ true
start_there g DebugAbbrev h = refl
start_there g DebugStr h = refl
start_there g DebugLineStr h = refl
start_there g DebugLine h = refl
start_there g DebugRanges h = refl
start_there g DebugRngLists h = refl
start_there g DebugLoc h = refl
start_there g DebugLocLists h = refl
start_there g DebugInfo h = refl
start_there g DebugFrame h = refl
start_there g EhFrame h = refl
start_there g DebugAddr h = cc
start_there g DebugStrOffsets h = cc
start_there g DebugMacinfo h = cc
start_there g DebugMacro h = cc
start_there g DebugAranges h = cc

joined_at : (rs : List Relocation) (k : ℕ) (r : Relocation) → AllJoined rs → slice_get rs k ≡ Some r → IsJoined r.target
joined_at [] zero r h e = cc
joined_at [] (suc k) r h e = cc
joined_at (x ∷ rs) zero r h e = let same : x ≡ r = cc in subst (λ (y : Relocation). IsJoined y.target) same h.0
joined_at (x ∷ rs) (suc k) r h e = joined_at rs k r h.1 e

joined_known : (l : Layout) (g : SectionId → ℕ) (target : RelocationTarget) (f : Fault) → l.starts ≡ map g written_ids → IsJoined target → target_fault l target ≡ Some f → f ≡ UnknownSection → ⊥
joined_known l g (Symbol n) f starts h e is = symbol_fault (is_some (slice_get l.symbols n)) (ap (λ x. Some x) (sym is) ∙ sym e)
  where
    symbol_fault : (b : Bool) → Some UnknownSection ≡ unless b UnknownSymbol → ⊥
    symbol_fault true e = cc
    symbol_fault false e = let k : UnknownSection ≡ UnknownSymbol = cc in cc
joined_known l g (Section s) f starts h e is =
    let there : is_some (slice_get l.starts (section_number s)) ≡ true = ap (λ xs. is_some (slice_get xs (section_number s))) starts ∙ start_there g s h in
    none-some f (sym (ap (λ b. unless b UnknownSection) there) ∙ e)

-- a part that is there, with such records, has no fault
pub part_faultless : (l : Layout) (g : SectionId → ℕ) (m : Meaning) (k : ℕ) (f : Fault) (zs : List ℕ) → l.starts ≡ map g written_ids → resolved l m ≡ Some zs → AllJoined m.records → part_fault l m k ≡ Some f → ⊥
part_faultless l g m k f zs starts there joined e =
    let p = part_target l m k f zs there e in
    joined_known l g p.relocation.target f starts (joined_at m.records k p.relocation joined p.is) p.target p.unknown
