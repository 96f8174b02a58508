-- What joining comes to, from what its steps come to.
use Rattle.std.specs.Prelude.{◌≡◌, ℕ, suc, ◌<◌, zero, ◌+◌, ◌≤◌, ◌⊎◌, Bool, true, false, not, ◌||◌, cond, List, [], ◌∷◌, length, map, Option, Some, None, slice_get, nat_lt, position, IsTrue, IsFalse, refl}
use Rattle.std.specs.Option.{option_map}
use Rattle.std.specs.List.{list_any, position_or_len}
use Rattle.std.proofs.Common.{sym, ◌∙◌, ap, subst, inl, inr, arith}
use Rattle.std.proofs.lemmas.Bool.Decides.{nat_tests}
use Rattle.dw_base.specs.Numbers.{◌>>=◌}
use Rattle.dw_base.specs.declared.section_id.SectionId.{SectionId}
use Rattle.dw_base.specs.declared.section_id.SectionId.TheVariants.{DebugAbbrev, DebugStr, DebugLineStr, DebugLine, DebugRanges, DebugRngLists, DebugLoc, DebugLocLists, DebugInfo, DebugFrame, EhFrame, DebugAddr, DebugStrOffsets, DebugMacinfo, DebugMacro, DebugAranges}
use Rattle.dw_writer.specs.Texts.{Text, followed}
use Rattle.dw_writer.specs.Layout.{section_number}
use Rattle.dw_writer.specs.Meaning.{Meaning}
use Rattle.dw_writer.specs.Sections.{section_of, AllMean}
use Rattle.dw_writer.specs.Visits.{written_ids}
use Rattle.dw_writer.specs.declared.sections.Sections.{Sections}
use Rattle.dw_writer.specs.declared.reloc_vec.RelocVec.{RelocVec}
use Rattle.dw_link.specs.declared.error.LinkError.{LinkError}
use Rattle.dw_link.specs.declared.error.LinkError.TheVariants.{NoMemory, MixedByteOrder, PointerEncoding, RecordOutOfPlace, UnknownSymbol, UnknownSection, ValueTooLarge}
use Rattle.dw_link.specs.declared.fault.Fault.{Fault}
use Rattle.dw_link.specs.declared.fault.Fault.TheVariants as faults
use Rattle.dw_link.specs.Faults.{error_at}
use Rattle.dw_link.specs.Sets.{Parts, parts_of, sets_of, linked_parts}
use Rattle.dw_link.specs.Outcome.{differs, is_other, is_mixed, first_mixed, fault_at, IsBefore, IsFaultless, IsFirstFault, LinkRefused, JoinsParts}
use Rattle.dw_link.specs.Steps.{order_at, length_of, is_below, AllHaveOrders, AreEmpty, AddsSets, SetsRefused}
use Rattle.dw_link.proofs.Held.{held_beside}
use Rattle.dw_link.proofs.SetSteps.{parts_of-none, length-map, told_of}
use Rattle.dw_link.proofs.JoinLaws.{IsReady}
use Rattle.dw_link.proofs.SectionSteps.{number_same}

-- The first set of another byte order

position_or_len-map : {X Y : Type 0} (p : Y → Bool) (f : X → Y) (xs : List X) → position_or_len p (map f xs) ≡ position_or_len (λ x. p (f x)) xs
position_or_len-map p f [] = refl
position_or_len-map p f (x ∷ xs) = ap (λ k. cond (not (p (f x))) (1 + k) 0) (position_or_len-map p f xs)

pub position-map : {X Y : Type 0} (p : Y → Bool) (f : X → Y) (xs : List X) → position p (map f xs) ≡ position (λ x. p (f x)) xs
position-map p f xs =
    ap (λ k. cond (nat_lt k (length (map f xs))) (Some k) None) (position_or_len-map p f xs)
    ∙ ap (λ n. cond (nat_lt (position_or_len (λ x. p (f x)) xs) n) (Some (position_or_len (λ x. p (f x)) xs)) None) (length-map f xs)

-- the code looks at a slice of the sets
pub first_mixed-by : {W : Type 0} (meaning : W → Meaning) (big b : Bool) (xs ys : List (Sections W)) (o : Option ℕ) → o ≡ position (λ set. is_mixed b (parts_of meaning set)) xs → b ≡ big → xs ≡ ys →
    o ≡ first_mixed big (sets_of meaning ys)
first_mixed-by meaning big b xs ys o e f h =
    e ∙ ap (λ k. position (λ set. is_mixed k (parts_of meaning set)) xs) f ∙ ap (position (λ set. is_mixed big (parts_of meaning set))) h
    ∙ sym (position-map (is_mixed big) (parts_of meaning) ys)

pub none_is : (o : Option ℕ) → ((n : ℕ) → o ≡ Some n → ⊥) → o ≡ None
none_is None h = refl
none_is (Some n) h = absurd (h n refl)

none_there : (a n : ℕ) → ◌≡◌ {A = Option ℕ} (cond (nat_lt a n) (Some a) None) None → n ≤ a
none_there a n e = by_test (nat_lt a n) e (λ h. grind (arith, nat_tests))
  where
    by_test : (b : Bool) → ◌≡◌ {A = Option ℕ} (cond b (Some a) None) None → (b ≡ false → n ≤ a) → n ≤ a
    by_test true e k = cc
    by_test false e k = k refl

at_front : {X : Type 0} (p : X → Bool) (y : X) (xs : List X) → suc (length xs) ≤ cond (not (p y)) (1 + position_or_len p xs) 0 → (p y ≡ false) × (length xs ≤ position_or_len p xs)
at_front p y xs h = by_test (p y) h
  where
    by_test : (b : Bool) → suc (length xs) ≤ cond (not b) (1 + position_or_len p xs) 0 → (b ≡ false) × (length xs ≤ position_or_len p xs)
    by_test true h = absurd (omega arith)
    by_test false h = (refl, omega arith)

past_all : {X : Type 0} (p : X → Bool) (xs : List X) (n : ℕ) (x : X) → length xs ≤ position_or_len p xs → slice_get xs n ≡ Some x → p x ≡ false
past_all p [] n x h e = cc
past_all p (y ∷ xs) zero x h e = let same : y ≡ x = cc in subst (λ z. p z ≡ false) same (at_front p y xs h).0
past_all p (y ∷ xs) (suc n) x h e = past_all p xs n x (at_front p y xs h).1 e

pub none_mixed : (big : Bool) (sets : List Parts) (n : ℕ) (set : Parts) → first_mixed big sets ≡ None → slice_get sets n ≡ Some set → is_mixed big set ≡ false
none_mixed big sets n set e at = past_all (is_mixed big) sets n set (none_there (position_or_len (is_mixed big) sets) (length sets) e) at

neither : (a b : Bool) → (a || b) ≡ false → (a ≡ false) × (b ≡ false)
neither true b e = cc
neither false b e = (refl, e)

any_false : {X : Type 0} (p : X → Bool) (xs : List X) (n : ℕ) (x : X) → list_any p xs ≡ false → slice_get xs n ≡ Some x → p x ≡ false
any_false p [] n x h e = cc
any_false p (y ∷ xs) zero x h e = let same : y ≡ x = cc in subst (λ z. p z ≡ false) same (neither (p y) (list_any p xs) h).0
any_false p (y ∷ xs) (suc n) x h e = any_false p xs n x (neither (p y) (list_any p xs) h).1 e

written_at : (s : SectionId) → IsTrue (is_below 11 s) → slice_get written_ids (section_number s) ≡ Some s
written_at DebugAbbrev h = refl
written_at DebugStr h = refl
written_at DebugLineStr h = refl
written_at DebugLine h = refl
written_at DebugRanges h = refl
written_at DebugRngLists h = refl
written_at DebugLoc h = refl
written_at DebugLocLists h = refl
written_at DebugInfo h = refl
written_at DebugFrame h = refl
written_at EhFrame h = refl
written_at DebugAddr h = cc
written_at DebugStrOffsets h = cc
written_at DebugMacinfo h = cc
written_at DebugMacro h = cc
written_at DebugAranges h = cc

-- a section that all sets have
pub section-there : {W : Type 0} (sections : Sections W) (s : SectionId) → IsTrue (is_below 11 s) → (w : W) × (section_of sections s ≡ Some w)
section-there sections DebugAbbrev h = (sections.debug_abbrev.0, refl)
section-there sections DebugStr h = (sections.debug_str.0, refl)
section-there sections DebugLineStr h = (sections.debug_line_str.0, refl)
section-there sections DebugLine h = (sections.debug_line.0, refl)
section-there sections DebugRanges h = (sections.debug_ranges.0, refl)
section-there sections DebugRngLists h = (sections.debug_rnglists.0, refl)
section-there sections DebugLoc h = (sections.debug_loc.0, refl)
section-there sections DebugLocLists h = (sections.debug_loclists.0, refl)
section-there sections DebugInfo h = (sections.debug_info.0, refl)
section-there sections DebugFrame h = (sections.debug_frame.0, refl)
section-there sections EhFrame h = (sections.eh_frame.0, refl)
section-there sections DebugAddr h = cc
section-there sections DebugStrOffsets h = cc
section-there sections DebugMacinfo h = cc
section-there sections DebugMacro h = cc
section-there sections DebugAranges h = cc

same_order : (m big : Bool) → is_other m big ≡ false → m ≡ big
same_order true true e = refl
same_order true false e = cc
same_order false true e = cc
same_order false false e = refl

in_order : (big : Bool) (o : Option Meaning) (m : Meaning) → o ≡ Some m → differs big o ≡ false → option_map (λ m. m.is_big) o ≡ Some big
in_order big None m e f = cc
in_order big (Some k) m e f = ap Some (same_order k.is_big big f)

-- each section of a set that isn't mixed has the byte order
pub order_at-unmixed : {W : Type 0} (meaning : W → Meaning) (big : Bool) (set : Sections W) (s : SectionId) → is_mixed big (parts_of meaning set) ≡ false → IsTrue (is_below 11 s) →
    order_at (parts_of meaning set) s ≡ Some big
order_at-unmixed meaning big set s e h =
    let there = section-there set s h in
    in_order big (parts_of meaning set s) (meaning there.0) (ap (option_map meaning) there.1)
    (any_false (λ s. differs big (parts_of meaning set s)) written_ids (section_number s) s e (written_at s h))

below : (s : SectionId) → IsTrue (is_below 11 s) ⊎ IsFalse (is_below 11 s)
below s = cases (is_below 11 s)
  where
    cases : (b : Bool) → IsTrue b ⊎ IsFalse b
    cases true = inl refl
    cases false = inr refl

one_set : {W : Type 0} (meaning : W → Meaning) (sets : List (Sections W)) (n : ℕ) (set : Parts) → slice_get (sets_of meaning sets) n ≡ Some set → (x : Sections W) × (parts_of meaning x ≡ set)
one_set meaning [] n set e = cc
one_set meaning (x ∷ sets) zero set e = let f : parts_of meaning x ≡ set = cc in (x, f)
one_set meaning (x ∷ sets) (suc n) set e = one_set meaning sets n set e

pub AllHaveOrders-unmixed : {V W : Type 0} (held : V → Meaning) (meaning : W → Meaning) (big : Bool) (joined : Sections V) (sets : List (Sections W)) → first_mixed big (sets_of meaning sets) ≡ None →
    ((s : SectionId) → IsTrue (is_below 11 s) → order_at (parts_of held joined) s ≡ Some big) → AllHaveOrders (parts_of held joined) (sets_of meaning sets)
AllHaveOrders-unmixed held meaning big joined sets e ordered n set at s =
    let one = one_set meaning sets n set at in
    let unmixed : is_mixed big (parts_of meaning one.0) ≡ false = ap (is_mixed big) one.1 ∙ none_mixed big (sets_of meaning sets) n set e at in
    elim (below s) [
      | inl h ↦ ordered s h ∙ sym (order_at-unmixed meaning big one.0 s unmixed h) ∙ ap (λ p. order_at p s) one.1
      | inr h ↦
          ap (option_map (λ m. m.is_big)) (parts_of-none held joined s h) ∙ sym (ap (option_map (λ m. m.is_big)) (parts_of-none meaning one.0 s h)) ∙ ap (λ p. order_at p s) one.1
    ]

-- New sections

pub parts_of-all : {W : Type 0} (meaning : W → Meaning) (m : Meaning) (joined : Sections W) (s : SectionId) → AllMean meaning joined m → IsTrue (is_below 11 s) → parts_of meaning joined s ≡ Some m
parts_of-all meaning m joined DebugAbbrev a h = ap Some a.debug_abbrev
parts_of-all meaning m joined DebugStr a h = ap Some a.debug_str
parts_of-all meaning m joined DebugLineStr a h = ap Some a.debug_line_str
parts_of-all meaning m joined DebugLine a h = ap Some a.debug_line
parts_of-all meaning m joined DebugRanges a h = ap Some a.debug_ranges
parts_of-all meaning m joined DebugRngLists a h = ap Some a.debug_rnglists
parts_of-all meaning m joined DebugLoc a h = ap Some a.debug_loc
parts_of-all meaning m joined DebugLocLists a h = ap Some a.debug_loclists
parts_of-all meaning m joined DebugInfo a h = ap Some a.debug_info
parts_of-all meaning m joined DebugFrame a h = ap Some a.debug_frame
parts_of-all meaning m joined EhFrame a h = ap Some a.eh_frame
parts_of-all meaning m joined DebugAddr a h = cc
parts_of-all meaning m joined DebugStrOffsets a h = cc
parts_of-all meaning m joined DebugMacinfo a h = cc
parts_of-all meaning m joined DebugMacro a h = cc
parts_of-all meaning m joined DebugAranges a h = cc

pub AreEmpty-new : {W : Type 0} (meaning : W → Meaning) (m : Meaning) (joined : Sections W) → AllMean meaning joined m → m.size ≡ 0 → AreEmpty (parts_of meaning joined)
AreEmpty-new meaning m joined a e s = elim (below s) [
  | inl h ↦ ap length_of (parts_of-all meaning m joined s a h) ∙ e
  | inr h ↦ ap length_of (parts_of-none meaning joined s h)
]

pub order_at-new : {W : Type 0} (meaning : W → Meaning) (m : Meaning) (joined : Sections W) → AllMean meaning joined m → (s : SectionId) → IsTrue (is_below 11 s) →
    order_at (parts_of meaning joined) s ≡ Some m.is_big
order_at-new meaning m joined a s h = ap (option_map (λ k. k.is_big)) (parts_of-all meaning m joined s a h)

-- The joined sections

pub section-below : {W : Type 0} (joined : Sections W) (s : SectionId) (w : W) → section_of joined s ≡ Some w → IsTrue (is_below 11 s)
section-below joined DebugAbbrev w e = refl
section-below joined DebugStr w e = refl
section-below joined DebugLineStr w e = refl
section-below joined DebugLine w e = refl
section-below joined DebugRanges w e = refl
section-below joined DebugRngLists w e = refl
section-below joined DebugLoc w e = refl
section-below joined DebugLocLists w e = refl
section-below joined DebugInfo w e = refl
section-below joined DebugFrame w e = refl
section-below joined EhFrame w e = refl
section-below joined DebugAddr w e = cc
section-below joined DebugStrOffsets w e = cc
section-below joined DebugMacinfo w e = cc
section-below joined DebugMacro w e = cc
section-below joined DebugAranges w e = cc

behind_nothing : (t : Text) → followed (Some []) t ≡ t
unfolding followed
behind_nothing None = refl
behind_nothing (Some xs) = refl

pub JoinsParts-new : {W : Type 0} (meaning : W → Meaning) (m : Meaning) (old new : Sections W) (sets : List Parts) (symbols : List ℕ) → AllMean meaning old m → m.bytes ≡ Some [] →
    AddsSets (parts_of meaning old) (parts_of meaning new) sets symbols → JoinsParts meaning sets symbols new
JoinsParts-new meaning m old new sets symbols a e added s w at =
    let h = section-below new s w at in
    sym (ap (λ o. option_map meaning o >>= λ k. k.bytes) at)
    ∙ added.bytes s h
    ∙ ap (λ o. followed (o >>= λ k. k.bytes) (linked_parts sets symbols s)) (parts_of-all meaning m old s a h)
    ∙ ap (λ t. followed t (linked_parts sets symbols s)) e
    ∙ behind_nothing (linked_parts sets symbols s)

pub order-new : {W : Type 0} (meaning : W → Meaning) (m : Meaning) (old new : Sections W) (sets : List Parts) (symbols : List ℕ) → AllMean meaning old m →
    AddsSets (parts_of meaning old) (parts_of meaning new) sets symbols → (s : SectionId) (w : W) → section_of new s ≡ Some w → (meaning w).is_big ≡ m.is_big
order-new meaning m old new sets symbols a added s w at =
    let h = section-below new s w at in
    let e : ◌≡◌ {A = Option Bool} (Some (meaning w).is_big) (Some m.is_big) =
    sym (ap (λ o. option_map (λ k. k.is_big) (option_map meaning o)) at) ∙ added.orders s ∙ order_at-new meaning m old a s h in
    cc

-- Refusals

mixed_no : (n : ℕ) (f : Fault) (set : ℕ) (s : SectionId) (k : ℕ) → MixedByteOrder n ≡ error_at f set s k → ⊥
mixed_no n faults.PointerEncoding set s k e = cc
mixed_no n faults.RecordOutOfPlace set s k e = cc
mixed_no n faults.UnknownSymbol set s k e = cc
mixed_no n faults.UnknownSection set s k e = cc
mixed_no n faults.ValueTooLarge set s k e = cc

refused_by : (big : Bool) (sets : List Parts) (symbols : List ℕ) (e : LinkError) → first_mixed big sets ≡ None → IsFirstFault sets symbols e → LinkRefused big sets symbols e
refused_by big sets symbols NoMemory none fault = tt
refused_by big sets symbols (MixedByteOrder n) none fault = absurd (mixed_no n fault.fault fault.set fault.section fault.index fault.is)
refused_by big sets symbols (PointerEncoding n s k) none fault = (none, fault)
refused_by big sets symbols (RecordOutOfPlace n s k) none fault = (none, fault)
refused_by big sets symbols (UnknownSymbol n s k) none fault = (none, fault)
refused_by big sets symbols (UnknownSection n s k) none fault = (none, fault)
refused_by big sets symbols (ValueTooLarge n s k) none fault = (none, fault)

pub LinkRefused-by : (big : Bool) (sets : List Parts) (symbols : List ℕ) (e : LinkError) → first_mixed big sets ≡ None → SetsRefused sets symbols e → LinkRefused big sets symbols e
LinkRefused-by big sets symbols e none (inl memory) = subst (LinkRefused big sets symbols) (sym memory) tt
LinkRefused-by big sets symbols e none (inr fault) = refused_by big sets symbols e none fault

fault_no : (sets : List Parts) (symbols : List ℕ) (e : LinkError) → IsFaultless sets symbols → IsFirstFault sets symbols e → ⊥
fault_no sets symbols e faultless fault = let none = faultless fault.set fault.section fault.index in let some = fault.stands in cc

-- sets in one byte order without a fault are refused for want of memory alone
pub complete_by : (big : Bool) (sets : List Parts) (symbols : List ℕ) (e : LinkError) → LinkRefused big sets symbols e → first_mixed big sets ≡ None → IsFaultless sets symbols → e ≡ NoMemory
complete_by big sets symbols NoMemory refused none faultless = refl
complete_by big sets symbols (MixedByteOrder n) refused none faultless = cc
complete_by big sets symbols (PointerEncoding n s k) refused none faultless = absurd (fault_no sets symbols (PointerEncoding n s k) faultless refused.1)
complete_by big sets symbols (RecordOutOfPlace n s k) refused none faultless = absurd (fault_no sets symbols (RecordOutOfPlace n s k) faultless refused.1)
complete_by big sets symbols (UnknownSymbol n s k) refused none faultless = absurd (fault_no sets symbols (UnknownSymbol n s k) faultless refused.1)
complete_by big sets symbols (UnknownSection n s k) refused none faultless = absurd (fault_no sets symbols (UnknownSection n s k) faultless refused.1)
complete_by big sets symbols (ValueTooLarge n s k) refused none faultless = absurd (fault_no sets symbols (ValueTooLarge n s k) faultless refused.1)

-- the same of equal lists
pub AddsSets-as : {W : Type 0} (meaning : W → Meaning) (old new : Parts) (xs ys : List (Sections W)) (a b : List ℕ) → xs ≡ ys → a ≡ b →
    AddsSets old new (sets_of meaning xs) a → AddsSets old new (sets_of meaning ys) b
AddsSets-as meaning old new xs ys a b e f added = subst (λ k. AddsSets old new (sets_of meaning ys) k) f (subst (λ k. AddsSets old new (sets_of meaning k) a) e added)

pub SetsRefused-as : {W : Type 0} (meaning : W → Meaning) (xs ys : List (Sections W)) (a b : List ℕ) (error : LinkError) → xs ≡ ys → a ≡ b →
    SetsRefused (sets_of meaning xs) a error → SetsRefused (sets_of meaning ys) b error
SetsRefused-as meaning xs ys a b error e f refused = subst (λ k. SetsRefused (sets_of meaning ys) k error) f (subst (λ k. SetsRefused (sets_of meaning k) a error) e refused)

-- the parts of sets of one byte order are ready to be joined
pub IsReady-all : {E : Type 0} (is_big : E → Bool) (big : Bool) (sets : List (Sections (RelocVec E))) (s : SectionId) → IsTrue (is_below 11 s) →
    first_mixed big (sets_of (held_beside is_big) sets) ≡ None →
    (n : ℕ) (set : Parts) (m : Meaning) → slice_get (sets_of (held_beside is_big) sets) n ≡ Some set → set s ≡ Some m → IsReady big m
IsReady-all is_big big sets s h none n set m at e =
    let one = one_set (held_beside is_big) sets n set at in
    let here : parts_of (held_beside is_big) one.0 s ≡ Some m = ap (λ p. p s) one.1 ∙ e in
    let unmixed : is_mixed big (parts_of (held_beside is_big) one.0) ≡ false = ap (is_mixed big) one.1 ∙ none_mixed big (sets_of (held_beside is_big) sets) n set none at in
    let order : ◌≡◌ {A = Option Bool} (Some m.is_big) (Some big) =
    sym (ap (option_map (λ k. k.is_big)) here) ∙ order_at-unmixed (held_beside is_big) big one.0 s unmixed h in
    record {
      told = (told_of is_big one.0 s m here).0;
      records = (told_of is_big one.0 s m here).1;
      order = cc;
    }

-- Of all faulty relocations there is one first

order_of : (m n : ℕ) → (m < n) ⊎ ((m ≡ n) ⊎ (n < m))
order_of zero zero = inr (inl refl)
order_of zero (suc n) = inl (omega arith)
order_of (suc m) zero = inr (inr (omega arith))
order_of (suc m) (suc n) = elim (order_of m n) [
  | inl h ↦ inl (omega arith)
  | inr e ↦ elim e [ inl same ↦ inr (inl (ap suc same)) | inr h ↦ inr (inr (omega arith)) ]
]

one_place : (m : ℕ) (t : SectionId) (j n : ℕ) (s : SectionId) (k : ℕ) →
    (IsBefore m t j n s k → ⊥) → (IsBefore n s k m t j → ⊥) → (m ≡ n) × (section_number t ≡ section_number s) × (j ≡ k)
one_place m t j n s k earlier later = elim (order_of m n) [
  | inl h ↦ absurd (earlier (inl h))
  | inr rest ↦ elim rest [
    | inr h ↦ absurd (later (inl h))
    | inl same ↦ elim (order_of (section_number t) (section_number s)) [
      | inl h ↦ absurd (earlier (inr (same, inl h)))
      | inr rest ↦ elim rest [
        | inr h ↦ absurd (later (inr (sym same, inl h)))
        | inl number ↦ elim (order_of j k) [
          | inl h ↦ absurd (earlier (inr (same, inr (number, h))))
          | inr rest ↦ elim rest [
            | inr h ↦ absurd (later (inr (sym same, inr (sym number, h))))
            | inl index ↦ (same, number, index)
          ]
        ]
      ]
    ]
  ]
]

clash : (o : Option Fault) (f : Fault) → o ≡ None → o ≡ Some f → ⊥
clash o f e h = cc

pub one_first : (sets : List Parts) (symbols : List ℕ) (a b : LinkError) → IsFirstFault sets symbols a → IsFirstFault sets symbols b → a ≡ b
one_first sets symbols a b x y =
    let same = one_place x.set x.section x.index y.set y.section y.index
    (λ before. clash (fault_at sets symbols x.set x.section x.index) x.fault (y.first x.set x.section x.index before) x.stands)
    (λ before. clash (fault_at sets symbols y.set y.section y.index) y.fault (x.first y.set y.section y.index before) y.stands) in
    let section : x.section ≡ y.section = number_same x.section y.section same.1 in
    let here : fault_at sets symbols x.set x.section x.index ≡ fault_at sets symbols y.set y.section y.index =
    ap (λ n. fault_at sets symbols n x.section x.index) same.0 ∙ ap (λ s. fault_at sets symbols y.set s x.index) section ∙ ap (fault_at sets symbols y.set y.section) same.2 in
    let stands : Some x.fault ≡ Some y.fault = sym x.stands ∙ here ∙ y.stands in
    let fault : x.fault ≡ y.fault = cc in
    x.is ∙ ap (λ f. error_at f x.set x.section x.index) fault ∙ ap (λ n. error_at y.fault n x.section x.index) same.0
    ∙ ap (λ s. error_at y.fault y.set s x.index) section ∙ ap (error_at y.fault y.set y.section) same.2 ∙ sym y.is

-- the first fault is answered, but for want of memory
pub first_by : (big : Bool) (sets : List Parts) (symbols : List ℕ) (e error : LinkError) → LinkRefused big sets symbols e → first_mixed big sets ≡ None → IsFirstFault sets symbols error →
    (e ≡ error) ⊎ (e ≡ NoMemory)
first_by big sets symbols NoMemory error refused none fault = inr refl
first_by big sets symbols (MixedByteOrder n) error refused none fault = cc
first_by big sets symbols (PointerEncoding n s k) error refused none fault = inl (one_first sets symbols (PointerEncoding n s k) error refused.1 fault)
first_by big sets symbols (RecordOutOfPlace n s k) error refused none fault = inl (one_first sets symbols (RecordOutOfPlace n s k) error refused.1 fault)
first_by big sets symbols (UnknownSymbol n s k) error refused none fault = inl (one_first sets symbols (UnknownSymbol n s k) error refused.1 fault)
first_by big sets symbols (UnknownSection n s k) error refused none fault = inl (one_first sets symbols (UnknownSection n s k) error refused.1 fault)
first_by big sets symbols (ValueTooLarge n s k) error refused none fault = inl (one_first sets symbols (ValueTooLarge n s k) error refused.1 fault)

pub not_taken : (sets : List Parts) (symbols : List ℕ) (e : LinkError) → IsFaultless sets symbols → IsFirstFault sets symbols e → ⊥
not_taken sets symbols e faultless fault = fault_no sets symbols e faultless fault
