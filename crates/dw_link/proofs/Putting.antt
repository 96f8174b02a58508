-- A relocation's number, put into a part of a section or into the section.
use Rattle.std.specs.Prelude.{◌≡◌, ℕ, suc, zero, ◌+◌, ◌≤◌, Bool, true, false, ◌&&◌, List, [], ◌∷◌, ◌++◌, length, take, drop, Option, Some, None, ℤ, pos, ◌+ℤ◌, IsTrue, IsFalse, if◌then◌else◌, refl}
use Rattle.std.specs.Option.{is_some}
use Rattle.std.proofs.Common.{sym, ◌∙◌, ap, arith}
use Rattle.std.proofs.lemmas.Bool.{and_parts}
use Rattle.dw_base.specs.Numbers.{◌>>=◌, high_first, low_first}
use Rattle.dw_base.specs.declared.constants.DwEhPe.{DwEhPe}
use Rattle.dw_writer.specs.Texts.{Text, followed, overwrite, patched}
use Rattle.dw_writer.specs.Layout.{Layout, target_value, is_symbol}
use Rattle.dw_writer.specs.Resolved.{number_at_place, sum_text, record_text, is_inside, put_record}
use Rattle.dw_writer.specs.Meaning.{Meaning, Replaces, spelled_text}
use Rattle.dw_writer.specs.declared.relocate.Relocation.{Relocation}
use Rattle.dw_writer.specs.declared.relocate.RelocationTarget.{RelocationTarget}
use Rattle.dw_link.specs.declared.fault.Fault.{Fault}
use Rattle.dw_link.specs.declared.fault.Fault.TheVariants.{PointerEncoding, RecordOutOfPlace, ValueTooLarge}
use Rattle.dw_link.specs.Faults.{unless, first_of, is_linkable, takes_encoding, target_fault, fault_of}
use Rattle.dw_link.specs.Steps.{Relocates}

-- Places behind the first p bytes

drop-nothing : (n : ℕ) → ◌≡◌ {A = List ℕ} (drop n []) []
drop-nothing zero = refl
drop-nothing (suc n) = refl

pub drop-behind : (p o : ℕ) (cs : List ℕ) → drop (p + o) cs ≡ drop o (drop p cs)
drop-behind zero o cs = let e : 0 + o ≡ o = omega arith in ap (λ k. drop k cs) e
drop-behind (suc p) o [] = drop-nothing (suc p + o) ∙ sym (drop-nothing o)
drop-behind (suc p) o (c ∷ cs) =
    let e : suc p + o ≡ suc (p + o) = omega arith in
    ap (λ k. drop k (c ∷ cs)) e ∙ drop-behind p o cs

pub number-behind : (big : Bool) (p o w : ℕ) (cs : List ℕ) → number_at_place big (p + o) w cs ≡ number_at_place big o w (drop p cs)
unfolding number_at_place
number-behind true p o w cs = ap (λ bs. high_first 0 (take w bs)) (drop-behind p o cs)
number-behind false p o w cs = ap (λ bs. low_first (take w bs)) (drop-behind p o cs)

pub overwrite-behind : (p o : ℕ) (ns cs : List ℕ) → p ≤ length cs → overwrite (p + o) ns cs ≡ take p cs ++ overwrite o ns (drop p cs)
overwrite-behind zero o ns cs h = let e : 0 + o ≡ o = omega arith in ap (λ k. overwrite k ns cs) e
overwrite-behind (suc p) o ns [] h = absurd (omega arith)
overwrite-behind (suc p) o ns (c ∷ cs) h =
    let e : suc p + o ≡ suc (p + o) = omega arith in
    ap (λ k. overwrite k ns (c ∷ cs)) e ∙ ap (λ bs. c ∷ bs) (overwrite-behind p o ns cs (omega arith))

-- What faults there are

unless-not : (b : Bool) (f : Fault) → IsTrue b → unless b f ≡ None
unless-not true f h = refl
unless-not false f h = cc

unless-is : (b : Bool) (f : Fault) → IsFalse b → unless b f ≡ Some f
unless-is true f h = cc
unless-is false f h = refl

-- the faults behind the first, in order
abbrev sum_fault : Bool → Layout → List ℕ → Relocation → Option Fault
sum_fault big l ys r = unless (is_some (record_text big l r (number_at_place big r.offset r.size ys))) ValueTooLarge

abbrev target_faults : Bool → Layout → List ℕ → Relocation → Option Fault
target_faults big l ys r = first_of (target_fault l r.target) (sum_fault big l ys r)

abbrev place_faults : Bool → Layout → List ℕ → Relocation → Option Fault
place_faults big l ys r = first_of (unless (is_inside (length ys) r) RecordOutOfPlace) (target_faults big l ys r)

pub fault-encoding : (big : Bool) (l : Layout) (ys : List ℕ) (r : Relocation) → IsFalse (takes_encoding r.size r.target r.eh_pe) → fault_of big l ys r ≡ Some PointerEncoding
unfolding fault_of
fault-encoding big l ys r h = ap (λ k. first_of k (place_faults big l ys r)) (unless-is (takes_encoding r.size r.target r.eh_pe) PointerEncoding h)

to_place : (big : Bool) (l : Layout) (ys : List ℕ) (r : Relocation) → IsTrue (takes_encoding r.size r.target r.eh_pe) → fault_of big l ys r ≡ place_faults big l ys r
unfolding fault_of
to_place big l ys r h = ap (λ k. first_of k (place_faults big l ys r)) (unless-not (takes_encoding r.size r.target r.eh_pe) PointerEncoding h)

pub fault-place : (big : Bool) (l : Layout) (ys : List ℕ) (r : Relocation) → IsTrue (takes_encoding r.size r.target r.eh_pe) → IsFalse (is_inside (length ys) r) →
    fault_of big l ys r ≡ Some RecordOutOfPlace
fault-place big l ys r h k = to_place big l ys r h ∙ ap (λ k. first_of k (target_faults big l ys r)) (unless-is (is_inside (length ys) r) RecordOutOfPlace k)

to_target : (big : Bool) (l : Layout) (ys : List ℕ) (r : Relocation) → IsTrue (takes_encoding r.size r.target r.eh_pe) → IsTrue (is_inside (length ys) r) →
    fault_of big l ys r ≡ target_faults big l ys r
to_target big l ys r h k = to_place big l ys r h ∙ ap (λ k. first_of k (target_faults big l ys r)) (unless-not (is_inside (length ys) r) RecordOutOfPlace k)

pub fault-target : (big : Bool) (l : Layout) (ys : List ℕ) (r : Relocation) (f : Fault) → IsTrue (takes_encoding r.size r.target r.eh_pe) → IsTrue (is_inside (length ys) r) →
    target_fault l r.target ≡ Some f → fault_of big l ys r ≡ Some f
fault-target big l ys r f h k e = to_target big l ys r h k ∙ ap (λ k. first_of k (sum_fault big l ys r)) e

fault-sum : (big : Bool) (l : Layout) (ys : List ℕ) (r : Relocation) → IsTrue (takes_encoding r.size r.target r.eh_pe) → IsTrue (is_inside (length ys) r) →
    target_fault l r.target ≡ None → fault_of big l ys r ≡ unless (is_some (record_text big l r (number_at_place big r.offset r.size ys))) ValueTooLarge
fault-sum big l ys r h k e = to_target big l ys r h k ∙ ap (λ k. first_of k (sum_fault big l ys r)) e

-- The sum of a relocation

sum_text-symbol : (big : Bool) (w place : ℕ) (t : RelocationTarget) (e : Option DwEhPe) (z : ℤ) → IsTrue (takes_encoding w t e) →
    sum_text big w place (is_symbol t) e z ≡ sum_text big w place true e z
unfolding sum_text
sum_text-symbol big w place t None z h = refl
sum_text-symbol big w place t (Some e) z h = ap (λ b. sum_text big w place b (Some e) z) (and_parts (is_symbol t) (is_linkable w e.0) h).0

record_text-is : (big : Bool) (l : Layout) (r : Relocation) (n v place : ℕ) (z : ℤ) → IsTrue (takes_encoding r.size r.target r.eh_pe) → target_value l r.target ≡ Some v →
    place ≡ l.own_start + r.offset → z ≡ pos n +ℤ r.addend +ℤ pos v → record_text big l r n ≡ sum_text big r.size place true r.eh_pe z
unfolding record_text
record_text-is big l r n v place z h e at sum =
    ap (λ o. o >>= λ k. sum_text big r.size (l.own_start + r.offset) (is_symbol r.target) r.eh_pe (pos n +ℤ r.addend +ℤ pos k)) e
    ∙ ap (λ p. sum_text big r.size p (is_symbol r.target) r.eh_pe (pos n +ℤ r.addend +ℤ pos v)) (sym at)
    ∙ ap (sum_text big r.size place (is_symbol r.target) r.eh_pe) (sym sum)
    ∙ sum_text-symbol big r.size place r.target r.eh_pe z h

if_true : (b : Bool) (x : Text) → IsTrue b → (if b then x else None) ≡ x
if_true true x h = refl
if_true false x h = cc

put_record-is : (big : Bool) (l : Layout) (r : Relocation) (ys xs : List ℕ) → IsTrue (is_inside (length ys) r) → record_text big l r (number_at_place big r.offset r.size ys) ≡ Some xs →
    put_record big l r (Some ys) ≡ Some (overwrite r.offset xs ys)
unfolding put_record patched
put_record-is big l r ys xs h e = if_true (is_inside (length ys) r) _ h ∙ ap (λ t. patched r.offset t (Some ys)) e

-- What stands of a relocation that is looked at: where its part starts among the bytes, that its encoding, its place and its
-- target have no fault, and the sum
pub record IsSum (big : Bool) (l : Layout) (r : Relocation) (start place : ℕ) (cs : List ℕ) (z : ℤ) : Type 0 where
  pub within : start ≤ length cs
  pub encoding : IsTrue (takes_encoding r.size r.target r.eh_pe)
  pub inside : IsTrue (is_inside (length (drop start cs)) r)
  pub known : target_fault l r.target ≡ None
  pub at : place ≡ start + r.offset
  pub own : l.own_start ≡ start
  pub number : ℕ
  pub value : ℕ
  pub in_place : number ≡ number_at_place big place r.size cs
  pub looked_up : target_value l r.target ≡ Some value
  pub sum : z ≡ pos number +ℤ r.addend +ℤ pos value

text-at : {big : Bool} {l : Layout} {r : Relocation} {start place : ℕ} {cs : List ℕ} {z : ℤ} → IsSum big l r start place cs z →
    record_text big l r (number_at_place big r.offset r.size (drop start cs)) ≡ sum_text big r.size place true r.eh_pe z
text-at {big} {l} {r} {start} {place} {cs} {z} s =
    let n : s.number ≡ number_at_place big r.offset r.size (drop start cs) =
    s.in_place ∙ ap (λ k. number_at_place big k r.size cs) s.at ∙ number-behind big start r.offset r.size cs in
    ap (record_text big l r) (sym n)
    ∙ record_text-is big l r s.number s.value place z s.encoding s.looked_up (s.at ∙ ap (λ k. k + r.offset) (sym s.own)) s.sum

pub fault-value : (big : Bool) (l : Layout) (r : Relocation) (start place : ℕ) (cs : List ℕ) (z : ℤ) → IsSum big l r start place cs z →
    sum_text big r.size place true r.eh_pe z ≡ None → fault_of big l (drop start cs) r ≡ Some ValueTooLarge
fault-value big l r start place cs z s e =
    fault-sum big l (drop start cs) r s.encoding s.inside s.known ∙ ap (λ t. unless (is_some t) ValueTooLarge) (text-at s ∙ e)

fault-none : (big : Bool) (l : Layout) (r : Relocation) (start place : ℕ) (cs xs : List ℕ) (z : ℤ) → IsSum big l r start place cs z →
    sum_text big r.size place true r.eh_pe z ≡ Some xs → fault_of big l (drop start cs) r ≡ None
fault-none big l r start place cs xs z s e =
    fault-sum big l (drop start cs) r s.encoding s.inside s.known ∙ ap (λ t. unless (is_some t) ValueTooLarge) (text-at s ∙ e)

pub relocated : (big : Bool) (l : Layout) (r : Relocation) (start place : ℕ) (cs xs : List ℕ) (z : ℤ) (old new : Meaning) → IsSum big l r start place cs z →
    sum_text big r.size place true r.eh_pe z ≡ Some xs → old.bytes ≡ Some cs → old.is_big ≡ big → Replaces old new place xs → Relocates old new start l r
unfolding followed patched
relocated big l r start place cs xs z old new s e told order p = record {
  faultless =
      ap (λ k. fault_of k l (drop start (spelled_text old.bytes)) r) order
      ∙ ap (λ t. fault_of big l (drop start (spelled_text t)) r) told
      ∙ fault-none big l r start place cs xs z s e;
  bytes =
      p.told ∙ ap (patched place (Some xs)) told
      ∙ ap (λ k. Some (overwrite k xs cs)) s.at
      ∙ ap Some (overwrite-behind start r.offset xs cs s.within)
      ∙ ap (followed (Some (take start cs))) (sym (put_record-is big l r (drop start cs) xs s.inside (text-at s ∙ e)))
      ∙ ap (λ t. followed (Some (take start (spelled_text t))) (put_record big l r (Some (drop start (spelled_text t))))) (sym told)
      ∙ ap (λ k. followed (Some (take start (spelled_text old.bytes))) (put_record k l r (Some (drop start (spelled_text old.bytes))))) (sym order);
  order = p.same.order;
}
