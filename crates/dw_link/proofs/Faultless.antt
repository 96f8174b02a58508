-- Relocations without a fault: what a part resolves to is there.
use Rattle.std.specs.Prelude.{◌≡◌, ◌⊎◌, ℕ, suc, zero, ◌+◌, ◌==◌, ◌&&◌, ◌||◌, Bool, true, false, not, List, [], ◌∷◌, length, take, Option, Some, None, refl, ℤ, pos, ◌+ℤ◌, slice_get, if◌then◌else◌}
use Rattle.std.specs.Option.{is_some}
use Rattle.std.proofs.Common.{sym, ◌∙◌, ap, ap₂, subst, inl, inr, ⊎_elim}
use Rattle.std.proofs.lemmas.Option.{none-some, same_Some}
use Rattle.dw_base.specs.Numbers.{◌>>=◌, when}
use Rattle.dw_base.specs.Pointers.{format_of, application_of, from_zero, from_place, pointer_width}
use Rattle.dw_base.specs.declared.constants.DwEhPe.{DwEhPe}
use Rattle.dw_writer.specs.Texts.{Text, patched}
use Rattle.dw_writer.specs.Pointers.{address_of, formatted, pointer_text}
use Rattle.dw_writer.specs.Layout.{Layout, section_number, target_value, is_symbol, is_at_zero}
use Rattle.dw_writer.specs.Resolved.{number_at_place, sum_text, record_text, is_inside, put_record, put_records, resolved}
use Rattle.dw_writer.specs.Contents.{Meaning}
use Rattle.dw_writer.specs.declared.relocate.Relocation.{Relocation}
use Rattle.dw_writer.specs.declared.relocate.RelocationTarget.{RelocationTarget}
use Rattle.dw_writer.specs.declared.relocate.RelocationTarget.TheVariants.{Symbol, Section}
use Rattle.dw_link.specs.Outcome.{part_fault}
use Rattle.dw_link.specs.declared.fault.Fault.{Fault}
use Rattle.dw_link.specs.declared.fault.Fault.TheVariants.{PointerEncoding, RecordOutOfPlace, UnknownSymbol, UnknownSection, ValueTooLarge}
use Rattle.dw_link.specs.Faults.{unless, first_of, is_width_of, is_linkable, takes_encoding, target_fault, fault_of}

-- what stands in an option that leads on to a value
pub record Opened {A B : Type 0} (o : Option A) (f : A → Option B) (y : B) : Type 0 where
  pub value : A
  pub is : o ≡ Some value
  pub leads : f value ≡ Some y

pub opened : {A B : Type 0} (o : Option A) (f : A → Option B) (y : B) → (o >>= f) ≡ Some y → Opened o f y
opened None f y e = cc
opened (Some x) f y e = record { value = x; is = refl; leads = e }

-- A record whose number is put

pub record Put (big : Bool) (l : Layout) (r : Relocation) (bytes : List ℕ) : Type 0 where
  pub inside : is_inside (length bytes) r ≡ true
  pub text : List ℕ
  pub is : record_text big l r (number_at_place big r.offset r.size bytes) ≡ Some text

put_by : (b : Bool) (p : ℕ) (t u : Text) (zs : List ℕ) → ◌≡◌ {A = Text} (if b then patched p t u else None) (Some zs) → (b ≡ true) × ((ys : List ℕ) × (t ≡ Some ys))
unfolding patched
put_by true p None None zs e = cc
put_by true p None (Some xs) zs e = cc
put_by true p (Some ys) u zs e = (refl, (ys, refl))
put_by false p t u zs e = cc

put_of : (big : Bool) (l : Layout) (r : Relocation) (bytes zs : List ℕ) → put_record big l r (Some bytes) ≡ Some zs → Put big l r bytes
unfolding put_record
put_of big l r bytes zs e =
    let p = put_by (is_inside (length bytes) r) r.offset (record_text big l r (number_at_place big r.offset r.size bytes)) (Some bytes) zs e in
    record { inside = p.0; text = p.1.0; is = p.1.1 }

-- its encoding can be linked
counted_or : (b c : Bool) (t u : Text) (zs : List ℕ) → ◌≡◌ {A = Text} (if b then t else (if c then u else None)) (Some zs) → (b || c ≡ true) × ((t ≡ Some zs) ⊎ (u ≡ Some zs))
counted_or true c t u zs e = (refl, inl e)
counted_or false true t u zs e = (refl, inr e)
counted_or false false t u zs e = cc

when_true : (b : Bool) (t : Text) (zs : List ℕ) → when b t ≡ Some zs → (b ≡ true) × (t ≡ Some zs)
when_true true t zs e = (refl, e)
when_true false t zs e = cc

formatted_width : (big : Bool) (w format n : ℕ) (zs : List ℕ) → formatted big w format n ≡ Some zs → is_width_of w (pointer_width w format) ≡ true
unfolding formatted
formatted_width big w format n zs e =
    let o = opened (pointer_width w format) _ zs e in
    ap (is_width_of w) o.is ∙ (when_true (o.value == w) _ zs o.leads).0

pointer_linkable : (big : Bool) (w encoding place n : ℕ) (zs : List ℕ) → pointer_text big w encoding place n ≡ Some zs → is_linkable w encoding ≡ true
unfolding pointer_text
pointer_linkable big w encoding place n zs e =
    let c = counted_or (application_of encoding == from_zero) (application_of encoding == from_place) _ _ zs e in
    let width = ⊎_elim (λ h. formatted_width big w (format_of encoding) _ zs h) (λ h. formatted_width big w (format_of encoding) _ zs h) c.1 in
    ap₂ (λ a b. a && b) c.0 width

sum_taken : (big : Bool) (w place : ℕ) (target : RelocationTarget) (o : Option DwEhPe) (z : ℤ) (zs : List ℕ) → sum_text big w place (is_symbol target) o z ≡ Some zs → takes_encoding w target o ≡ true
unfolding sum_text
sum_taken big w place target None z zs e = refl
sum_taken big w place target (Some encoding) z zs e =
    let a = when_true (is_symbol target) (address_of z >>= pointer_text big w encoding.0 place) zs e in
    let b = opened (address_of z) (pointer_text big w encoding.0 place) zs a.1 in
    ap₂ (λ x y. x && y) a.0 (pointer_linkable big w encoding.0 place b.value zs b.leads)

first_none : (f : Option Fault) → first_of f None ≡ f
first_none None = refl
first_none (Some f) = refl

-- nothing is wrong with it but its target
fault_is : (big : Bool) (l : Layout) (r : Relocation) (bytes : List ℕ) → Put big l r bytes → fault_of big l bytes r ≡ target_fault l r.target
unfolding record_text fault_of
fault_is big l r bytes p =
    let n = number_at_place big r.offset r.size bytes in
    let o = opened (target_value l r.target) (λ v. sum_text big r.size (l.own_start + r.offset) (is_symbol r.target) r.eh_pe (pos n +ℤ r.addend +ℤ pos v)) p.text p.is in
    let taken = sum_taken big r.size (l.own_start + r.offset) r.target r.eh_pe (pos n +ℤ r.addend +ℤ pos o.value) p.text o.leads in
    let put : Text = record_text big l r n in
    ap (λ b. first_of (unless b PointerEncoding) (first_of (unless (is_inside (length bytes) r) RecordOutOfPlace) (first_of (target_fault l r.target) (unless (is_some put) ValueTooLarge)))) taken
    ∙ ap (λ b. first_of (unless b RecordOutOfPlace) (first_of (target_fault l r.target) (unless (is_some put) ValueTooLarge))) p.inside
    ∙ ap (λ t. first_of (target_fault l r.target) (unless (is_some t) ValueTooLarge)) p.is ∙ first_none (target_fault l r.target)

unless_is : (b : Bool) (f g : Fault) → unless b f ≡ Some g → g ≡ f
unless_is true f g e = cc
unless_is false f g e = cc

some_unless : (o : Option ℕ) (v : ℕ) (f g : Fault) → o ≡ Some v → unless (is_some o) f ≡ Some g → ⊥
some_unless None v f g h e = cc
some_unless (Some n) v f g h e = cc

-- a symbol that is at fault has no value
target_unknown : (l : Layout) (target : RelocationTarget) (v : ℕ) (f : Fault) → target_value l target ≡ Some v → target_fault l target ≡ Some f → f ≡ UnknownSection
target_unknown l (Symbol n) v f h e = absurd (some_unless (slice_get l.symbols n) v UnknownSymbol f h e)
target_unknown l (Section s) v f h e = unless_is (is_some (slice_get l.starts (section_number s))) UnknownSection f e

-- where something is wrong with it, that is its target
put_target : (big : Bool) (l : Layout) (r : Relocation) (bytes : List ℕ) (f : Fault) → Put big l r bytes → fault_of big l bytes r ≡ Some f → target_fault l r.target ≡ Some f
put_target big l r bytes f p e = sym (fault_is big l r bytes p) ∙ e

put_fault : (big : Bool) (l : Layout) (r : Relocation) (bytes : List ℕ) (f : Fault) → Put big l r bytes → fault_of big l bytes r ≡ Some f → f ≡ UnknownSection
unfolding record_text
put_fault big l r bytes f p e =
    let n = number_at_place big r.offset r.size bytes in
    let o = opened (target_value l r.target) (λ v. sum_text big r.size (l.own_start + r.offset) (is_symbol r.target) r.eh_pe (pos n +ℤ r.addend +ℤ pos v)) p.text p.is in
    target_unknown l r.target o.value f o.is (sym (fault_is big l r bytes p) ∙ e)

-- Records of a part that is there

pub none_put : (big : Bool) (l : Layout) (rs : List Relocation) → put_records big l rs None ≡ None
unfolding put_record
none_put big l [] = refl
none_put big l (r ∷ rs) = none_put big l rs

-- each record's number is put over what those before it have left
record At (big : Bool) (l : Layout) (rs : List Relocation) (k : ℕ) (r : Relocation) (t : Text) : Type 0 where
  bytes : List ℕ
  left : put_records big l (take k rs) t ≡ Some bytes
  put : Put big l r bytes

pub put_first : (big : Bool) (l : Layout) (r : Relocation) (rs : List Relocation) (b zs : List ℕ) (t : Text) → put_record big l r (Some b) ≡ t → put_records big l rs t ≡ Some zs → Put big l r b
put_first big l r rs b zs None is e = absurd (none-some zs (sym (none_put big l rs) ∙ e))
put_first big l r rs b zs (Some ys) is e = put_of big l r b ys is

no_text : (big : Bool) (l : Layout) (rs : List Relocation) (t : Text) (zs : List ℕ) → t ≡ None → put_records big l rs t ≡ Some zs → ⊥
no_text big l rs t zs h e = none-some zs (sym (none_put big l rs) ∙ ap (put_records big l rs) (sym h) ∙ e)

put_at : (big : Bool) (l : Layout) (rs : List Relocation) (k : ℕ) (r : Relocation) (t : Text) (zs : List ℕ) → slice_get rs k ≡ Some r → put_records big l rs t ≡ Some zs → At big l rs k r t
unfolding put_record
put_at big l [] zero r t zs g e = cc
put_at big l [] (suc k) r t zs g e = cc
put_at big l (x ∷ rs) zero r None zs g e = absurd (no_text big l rs None zs refl e)
put_at big l (x ∷ rs) zero r (Some b) zs g e =
    let same : x ≡ r = cc in
    record { bytes = b; left = refl; put = subst (λ y. Put big l y b) same (put_first big l x rs b zs (put_record big l x (Some b)) refl e) }
put_at big l (x ∷ rs) (suc k) r t zs g e =
    let more = put_at big l rs k r (put_record big l x t) zs g e in
    record { bytes = more.bytes; left = more.left; put = more.put }

pub unless_plain : (b : Bool) (t : Text) (zs : List ℕ) → ◌≡◌ {A = Text} (if b then None else t) (Some zs) → t ≡ Some zs
unless_plain true t zs e = cc
unless_plain false t zs e = e

-- a fault of a part that is there is that of a record's target
pub record TargetFault (l : Layout) (m : Meaning) (k : ℕ) (f : Fault) : Type 0 where
  pub relocation : Relocation
  pub is : slice_get m.records k ≡ Some relocation
  pub unknown : f ≡ UnknownSection
  pub target : target_fault l relocation.target ≡ Some f

pub part_target : (l : Layout) (m : Meaning) (k : ℕ) (f : Fault) (zs : List ℕ) → resolved l m ≡ Some zs → part_fault l m k ≡ Some f → TargetFault l m k f
unfolding resolved
part_target l m k f zs there e =
    let all = unless_plain (m.is_plain && not (is_at_zero l)) (put_records m.is_big l m.records m.bytes) zs there in
    let a = opened (slice_get m.records k) (λ r. put_records m.is_big l (take k m.records) m.bytes >>= λ bytes. fault_of m.is_big l bytes r) f e in
    let b = opened (put_records m.is_big l (take k m.records) m.bytes) (λ bytes. fault_of m.is_big l bytes a.value) f a.leads in
    let p = put_at m.is_big l m.records k a.value m.bytes zs a.is all in
    let same : p.bytes ≡ b.value = same_Some p.bytes b.value (sym p.left ∙ b.is) in
    let put = subst (Put m.is_big l a.value) same p.put in
    record { relocation = a.value; is = a.is; unknown = put_fault m.is_big l a.value b.value f put b.leads; target = put_target m.is_big l a.value b.value f put b.leads }
