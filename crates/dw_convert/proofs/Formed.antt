-- Attributes whose values become what their kinds say.
use Rattle.std.proofs.Common.{◌≡◌, ◌⊎◌, sym, subst, ℕ, Bool, List, Option, None, Some, Result, Ok, Err, ℤ, ⊎_elim, inl, inr, refl}
use Rattle.std.specs.Prelude.{IfOk, IfErr}
use Rattle.std.proofs.lemmas.Bool.{eq-eqb, ne_eqb}
use Rattle.dw_base.specs.declared.address.Address.{Address}
use Rattle.dw_base.specs.declared.address.DebugInfoRef.{DebugInfoRef}
use Rattle.dw_base.specs.declared.constants.TheConstants.{DW_FORM_flag_present}
use Rattle.dw_base.specs.declared.ids.FileId.{FileId}
use Rattle.dw_base.specs.declared.ids.UnitEntryId.{UnitEntryId}
use Rattle.dw_entries.specs.declared.value.AttributeValue.TheVariants as built
use Rattle.dw_read.specs.Reading.{Reading}
use Rattle.dw_read.specs.Values.{Value, named_value}
use Rattle.dw_read_units.specs.declared.unit_ref.UnitRef.{UnitRef}
use Rattle.dw_sources.specs.declared.convert_error.ConvertError.{ConvertError}
use Rattle.dw_convert.specs.Attributes.{Seen, raw_of, declared_in, PresentOutcome, DeclaredOutcome, AttributeOutcome}
use Rattle.dw_sources.specs.RawListIters.{encoding_in}
use Rattle.dw_convert.specs.Files.{declared_image}
use Rattle.dw_convert.specs.Images.{Image}
use Rattle.dw_convert.specs.Values.{ValueOutcome, MadeOf, order_or_little}
use Rattle.dw_convert.specs.declared.image.Image.TheVariants as image

-- what a result says, in other words
pub ok_then : {A B : Type 0} (r : Result A B) (P Q : A → Type 0) → ((x : A) → P x → Q x) → IfOk r P → IfOk r Q
ok_then (Ok x) P Q f h = f x h
ok_then (Err e) P Q f h = h

pub err_then : {A B : Type 0} (r : Result A B) (N P Q : B → Type 0) → ((e : B) → P e → Q e) → IfErr r (λ e. N e ⊎ P e) → IfErr r (λ e. N e ⊎ Q e)
err_then (Ok x) N P Q f h = h
err_then (Err e) N P Q f h = ⊎_elim (λ (n : N e). inl n) (λ (p : P e). inr (f e p)) h

pub ok_both : {A B : Type 0} (r : Result A B) (P Q S : A → Type 0) → ((x : A) → P x → Q x → S x) → IfOk r P → IfOk r Q → IfOk r S
ok_both (Ok x) P Q S f h k = f x h k
ok_both (Err e) P Q S f h k = h

pub formed : (R E : Type 0) (reading : R → Reading) (answers : ℕ → Option Address → Type 0) (entries : ℕ → Option UnitEntryId) (infos : ℕ → Option DebugInfoRef) (u : UnitRef R E) (files : List FileId) (a : Seen) (order : Option Bool) (name : ℕ) (v : Value) (r : Result Image ConvertError)
    → (a.1.form ≡ DW_FORM_flag_present.0 → ⊥) → declared_in a ≡ None → name ≡ a.1.name → v ≡ named_value a.1.name (raw_of a) → order ≡ a.2
    → ValueOutcome reading answers entries infos u files (order_or_little order) name v r → AttributeOutcome reading answers entries infos u files a r
formed R E reading answers entries infos u files a order name v r f n e w o h =
    let big = order_or_little a.2 in
    subst (λ (b : Bool). PresentOutcome reading answers entries infos u files big b a.1.form a.1.name (raw_of a) r) (sym (ne_eqb a.1.form DW_FORM_flag_present.0 f))
    (subst (λ (o : Option ℤ). DeclaredOutcome reading answers entries infos u files big o a.1.name (raw_of a) r) (sym n)
    (subst (λ (m : ℕ). ValueOutcome reading answers entries infos u files big m (named_value a.1.name (raw_of a)) r) e
    (subst (λ (x : Value). ValueOutcome reading answers entries infos u files big name x r) w
    (subst (λ (x : Option Bool). ValueOutcome reading answers entries infos u files (order_or_little x) name v r) o h))))

-- a flag without a byte stays one
pub present : (R E : Type 0) (reading : R → Reading) (answers : ℕ → Option Address → Type 0) (entries : ℕ → Option UnitEntryId) (infos : ℕ → Option DebugInfoRef) (u : UnitRef R E) (files : List FileId) (a : Seen)
    → a.1.form ≡ DW_FORM_flag_present.0 → AttributeOutcome reading answers entries infos u files a (Ok (image.Value built.FlagPresent))
present R E reading answers entries infos u files a f =
    subst (λ (b : Bool). PresentOutcome reading answers entries infos u files (order_or_little a.2) b a.1.form a.1.name (raw_of a) (Ok (image.Value built.FlagPresent))) (sym (eq-eqb a.1.form DW_FORM_flag_present.0 f)) refl

-- a number that the declaration holds stays one there
pub declared : (R E : Type 0) (reading : R → Reading) (answers : ℕ → Option Address → Type 0) (entries : ℕ → Option UnitEntryId) (infos : ℕ → Option DebugInfoRef) (u : UnitRef R E) (files : List FileId) (a : Seen) (version name : ℕ) (z w : ℤ) (y : Result ℤ ConvertError) (r : Result Image ConvertError)
    → (a.1.form ≡ DW_FORM_flag_present.0 → ⊥) → declared_in a ≡ Some z → version ≡ (encoding_in u).version → name ≡ a.1.name → w ≡ z → y ≡ declared_image version files name w → MadeOf y (λ n. image.Value (built.ImplicitConst n)) r → AttributeOutcome reading answers entries infos u files a r
declared R E reading answers entries infos u files a version name z w y r f n v m s e h =
    let is : y ≡ declared_image (encoding_in u).version files a.1.name z = rw (sym v, sym m, sym s) e in
    subst (λ (b : Bool). PresentOutcome reading answers entries infos u files (order_or_little a.2) b a.1.form a.1.name (raw_of a) r) (sym (ne_eqb a.1.form DW_FORM_flag_present.0 f))
    (subst (λ (o : Option ℤ). DeclaredOutcome reading answers entries infos u files (order_or_little a.2) o a.1.name (raw_of a) r) (sym n)
    (subst (λ (x : Result ℤ ConvertError). MadeOf x (λ k. image.Value (built.ImplicitConst k)) r) is h))
