-- What the calls of relocating writers come to, and those of writers that fail at chosen calls.
use Rattle.std.specs.Option.{unwrap_or}
use Rattle.std.specs.Prelude.{◌≡◌, ℕ, ◌+◌, Bool, true, false, List, [], ◌∷◌, ◌++◌, Option, Some, None, refl, slice_get, ℤ, pos, ◌+ℤ◌, IsTrue, Result, Ok, Err, OnOk, OnErr, IfErr}
use Rattle.std.proofs.Common.{sym, ◌∙◌, ap, subst, inl, arith, append_assoc, append-nil, zero-add}
use Rattle.std.proofs.Math.IntN.{+ℤ_idl}
use Rattle.dw_base.specs.Numbers.{◌>>=◌, num, is_width, fits}
use Rattle.dw_base.specs.Pointers.{format_of, pointer_width}
use Rattle.dw_base.specs.declared.constants.DwEhPe.{DwEhPe}
use Rattle.dw_base.specs.declared.error.Error.{Error}
use Rattle.dw_base.specs.declared.error.Error.TheVariants.{OffsetOutOfBounds, LengthOutOfBounds}
use Rattle.dw_base.specs.declared.section_id.SectionId.{SectionId}
use Rattle.dw_base.specs.declared.address.Address.TheVariants.{Constant, Symbol}
use Rattle.dw_writer.specs.Causes.{KeptOutside, EncodingRefused, NumberRefused, RecordRefused, PointerRefused, offset_fits}
use Rattle.dw_writer.specs.Texts.{Text, zeros, num_text, int_text}
use Rattle.dw_writer.specs.Resolved.{sum_text, record_text}
use Rattle.dw_writer.specs.Pointers.{address_of, pointer_text}
use Rattle.dw_writer.specs.SectionTexts.{offset_text, address_text, eh_pointer_text, eh_pointer_size}
use Rattle.dw_writer.specs.Meaning.{Layout, Meaning, IsSameWriter, Records, Adds, AddsWith, AddsSome, AddsSomeWith, Replaces, ReplacesWith, ReplacesSome, ReplacesSomeWith, Appends, Patches, start_of, spelled_num, pointer_bytes, pointer_records, pointer_zeros, pointer_record, pointer_fits, has_width, offset_bytes, address_bytes}
use Rattle.dw_writer.specs.Relocating.{relocating, record_at, record_by}
use Rattle.dw_writer.specs.declared.relocate.Relocation.{Relocation}
use Rattle.dw_writer.specs.declared.relocate.RelocationTarget.{RelocationTarget}
use Rattle.dw_writer.specs.declared.relocate.RelocationTarget.TheVariants as to
use Rattle.dw_writer.proofs.Parts.{followed-nothing, patched-nothing, AddsSome-either, num-spelled, both, if_true}
use Rattle.dw_writer.proofs.Outcomes.{OnOk-always}
use Rattle.dw_writer.proofs.Plain.{Adds-constant}
use Rattle.dw_writer.proofs.RecordSteps.{Records-appends, Records-patches}
use Rattle.dw_writer.proofs.Steps.{Appends-as, Patches-as}

-- a call of the inner writer, beside the records

pub relocated : (a b : Meaning) (rs : List Relocation) (xs : List ℕ) → Adds a b xs → Adds (relocating a rs) (relocating b rs) xs
relocated a b rs xs p = record {
  same = record { order = p.same.order; kind = refl; faults = p.same.faults };
  size = p.size;
  told = p.told;
  records = ap (λ k. k ++ rs) p.records;
}

-- What a call of the inner writer does, beside the records

pub behind : {I : Type 0} (meaning : I → Meaning) (R : Meaning → Meaning → Type 0) (rs : List Relocation) {s t w i : I} {qs ps : List Relocation} → t ≡ s → i ≡ w → ps ≡ qs → R (relocating (meaning t) rs) (relocating (meaning w) qs) →
    R (relocating (meaning s) rs) (relocating (meaning i) ps)
behind meaning R rs {s} {t} {w} {i} {qs} {ps} old new records h =
    subst (λ k. R (relocating (meaning k) rs) (relocating (meaning i) ps)) old
    (subst (λ k. R (relocating (meaning t) rs) (relocating (meaning k) ps)) (sym new) (subst (λ k. R (relocating (meaning t) rs) (relocating (meaning w) k)) (sym records) h))

pub relocated_by : {I : Type 0} (meaning : I → Meaning) (R : Meaning → Meaning → Type 0) (lift : (a b : Meaning) (rs : List Relocation) → R a b → R (relocating a rs) (relocating b rs))
    {s t w i : I} {rs qs : List Relocation} → t ≡ s → i ≡ w → qs ≡ rs → R (meaning t) (meaning w) → R (relocating (meaning s) rs) (relocating (meaning i) qs)
relocated_by meaning R lift {s} {t} {w} {i} {rs} {qs} old new records h = behind meaning R rs old new records (lift (meaning t) (meaning w) rs h)

pub relocated_some : (bytes : List ℕ) (a b : Meaning) (rs : List Relocation) → AddsSome a b bytes → AddsSome (relocating a rs) (relocating b rs) bytes
relocated_some bytes a b rs p = record { count = p.count; size = p.size; told = p.told; records = ap (λ k. k ++ rs) p.records }

pub relocated_replaces : (p : ℕ) (bytes : List ℕ) (a b : Meaning) (rs : List Relocation) → Replaces a b p bytes → Replaces (relocating a rs) (relocating b rs) p bytes
relocated_replaces p bytes a b rs h = record {
  same = record { order = h.same.order; kind = refl; faults = h.same.faults };
  within = h.within;
  size = h.size;
  told = h.told;
  records = ap (λ k. k ++ rs) h.records;
}

pub relocated_replaces_some : (p : ℕ) (bytes : List ℕ) (a b : Meaning) (rs : List Relocation) → ReplacesSome a b p bytes → ReplacesSome (relocating a rs) (relocating b rs) p bytes
relocated_replaces_some p bytes a b rs h = record { count = h.count; size = h.size; told = h.told; records = ap (λ k. k ++ rs) h.records }

pub relocated_kept : (a b : Meaning) (rs : List Relocation) (e : Error) → KeptOutside a b e → KeptOutside (relocating a rs) (relocating b rs) e
relocated_kept a b rs OffsetOutOfBounds h = ap (λ m. relocating m rs) h
relocated_kept a b rs LengthOutOfBounds h = ap (λ m. relocating m rs) h
relocated_kept a b rs _ h = tt

-- what the inner writer has added, behind a record
pub relocated_ok : {T : Type 0} (r : Result T Error) (a b : Meaning) (rs qs more : List Relocation) (xs : List ℕ) → OnOk r (Adds a b xs) → qs ≡ rs ++ more →
    OnOk r (AddsWith (relocating a rs) (relocating b qs) xs more)
relocated_ok (Ok x) a b rs qs more xs p e = record {
  same = record { order = p.same.order; kind = refl; faults = p.same.faults };
  size = p.size;
  told = p.told;
  records = ap (λ k. k ++ qs) p.records ∙ ap (λ k. a.records ++ k) e ∙ sym (append_assoc a.records rs more);
}
relocated_ok (Err x) a b rs qs more xs p e = tt

-- the inner writer stays the same beside the records
pub relocated_same : (a b : Meaning) (rs qs : List Relocation) → IsSameWriter a b → IsSameWriter (relocating a rs) (relocating b qs)
relocated_same a b rs qs p = record { order = p.order; kind = refl; faults = p.faults }

-- what the inner writer has added after either result, behind a record
pub relocated_either : {T : Type 0} (r : Result T Error) (a b : Meaning) (rs qs more : List Relocation) (xs : List ℕ) → OnOk r (Adds a b xs) → OnErr r (AddsSome a b xs) → qs ≡ rs ++ more →
    AddsSomeWith (relocating a rs) (relocating b qs) xs more
relocated_either r a b rs qs more xs p q e =
    let some : AddsSome a b xs = AddsSome-either r a b xs xs p q refl in
    record {
      count = some.count;
      size = some.size;
      told = some.told;
      records = inl (ap (λ k. k ++ qs) some.records ∙ ap (λ k. a.records ++ k) e ∙ sym (append_assoc a.records rs more));
    }

-- what it replaces, behind a record
pub relocated_patch_ok : {T : Type 0} (r : Result T Error) (a b : Meaning) (rs qs more : List Relocation) (p : ℕ) (xs : List ℕ) → OnOk r (Replaces a b p xs) → qs ≡ rs ++ more →
    OnOk r (ReplacesWith (relocating a rs) (relocating b qs) p xs more)
relocated_patch_ok (Ok x) a b rs qs more p xs h e = record {
  same = record { order = h.same.order; kind = refl; faults = h.same.faults };
  within = h.within;
  size = h.size;
  told = h.told;
  records = ap (λ k. k ++ qs) h.records ∙ ap (λ k. a.records ++ k) e ∙ sym (append_assoc a.records rs more);
}
relocated_patch_ok (Err x) a b rs qs more p xs h e = tt

-- what it has replaced, behind a record
pub relocated_patch : {T : Type 0} (r : Result T Error) (a b : Meaning) (rs qs more : List Relocation) (p : ℕ) (xs : List ℕ) → OnErr r (ReplacesSome a b p xs) → qs ≡ rs ++ more →
    OnErr r (ReplacesSomeWith (relocating a rs) (relocating b qs) p xs more)
relocated_patch (Ok x) a b rs qs more p xs h e = tt
relocated_patch (Err x) a b rs qs more p xs h e = record {
  count = h.count;
  size = h.size;
  told = h.told;
  records = inl (ap (λ k. k ++ qs) h.records ∙ ap (λ k. a.records ++ k) e ∙ sym (append_assoc a.records rs more));
}

-- Zeros behind a record resolve to the record's text.

AddsWith-appends : {a c : Meaning} (o : Option DwEhPe) (w : ℕ) (target : RelocationTarget) (addend : ℤ) → AddsWith a c (zeros w) (record_by o a.size w target addend) → IsTrue (is_width w) →
    Appends a c w (λ big l. record_text big l (record { offset = a.size; size = w; target = target; addend = addend; eh_pe = o }) 0)
AddsWith-appends {a} {c} o w target addend p width =
    let r : Relocation = record { offset = a.size; size = w; target = target; addend = addend; eh_pe = o } in
    let b : Meaning = record a { records = a.records ++ r ∷ [] } in
    let first : Records a b r = record { same = record { order = refl; kind = refl; faults = omega arith }; size = refl; told = refl; records = refl } in
    let second : Adds b c (zeros w) = record { same = record { order = p.same.order; kind = p.same.kind; faults = p.same.faults }; size = p.size; told = p.told; records = p.records } in
    Records-appends {a = a} {b = b} {c = c} {r = r} first second refl width

ReplacesWith-patches : {a c : Meaning} (place w : ℕ) (target : RelocationTarget) (addend : ℤ) → ReplacesWith a c place (zeros w) (record_at place w target addend) → IsTrue (is_width w) →
    Patches a c place w (λ big l. record_text big l (record { offset = place; size = w; target = target; addend = addend; eh_pe = None }) 0)
ReplacesWith-patches {a} {c} place w target addend p width =
    let r : Relocation = record { offset = place; size = w; target = target; addend = addend; eh_pe = None } in
    let b : Meaning = record a { records = a.records ++ r ∷ [] } in
    let first : Records a b r = record { same = record { order = refl; kind = refl; faults = omega arith }; size = refl; told = refl; records = refl } in
    let second : Replaces b c place (zeros w) =
    record { same = record { order = p.same.order; kind = p.same.kind; faults = p.same.faults }; within = p.within; size = p.size; told = p.told; records = p.records } in
    Records-patches {a = a} {b = b} {c = c} {r = r} first second width

offset_record : (big : Bool) (l : Layout) (p w n : ℕ) (section : SectionId) →
    record_text big l (record { offset = p; size = w; target = to.Section section; addend = pos n; eh_pe = None }) 0 ≡ offset_text w section n big l
unfolding record_text sum_text offset_text int_text
offset_record big l p w n section = ap (λ k. num_text big w (k + start_of l section)) (zero-add n)

symbol_value : (big : Bool) (w place : ℕ) (addend : ℤ) (v : Option ℕ) →
    ◌≡◌ {A = Text} (v >>= λ n. sum_text big w place true None (pos 0 +ℤ addend +ℤ pos n)) (elim v [ None ↦ None | Some n ↦ int_text big w (addend +ℤ pos n) ])
unfolding sum_text
symbol_value big w place addend None = refl
symbol_value big w place addend (Some n) = ap (λ z. int_text big w (z +ℤ pos n)) (+ℤ_idl addend)

symbol_record : (big : Bool) (l : Layout) (p w s : ℕ) (addend : ℤ) →
    record_text big l (record { offset = p; size = w; target = to.Symbol s; addend = addend; eh_pe = None }) 0 ≡ address_text w (Symbol s addend) big l
unfolding record_text address_text
symbol_record big l p w s addend = symbol_value big w (l.own_start + p) addend (slice_get l.symbols s)

pointer_value : (big : Bool) (w place : ℕ) (encoding : DwEhPe) (addend : ℤ) (v : Option ℕ) →
    ◌≡◌ {A = Text} (v >>= λ n. sum_text big w place true (Some encoding) (pos 0 +ℤ addend +ℤ pos n))
    (v >>= λ n. address_of (addend +ℤ pos n) >>= pointer_text big w encoding.0 place)
unfolding sum_text
pointer_value big w place encoding addend None = refl
pointer_value big w place encoding addend (Some n) = ap (λ z. address_of (z +ℤ pos n) >>= pointer_text big w encoding.0 place) (+ℤ_idl addend)

-- the record of a pointer gives the pointer's text
pointer_record_text : (big : Bool) (l : Layout) (size p w s : ℕ) (encoding : DwEhPe) (addend : ℤ) → pointer_width size (format_of encoding.0) ≡ Some w →
    record_text big l (record { offset = p; size = w; target = to.Symbol s; addend = addend; eh_pe = Some encoding }) 0 ≡ eh_pointer_text size encoding.0 p (Symbol s addend) big l
unfolding record_text eh_pointer_text
pointer_record_text big l size p w s encoding addend e =
    pointer_value big w (l.own_start + p) encoding addend (slice_get l.symbols s)
    ∙ sym (ap (λ o. o >>= λ k. slice_get l.symbols s >>= λ v. address_of (addend +ℤ pos v) >>= pointer_text big k encoding.0 (l.own_start + p)) e)

-- The calls of a relocating writer, from what its two steps ensure.

pub pointer_added : {T : Type 0} (r : Result T Error) (a b : Meaning) (size w s : ℕ) (encoding : DwEhPe) (addend z : ℤ) →
    OnOk r (AddsWith a b (zeros w) (record_by (Some encoding) a.size w (to.Symbol s) z)) → z ≡ addend → IsTrue (is_width w) → pointer_width size (format_of encoding.0) ≡ Some w →
    OnOk r (Appends a b (eh_pointer_size size encoding.0 a.size (Symbol s addend)) (eh_pointer_text size encoding.0 a.size (Symbol s addend)))
unfolding eh_pointer_size
pointer_added (Ok x) a b size w s encoding addend z p e width k =
    Appends-as (AddsWith-appends (Some encoding) w (to.Symbol s) addend (subst (λ y. AddsWith a b (zeros w) (record_by (Some encoding) a.size w (to.Symbol s) y)) e p) width) (sym (ap (λ o. unwrap_or o 0) k))
    (λ big l. pointer_record_text big l size a.size w s encoding addend k)
pointer_added (Err x) a b size w s encoding addend z p e width k = tt

-- what such a pointer puts in its place
pub pointer_zeros-are : (size place w s : ℕ) (big : Bool) (encoding : DwEhPe) (addend : ℤ) → IsTrue (is_width w) → pointer_width size (format_of encoding.0) ≡ Some w →
    zeros w ≡ pointer_bytes false big size encoding.0 place (Symbol s addend)
unfolding pointer_bytes
pointer_zeros-are size place w s big encoding addend width k = if_true (is_width w) (zeros w) width ∙ sym (ap pointer_zeros k)

pub pointer_record-is : (size place w s : ℕ) (encoding : DwEhPe) (addend z : ℤ) → z ≡ addend → pointer_width size (format_of encoding.0) ≡ Some w →
    record_by (Some encoding) place w (to.Symbol s) z ≡ pointer_records false size encoding place (Symbol s addend)
unfolding pointer_records
pointer_record-is size place w s encoding addend z e k =
    ap (λ y. record_by (Some encoding) place w (to.Symbol s) y) e ∙ sym (ap (λ o. pointer_record o encoding place s addend) k)

pub offset_added : {T : Type 0} (r : Result T Error) (a b : Meaning) (w n : ℕ) (section : SectionId) (addend : ℤ) →
    OnOk r (AddsWith a b (zeros w) (record_at a.size w (to.Section section) addend)) → addend ≡ pos n → IsTrue (is_width w) → OnOk r (Appends a b w (offset_text w section n))
offset_added (Ok x) a b w n section addend p e width =
    Appends-as (AddsWith-appends None w (to.Section section) (pos n) (subst (λ z. AddsWith a b (zeros w) (record_at a.size w (to.Section section) z)) e p) width) refl
    (λ big l. offset_record big l a.size w n section)
offset_added (Err x) a b w n section addend p e width = tt

pub offset_patched : {T : Type 0} (r : Result T Error) (a b : Meaning) (place w n : ℕ) (section : SectionId) (addend : ℤ) →
    OnOk r (ReplacesWith a b place (zeros w) (record_at place w (to.Section section) addend)) → addend ≡ pos n → IsTrue (is_width w) →
    OnOk r (Patches a b place w (offset_text w section n))
offset_patched (Ok x) a b place w n section addend p e width =
    Patches-as (ReplacesWith-patches place w (to.Section section) (pos n) (subst (λ z. ReplacesWith a b place (zeros w) (record_at place w (to.Section section) z)) e p) width)
    (λ big l. offset_record big l place w n section)
offset_patched (Err x) a b place w n section addend p e width = tt

pub symbol_added : {T : Type 0} (r : Result T Error) (a b : Meaning) (w s : ℕ) (addend z : ℤ) →
    OnOk r (AddsWith a b (zeros w) (record_at a.size w (to.Symbol s) z)) → z ≡ addend → IsTrue (is_width w) → OnOk r (Appends a b w (address_text w (Symbol s addend)))
symbol_added (Ok x) a b w s addend z p e width =
    Appends-as (AddsWith-appends None w (to.Symbol s) addend (subst (λ k. AddsWith a b (zeros w) (record_at a.size w (to.Symbol s) k)) e p) width) refl
    (λ big l. symbol_record big l a.size w s addend)
symbol_added (Err x) a b w s addend z p e width = tt

pub constant_added : {T : Type 0} (r : Result T Error) (a b : Meaning) (rs qs : List Relocation) (w n : ℕ) → OnOk r (Adds a b (num a.is_big w n)) → qs ≡ rs →
    OnOk r (IsTrue (is_width w) × IsTrue (fits w n)) → OnOk r (Appends (relocating a rs) (relocating b qs) w (address_text w (Constant n)))
constant_added (Ok x) a b rs qs w n p e fit =
    subst (λ k. Appends (relocating a rs) (relocating b k) w (address_text w (Constant n))) (sym e) (Adds-constant w n (relocated a b rs (num a.is_big w n) p) fit.0 fit.1)
constant_added (Err x) a b rs qs w n p e fit = tt

-- a constant adds its number's first bytes, and no record
pub constant_either : {T : Type 0} (r : Result T Error) (a b : Meaning) (rs qs : List Relocation) (w n : ℕ) → OnOk r (Adds a b (num a.is_big w n)) → OnErr r (AddsSome a b (spelled_num a.is_big w n)) →
    qs ≡ rs → OnOk r (IsTrue (is_width w) × IsTrue (fits w n)) → AddsSomeWith (relocating a rs) (relocating b qs) (spelled_num a.is_big w n) []
constant_either r a b rs qs w n p q e fit =
    relocated_either r a b rs qs [] (spelled_num a.is_big w n) (spelled r p fit) q (e ∙ sym (append-nil rs))
  where
    spelled : {T : Type 0} (r : Result T Error) → OnOk r (Adds a b (num a.is_big w n)) → OnOk r (IsTrue (is_width w) × IsTrue (fits w n)) → OnOk r (Adds a b (spelled_num a.is_big w n))
    spelled (Ok x) p fit = subst (λ xs. Adds a b xs) (num-spelled a.is_big w n fit.0 fit.1) p
    spelled (Err x) p fit = tt

-- a call of a plain writer that failed at once, and counted that

abbrev counting : Bool → ℕ → List ℕ → ℕ → Meaning
counting big size xs n = record { bytes = Some xs; size = size; is_big = big; is_plain = true; records = []; faults = n }

pub AddsSome-faulty : (big : Bool) (size : ℕ) (xs : List ℕ) (a b : ℕ) (bytes : List ℕ) → AddsSome (counting big size xs a) (counting big size xs b) bytes
AddsSome-faulty big size xs a b bytes = record { count = 0; size = omega arith; told = sym (followed-nothing (Some xs)); records = refl }

pub ReplacesSome-faulty : (big : Bool) (size : ℕ) (xs : List ℕ) (a b p : ℕ) (bytes : List ℕ) → ReplacesSome (counting big size xs a) (counting big size xs b) p bytes
ReplacesSome-faulty big size xs a b p bytes = record { count = 0; size = refl; told = sym (patched-nothing p (Some xs)); records = refl }

pub AddsWith-is : {T : Type 0} (r : Result T Error) (a b : Meaning) (xs ys : List ℕ) (rs qs : List Relocation) → OnOk r (AddsWith a b xs rs) → xs ≡ ys → rs ≡ qs → OnOk r (AddsWith a b ys qs)
AddsWith-is r a b xs ys rs qs p e f = subst (λ k. OnOk r (AddsWith a b k qs)) e (subst (λ k. OnOk r (AddsWith a b xs k)) f p)

pub AddsSomeWith-is : (a b : Meaning) (xs ys : List ℕ) (rs qs : List Relocation) → AddsSomeWith a b xs rs → xs ≡ ys → rs ≡ qs → AddsSomeWith a b ys qs
AddsSomeWith-is a b xs ys rs qs p e f = subst (λ k. AddsSomeWith a b k qs) e (subst (λ k. AddsSomeWith a b xs k) f p)

pub ReplacesWith-is : {T : Type 0} (r : Result T Error) (a b : Meaning) (p : ℕ) (xs ys : List ℕ) (rs qs : List Relocation) → OnOk r (ReplacesWith a b p xs rs) → xs ≡ ys → rs ≡ qs → OnOk r (ReplacesWith a b p ys qs)
ReplacesWith-is r a b p xs ys rs qs h e f = subst (λ k. OnOk r (ReplacesWith a b p k qs)) e (subst (λ k. OnOk r (ReplacesWith a b p xs k)) f h)

pub ReplacesSomeWith-is : {T : Type 0} (r : Result T Error) (a b : Meaning) (p : ℕ) (xs ys : List ℕ) (rs qs : List Relocation) → OnErr r (ReplacesSomeWith a b p xs rs) → xs ≡ ys → rs ≡ qs → OnErr r (ReplacesSomeWith a b p ys qs)
ReplacesSomeWith-is r a b p xs ys rs qs h e f = subst (λ k. OnErr r (ReplacesSomeWith a b p k qs)) e (subst (λ k. OnErr r (ReplacesSomeWith a b p xs k)) f h)

-- what an offset and a symbol's address put in their places
pub offset_zeros-are : (big : Bool) (w n : ℕ) → IsTrue (is_width w) × IsTrue (offset_fits false w n) → zeros w ≡ offset_bytes false big w n
offset_zeros-are big w n fit = both (is_width w) (offset_fits false w n) (zeros w) fit.0 fit.1

pub symbol_zeros-are : (big : Bool) (w s : ℕ) (addend : ℤ) → IsTrue (is_width w) → zeros w ≡ address_bytes false big w (Symbol s addend)
symbol_zeros-are big w s addend width = if_true (is_width w) (zeros w) width

-- why the record of a pointer is refused
pub RecordRefused-none : (size encoding place s : ℕ) (addend : ℤ) (more : Error → Type 0) (e : Error) → EncodingRefused encoding e → pointer_width size (format_of encoding) ≡ None → PointerRefused false size encoding place (Symbol s addend) more e
RecordRefused-none size encoding place s addend more e h none = subst (λ o. RecordRefused o encoding more e) (sym none) h

pub RecordRefused-some : {T : Type 0} (r : Result T Error) (size encoding place s w : ℕ) (addend : ℤ) (more : Error → Type 0) → pointer_width size (format_of encoding) ≡ Some w → IfErr r (NumberRefused w true more) →
    IfErr r (PointerRefused false size encoding place (Symbol s addend) more)
RecordRefused-some r size encoding place s w addend more width h = subst (λ o. IfErr r (RecordRefused o encoding more)) (sym width) h

has_width-of : (o : Option ℕ) (w : ℕ) → o ≡ Some w → IsTrue (is_width w) → IsTrue (has_width o)
has_width-of o w e h = subst (λ k. IsTrue (has_width k)) (sym e) h

pub symbol-fits : {T : Type 0} (r : Result T Error) (big : Bool) (size encoding place s w : ℕ) (addend : ℤ) → pointer_width size (format_of encoding) ≡ Some w → IsTrue (is_width w) → OnOk r (IsTrue (pointer_fits false big size encoding place (Symbol s addend)))
symbol-fits r big size encoding place s w addend width is = OnOk-always r (has_width-of (pointer_width size (format_of encoding)) w width is)
