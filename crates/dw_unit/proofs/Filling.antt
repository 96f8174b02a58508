-- References across units, as they are filled in one after another.
use Rattle.std.specs.Prelude.{◌≡◌, ℕ, suc, zero, ◌+◌, ◌≤◌, Bool, true, false, not, ◌||◌, List, [], ◌∷◌, ◌++◌, length, take, drop, Option, Some, None, is_none, refl, slice_get, IsTrue, IsFalse}
use Rattle.std.specs.Option.{option_map}
use Rattle.std.proofs.Common.{sym, ◌∙◌, ap, subst, arith, add-zero}
use Rattle.std.proofs.Math.Seq.{take-length}
use Rattle.std.proofs.lemmas.Bool.{or_parts}
use Rattle.dw_base.specs.Numbers.{◌>>=◌, is_width, fits}
use Rattle.dw_base.specs.declared.error.Error.{Error}
use Rattle.dw_base.specs.declared.error.Error.TheVariants as errors
use Rattle.dw_base.specs.declared.section_id.SectionId.TheVariants.{DebugInfo}
use Rattle.dw_writer.specs.Texts.{Text, num_text, patched}
use Rattle.dw_writer.specs.Meaning.{Meaning, Layout, IsSameWriter, IsTidy, Patches, resolved, start_of}
use Rattle.dw_writer.specs.SectionTexts.{offset_text}
use Rattle.dw_writer.specs.Drafts.{Info, moved, shifted, started, hole_text, hole_model, filled, AreBetween, HaveWidths, AreClear}
use Rattle.dw_writer.specs.declared.fixup.DebugInfoFixup.{DebugInfoFixup}
use Rattle.dw_writer.proofs.DraftLaws.{filled-append, between-le}
use Rattle.dw_writer.specs.Causes.{NumberRefused, PatchRefused, offset_fits}
use Rattle.dw_writer.proofs.Steps.{IsSameWriter-trans, Patches-as}
use Rattle.dw_writer.proofs.WriteLaws.{clear-patched}
use Rattle.dw_entries.specs.Targets.{HasInfoPlace, HaveInfoPlaces}
use Rattle.dw_tree.specs.Causes.{Refused, Is}
use Rattle.dw_unit.specs.Filled.{Fills, IsFillable, AreFillable}
use Rattle.dw_tree.specs.UnitFaults.{has_no_room, hole_fails, holes_fail}

-- Faults

-- a reference that stands further on fails as it does where it stands
hole-moved : (info : Info) (plain : Bool) (n : ℕ) (h : DebugInfoFixup) (err : Error) → hole_fails info plain (moved n h) err ≡ hole_fails info plain h err
hole-moved info plain n h errors.InvalidReference = refl
hole-moved info plain n h errors.ValueTooLarge = refl
hole-moved info plain n h err = refl

pub holes-shifted : (info : Info) (plain : Bool) (n : ℕ) (hs : List DebugInfoFixup) (err : Error) → holes_fail info plain (shifted n hs) err ≡ holes_fail info plain hs err
holes-shifted info plain n [] err = refl
holes-shifted info plain n (h ∷ hs) err =
    ap (λ b. b || holes_fail info plain (shifted n hs) err) (hole-moved info plain n h err) ∙ ap (λ b. hole_fails info plain h err || b) (holes-shifted info plain n hs err)

not_false : (b : Bool) → IsFalse (not b) → IsTrue b
not_false true h = refl
not_false false h = absurd (let k : true ≡ false = h in cc)

-- a reference that doesn't fail has a place
hole_leads : (info : Info) (h : DebugInfoFixup) (place : Option ℕ) → info h.unit.0 h.entry.0 ≡ place → IsFalse (is_none place) → IsFalse (has_no_room true h.size place) → HasInfoPlace (started 0 info) h
hole_leads info h None is some room = absurd (let k : true ≡ false = some in cc)
hole_leads info h (Some n) is some room = record {
  place = n + 0;
  is = ap (option_map (λ m. m + 0)) is;
  fits = subst (λ m. IsTrue (fits h.size m)) (sym (add-zero n)) (not_false (fits h.size n) room);
}

pub holes_lead : (info : Info) (hs : List DebugInfoFixup) → ((err : Error) → IsFalse (holes_fail info true hs err)) → HaveInfoPlaces (started 0 info) hs
holes_lead info [] sound = tt
holes_lead info (h ∷ hs) sound =
    let parts = λ (err : Error). or_parts (hole_fails info true h err) (holes_fail info true hs err) (sound err) in
    (hole_leads info h (info h.unit.0 h.entry.0) refl (parts errors.InvalidReference).0 (parts errors.ValueTooLarge).0, holes_lead info hs (λ err. (parts err).1))

-- Lists, from an element on

pub drop_at : (hs : List DebugInfoFixup) (i : ℕ) (h : DebugInfoFixup) → slice_get hs i ≡ Some h → drop i hs ≡ h ∷ drop (i + 1) hs
drop_at [] i h e = absurd (let f : ◌≡◌ {A = Option DebugInfoFixup} None (Some h) = e in cc)
drop_at (x ∷ hs) zero h e = let f : x ≡ h = cc in ap (λ y. y ∷ hs) f
drop_at (x ∷ hs) (suc i) h e = drop_at hs i h e ∙ ap (λ k. h ∷ drop k (x ∷ hs)) (let f : suc (i + 1) ≡ suc i + 1 = omega arith in f)

pub take_at : (hs : List DebugInfoFixup) (i : ℕ) (h : DebugInfoFixup) → slice_get hs i ≡ Some h → take (i + 1) hs ≡ take i hs ++ h ∷ []
take_at [] i h e = absurd (let f : ◌≡◌ {A = Option DebugInfoFixup} None (Some h) = e in cc)
take_at (x ∷ hs) zero h e = let f : x ≡ h = cc in ap (λ y. y ∷ []) f
take_at (x ∷ hs) (suc i) h e = ap (λ k. take k (x ∷ hs)) (let f : suc i + 1 ≡ suc (i + 1) = omega arith in f) ∙ ap (λ r. x ∷ r) (take_at hs i h e)

pub between_at : (from to : ℕ) (hs : List DebugInfoFixup) (i : ℕ) (h : DebugInfoFixup) → AreBetween from to hs → slice_get hs i ≡ Some h → h.offset + h.size ≤ to
between_at from to [] i h b e = absurd (let f : ◌≡◌ {A = Option DebugInfoFixup} None (Some h) = e in cc)
between_at from to (x ∷ hs) zero h b e = let f : x ≡ h = cc in subst (λ y. y.offset + y.size ≤ to) f (between-le (x.offset + x.size) to hs b.1)
between_at from to (x ∷ hs) (suc i) h b e = between_at (x.offset + x.size) to hs i h b.1 e

pub width_at : (hs : List DebugInfoFixup) (i : ℕ) (h : DebugInfoFixup) → HaveWidths hs → slice_get hs i ≡ Some h → IsTrue (is_width h.size)
width_at [] i h w e = absurd (let f : ◌≡◌ {A = Option DebugInfoFixup} None (Some h) = e in cc)
width_at (x ∷ hs) zero h w e = let f : x ≡ h = cc in subst (λ y. IsTrue (is_width y.size)) f w.0
width_at (x ∷ hs) (suc i) h w e = width_at hs i h w.1 e

-- a list of faults with one more
true_or : (a b : Bool) → IsTrue b → IsTrue (a || b)
true_or true b h = refl
true_or false b h = h

or_true : (a b : Bool) → IsTrue a → IsTrue (a || b)
or_true true b h = refl
or_true false b h = absurd (let k : false ≡ true = h in cc)

neither : (a b : Bool) → IsFalse a → IsFalse b → IsFalse (a || b)
neither true b h k = absurd (let x : true ≡ false = h in cc)
neither false b h k = k

module _ (info : Info) (plain : Bool) (err : Error) where
  pub hole_at : (hs : List DebugInfoFixup) (i : ℕ) (h : DebugInfoFixup) → slice_get hs i ≡ Some h → IsTrue (hole_fails info plain h err) → IsTrue (holes_fail info plain hs err)
  hole_at [] i h e k = absurd (let f : ◌≡◌ {A = Option DebugInfoFixup} None (Some h) = e in cc)
  hole_at (x ∷ hs) zero h e k = let f : x ≡ h = cc in or_true (hole_fails info plain x err) _ (subst (λ y. IsTrue (hole_fails info plain y err)) (sym f) k)
  hole_at (x ∷ hs) (suc i) h e k = true_or (hole_fails info plain x err) _ (hole_at hs i h e k)

  more_sound : (hs : List DebugInfoFixup) (h : DebugInfoFixup) → IsFalse (holes_fail info plain hs err) → IsFalse (hole_fails info plain h err) → IsFalse (holes_fail info plain (hs ++ h ∷ []) err)
  more_sound [] h k j = neither (hole_fails info plain h err) false j refl
  more_sound (x ∷ hs) h k j =
      let parts = or_parts (hole_fails info plain x err) (holes_fail info plain hs err) k in
      neither (hole_fails info plain x err) _ parts.0 (more_sound hs h parts.1 j)

  pub holes_more : (hs : List DebugInfoFixup) (i : ℕ) (h : DebugInfoFixup) → slice_get hs i ≡ Some h → IsFalse (holes_fail info plain (take i hs) err) → IsFalse (hole_fails info plain h err) → IsFalse (holes_fail info plain (take (i + 1) hs) err)
  holes_more hs i h e k j = subst (λ l. IsFalse (holes_fail info plain l err)) (sym (take_at hs i h e)) (more_sound (take i hs) h k j)

-- Filling in

-- the place of an entry is put in as an offset
pub hole_patched : {a b : Meaning} (info : Info) (h : DebugInfoFixup) (n : ℕ) → info h.unit.0 h.entry.0 ≡ Some n → Patches a b h.offset h.size (offset_text h.size DebugInfo n) → Patches a b h.offset h.size (hole_model info h)
unfolding offset_text
hole_patched info h n is p =
    Patches-as p (λ big l. ap (λ o. let t : Text = option_map (λ m. m + start_of l DebugInfo) o >>= num_text big h.size in t) (sym is))

-- The first so many of these references are filled in, and the others can be.
pub record FilledFront (old m : Meaning) (info : Info) (hs : List DebugInfoFixup) (i : ℕ) : Type 0 where
  pub tidy : IsTidy m
  pub resolves : (l : Layout) → resolved l m ≡ filled old.is_big (started (start_of l DebugInfo) info) (take i hs) (resolved l old)
  pub clear : AreClear m (drop i hs)
  pub from : ℕ
  pub between : AreBetween from m.size (drop i hs)

-- The same, where the references stand one behind another, and no record meets them.
pub record FillsFront (old m : Meaning) (info : Info) (hs : List DebugInfoFixup) (i : ℕ) : Type 0 where
  pub same : IsSameWriter old m
  pub size : m.size ≡ old.size
  pub front : IsTidy old → AreClear old hs → AreBetween 0 old.size hs → FilledFront old m info hs i

pub fills_none : (m : Meaning) (info : Info) (hs : List DebugInfoFixup) → FillsFront m m info hs 0
fills_none m info hs = record {
  same = record { order = refl; kind = refl; faults = omega arith };
  size = refl;
  front = λ tidy clear between. record { tidy = tidy; resolves = λ l. refl; clear = clear; from = 0; between = between };
}

front_more : {a b c : Meaning} (info : Info) (hs : List DebugInfoFixup) (i : ℕ) (h : DebugInfoFixup) → slice_get hs i ≡ Some h → b.is_big ≡ a.is_big → FilledFront a b info hs i →
    Patches b c h.offset h.size (hole_model info h) → FilledFront a c info hs (i + 1)
front_more {a} {b} {c} info hs i h at order f p =
    let rest = drop_at hs i h at in
    let clear : AreClear b (h ∷ drop (i + 1) hs) = subst (AreClear b) rest f.clear in
    let between : AreBetween f.from b.size (h ∷ drop (i + 1) hs) = subst (AreBetween f.from b.size) rest f.between in
    record {
      tidy = p.tidy f.tidy;
      resolves = λ l.
          let at_l = started (start_of l DebugInfo) info in
          p.resolves f.tidy clear.0 l
          ∙ ap (λ big. patched h.offset (hole_text big at_l h) (resolved l b)) order
          ∙ ap (patched h.offset (hole_text a.is_big at_l h)) (f.resolves l)
          ∙ sym (filled-append a.is_big at_l (take i hs) (h ∷ []) (resolved l a))
          ∙ ap (λ k. filled a.is_big at_l k (resolved l a)) (sym (take_at hs i h at));
      clear = clear-patched (drop (i + 1) hs) (h.offset + h.size) b.size p (omega arith) between.1 clear.1;
      from = h.offset + h.size;
      between = subst (λ n. AreBetween (h.offset + h.size) n (drop (i + 1) hs)) (sym p.size) between.1;
    }

pub fills_more : {a b c : Meaning} (info : Info) (hs : List DebugInfoFixup) (i : ℕ) (h : DebugInfoFixup) → slice_get hs i ≡ Some h → FillsFront a b info hs i →
    Patches b c h.offset h.size (hole_model info h) → FillsFront a c info hs (i + 1)
fills_more info hs i h at f p = record {
  same = IsSameWriter-trans f.same p.same;
  size = p.size ∙ f.size;
  front = λ tidy clear between. front_more info hs i h at f.same.order (f.front tidy clear between) p;
}

pub fills_all : {a b : Meaning} (info : Info) (hs : List DebugInfoFixup) (n : ℕ) → length hs ≤ n → n ≤ length hs → FillsFront a b info hs n → Fills a b info hs
fills_all {a} {b} info hs n le ge f =
    let all : take n hs ≡ hs = ap (λ k. take k hs) (let e : n ≡ length hs = omega arith in e) ∙ take-length hs in
    record {
      same = f.same;
      size = f.size;
      resolves = λ tidy clear between.
          let front = f.front tidy clear between in
          (front.tidy, λ l. front.resolves l ∙ ap (λ k. filled a.is_big (started (start_of l DebugInfo) info) k (resolved l a)) all);
    }

pub holes_all : (info : Info) (plain : Bool) (hs : List DebugInfoFixup) (n : ℕ) → length hs ≤ n → n ≤ length hs → ((err : Error) → IsFalse (holes_fail info plain (take n hs) err)) → (err : Error) → IsFalse (holes_fail info plain hs err)
holes_all info plain hs n le ge h err =
    subst (λ l. IsFalse (holes_fail info plain l err)) (ap (λ k. take k hs) (let e : n ≡ length hs = omega arith in e) ∙ take-length hs) (h err)

-- a place that is put in doesn't fail
pub hole_sound : (info : Info) (plain : Bool) (h : DebugInfoFixup) (n : ℕ) → info h.unit.0 h.entry.0 ≡ Some n → IsTrue (offset_fits plain h.size n) → (err : Error) → IsFalse (hole_fails info plain h err)
hole_sound info plain h n is fits errors.InvalidReference = ap is_none is
hole_sound info plain h n is fits errors.ValueTooLarge = ap (has_no_room plain h.size) is ∙ ap not fits
hole_sound info plain h n is fits err = refl

-- why a place isn't put in
pub hole_refused : (old new : Meaning) (info : Info) (plain : Bool) (h : DebugInfoFixup) (n : ℕ) → info h.unit.0 h.entry.0 ≡ Some n → IsTrue (is_width h.size) → h.offset + h.size ≤ old.size → (err : Error) →
    NumberRefused h.size (offset_fits plain h.size n) (PatchRefused old new h.offset h.size) err → Refused old new (Is (hole_fails info plain h)) err
hole_refused old new info plain h n is wide inside errors.NoMemory r = tt
hole_refused old new info plain h n is wide inside errors.WriteFault r = r.2
hole_refused old new info plain h n is wide inside errors.ValueTooLarge r = ap (has_no_room plain h.size) is ∙ ap not r.1
hole_refused old new info plain h n is wide inside (errors.UnsupportedWordSize m) r = absurd (let k : true ≡ false = sym wide ∙ r.1 in cc)
hole_refused old new info plain h n is wide inside errors.OffsetOutOfBounds r = absurd (omega (arith, inside, r.2))
hole_refused old new info plain h n is wide inside errors.LengthOutOfBounds r = absurd (omega (arith, inside, r.2.1))
hole_refused old new info plain h n is wide inside err r = absurd r.2

-- one of the references that can be filled in, in a section of the same size
pub fillable_at : (old m : Meaning) (hs : List DebugInfoFixup) (i : ℕ) (h : DebugInfoFixup) → m.size ≡ old.size → AreFillable old hs → slice_get hs i ≡ Some h → IsFillable m h
fillable_at old m hs i h size can is =
    record { inside = omega (arith, size, between_at 0 old.size hs i h can.between is); width = width_at hs i h can.widths is }
