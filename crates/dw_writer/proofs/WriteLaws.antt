-- What calls that add drafts come to.
use Rattle.std.specs.Prelude.{◌≡◌, ℕ, ◌+◌, ◌≤◌, ◌<◌, Bool, true, false, ◌&&◌, List, [], ◌∷◌, ◌++◌, map, length, take, get_or, Option, Some, None, refl, IsTrue, if◌then◌else◌}
use Rattle.std.proofs.Common.{sym, ◌∙◌, ap, subst, arith, append_assoc, append-nil, add-zero, inr, length-append}
use Rattle.std.proofs.lemmas.Bool.Decides.{nat_tests}
use Rattle.dw_base.specs.Numbers.{◌>>=◌, num, is_width, fits}
use Rattle.dw_base.specs.declared.ids.UnitId.{UnitId}
use Rattle.dw_base.specs.declared.ids.UnitEntryId.{UnitEntryId}
use Rattle.dw_base.proofs.NumberLaws.{length-num}
use Rattle.dw_writer.specs.Texts.{num_text, followed, overwrite, patched}
use Rattle.dw_writer.specs.Meaning.{Meaning, Layout, Model, AllApart, IsClear, Adds, Appends, Patches}
use Rattle.dw_writer.specs.declared.fixup.DebugInfoFixup.{DebugInfoFixup}
use Rattle.dw_writer.proofs.Laws.{length-num_text, patched-none, IsClear-end, followed_assoc}
use Rattle.dw_writer.proofs.Plain.{num-shown}
use Rattle.dw_writer.proofs.Steps.{Adds-appends, Appends-then, Appends-by, Appends-as, Adds-filled, followed_texts-wide}
use Rattle.dw_writer.proofs.Parts.{Adds-none}
use Rattle.dw_writer.specs.Drafts.{Draft, moved, shifted, no_draft, whole, then_draft, all_drafts, open_text, AreBetween, AreClear, IsDraft, Drafts, reference}
use Rattle.dw_writer.proofs.DraftLaws.{shifted-twice, bound-wide, between-le, whole-draft, no-draft, then-draft, all-more}

-- nothing was added
pub Drafts-nothing : (m : Meaning) (kept : List DebugInfoFixup) → Drafts m m kept kept no_draft
Drafts-nothing m kept = record { is = no-draft; text = Adds-appends (Adds-none m); fixups = sym (append-nil kept); clear = λ tidy. tt }

-- a text without references
pub Drafts-whole : {a b : Meaning} {n : ℕ} {t : Model} (kept : List DebugInfoFixup) → Appends a b n t → Drafts a b kept kept (whole n t)
Drafts-whole {a} {b} {n} {t} kept p = record { is = whole-draft n t p.wide; text = p; fixups = sym (append-nil kept); clear = λ tidy. tt }

-- places stay clear as more is added behind them
pub clear-more : {b c : Meaning} {n : ℕ} {t : Model} (hs : List DebugInfoFixup) (from : ℕ) → Appends b c n t → AreBetween from b.size hs → AreClear b hs → AreClear c hs
clear-more [] from p h k = tt
clear-more (x ∷ hs) from p h k =
    (p.clear x.offset x.size (between-le (x.offset + x.size) _ hs h.1) k.0, clear-more hs (x.offset + x.size) p h.1 k.1)

pub between-place : (a n : ℕ) (from to : ℕ) (hs : List DebugInfoFixup) → AreBetween from to hs → AreBetween (a + from) (a + to) (shifted a hs)
between-place a n from to [] h = omega (arith, h)
between-place a n from to (x ∷ hs) h =
    (omega (arith, h.0), subst (λ k. AreBetween k (a + to) (shifted a hs)) (omega arith) (between-place a n (x.offset + x.size) to hs h.1))

pub clear-append : (m : Meaning) (hs ks : List DebugInfoFixup) → AreClear m hs → AreClear m ks → AreClear m (hs ++ ks)
clear-append m [] ks h k = k
clear-append m (x ∷ hs) ks h k = (h.0, clear-append m hs ks h.1 k)

shifted-append : (n : ℕ) (hs ks : List DebugInfoFixup) → shifted n (hs ++ ks) ≡ shifted n hs ++ shifted n ks
shifted-append n [] ks = refl
shifted-append n (x ∷ hs) ks = ap (λ r. moved n x ∷ r) (shifted-append n hs ks)

-- the same draft, spelled in another way
pub Drafts-is : {a b : Meaning} {x y : List DebugInfoFixup} {d e : Draft} → Drafts a b x y d → d ≡ e → Drafts a b x y e
Drafts-is {a} {b} {x} {y} p h = subst (λ f. Drafts a b x y f) h p

-- one after another
pub Drafts-then : {a b c : Meaning} {x y z : List DebugInfoFixup} {d f : Draft} → Drafts a b x y d → Drafts b c y z f → Drafts a c x z (then_draft d f)
unfolding then_draft
Drafts-then {a} {b} {c} {x} {y} {z} {d} {f} p q =
    let at : b.size ≡ a.size + d.size = p.text.size in
    let apart : shifted a.size (d.holes ++ shifted d.size f.holes) ≡ shifted a.size d.holes ++ shifted (a.size + d.size) f.holes =
    shifted-append a.size d.holes (shifted d.size f.holes) ∙ ap (λ hs. shifted a.size d.holes ++ hs) (shifted-twice a.size d.size f.holes) in
    record {
      is = then-draft p.is q.is;
      text = Appends-then p.text q.text;
      fixups = q.fixups ∙ ap (λ l. l ++ shifted b.size f.holes) p.fixups ∙ append_assoc x (shifted a.size d.holes) (shifted b.size f.holes)
          ∙ ap (λ n. x ++ (shifted a.size d.holes ++ shifted n f.holes)) at ∙ ap (λ hs. x ++ hs) (sym apart);
      clear = λ tidy.
          let place : AreBetween (a.size + 0) b.size (shifted a.size d.holes) = subst (λ n. AreBetween (a.size + 0) n (shifted a.size d.holes)) (sym at) (between-place a.size 0 0 d.size d.holes p.is.between) in
          let first = clear-more (shifted a.size d.holes) (a.size + 0) q.text place (p.clear tidy) in
          let second : AreClear c (shifted (a.size + d.size) f.holes) = subst (λ n. AreClear c (shifted n f.holes)) at (q.clear (p.text.tidy tidy)) in
          subst (AreClear c) (sym apart) (clear-append c (shifted a.size d.holes) (shifted (a.size + d.size) f.holes) first second);
    }

-- an element's draft after those of the elements before it
pub Drafts-more : {A : Type 0} (g : A → Draft) (xs : List A) (i : ℕ) (e : A) {a b c : Meaning} {x y z : List DebugInfoFixup} → i < length xs → e ≡ get_or xs i e →
    Drafts a b x y (all_drafts (map g (take i xs))) → Drafts b c y z (g e) → Drafts a c x z (all_drafts (map g (take (i + 1) xs)))
Drafts-more g xs i e {a} {b} {c} {x} {y} {z} below is p q = subst (λ d. Drafts a c x z d) (sym (all-more g xs i e below is)) (Drafts-then p q)

-- References

over_zeros : (ys zs : List ℕ) → length ys ≡ length zs → overwrite 0 ys zs ≡ ys
over_zeros [] [] e = refl
over_zeros [] (z ∷ zs) e = absurd (omega arith)
over_zeros (y ∷ ys) [] e = absurd (omega arith)
over_zeros (y ∷ ys) (z ∷ zs) e = ap (λ r. y ∷ r) (over_zeros ys zs (omega arith))

fill_bool : (w a b : Bool) (ys zs : List ℕ) → length ys ≡ length zs → (IsTrue a → IsTrue b) →
    patched 0 (if w && a then Some ys else None) (if w && b then Some zs else None) ≡ (if w && a then Some ys else None)
unfolding patched
fill_bool true true true ys zs e f = ap Some (over_zeros ys zs e)
fill_bool true false true ys zs e f = refl
fill_bool true true false ys zs e f = absurd (let h : IsTrue false = f refl in cc)
fill_bool true false false ys zs e f = refl
fill_bool false a b ys zs e f = refl

fits_zero : (w n : ℕ) → IsTrue (fits w n) → IsTrue (fits w 0)
fits_zero w n h = grind (arith, nat_tests)

fill_number : (big : Bool) (w n : ℕ) → patched 0 (num_text big w n) (num_text big w 0) ≡ num_text big w n
unfolding num_text
fill_number big w n = fill_bool (is_width w) (fits w n) (fits w 0) (num big w n) (num big w 0) (length-num big w n ∙ sym (length-num big w 0)) (fits_zero w n)

fill_bound : (big : Bool) (w : ℕ) (o : Option ℕ) → patched 0 (o >>= num_text big w) (num_text big w 0) ≡ (o >>= num_text big w)
fill_bound big w None = patched-none 0 (num_text big w 0)
fill_bound big w (Some n) = fill_number big w n

pub reference-draft : (w : ℕ) (u : UnitId) (i : UnitEntryId) → IsTrue (is_width w) → IsDraft (reference w u i)
reference-draft w u i width = record {
  wide = λ info big l. bound-wide big w (info u.0 i.0);
  between = (omega arith, omega arith);
  widths = (width, tt);
  fills = λ info big l. fill_bound big w (info u.0 i.0);
}

-- a reference is left open: zeros, and a place to be fixed up
pub Drafts-reference : {a b : Meaning} {x y : List DebugInfoFixup} (w at : ℕ) (u : UnitId) (i : UnitEntryId) → Adds a b (num a.is_big w 0) → IsTrue (is_width w) → IsTrue (fits w 0) →
    at ≡ a.size → y ≡ x ++ record { offset = at; size = w; unit = u; entry = i } ∷ [] → Drafts a b x y (reference w u i)
Drafts-reference {a} {b} {x} {y} w at u i p width fit here pushed =
    let fixup : ℕ → DebugInfoFixup = λ n. record { offset = n; size = w; unit = u; entry = i } in
    record {
      is = reference-draft w u i width;
      text = Appends-by (Adds-appends p) (length-num a.is_big w 0) (λ l. sym (num-shown a.is_big w 0 width fit)) (λ big l xs e. length-num_text big w 0 xs e);
      fixups = pushed ∙ ap (λ n. x ++ fixup n ∷ []) (here ∙ sym (add-zero a.size));
      clear = λ tidy.
          let clear : IsClear b a.size w = subst (λ rs. AllApart a.size w rs) (sym p.records) (IsClear-end a w tidy) in
          (subst (λ n. IsClear b n w) (sym (add-zero a.size)) clear, tt);
    }

-- places stay clear as a place before them is patched
pub clear-patched : {b c : Meaning} {p n : ℕ} {t : Model} (hs : List DebugInfoFixup) (from to : ℕ) → Patches b c p n t → p + n ≤ from → AreBetween from to hs → AreClear b hs → AreClear c hs
clear-patched [] from to q le h k = tt
clear-patched (x ∷ hs) from to q le h k =
    (q.clear x.offset x.size (inr (omega (arith, h.0))) k.0, clear-patched hs (x.offset + x.size) to q (omega (arith, h.0)) h.1 k.1)

-- a draft behind a text of which a part is put in last
pub Drafts-filled : {a c d f g : Meaning} {x y : List DebugInfoFixup} {m : ℕ} {t h : Model} {body : Draft} (first zeros : List ℕ) →
    Adds a c (first ++ zeros) → Appends c d m t → Drafts d f x y body → Patches f g (a.size + length first) (length zeros) h →
    Drafts a g x y (then_draft (whole (length first + (length zeros + m)) (λ big l. followed (Some first) (followed (h big l) (t big l)))) body)
unfolding then_draft
Drafts-filled {a} {c} {d} {f} {g} {x} {y} {m} {t} {h} {body} first zeros p q r s =
    let n = length first + (length zeros + m) in
    let head : Model = λ big l. followed (Some first) (followed (h big l) (t big l)) in
    let all = Adds-filled first zeros p (Appends-then q r.text) s in
    let at : d.size ≡ a.size + n = omega (arith, p.size, length-append first zeros, q.size) in
    let holes : shifted a.size (shifted n body.holes) ≡ shifted d.size body.holes = shifted-twice a.size n body.holes ∙ ap (λ k. shifted k body.holes) (sym at) in
    let wide : (big : Bool) (l : Layout) (xs : List ℕ) → head big l ≡ Some xs → length xs ≡ n = λ big l.
    followed_texts-wide (length first) (length zeros + m) (Some first) (followed (h big l) (t big l)) (λ xs e. let k : first ≡ xs = cc in sym (ap length k))
    (followed_texts-wide (length zeros) m (h big l) (t big l) (s.wide big l) (q.wide big l)) in
    record {
      is = then-draft (whole-draft n head wide) r.is;
      text = Appends-as all (omega arith) (λ big l.
          ap (followed (Some first)) (sym (followed_assoc (h big l) (t big l) (open_text body big l)))
          ∙ sym (followed_assoc (Some first) (followed (h big l) (t big l)) (open_text body big l)));
      fixups = r.fixups ∙ ap (λ hs. x ++ hs) (sym holes);
      clear = λ tidy.
          let there = r.clear (q.tidy ((Adds-appends p).tidy tidy)) in
          let between = between-place d.size 0 0 body.size body.holes r.is.between in
          let kept = clear-patched (shifted d.size body.holes) (d.size + 0) (d.size + body.size) s (omega arith) between there in
          subst (AreClear g) (sym holes) kept;
    }
