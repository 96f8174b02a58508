-- Laws of drafts: their order of composition, and what filling their references in makes of them.
use Rattle.std.specs.Prelude.{◌≡◌, ℕ, suc, zero, ◌+◌, ◌≤◌, Bool, List, [], ◌∷◌, ◌++◌, map, length, take, get_or, ◌<◌, Option, Some, None, refl}
use Rattle.std.proofs.Common.{sym, ◌∙◌, ap, subst, arith, append_assoc, append-nil, add_assoc, zero-add, add-zero}
use Rattle.std.proofs.Math.Path.{fun_ext}
use Rattle.std.proofs.lemmas.List.{map-append, map_more}
use Rattle.dw_base.specs.Numbers.{◌>>=◌}
use Rattle.dw_writer.specs.Texts.{Text, num_text, followed, overwrite, patched}
use Rattle.dw_writer.specs.Meaning.{Layout, Model}
use Rattle.dw_writer.specs.declared.fixup.DebugInfoFixup.{DebugInfoFixup}
use Rattle.dw_writer.proofs.Places.{overwrite-append}
use Rattle.dw_writer.proofs.Laws.{IsWide, length-num_text, followed_assoc}
use Rattle.dw_writer.proofs.Parts.{followed-nothing}
use Rattle.dw_writer.proofs.Steps.{patched-wide, followed_texts-wide}
use Rattle.dw_writer.specs.Drafts.{Info, Draft, left_open, moved, shifted, no_draft, whole, then_draft, all_drafts, open_text, hole_text, filled, AreBetween, HaveWidths, IsDraft}

-- References further on

pub moved-twice : (m n : ℕ) (h : DebugInfoFixup) → moved m (moved n h) ≡ moved (m + n) h
moved-twice m n h = ap (λ at. let x : DebugInfoFixup = record h { offset = at } in x) (sym (add_assoc m n h.offset))

pub shifted-twice : (m n : ℕ) (hs : List DebugInfoFixup) → shifted m (shifted n hs) ≡ shifted (m + n) hs
shifted-twice m n [] = refl
shifted-twice m n (h ∷ hs) = ap (λ x. x ∷ shifted m (shifted n hs)) (moved-twice m n h) ∙ ap (λ xs. moved (m + n) h ∷ xs) (shifted-twice m n hs)

pub shifted-none : (hs : List DebugInfoFixup) → shifted 0 hs ≡ hs
shifted-none [] = refl
shifted-none (h ∷ hs) =
    ap (λ at. let x : DebugInfoFixup = record h { offset = at } in x ∷ shifted 0 hs) (zero-add h.offset) ∙ ap (λ xs. h ∷ xs) (shifted-none hs)

-- Drafts

pub draft_is : (a b : ℕ) (s t : Info → Model) (hs ks : List DebugInfoFixup) → a ≡ b → ((info : Info) (big : Bool) (l : Layout) → s info big l ≡ t info big l) → hs ≡ ks →
    ◌≡◌ {A = Draft} (record { size = a; text = s; holes = hs }) (record { size = b; text = t; holes = ks })
draft_is a b s t hs ks e f h =
    let size : ℕ → Draft = λ n. record { size = n; text = s; holes = hs } in
    let text : (Info → Model) → Draft = λ x. record { size = b; text = x; holes = hs } in
    let holes : List DebugInfoFixup → Draft = λ x. record { size = b; text = t; holes = x } in
    ap size e ∙ ap text (fun_ext (λ info. fun_ext (λ big. fun_ext (λ l. f info big l)))) ∙ ap holes h

pub then-assoc : (a b c : Draft) → then_draft (then_draft a b) c ≡ then_draft a (then_draft b c)
unfolding then_draft
then-assoc a b c =
    draft_is _ _ _ _ _ _ (add_assoc a.size b.size c.size) (λ info big l. followed_assoc (a.text info big l) (b.text info big l) (c.text info big l))
    (append_assoc a.holes (shifted a.size b.holes) (shifted (a.size + b.size) c.holes)
    ∙ ap (λ hs. a.holes ++ (shifted a.size b.holes ++ hs)) (sym (shifted-twice a.size b.size c.holes))
    ∙ ap (λ hs. a.holes ++ hs) (sym (map-append (moved a.size) b.holes (shifted b.size c.holes))))

nothing-followed : (t : Text) → followed (Some []) t ≡ t
unfolding followed
nothing-followed None = refl
nothing-followed (Some xs) = refl

pub nothing-then : (d : Draft) → then_draft no_draft d ≡ d
unfolding then_draft
nothing-then d = draft_is _ _ _ _ _ _ (zero-add d.size) (λ info big l. nothing-followed (d.text info big l)) (shifted-none d.holes)

pub then-nothing : (d : Draft) → then_draft d no_draft ≡ d
unfolding then_draft
then-nothing d = draft_is _ _ _ _ _ _ (add-zero d.size) (λ info big l. followed-nothing (d.text info big l)) (append-nil d.holes)

-- drafts behind drafts
pub all-append : (ds es : List Draft) → all_drafts (ds ++ es) ≡ then_draft (all_drafts ds) (all_drafts es)
all-append [] es = sym (nothing-then (all_drafts es))
all-append (d ∷ ds) es = ap (then_draft d) (all-append ds es) ∙ sym (then-assoc d (all_drafts ds) (all_drafts es))

-- one more
pub all-more : {A : Type 0} (f : A → Draft) (xs : List A) (i : ℕ) (x : A) → i < length xs → x ≡ get_or xs i x →
    all_drafts (map f (take (i + 1) xs)) ≡ then_draft (all_drafts (map f (take i xs))) (f x)
all-more f xs i x below is =
    ap all_drafts (map_more f xs i x below ∙ ap (λ y. map f (take i xs) ++ f y ∷ []) (sym is))
    ∙ all-append (map f (take i xs)) (f x ∷ [])
    ∙ ap (then_draft (all_drafts (map f (take i xs)))) (then-nothing (f x))

-- Patches of one of two texts

overwrite-behind : (p q : ℕ) (xs ys bs : List ℕ) → p ≡ length xs + q → overwrite p ys (xs ++ bs) ≡ xs ++ overwrite q ys bs
overwrite-behind p q [] ys bs e = ap (λ k. overwrite k ys bs) (omega arith)
overwrite-behind zero q (x ∷ xs) ys bs e = absurd (omega arith)
overwrite-behind (suc p) q (x ∷ xs) ys bs e = ap (λ r. x ∷ r) (overwrite-behind p q xs ys bs (omega arith))

pub patched-behind : (n p q : ℕ) (y a b : Text) → IsWide n a → p ≡ n + q → patched p y (followed a b) ≡ followed a (patched q y b)
unfolding patched followed
patched-behind n p q y None b w e = refl
patched-behind n p q y (Some xs) None w e = refl
patched-behind n p q None (Some xs) (Some bs) w e = refl
patched-behind n p q (Some ys) (Some xs) (Some bs) w e = let l : length xs ≡ n = w xs refl in ap Some (overwrite-behind p q xs ys bs (omega arith))

pub patched-before : (n p k : ℕ) (y a b : Text) → IsWide n a → IsWide k y → p + k ≤ n → patched p y (followed a b) ≡ followed (patched p y a) b
unfolding patched followed
patched-before n p k y None b w v h = refl
patched-before n p k None (Some xs) None w v h = refl
patched-before n p k (Some ys) (Some xs) None w v h = refl
patched-before n p k None (Some xs) (Some bs) w v h = refl
patched-before n p k (Some ys) (Some xs) (Some bs) w v h =
    let l : length xs ≡ n = w xs refl in let m : length ys ≡ k = v ys refl in ap Some (overwrite-append p ys xs bs (omega arith))

-- References between two places

pub between-le : (from to : ℕ) (hs : List DebugInfoFixup) → AreBetween from to hs → from ≤ to
between-le from to [] h = h
between-le from to (x ∷ hs) h = let more = between-le (x.offset + x.size) to hs h.1 in omega (arith, h.0, more)

pub between-append : (a m b : ℕ) (hs ks : List DebugInfoFixup) → AreBetween a m hs → AreBetween m b ks → AreBetween a b (hs ++ ks)
between-append a m b [] [] h k = omega (arith, h, k)
between-append a m b [] (x ∷ ks) h k = (omega (arith, h, k.0), k.1)
between-append a m b (x ∷ hs) ks h k = (h.0, between-append (x.offset + x.size) m b hs ks h.1 k)

pub between-shifted : (n a b : ℕ) (hs : List DebugInfoFixup) → AreBetween a b hs → AreBetween (n + a) (n + b) (shifted n hs)
between-shifted n a b [] h = omega (arith, h)
between-shifted n a b (x ∷ hs) h =
    (omega (arith, h.0), subst (λ k. AreBetween k (n + b) (shifted n hs)) (sym (add_assoc n x.offset x.size)) (between-shifted n (x.offset + x.size) b hs h.1))

pub between-from : (a b c : ℕ) (hs : List DebugInfoFixup) → a ≤ b → AreBetween b c hs → AreBetween a c hs
between-from a b c [] le h = omega (arith, h)
between-from a b c (x ∷ hs) le h = (omega (arith, h.0), h.1)

pub widths-append : (hs ks : List DebugInfoFixup) → HaveWidths hs → HaveWidths ks → HaveWidths (hs ++ ks)
widths-append [] ks h k = k
widths-append (x ∷ hs) ks h k = (h.0, widths-append hs ks h.1 k)

pub widths-shifted : (n : ℕ) (hs : List DebugInfoFixup) → HaveWidths hs → HaveWidths (shifted n hs)
widths-shifted n [] h = tt
widths-shifted n (x ∷ hs) h = (h.0, widths-shifted n hs h.1)

-- Filling references in

pub bound-wide : (big : Bool) (w : ℕ) (o : Option ℕ) → IsWide w (o >>= num_text big w)
bound-wide big w None xs e = cc
bound-wide big w (Some n) xs e = length-num_text big w n xs e

pub hole-wide : (big : Bool) (info : Info) (h : DebugInfoFixup) → IsWide h.size (hole_text big info h)
hole-wide big info h = bound-wide big h.size (info h.unit.0 h.entry.0)

module _ (big : Bool) (info : Info) where
  pub filled-before : (hs : List DebugInfoFixup) (n from : ℕ) (a b : Text) → IsWide n a → AreBetween from n hs → filled big info hs (followed a b) ≡ followed (filled big info hs a) b
  filled-before [] n from a b w h = refl
  filled-before (x ∷ hs) n from a b w h =
      let le = between-le (x.offset + x.size) n hs h.1 in
      ap (filled big info hs) (patched-before n x.offset x.size (hole_text big info x) a b w (hole-wide big info x) le)
      ∙ filled-before hs n (x.offset + x.size) (patched x.offset (hole_text big info x) a) b (patched-wide n x.offset (hole_text big info x) a w) h.1

  pub filled-behind : (hs : List DebugInfoFixup) (n : ℕ) (a b : Text) → IsWide n a → filled big info (shifted n hs) (followed a b) ≡ followed a (filled big info hs b)
  filled-behind [] n a b w = refl
  filled-behind (x ∷ hs) n a b w =
      ap (filled big info (shifted n hs)) (patched-behind n (n + x.offset) x.offset (hole_text big info x) a b w refl)
      ∙ filled-behind hs n a (patched x.offset (hole_text big info x) b) w

  pub filled-append : (hs ks : List DebugInfoFixup) (t : Text) → filled big info (hs ++ ks) t ≡ filled big info ks (filled big info hs t)
  filled-append [] ks t = refl
  filled-append (x ∷ hs) ks t = filled-append hs ks (patched x.offset (hole_text big info x) t)

-- What drafts are

pub whole-draft : (n : ℕ) (t : Model) → ((big : Bool) (l : Layout) (xs : List ℕ) → t big l ≡ Some xs → length xs ≡ n) → IsDraft (whole n t)
whole-draft n t w = record { wide = λ info. w; between = omega arith; widths = tt; fills = λ info big l. refl }

pub no-draft : IsDraft no_draft
no-draft = record { wide = λ info big l xs e. let f : ◌≡◌ {A = List ℕ} [] xs = cc in sym (ap length f); between = omega arith; widths = tt; fills = λ info big l. refl }

pub then-draft : {d f : Draft} → IsDraft d → IsDraft f → IsDraft (then_draft d f)
unfolding then_draft
then-draft {d} {f} p q = record {
  wide = λ info big l. followed_texts-wide d.size f.size (d.text info big l) (f.text info big l) (p.wide info big l) (q.wide info big l);
  between = between-append 0 d.size (d.size + f.size) d.holes (shifted d.size f.holes) p.between
      (subst (λ k. AreBetween k (d.size + f.size) (shifted d.size f.holes)) (add-zero d.size) (between-shifted d.size 0 f.size f.holes q.between));
  widths = widths-append d.holes (shifted d.size f.holes) p.widths (widths-shifted d.size f.holes q.widths);
  fills = λ info big l.
      let t = open_text d big l in
      let u = open_text f big l in
      filled-append big info d.holes (shifted d.size f.holes) (followed t u)
      ∙ ap (filled big info (shifted d.size f.holes)) (filled-before big info d.holes d.size 0 t u (p.wide left_open big l) p.between ∙ ap (λ x. followed x u) (p.fills info big l))
      ∙ filled-behind big info f.holes d.size (d.text info big l) u (p.wide info big l)
      ∙ ap (followed (d.text info big l)) (q.fills info big l);
}

pub all-drafts : {A : Type 0} (f : A → Draft) (xs : List A) → ((x : A) → IsDraft (f x)) → IsDraft (all_drafts (map f xs))
all-drafts f [] h = no-draft
all-drafts f (x ∷ xs) h = then-draft (h x) (all-drafts f xs h)

-- an element that is there is read with any other in its place
pub read_there : {A : Type 0} (xs : List A) (i : ℕ) (d : A) → i < length xs → get_or xs i d ≡ get_or xs i (get_or xs i d)
read_there [] i d h = absurd (omega arith)
read_there (x ∷ xs) zero d h = refl
read_there (x ∷ xs) (suc i) d h = there xs i d (omega arith)
  where
    there : {A : Type 0} (xs : List A) (i : ℕ) (d : A) → i < length xs → get_or xs i d ≡ get_or xs i (get_or xs i d)
    there [] i d h = absurd (omega arith)
    there (x ∷ xs) zero d h = refl
    there (x ∷ xs) (suc i) d h = there xs i d (omega arith)
