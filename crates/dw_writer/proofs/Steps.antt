-- What several calls of a writer come to.
use Rattle.std.specs.Prelude.{◌≡◌, ℕ, ◌+◌, Bool, true, false, ◌&&◌, not, List, ◌++◌, length, Some, None, refl, if◌then◌else◌}
use Rattle.std.proofs.Common.{sym, ◌∙◌, ap, subst, inl, arith, length-append, append_assoc}
use Rattle.dw_writer.specs.Texts.{Text, followed, overwrite, patched}
use Rattle.dw_writer.specs.Resolved.{put_records, resolved}
use Rattle.dw_writer.specs.Meaning.{Layout, Meaning, Model, IsApart, AllInside, AllApart, IsTidy, IsClear, IsSameWriter, Adds, Replaces, Appends, Patches, is_at_zero}
use Rattle.dw_writer.specs.declared.relocate.Relocation.{Relocation}
use Rattle.dw_writer.proofs.Places.{length-overwrite, overwrite-middle}
use Rattle.dw_writer.proofs.Laws.{IsWide, followed_assoc, put_records-followed, put_records-patched, AllInside-more, IsClear-end, resolved-wide}

pub IsSameWriter-trans : {a b c : Meaning} → IsSameWriter a b → IsSameWriter b c → IsSameWriter a c
IsSameWriter-trans p q = record { order = q.order ∙ p.order; kind = q.kind ∙ p.kind; faults = omega arith }

unfoldable pub shown : Bool → Bool → Layout → List Relocation → Text → Text
shown plain big l rs t = if plain && not (is_at_zero l) then None else put_records big l rs t

pub resolved-same : (l : Layout) (old new : Meaning) (rs : List Relocation) (t : Text) → IsSameWriter old new → new.records ≡ rs → new.bytes ≡ t →
    resolved l new ≡ shown old.is_plain old.is_big l rs t
unfolding resolved shown
resolved-same l old new rs t same at_rs at_t =
    ap (λ k. shown k new.is_big l new.records new.bytes) same.kind
    ∙ ap (λ k. shown old.is_plain k l new.records new.bytes) same.order
    ∙ ap (λ k. shown old.is_plain old.is_big l k new.bytes) at_rs
    ∙ ap (λ k. shown old.is_plain old.is_big l rs k) at_t

pub if_followed : (b : Bool) (x y : Text) → (if b then None else followed x y) ≡ followed (if b then None else x) y
unfolding followed
if_followed true x y = refl
if_followed false x y = refl

pub if_patched : (b : Bool) (p : ℕ) (y x : Text) → (if b then None else patched p y x) ≡ patched p y (if b then None else x)
unfolding patched
if_patched true p y x = refl
if_patched false p y x = refl

pub followed-wide : (n : ℕ) (t : Text) (ys : List ℕ) → IsWide n t → IsWide (n + length ys) (followed t (Some ys))
unfolding followed
followed-wide n None ys wide zs e = cc
followed-wide n (Some xs) ys wide zs e = let f : xs ++ ys ≡ zs = cc in let g : length xs ≡ n = wide xs refl in sym (ap length f) ∙ length-append xs ys ∙ ap (λ k. k + length ys) g

pub followed_texts-wide : (m n : ℕ) (t u : Text) → IsWide m t → IsWide n u → IsWide (m + n) (followed t u)
unfolding followed
followed_texts-wide m n None u w v zs e = cc
followed_texts-wide m n (Some xs) None w v zs e = cc
followed_texts-wide m n (Some xs) (Some ys) w v zs e =
    let f : xs ++ ys ≡ zs = cc in let g : length xs ≡ m = w xs refl in let h : length ys ≡ n = v ys refl in omega (arith, length-append xs ys, ap length f)

pub patched-wide : (n p : ℕ) (y t : Text) → IsWide n t → IsWide n (patched p y t)
unfolding patched
patched-wide n p y None wide zs e = cc
patched-wide n p None (Some xs) wide zs e = cc
patched-wide n p (Some ys) (Some xs) wide zs e = let f : overwrite p ys xs ≡ zs = cc in sym (ap length f) ∙ length-overwrite p ys xs ∙ wide xs refl

-- Bytes added as they are are appended, resolved or not.
pub Adds-appends : {old new : Meaning} {bytes : List ℕ} → Adds old new bytes → Appends old new (length bytes) (λ _ _. Some bytes)
unfolding shown
Adds-appends {old} {new} {bytes} a = record {
  same = a.same;
  size = a.size;
  tidy = λ tidy. record {
    sized = λ b e. followed-wide old.size old.bytes bytes tidy.sized b (sym a.told ∙ e) ∙ sym a.size;
    inside = subst (λ rs. AllInside new.size rs) (sym a.records) (AllInside-more old.size new.size old.records (omega arith) tidy.inside);
  };
  clear = λ p k h c. subst (λ rs. AllApart p k rs) (sym a.records) c;
  wide = λ big l xs e. let f : bytes ≡ xs = cc in sym (ap length f);
  resolves = λ tidy l.
      resolved-same l old new old.records (followed old.bytes (Some bytes)) a.same a.records a.told
      ∙ ap (λ t. if old.is_plain && not (is_at_zero l) then None else t) (put_records-followed old.is_big l old.records old.size old.bytes bytes tidy.sized tidy.inside)
      ∙ if_followed (old.is_plain && not (is_at_zero l)) (put_records old.is_big l old.records old.bytes) (Some bytes)
      ∙ ap (λ t. followed t (Some bytes)) (sym (resolved-same l old old old.records old.bytes (record { order = refl; kind = refl; faults = omega arith }) refl refl));
}

-- Bytes replaced as they are are patched, resolved or not.
pub Replaces-patches : {old new : Meaning} {p : ℕ} {bytes : List ℕ} → Replaces old new p bytes → Patches old new p (length bytes) (λ _ _. Some bytes)
unfolding shown
Replaces-patches {old} {new} {p} {bytes} a = record {
  same = a.same;
  within = a.within;
  size = a.size;
  tidy = λ tidy. record {
    sized = λ b e. patched-wide old.size p (Some bytes) old.bytes tidy.sized b (sym a.told ∙ e) ∙ sym a.size;
    inside = subst (λ rs. AllInside new.size rs) (sym a.records) (AllInside-more old.size new.size old.records (omega arith) tidy.inside);
  };
  clear = λ q k h c. subst (λ rs. AllApart q k rs) (sym a.records) c;
  wide = λ big l xs e. let f : bytes ≡ xs = cc in sym (ap length f);
  resolves = λ tidy clear l.
      resolved-same l old new old.records (patched p (Some bytes) old.bytes) a.same a.records a.told
      ∙ ap (λ t. if old.is_plain && not (is_at_zero l) then None else t)
      (put_records-patched old.is_big l old.records p (length bytes) (Some bytes) old.bytes (λ xs e. let f : bytes ≡ xs = cc in sym (ap length f)) clear)
      ∙ if_patched (old.is_plain && not (is_at_zero l)) p (Some bytes) (put_records old.is_big l old.records old.bytes)
      ∙ ap (λ t. patched p (Some bytes) t) (sym (resolved-same l old old old.records old.bytes (record { order = refl; kind = refl; faults = omega arith }) refl refl));
}

-- One text after another
pub Appends-then : {a b c : Meaning} {m n : ℕ} {t u : Model} → Appends a b m t → Appends b c n u → Appends a c (m + n) (λ big l. followed (t big l) (u big l))
Appends-then {a} {b} {c} {m} {n} {t} {u} p q = record {
  same = IsSameWriter-trans p.same q.same;
  size = omega arith;
  tidy = λ tidy. q.tidy (p.tidy tidy);
  clear = λ k w h d. q.clear k w (omega arith) (p.clear k w h d);
  wide = λ big l. followed_texts-wide m n (t big l) (u big l) (p.wide big l) (q.wide big l);
  resolves = λ tidy l.
      q.resolves (p.tidy tidy) l ∙ ap (λ r. followed r (u b.is_big l)) (p.resolves tidy l) ∙ followed_assoc (resolved l a) (t a.is_big l) (u b.is_big l)
      ∙ ap (λ k. followed (resolved l a) (followed (t a.is_big l) (u k l))) p.same.order;
}

-- the same text, spelled in another way
pub Appends-as : {a b : Meaning} {m n : ℕ} {t u : Model} → Appends a b m t → m ≡ n → ((big : Bool) (l : Layout) → t big l ≡ u big l) → Appends a b n u
Appends-as {a} {b} {m} {n} {t} {u} p e f = record {
  same = p.same;
  size = omega arith;
  tidy = p.tidy;
  clear = p.clear;
  wide = λ big l xs h. p.wide big l xs (f big l ∙ h) ∙ e;
  resolves = λ tidy l. p.resolves tidy l ∙ ap (followed (resolved l a)) (f a.is_big l);
}

-- the same with the text at the writer's order alone
pub Appends-by : {a b : Meaning} {m n : ℕ} {t u : Model} → Appends a b m t → m ≡ n → ((l : Layout) → t a.is_big l ≡ u a.is_big l) → ((big : Bool) (l : Layout) (xs : List ℕ) → u big l ≡ Some xs → length xs ≡ n) → Appends a b n u
Appends-by {a} {b} {m} {n} {t} {u} p e f wide = record {
  same = p.same;
  size = omega arith;
  tidy = p.tidy;
  clear = p.clear;
  wide = wide;
  resolves = λ tidy l. p.resolves tidy l ∙ ap (followed (resolved l a)) (f l);
}

pub Patches-as : {a b : Meaning} {p n : ℕ} {t u : Model} → Patches a b p n t → ((big : Bool) (l : Layout) → t big l ≡ u big l) → Patches a b p n u
Patches-as {a} {b} {p} {n} {t} {u} q f = record {
  same = q.same;
  within = q.within;
  size = q.size;
  tidy = q.tidy;
  clear = q.clear;
  wide = λ big l xs h. q.wide big l xs (f big l ∙ h);
  resolves = λ tidy clear l. q.resolves tidy clear l ∙ ap (λ k. patched p k (resolved l a)) (f a.is_big l);
}

-- the same at the same place, spelled in another way, with the text at the writer's order alone
pub Patches-by : {a b : Meaning} {p q m n : ℕ} {t u : Model} → Patches a b p m t → p ≡ q → m ≡ n → ((l : Layout) → t a.is_big l ≡ u a.is_big l) → ((big : Bool) (l : Layout) (xs : List ℕ) → u big l ≡ Some xs → length xs ≡ n) → Patches a b q n u
Patches-by {a} {b} {p} {q} {m} {n} {t} {u} r e f g wide = record {
  same = r.same;
  within = omega (arith, r.within);
  size = r.size;
  tidy = r.tidy;
  clear = subst (λ k. (i j : ℕ) → IsApart i j q k → IsClear a i j → IsClear b i j) f (subst (λ k. (i j : ℕ) → IsApart i j k m → IsClear a i j → IsClear b i j) e r.clear);
  wide = wide;
  resolves = λ tidy clear l.
      r.resolves tidy (subst (λ k. IsClear a p k) (sym f) (subst (λ k. IsClear a k n) (sym e) clear)) l
      ∙ ap (λ k. patched k (t a.is_big l) (resolved l a)) e ∙ ap (λ k. patched q k (resolved l a)) (g l);
}

fill : (r t g h : Text) (z : List ℕ) (p : ℕ) → IsWide p (followed r t) → IsWide (length z) h →
    patched p h (followed (followed (followed r t) (Some z)) g) ≡ followed r (followed t (followed h g))
unfolding followed patched
fill None t g h z p w v = refl
fill (Some r) None g h z p w v = refl
fill (Some r) (Some t) None None z p w v = refl
fill (Some r) (Some t) None (Some x) z p w v = refl
fill (Some r) (Some t) (Some y) None z p w v = refl
fill (Some r) (Some t) (Some y) (Some x) z p w v =
    let e : length (r ++ t) ≡ p = w (r ++ t) refl in
    let f : length x ≡ length z = v x refl in
    ap Some (subst (λ k. overwrite k x (((r ++ t) ++ z) ++ y) ≡ ((r ++ t) ++ x) ++ y) e (overwrite-middle (r ++ t) z x y f)
    ∙ append_assoc (r ++ t) x y ∙ append_assoc r t (x ++ y))

-- A place that was left as bytes z, and is patched after more was appended, holds the patch.
pub Appends-filled : {a b c d e : Meaning} {m n : ℕ} {z : List ℕ} {t g h : Model} →
    Appends a b m t → Adds b c z → Appends c d n g → Patches d e b.size (length z) h →
    Appends a e (m + (length z + n)) (λ big l. followed (t big l) (followed (h big l) (g big l)))
Appends-filled {a} {b} {c} {d} {e} {m} {n} {z} {t} {g} {h} p q r s =
    let q' : Appends b c (length z) (λ _ _. Some z) = Adds-appends q in
    record {
      same = IsSameWriter-trans p.same (IsSameWriter-trans q.same (IsSameWriter-trans r.same s.same));
      size = omega arith;
      tidy = λ tidy. s.tidy (r.tidy (q'.tidy (p.tidy tidy)));
      clear = λ k w i c1. s.clear k w (inl (omega arith)) (r.clear k w (omega arith) (q'.clear k w (omega arith) (p.clear k w i c1)));
      wide = λ big l. followed_texts-wide m (length z + n) (t big l) (followed (h big l) (g big l)) (p.wide big l) (followed_texts-wide (length z) n (h big l) (g big l) (s.wide big l) (r.wide big l));
      resolves = λ tidy l.
          let tb : IsTidy b = p.tidy tidy in
          let tc : IsTidy c = q'.tidy tb in
          let td : IsTidy d = r.tidy tc in
          let cb : IsClear b b.size (length z) = IsClear-end b (length z) tb in
          let cc1 : IsClear c b.size (length z) = subst (λ rs. AllApart b.size (length z) rs) (sym q.records) cb in
          let cd : IsClear d b.size (length z) = r.clear b.size (length z) (omega arith) cc1 in
          let oc : c.is_big ≡ a.is_big = q.same.order ∙ p.same.order in
          let od : d.is_big ≡ a.is_big = r.same.order ∙ oc in
          let tail = λ (u : Text). patched b.size u (followed (followed (followed (resolved l a) (t a.is_big l)) (Some z)) (g a.is_big l)) in
          s.resolves td cd l
          ∙ ap (λ k. patched b.size (h d.is_big l) k) (r.resolves tc l ∙ ap (λ k. followed k (g c.is_big l)) (q'.resolves tb l ∙ ap (λ k. followed k (Some z)) (p.resolves tidy l))
          ∙ ap (λ k. followed (followed (followed (resolved l a) (t a.is_big l)) (Some z)) (g k l)) oc)
          ∙ ap (λ k. tail (h k l)) od
          ∙ fill (resolved l a) (t a.is_big l) (g a.is_big l) (h a.is_big l) z b.size (subst (λ k. IsWide b.size k) (p.resolves tidy l) (resolved-wide l b tb)) (s.wide a.is_big l);
    }

pub told_twice : (t : Text) (x z : List ℕ) → followed t (Some (x ++ z)) ≡ followed (followed t (Some x)) (Some z)
unfolding followed
told_twice None x z = refl
told_twice (Some t) x z = ap Some (sym (append_assoc t x z))

-- the same, where the place was left by one call with bytes x before it
pub Adds-filled : {a c d e : Meaning} {n : ℕ} {g h : Model} (x z : List ℕ) →
    Adds a c (x ++ z) → Appends c d n g → Patches d e (a.size + length x) (length z) h →
    Appends a e (length x + (length z + n)) (λ big l. followed (Some x) (followed (h big l) (g big l)))
Adds-filled {a} {c} {d} {e} {n} {g} {h} x z q r s =
    let b : Meaning = record { bytes = followed a.bytes (Some x); size = a.size + length x; is_big = c.is_big; is_plain = c.is_plain; records = c.records; faults = c.faults } in
    let p1 : Adds a b x = record { same = record { order = q.same.order; kind = q.same.kind; faults = q.same.faults }; size = refl; told = refl; records = q.records } in
    let p2 : Adds b c z = record {
      same = record { order = refl; kind = refl; faults = omega arith };
      size = omega (arith, length-append x z);
      told = q.told ∙ told_twice a.bytes x z;
      records = refl;
    } in
    Appends-filled (Adds-appends p1) p2 r s

-- bytes after bytes
pub Adds-then : {a b c : Meaning} {xs ys : List ℕ} → Adds a b xs → Adds b c ys → Adds a c (xs ++ ys)
Adds-then {a} {b} {c} {xs} {ys} p q = record {
  same = IsSameWriter-trans p.same q.same;
  size = omega (arith, length-append xs ys);
  told = q.told ∙ ap (λ t. followed t (Some ys)) p.told ∙ sym (told_twice a.bytes xs ys);
  records = q.records ∙ p.records;
}
