-- Laws of texts, and of records that are put into them.
use Rattle.std.specs.Prelude.{◌≡◌, ◌==◌, ℕ, ◌+◌, ◌≤◌, Bool, true, false, ◌&&◌, not, List, [], ◌∷◌, ◌++◌, length, take, drop, Option, Some, None, refl, ℤ, pos, negsuc, ◌+ℤ◌, IsTrue, if◌then◌else◌}
use Rattle.std.specs.Int.{bytes_high_first}
use Rattle.std.proofs.Common.{sym, ◌∙◌, ap, subst, inl, inr, arith, length-append, length-drop, append_assoc}
use Rattle.std.proofs.lemmas.Bool.Decides.{nat_tests}
use Rattle.std.proofs.lemmas.List.{take-append-le, drop-append-le}
use Rattle.dw_base.specs.Numbers.{◌>>=◌, when, num, is_width, fits, high_first, low_first}
use Rattle.dw_base.specs.Pointers.{format_of, application_of, from_zero, from_place, pointer_width, is_signed, signed_of, distance}
use Rattle.dw_base.specs.declared.constants.DwEhPe.{DwEhPe}
use Rattle.dw_base.proofs.NumberLaws.{length-num}
use Rattle.dw_writer.specs.Texts.{Text, followed, num_text, int_text, overwrite, patched}
use Rattle.dw_writer.specs.SignedNumbers.{signed_fits, signed_num, twos_complement}
use Rattle.dw_writer.specs.Layout.{is_symbol}
use Rattle.dw_writer.specs.Pointers.{signed_text, address_of, formatted, pointer_text}
use Rattle.dw_writer.specs.Resolved.{sum_text, number_at_place, record_text, put_record, put_records, resolved}
use Rattle.dw_writer.specs.Meaning.{Layout, Meaning, target_value, is_inside, IsApart, AllInside, AllApart, IsTidy, IsClear, is_at_zero}
use Rattle.dw_writer.specs.declared.relocate.Relocation.{Relocation}
use Rattle.dw_writer.proofs.Places.{length-overwrite, overwrite-append, overwrite-apart, part-before, drop-overwrite}

-- Texts

pub followed_assoc : (a b c : Text) → followed (followed a b) c ≡ followed a (followed b c)
unfolding followed
followed_assoc None b c = refl
followed_assoc (Some x) None c = refl
followed_assoc (Some x) (Some y) None = refl
followed_assoc (Some x) (Some y) (Some z) = ap Some (append_assoc x y z)

pub followed-none : (a : Text) → followed a None ≡ None
unfolding followed
followed-none None = refl
followed-none (Some x) = refl

pub followed-somes : (xs ys : List ℕ) → followed (Some xs) (Some ys) ≡ Some (xs ++ ys)
unfolding followed
followed-somes xs ys = refl

pub length-bytes_high_first : (w n : ℕ) → length (bytes_high_first w n) ≡ w
unfolding num
length-bytes_high_first w n = length-num true w n

some_if : (b : Bool) (ys xs : List ℕ) → (if b then Some ys else None) ≡ Some xs → ys ≡ xs
some_if true ys xs e = cc
some_if false ys xs e = cc

pub length-num_text : (big : Bool) (w n : ℕ) (xs : List ℕ) → num_text big w n ≡ Some xs → length xs ≡ w
unfolding num_text
length-num_text big w n xs e = sym (ap length (some_if (is_width w && fits w n) (num big w n) xs e)) ∙ length-num big w n

pub length-int_text : (big : Bool) (w : ℕ) (z : ℤ) (xs : List ℕ) → int_text big w z ≡ Some xs → length xs ≡ w
unfolding int_text
length-int_text big w (pos n) xs e = length-num_text big w n xs e
length-int_text big w (negsuc n) xs e = cc

when_some : (b : Bool) (t : Text) (xs : List ℕ) → when b t ≡ Some xs → t ≡ Some xs
when_some true t xs e = e
when_some false t xs e = cc

pub length-signed_text : (big : Bool) (w : ℕ) (z : ℤ) (xs : List ℕ) → signed_text big w z ≡ Some xs → length xs ≡ w
unfolding signed_text signed_num
length-signed_text big w z xs e =
    sym (ap length (some_if (is_width w && signed_fits w z) (num big w (twos_complement w z)) xs e)) ∙ length-num big w (twos_complement w z)

length-either : (b : Bool) (t u : Text) (xs : List ℕ) (w : ℕ) → (t ≡ Some xs → length xs ≡ w) → (u ≡ Some xs → length xs ≡ w) →
    ◌≡◌ {A = Text} (if b then t else u) (Some xs) → length xs ≡ w
length-either true t u xs w f g e = f e
length-either false t u xs w f g e = g e

pub length-bound : {A : Type 0} (o : Option A) (f : A → Text) (xs : List ℕ) (w : ℕ) → ((x : A) → f x ≡ Some xs → length xs ≡ w) →
    ◌≡◌ {A = Text} (o >>= f) (Some xs) → length xs ≡ w
length-bound None f xs w h e = cc
length-bound (Some x) f xs w h e = h x e

length-formatted : (big : Bool) (w format n : ℕ) (xs : List ℕ) → formatted big w format n ≡ Some xs → length xs ≡ w
unfolding formatted
length-formatted big w format n xs e =
    length-bound (pointer_width w format) _ xs w
    (λ k d. length-either (is_signed format) _ _ xs w (length-signed_text big w (signed_of n) xs) (length-num_text big w n xs) (when_some (k == w) _ xs d)) e

pub length-pointer_text : (big : Bool) (w encoding place n : ℕ) (xs : List ℕ) → pointer_text big w encoding place n ≡ Some xs → length xs ≡ w
unfolding pointer_text
length-pointer_text big w encoding place n xs e =
    length-either (application_of encoding == from_zero) _ _ xs w (length-formatted big w (format_of encoding) n xs)
    (length-either (application_of encoding == from_place) _ _ xs w (length-formatted big w (format_of encoding) (distance place n) xs) (λ d. cc)) e

length-sum_text : (big : Bool) (w place : ℕ) (is_symbolic : Bool) (o : Option DwEhPe) (z : ℤ) (xs : List ℕ) → sum_text big w place is_symbolic o z ≡ Some xs → length xs ≡ w
unfolding sum_text
length-sum_text big w place is_symbolic None z xs e = length-int_text big w z xs e
length-sum_text big w place is_symbolic (Some encoding) z xs e =
    length-bound (address_of z) _ xs w (λ n. length-pointer_text big w encoding.0 place n xs) (when_some is_symbolic _ xs e)

pub length-record_text : (big : Bool) (l : Layout) (r : Relocation) (n : ℕ) (xs : List ℕ) → record_text big l r n ≡ Some xs → length xs ≡ r.size
unfolding record_text
length-record_text big l r n xs e =
    length-bound (target_value l r.target) _ xs r.size
    (λ v. length-sum_text big r.size (l.own_start + r.offset) (is_symbol r.target) r.eh_pe (pos n +ℤ r.addend +ℤ pos v) xs) e

-- Records

pub is_inside-le : (size : ℕ) (r : Relocation) → IsTrue (is_inside size r) → r.offset + r.size ≤ size
is_inside-le size r h = grind (arith, nat_tests)

pub is_inside-more : (a b : ℕ) (r : Relocation) → a ≤ b → IsTrue (is_inside a r) → IsTrue (is_inside b r)
is_inside-more a b r le h = grind (arith, nat_tests)

if_true : (b : Bool) (x : Text) → IsTrue b → (if b then x else None) ≡ x
if_true true x h = refl
if_true false x h = cc

part-append : (p w : ℕ) (xs ys : List ℕ) → p + w ≤ length xs → take w (drop p (xs ++ ys)) ≡ take w (drop p xs)
part-append p w xs ys h =
    ap (take w) (drop-append-le p xs ys (omega arith)) ∙ take-append-le w (drop p xs) ys (omega (arith, length-drop p xs))

number_at_place-append : (big : Bool) (p w : ℕ) (xs ys : List ℕ) → p + w ≤ length xs → number_at_place big p w (xs ++ ys) ≡ number_at_place big p w xs
unfolding number_at_place
number_at_place-append true p w xs ys h = ap (high_first 0) (part-append p w xs ys h)
number_at_place-append false p w xs ys h = ap low_first (part-append p w xs ys h)

patched-append : (p n : ℕ) (t : Text) (xs ys : List ℕ) → ((zs : List ℕ) → t ≡ Some zs → length zs ≡ n) → p + n ≤ length xs →
    patched p t (Some (xs ++ ys)) ≡ followed (patched p t (Some xs)) (Some ys)
unfolding patched followed
patched-append p n None xs ys wide h = refl
patched-append p n (Some zs) xs ys wide h = let e : length zs ≡ n = wide zs refl in ap Some (overwrite-append p zs xs ys (omega arith))

put_record-append : (big : Bool) (l : Layout) (r : Relocation) (xs ys : List ℕ) → IsTrue (is_inside (length xs) r) →
    put_record big l r (Some (xs ++ ys)) ≡ followed (put_record big l r (Some xs)) (Some ys)
unfolding put_record
put_record-append big l r xs ys h =
    let le : r.offset + r.size ≤ length xs = is_inside-le (length xs) r h in
    let more : IsTrue (is_inside (length (xs ++ ys)) r) = is_inside-more (length xs) (length (xs ++ ys)) r (omega (arith, length-append xs ys)) h in
    if_true (is_inside (length (xs ++ ys)) r) _ more
    ∙ ap (λ n. patched r.offset (record_text big l r n) (Some (xs ++ ys))) (number_at_place-append big r.offset r.size xs ys le)
    ∙ patched-append r.offset r.size (record_text big l r (number_at_place big r.offset r.size xs)) xs ys (length-record_text big l r (number_at_place big r.offset r.size xs)) le
    ∙ ap (λ t. followed t (Some ys)) (sym (if_true (is_inside (length xs) r) _ h))

length-patched : (p : ℕ) (t : Text) (xs zs : List ℕ) → patched p t (Some xs) ≡ Some zs → length zs ≡ length xs
unfolding patched
length-patched p None xs zs e = cc
length-patched p (Some ys) xs zs e = let f : overwrite p ys xs ≡ zs = cc in sym (ap length f) ∙ length-overwrite p ys xs

if_some : (b : Bool) (x : Text) (zs : List ℕ) → (if b then x else None) ≡ Some zs → x ≡ Some zs
if_some true x zs e = e
if_some false x zs e = cc

length-put_record : (big : Bool) (l : Layout) (r : Relocation) (xs zs : List ℕ) → put_record big l r (Some xs) ≡ Some zs → length zs ≡ length xs
unfolding put_record
length-put_record big l r xs zs e =
    length-patched r.offset (record_text big l r (number_at_place big r.offset r.size xs)) xs zs (if_some (is_inside (length xs) r) _ zs e)

put_records-none : (big : Bool) (l : Layout) (rs : List Relocation) → put_records big l rs None ≡ None
unfolding put_record
put_records-none big l [] = refl
put_records-none big l (r ∷ rs) = put_records-none big l rs

if_else_some : (b : Bool) (x : Text) (zs : List ℕ) → (if b then None else x) ≡ Some zs → x ≡ Some zs
if_else_some true x zs e = cc
if_else_some false x zs e = e

-- the text has n bytes, where it is there
abbrev pub IsWide : ℕ → Text → Type 0
IsWide n t = (xs : List ℕ) → t ≡ Some xs → length xs ≡ n

put_record-wide : (big : Bool) (l : Layout) (r : Relocation) (n : ℕ) (t : Text) → IsWide n t → IsWide n (put_record big l r t)
unfolding put_record
put_record-wide big l r n None wide zs e = cc
put_record-wide big l r n (Some xs) wide zs e = length-put_record big l r xs zs e ∙ wide xs refl

pub put_records-wide : (big : Bool) (l : Layout) (rs : List Relocation) (n : ℕ) (t : Text) → IsWide n t → IsWide n (put_records big l rs t)
put_records-wide big l [] n t wide = wide
put_records-wide big l (r ∷ rs) n t wide = put_records-wide big l rs n (put_record big l r t) (put_record-wide big l r n t wide)

put_record-followed : (big : Bool) (l : Layout) (r : Relocation) (n : ℕ) (t : Text) (ys : List ℕ) → IsWide n t → IsTrue (is_inside n r) →
    put_record big l r (followed t (Some ys)) ≡ followed (put_record big l r t) (Some ys)
unfolding followed put_record
put_record-followed big l r n None ys wide h = refl
put_record-followed big l r n (Some xs) ys wide h =
    put_record-append big l r xs ys (subst (λ k. IsTrue (is_inside k r)) (sym (wide xs refl)) h)

pub put_records-followed : (big : Bool) (l : Layout) (rs : List Relocation) (n : ℕ) (t : Text) (ys : List ℕ) → IsWide n t → AllInside n rs →
    put_records big l rs (followed t (Some ys)) ≡ followed (put_records big l rs t) (Some ys)
unfolding AllInside
put_records-followed big l [] n t ys wide h = refl
put_records-followed big l (r ∷ rs) n t ys wide h =
    ap (put_records big l rs) (put_record-followed big l r n t ys wide h.0)
    ∙ put_records-followed big l rs n (put_record big l r t) ys (put_record-wide big l r n t wide) h.1

pub patched-none : (p : ℕ) (t : Text) → patched p None t ≡ None
unfolding patched
patched-none p None = refl
patched-none p (Some xs) = refl

number_at_place-patched : (big : Bool) (p q w : ℕ) (ys xs : List ℕ) → IsApart p (length ys) q w → number_at_place big q w (overwrite p ys xs) ≡ number_at_place big q w xs
unfolding number_at_place
number_at_place-patched true p q w ys xs (inl h) = ap (λ r. high_first 0 (take w r)) (drop-overwrite q p ys xs h)
number_at_place-patched true p q w ys xs (inr h) = ap (high_first 0) (part-before q w p ys xs h)
number_at_place-patched false p q w ys xs (inl h) = ap (λ r. low_first (take w r)) (drop-overwrite q p ys xs h)
number_at_place-patched false p q w ys xs (inr h) = ap low_first (part-before q w p ys xs h)

overwrite-either : (p q : ℕ) (xs ys bs : List ℕ) → IsApart p (length xs) q (length ys) → overwrite p xs (overwrite q ys bs) ≡ overwrite q ys (overwrite p xs bs)
overwrite-either p q xs ys bs (inl h) = overwrite-apart p q xs ys bs h
overwrite-either p q xs ys bs (inr h) = sym (overwrite-apart q p ys xs bs h)

patched-patched : (p q w : ℕ) (ys xs : List ℕ) (t : Text) → IsWide w t → IsApart p (length ys) q w →
    patched q t (Some (overwrite p ys xs)) ≡ patched p (Some ys) (patched q t (Some xs))
unfolding patched
patched-patched p q w ys xs None wide h = refl
patched-patched p q w ys xs (Some zs) wide h =
    ap Some (sym (overwrite-either p q ys zs xs (subst (λ k. IsApart p (length ys) q k) (sym (wide zs refl)) h)))

patched_if : (b : Bool) (p : ℕ) (t u : Text) → (if b then patched p t u else None) ≡ patched p t (if b then u else None)
unfolding patched
patched_if true p t u = refl
patched_if false p t u = refl

put_record-patched : (big : Bool) (l : Layout) (r : Relocation) (p n : ℕ) (x t : Text) → IsWide n x → IsApart p n r.offset r.size →
    put_record big l r (patched p x t) ≡ patched p x (put_record big l r t)
unfolding put_record patched
put_record-patched big l r p n x None wide h = refl
put_record-patched big l r p n None (Some xs) wide h = sym (patched-none p _)
put_record-patched big l r p n (Some ys) (Some xs) wide h =
    let apart : IsApart p (length ys) r.offset r.size = subst (λ k. IsApart p k r.offset r.size) (sym (wide ys refl)) h in
    ap (λ k. if is_inside k r then patched r.offset (record_text big l r (number_at_place big r.offset r.size (overwrite p ys xs))) (Some (overwrite p ys xs)) else None) (length-overwrite p ys xs)
    ∙ ap (λ k. if is_inside (length xs) r then patched r.offset (record_text big l r k) (Some (overwrite p ys xs)) else None) (number_at_place-patched big p r.offset r.size ys xs apart)
    ∙ ap (λ u. if is_inside (length xs) r then u else None)
    (patched-patched p r.offset r.size ys xs (record_text big l r (number_at_place big r.offset r.size xs)) (length-record_text big l r (number_at_place big r.offset r.size xs)) apart)
    ∙ patched_if (is_inside (length xs) r) p (Some ys) _

pub put_records-patched : (big : Bool) (l : Layout) (rs : List Relocation) (p n : ℕ) (x t : Text) → IsWide n x → AllApart p n rs →
    put_records big l rs (patched p x t) ≡ patched p x (put_records big l rs t)
unfolding AllApart
put_records-patched big l [] p n x t wide h = refl
put_records-patched big l (r ∷ rs) p n x t wide h =
    ap (put_records big l rs) (put_record-patched big l r p n x t wide h.0)
    ∙ put_records-patched big l rs p n x (put_record big l r t) wide h.1

pub put_records-more : (big : Bool) (l : Layout) (rs qs : List Relocation) (t : Text) → put_records big l (rs ++ qs) t ≡ put_records big l qs (put_records big l rs t)
put_records-more big l [] qs t = refl
put_records-more big l (r ∷ rs) qs t = put_records-more big l rs qs (put_record big l r t)

-- Places

pub AllInside-more : (a b : ℕ) (rs : List Relocation) → a ≤ b → AllInside a rs → AllInside b rs
unfolding AllInside
AllInside-more a b [] le h = tt
AllInside-more a b (r ∷ rs) le h = (is_inside-more a b r le h.0, AllInside-more a b rs le h.1)

pub AllInside-push : (n : ℕ) (rs : List Relocation) (r : Relocation) → AllInside n rs → IsTrue (is_inside n r) → AllInside n (rs ++ r ∷ [])
unfolding AllInside
AllInside-push n [] r h k = (k, tt)
AllInside-push n (q ∷ rs) r h k = (h.0, AllInside-push n rs r h.1 k)

pub AllApart-push : (p n : ℕ) (rs : List Relocation) (r : Relocation) → AllApart p n rs → IsApart p n r.offset r.size → AllApart p n (rs ++ r ∷ [])
unfolding AllApart
AllApart-push p n [] r h k = (k, tt)
AllApart-push p n (q ∷ rs) r h k = (h.0, AllApart-push p n rs r h.1 k)

-- past the bytes no record meets anything
AllApart-end : (size n : ℕ) (rs : List Relocation) → AllInside size rs → AllApart size n rs
unfolding AllInside AllApart
AllApart-end size n [] h = tt
AllApart-end size n (r ∷ rs) h = (inr (is_inside-le size r h.0), AllApart-end size n rs h.1)

pub IsClear-end : (m : Meaning) (n : ℕ) → IsTidy m → IsClear m m.size n
IsClear-end m n tidy = AllApart-end m.size n m.records tidy.inside

pub resolved-wide : (l : Layout) (m : Meaning) → IsTidy m → IsWide m.size (resolved l m)
unfolding resolved
resolved-wide l m tidy xs e =
    put_records-wide m.is_big l m.records m.size m.bytes tidy.sized xs (if_else_some (m.is_plain && not (is_at_zero l)) _ xs e)
