-- What a record and zeros in its place come to.
use Rattle.std.specs.Prelude.{◌≡◌, ℕ, suc, zero, ◌+◌, ◌*◌, ◌≤◌, Bool, true, false, ◌&&◌, not, List, [], ◌∷◌, ◌++◌, length, take, drop, Some, None, refl, IsTrue, if◌then◌else◌}
use Rattle.std.proofs.Common.{sym, ◌∙◌, ap, subst, inl, arith, length-append}
use Rattle.std.proofs.lemmas.Bool.Decides.{nat_tests}
use Rattle.dw_base.specs.Numbers.{is_width, high_first, low_first}
use Rattle.dw_writer.specs.Texts.{Text, zeros, followed, overwrite, patched}
use Rattle.dw_writer.specs.Resolved.{number_at_place, record_text, put_record, put_records}
use Rattle.dw_writer.specs.Meaning.{Layout, Meaning, is_inside, AllInside, AllApart, Records, Adds, Replaces, Appends, Patches, is_at_zero}
use Rattle.dw_writer.specs.declared.relocate.Relocation.{Relocation}
use Rattle.dw_writer.proofs.Places.{length-overwrite, overwrite-twice, part-same, length-zeros}
use Rattle.dw_writer.proofs.Laws.{IsWide, length-record_text, put_records-wide, put_records-followed, put_records-patched, put_records-more, AllInside-more, AllInside-push, AllApart-push}
use Rattle.dw_writer.proofs.Steps.{IsSameWriter-trans, shown, resolved-same, if_followed, if_patched, followed-wide, patched-wide}

high_first-zeros : (n : ℕ) → high_first 0 (zeros n) ≡ 0
high_first-zeros zero = refl
high_first-zeros (suc n) = high_first-zeros n

low_first-zeros : (n : ℕ) → low_first (zeros n) ≡ 0
low_first-zeros zero = refl
low_first-zeros (suc n) = ap (λ k. 0 + 256 * k) (low_first-zeros n)

number_of_zeros : (big : Bool) (p w : ℕ) (xs : List ℕ) → take w (drop p xs) ≡ zeros w → number_at_place big p w xs ≡ 0
unfolding number_at_place
number_of_zeros true p w xs e = ap (high_first 0) e ∙ high_first-zeros w
number_of_zeros false p w xs e = ap low_first e ∙ low_first-zeros w

drop-end : (xs ys : List ℕ) → drop (length xs) (xs ++ ys) ≡ ys
drop-end [] ys = refl
drop-end (x ∷ xs) ys = drop-end xs ys

take-all : (ys : List ℕ) → take (length ys) ys ≡ ys
take-all [] = refl
take-all (y ∷ ys) = ap (λ r. y ∷ r) (take-all ys)

overwrite-end : (xs zs ys : List ℕ) → length ys ≡ length zs → overwrite (length xs) ys (xs ++ zs) ≡ xs ++ ys
overwrite-end [] [] [] e = refl
overwrite-end [] [] (y ∷ ys) e = cc
overwrite-end [] (z ∷ zs) [] e = cc
overwrite-end [] (z ∷ zs) (y ∷ ys) e = ap (λ r. y ∷ r) (overwrite-end [] zs ys (omega arith))
overwrite-end (x ∷ xs) zs ys e = ap (λ r. x ∷ r) (overwrite-end xs zs ys e)

patched-end : (xs : List ℕ) (w : ℕ) (t : Text) → IsWide w t → patched (length xs) t (Some (xs ++ zeros w)) ≡ followed (Some xs) t
unfolding patched followed
patched-end xs w None wide = refl
patched-end xs w (Some ys) wide = ap Some (overwrite-end xs (zeros w) ys (wide ys refl ∙ sym (length-zeros w)))

if_true : (b : Bool) (x : Text) → IsTrue b → (if b then x else None) ≡ x
if_true true x h = refl
if_true false x h = cc

inside_at_end : (r : Relocation) (size : ℕ) → IsTrue (is_width r.size) → r.offset + r.size ≤ size → IsTrue (is_inside size r)
inside_at_end r size w le = grind (arith, nat_tests)

put_at_end : (big : Bool) (l : Layout) (r : Relocation) (n : ℕ) (t : Text) → IsWide n t → r.offset ≡ n → IsTrue (is_width r.size) →
    put_record big l r (followed t (Some (zeros r.size))) ≡ followed t (record_text big l r 0)
unfolding put_record followed
put_at_end big l r n None wide at w = refl
put_at_end big l r n (Some xs) wide at w =
    let e : length xs ≡ r.offset = wide xs refl ∙ sym at in
    let inside : IsTrue (is_inside (length (xs ++ zeros r.size)) r) =
    inside_at_end r (length (xs ++ zeros r.size)) w (omega (arith, length-append xs (zeros r.size), length-zeros r.size)) in
    let none : number_at_place big r.offset r.size (xs ++ zeros r.size) ≡ 0 =
    number_of_zeros big r.offset r.size (xs ++ zeros r.size)
    (ap (λ k. take r.size (drop k (xs ++ zeros r.size))) (sym e) ∙ ap (take r.size) (drop-end xs (zeros r.size))
    ∙ ap (λ k. take k (zeros r.size)) (sym (length-zeros r.size)) ∙ take-all (zeros r.size)) in
    if_true (is_inside (length (xs ++ zeros r.size)) r) _ inside
    ∙ ap (λ k. patched r.offset (record_text big l r k) (Some (xs ++ zeros r.size))) none
    ∙ ap (λ k. patched k (record_text big l r 0) (Some (xs ++ zeros r.size))) (sym e)
    ∙ patched-end xs r.size (record_text big l r 0) (length-record_text big l r 0)

pub Records-appends : {a b c : Meaning} {r : Relocation} → Records a b r → Adds b c (zeros r.size) → r.offset ≡ a.size → IsTrue (is_width r.size) →
    Appends a c r.size (λ big l. record_text big l r 0)
unfolding shown
Records-appends {a} {b} {c} {r} p q at w =
    let grown : c.size ≡ a.size + r.size = q.size ∙ ap (λ k. k + length (zeros r.size)) p.size ∙ ap (λ k. a.size + k) (length-zeros r.size) in
    let rs : c.records ≡ a.records ++ r ∷ [] = q.records ∙ p.records in
    let bs : c.bytes ≡ followed a.bytes (Some (zeros r.size)) = q.told ∙ ap (λ k. followed k (Some (zeros r.size))) p.told in
    record {
      same = IsSameWriter-trans p.same q.same;
      size = grown;
      tidy = λ tidy. record {
        sized = λ xs e. followed-wide a.size a.bytes (zeros r.size) tidy.sized xs (sym bs ∙ e) ∙ ap (λ k. a.size + k) (length-zeros r.size) ∙ sym grown;
        inside = subst (λ k. AllInside c.size k) (sym rs)
            (AllInside-push c.size a.records r (AllInside-more a.size c.size a.records (omega arith) tidy.inside) (inside_at_end r c.size w (omega arith)));
      };
      clear = λ k n h d. subst (λ q1. AllApart k n q1) (sym rs) (AllApart-push k n a.records r d (inl (omega arith)));
      wide = λ big l. length-record_text big l r 0;
      resolves = λ tidy l.
          resolved-same l a c (a.records ++ r ∷ []) (followed a.bytes (Some (zeros r.size))) (IsSameWriter-trans p.same q.same) rs bs
          ∙ ap (λ t. if a.is_plain && not (is_at_zero l) then None else t)
          (put_records-more a.is_big l a.records (r ∷ []) (followed a.bytes (Some (zeros r.size)))
          ∙ ap (put_record a.is_big l r) (put_records-followed a.is_big l a.records a.size a.bytes (zeros r.size) tidy.sized tidy.inside)
          ∙ put_at_end a.is_big l r a.size (put_records a.is_big l a.records a.bytes) (put_records-wide a.is_big l a.records a.size a.bytes tidy.sized) at w)
          ∙ if_followed (a.is_plain && not (is_at_zero l)) (put_records a.is_big l a.records a.bytes) (record_text a.is_big l r 0)
          ∙ ap (λ t. followed t (record_text a.is_big l r 0)) (sym (resolved-same l a a a.records a.bytes (record { order = refl; kind = refl; faults = omega arith }) refl refl));
    }

twice : (p : ℕ) (t : Text) (w : ℕ) (xs : List ℕ) → IsWide w t → patched p t (Some (overwrite p (zeros w) xs)) ≡ patched p t (Some xs)
unfolding patched
twice p None w xs wide = refl
twice p (Some ys) w xs wide = ap Some (overwrite-twice p ys (zeros w) xs (wide ys refl ∙ sym (length-zeros w)))

put_at : (big : Bool) (l : Layout) (r : Relocation) (n : ℕ) (t : Text) → IsWide n t → r.offset + r.size ≤ n → IsTrue (is_width r.size) →
    put_record big l r (patched r.offset (Some (zeros r.size)) t) ≡ patched r.offset (record_text big l r 0) t
unfolding put_record patched
put_at big l r n None wide le w = refl
put_at big l r n (Some xs) wide le w =
    let e : length xs ≡ n = wide xs refl in
    let inside : IsTrue (is_inside (length (overwrite r.offset (zeros r.size) xs)) r) =
    inside_at_end r (length (overwrite r.offset (zeros r.size) xs)) w (omega (arith, length-overwrite r.offset (zeros r.size) xs)) in
    let none : number_at_place big r.offset r.size (overwrite r.offset (zeros r.size) xs) ≡ 0 =
    number_of_zeros big r.offset r.size (overwrite r.offset (zeros r.size) xs)
    (subst (λ k. take k (drop r.offset (overwrite r.offset (zeros r.size) xs)) ≡ zeros r.size) (length-zeros r.size)
    (part-same r.offset (zeros r.size) xs (omega (arith, length-zeros r.size)))) in
    if_true (is_inside (length (overwrite r.offset (zeros r.size) xs)) r) _ inside
    ∙ ap (λ k. patched r.offset (record_text big l r k) (Some (overwrite r.offset (zeros r.size) xs))) none
    ∙ twice r.offset (record_text big l r 0) r.size xs (length-record_text big l r 0)

pub Records-patches : {a b c : Meaning} {r : Relocation} → Records a b r → Replaces b c r.offset (zeros r.size) → IsTrue (is_width r.size) →
    Patches a c r.offset r.size (λ big l. record_text big l r 0)
unfolding shown
Records-patches {a} {b} {c} {r} p q w =
    let same_size : c.size ≡ a.size = q.size ∙ p.size in
    let within : r.offset + r.size ≤ a.size = omega (arith, length-zeros r.size, q.within) in
    let rs : c.records ≡ a.records ++ r ∷ [] = q.records ∙ p.records in
    let bs : c.bytes ≡ patched r.offset (Some (zeros r.size)) a.bytes = q.told ∙ ap (patched r.offset (Some (zeros r.size))) p.told in
    let some_wide : IsWide r.size (Some (zeros r.size)) = λ xs e. let f : zeros r.size ≡ xs = cc in sym (ap length f) ∙ length-zeros r.size in
    record {
      same = IsSameWriter-trans p.same q.same;
      within = within;
      size = same_size;
      tidy = λ tidy. record {
        sized = λ xs e. patched-wide a.size r.offset (Some (zeros r.size)) a.bytes tidy.sized xs (sym bs ∙ e) ∙ sym same_size;
        inside = subst (λ k. AllInside c.size k) (sym rs)
            (AllInside-push c.size a.records r (AllInside-more a.size c.size a.records (omega arith) tidy.inside) (inside_at_end r c.size w (omega arith)));
      };
      clear = λ k n apart d. subst (λ q1. AllApart k n q1) (sym rs) (AllApart-push k n a.records r d apart);
      wide = λ big l. length-record_text big l r 0;
      resolves = λ tidy clear l.
          resolved-same l a c (a.records ++ r ∷ []) (patched r.offset (Some (zeros r.size)) a.bytes) (IsSameWriter-trans p.same q.same) rs bs
          ∙ ap (λ t. if a.is_plain && not (is_at_zero l) then None else t)
          (put_records-more a.is_big l a.records (r ∷ []) (patched r.offset (Some (zeros r.size)) a.bytes)
          ∙ ap (put_record a.is_big l r) (put_records-patched a.is_big l a.records r.offset r.size (Some (zeros r.size)) a.bytes some_wide clear)
          ∙ put_at a.is_big l r a.size (put_records a.is_big l a.records a.bytes) (put_records-wide a.is_big l a.records a.size a.bytes tidy.sized) within w)
          ∙ if_patched (a.is_plain && not (is_at_zero l)) r.offset (record_text a.is_big l r 0) (put_records a.is_big l a.records a.bytes)
          ∙ ap (λ t. patched r.offset (record_text a.is_big l r 0) t) (sym (resolved-same l a a a.records a.bytes (record { order = refl; kind = refl; faults = omega arith }) refl refl));
    }
