-- An item takes a byte at least.
use Rattle.std.proofs.Common.{◌≡◌, sym, ap, ℕ, zero, suc, ◌+◌, ◌<◌, ◌≤◌, Bool, true, false, List, [], ◌∷◌, length, take, drop, Option, Some, None, refl, arith, nat_le, length-drop, if◌then◌else◌}
use Rattle.std.proofs.lemmas.Bool.{leb-true}
use Rattle.std.proofs.lemmas.Option.{none-some}
use Rattle.dw_base.specs.Numbers.{Parser, ◌>>=◌, when, bytes_at, number_at, value_of, is_width}
use Rattle.dw_base.specs.Leb128.{uleb_at}
use Rattle.dw_base.proofs.NumberLaws.{bind_parts}
use Rattle.dw_read.specs.Reasons.{uleb_read}
use Rattle.dw_read.proofs.Laws.{read_is, uleb_law}
use Rattle.dw_read.proofs.Declared.{uleb_shorter}
use Rattle.dw_lists.specs.Items as written

-- no more bytes are left behind what is read, and fewer
abbrev NoMore : {A : Type 0} → List ℕ → Option (A × List ℕ) → Type 0
NoMore {A = A} bytes o = (x : A × List ℕ) → o ≡ Some x → length x.1 ≤ length bytes

abbrev pub Fewer : {A : Type 0} → List ℕ → Option (A × List ℕ) → Type 0
Fewer {A = A} bytes o = (x : A × List ℕ) → o ≡ Some x → length x.1 < length bytes

rest_is : {A : Type 0} (x y : A × List ℕ) → ◌≡◌ {A = Option (A × List ℕ)} (Some x) (Some y) → length y.1 ≡ length x.1
rest_is x y e = let k : x ≡ y = cc in ap (λ (z : _ × List ℕ). length z.1) (sym k)

none_left : {A : Type 0} (bytes : List ℕ) → NoMore {A = A} bytes None
none_left bytes x e = absurd (none-some _ e)

all_left : {A : Type 0} (a : A) (bytes : List ℕ) → NoMore bytes (Some (a, bytes))
all_left a bytes x e = let k = rest_is (a, bytes) x e in omega (arith, k)

either : {A : Type 0} (b : Bool) (bytes : List ℕ) (o p : Option (A × List ℕ)) → NoMore bytes o → NoMore bytes p → NoMore bytes (if b then o else p)
either true bytes o p h k = h
either false bytes o p h k = k

no_more_then : {A B : Type 0} (bytes : List ℕ) (o : Option (A × List ℕ)) (g : A × List ℕ → Option (B × List ℕ)) → NoMore bytes o → ((a : A × List ℕ) → NoMore a.1 (g a)) → NoMore bytes (o >>= g)
no_more_then bytes o g h k x e = let t = bind_parts o g x e in let a = h t.0 t.1 in let b = k t.0 x t.2 in omega (arith, a, b)

fewer_then : {A B : Type 0} (bytes : List ℕ) (o : Option (A × List ℕ)) (g : A × List ℕ → Option (B × List ℕ)) → Fewer bytes o → ((a : A × List ℕ) → NoMore a.1 (g a)) → Fewer bytes (o >>= g)
fewer_then bytes o g h k x e = let t = bind_parts o g x e in let a = h t.0 t.1 in let b = k t.0 x t.2 in omega (arith, a, b)

weaker : {A : Type 0} (bytes : List ℕ) (o : Option (A × List ℕ)) → Fewer bytes o → NoMore bytes o
weaker bytes o h x e = let l = h x e in omega (arith, l)

-- Numbers

when_parts : {A : Type 0} (b : Bool) (x : A) (y : A) → when b (Some x) ≡ Some y → (b ≡ true) × (◌≡◌ {A = Option A} (Some x) (Some y))
when_parts true x y e = (refl, e)
when_parts false x y e = absurd (none-some _ e)

bytes_rest : (n : ℕ) (bytes : List ℕ) (x : List ℕ × List ℕ) → bytes_at n bytes ≡ Some x → length x.1 + n ≡ length bytes
unfolding bytes_at
bytes_rest n bytes x e =
    let t = when_parts (nat_le n (length bytes)) (take n bytes, drop n bytes) x e in
    let k = rest_is (take n bytes, drop n bytes) x t.1 in
    let l = leb-true n (length bytes) t.0 in
    omega (arith, k, l, length-drop n bytes)

number_rest : (big : Bool) (w : ℕ) (bytes : List ℕ) (x : ℕ × List ℕ) → number_at big w bytes ≡ Some x → length x.1 + w ≡ length bytes
unfolding number_at
number_rest big w bytes x e =
    let t = bind_parts (bytes_at w bytes) (λ (y : List ℕ × List ℕ). Some (value_of big y.0, y.1)) x e in
    let k = rest_is (value_of big t.0.0, t.0.1) x t.2 in
    let l = bytes_rest w bytes t.0 t.1 in
    omega (arith, k, l)

bytes_left : (n : ℕ) (bytes : List ℕ) → NoMore bytes (bytes_at n bytes)
bytes_left n bytes x e = let l = bytes_rest n bytes x e in omega (arith, l)

number_left : (big : Bool) (w : ℕ) (bytes : List ℕ) → NoMore bytes (number_at big w bytes)
number_left big w bytes x e = let l = number_rest big w bytes x e in omega (arith, l)

uleb_left : (bytes : List ℕ) → NoMore bytes (uleb_at bytes)
uleb_left bytes x e = let l = uleb_shorter bytes x (read_is ℕ uleb_at uleb_read bytes x uleb_law e) in omega (arith, l)

wide : (w : ℕ) → is_width w ≡ true → 0 < w
wide zero h = absurd (cc)
wide (suc w) h = omega arith

-- Addresses of items

one_left : (q : Parser ℕ) (f : ℕ → written.Span) (bytes : List ℕ) → ((bs : List ℕ) → NoMore bs (q bs)) → NoMore bytes (written.one q f bytes)
one_left q f bytes h = no_more_then bytes (q bytes) (λ a. Some (Some (f a.0), a.1)) (h bytes) (λ a. all_left (Some (f a.0)) a.1)

two_left : (q s : Parser ℕ) (f : ℕ → ℕ → written.Span) (bytes : List ℕ) → ((bs : List ℕ) → NoMore bs (q bs)) → ((bs : List ℕ) → NoMore bs (s bs)) → NoMore bytes (written.two q s f bytes)
two_left q s f bytes h k =
    no_more_then bytes (q bytes) (λ a. s a.1 >>= λ b. Some (Some (f a.0 b.0), b.1)) (h bytes)
    (λ a. no_more_then a.1 (s a.1) (λ b. Some (Some (f a.0 b.0), b.1)) (k a.1) (λ b. all_left (Some (f a.0 b.0)) b.1))

kind_left : (loc big : Bool) (w kind : ℕ) (bytes : List ℕ) → NoMore bytes (written.kind_at loc big w kind bytes)
kind_left false big w kind bytes =
    let n = number_left big w in
    either _ bytes _ _ (all_left None bytes)
    (either _ bytes _ _ (one_left uleb_at written.BaseIndex bytes uleb_left)
    (either _ bytes _ _ (two_left uleb_at uleb_at written.IndexEnd bytes uleb_left uleb_left)
    (either _ bytes _ _ (two_left uleb_at uleb_at written.IndexLength bytes uleb_left uleb_left)
    (either _ bytes _ _ (two_left uleb_at uleb_at written.Pair bytes uleb_left uleb_left)
    (either _ bytes _ _ (one_left (number_at big w) written.Base bytes n)
    (either _ bytes _ _ (two_left (number_at big w) (number_at big w) written.StartEnd bytes n n)
    (either _ bytes _ _ (two_left (number_at big w) uleb_at written.StartLength bytes n uleb_left) (none_left bytes))))))))
kind_left true big w kind bytes =
    let n = number_left big w in
    either _ bytes _ _ (all_left None bytes)
    (either _ bytes _ _ (one_left uleb_at written.BaseIndex bytes uleb_left)
    (either _ bytes _ _ (two_left uleb_at uleb_at written.IndexEnd bytes uleb_left uleb_left)
    (either _ bytes _ _ (two_left uleb_at uleb_at written.IndexLength bytes uleb_left uleb_left)
    (either _ bytes _ _ (two_left uleb_at uleb_at written.Pair bytes uleb_left uleb_left)
    (either _ bytes _ _ (all_left (Some written.Default) bytes)
    (either _ bytes _ _ (one_left (number_at big w) written.Base bytes n)
    (either _ bytes _ _ (two_left (number_at big w) (number_at big w) written.StartEnd bytes n n)
    (either _ bytes _ _ (two_left (number_at big w) uleb_at written.StartLength bytes n uleb_left) (none_left bytes)))))))))

new_fewer : (loc big : Bool) (w : ℕ) (bytes : List ℕ) → Fewer bytes (written.new_span_at loc big w bytes)
unfolding written.new_span_at
new_fewer loc big w [] x e = absurd (none-some _ e)
new_fewer loc big w (kind ∷ bytes) x e = let l = kind_left loc big w kind bytes x e in omega (arith, l)

old_fewer : (big : Bool) (w : ℕ) (bytes : List ℕ) → is_width w ≡ true → Fewer bytes (written.old_span_at big w bytes)
unfolding written.old_span_at
old_fewer big w bytes h =
    fewer_then bytes (number_at big w bytes) (λ a. number_at big w a.1 >>= λ b. Some (written.old_span w a.0 b.0, b.1))
    (λ x e. let l = number_rest big w bytes x e in let z = wide w h in omega (arith, l, z))
    (λ a. no_more_then a.1 (number_at big w a.1) (λ b. Some (written.old_span w a.0 b.0, b.1)) (number_left big w a.1) (λ b. all_left (written.old_span w a.0 b.0) b.1))

span_fewer : (five loc big : Bool) (w : ℕ) (bytes : List ℕ) → is_width w ≡ true → Fewer bytes (written.span_at five loc big w bytes)
span_fewer true loc big w bytes h = new_fewer loc big w bytes
span_fewer false loc big w bytes h = old_fewer big w bytes h

-- Expressions

count_left : (five big : Bool) (bytes : List ℕ) → NoMore bytes (written.count_at five big bytes)
count_left true big bytes = uleb_left bytes
count_left false big bytes = number_left big 2 bytes

expression_left : (has five big : Bool) (bytes : List ℕ) → NoMore bytes (written.expression_at has five big bytes)
expression_left false five big bytes = all_left None bytes
expression_left true five big bytes =
    no_more_then bytes (written.count_at five big bytes) (λ n. bytes_at n.0 n.1 >>= λ x. Some (Some x.0, x.1)) (count_left five big bytes)
    (λ n. no_more_then n.1 (bytes_at n.0 n.1) (λ x. Some (Some x.0, x.1)) (bytes_left n.0 n.1) (λ x. all_left (Some x.0) x.1))

rest_left : (five loc big : Bool) (o : Option written.Span) (bytes : List ℕ) → NoMore bytes (written.rest_at five loc big o bytes)
rest_left five loc big None bytes = all_left None bytes
rest_left five loc big (Some s) bytes =
    no_more_then bytes (written.expression_at (written.is_located loc s) five big bytes) (λ x. Some (Some (record { span = s; expression = x.0 }), x.1))
    (expression_left (written.is_located loc s) five big bytes) (λ x. all_left (Some (record { span = s; expression = x.0 })) x.1)

pub item_fewer : (five loc big : Bool) (w : ℕ) (bytes : List ℕ) → is_width w ≡ true → Fewer bytes (written.item_at five loc big w bytes)
unfolding written.item_at
item_fewer five loc big w bytes h =
    fewer_then bytes (written.span_at five loc big w bytes) (λ s. written.rest_at five loc big s.0 s.1) (span_fewer five loc big w bytes h) (λ s. rest_left five loc big s.0 s.1)
