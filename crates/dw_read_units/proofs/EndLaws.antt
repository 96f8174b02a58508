-- What follows a table is the end of the bytes that it was read from.
use Rattle.std.proofs.Common.{◌≡◌, ◌∙◌, sym, ap, ℕ, zero, suc, ◌+◌, ◌-◌, ◌*◌, List, [], ◌∷◌, ◌++◌, length, drop, Bool, true, false, not, Option, Some, None, ℤ, refl, arith, append_assoc, length-append, nat_lt, nat_eq, if◌then◌else◌}
use Rattle.std.proofs.Math.Seq.{drop-append_seam}
use Rattle.dw_base.specs.Numbers.{◌>>=◌, when}
use Rattle.dw_base.specs.Leb128.{groups_at, uleb_at, uleb16_at, signed_seven, above_seven, signed_groups_at, sleb_at}
use Rattle.dw_base.specs.Forms.{implicit_const}
use Rattle.dw_base.specs.Abbreviations.{Specification, Shape, Declaration, constant_at, specifications_at, children_at, shape_at, declarations_at, table_at, is_new_code}
use Rattle.dw_base.proofs.NumberLaws.{bind_parts, when_same}

-- some bytes stand before the rest
pub record IsEnd (bytes rest : List ℕ) : Type 0 where
  pub front : List ℕ
  pub is : bytes ≡ front ++ rest

end_none : (bytes : List ℕ) → IsEnd bytes bytes
end_none bytes = record { front = []; is = refl }

end_one : (b : ℕ) (bytes rest : List ℕ) → IsEnd bytes rest → IsEnd (b ∷ bytes) rest
end_one b bytes rest h = record { front = b ∷ h.front; is = ap (λ (x : List ℕ). b ∷ x) h.is }

end_then : (a b c : List ℕ) → IsEnd a b → IsEnd b c → IsEnd a c
end_then a b c h k = record { front = h.front ++ k.front; is = h.is ∙ ap (λ (x : List ℕ). h.front ++ x) k.is ∙ sym (append_assoc h.front k.front c) }

-- the pair that is given has the rest
end_as : {A : Type 0} (bytes rest : List ℕ) (v : A) (x : A × List ℕ) → IsEnd bytes rest → Some (v, rest) ≡ Some x → IsEnd bytes x.1
end_as {A = A} bytes rest v x h e = let r : (v, rest) ≡ x = cc in let q : rest ≡ x.1 = ap (λ (y : A × List ℕ). y.1) r in record { front = h.front; is = h.is ∙ ap (λ (z : List ℕ). h.front ++ z) q }

pub end_drop : (bytes rest : List ℕ) → IsEnd bytes rest → rest ≡ drop (length bytes - length rest) bytes
end_drop bytes rest h =
    let l : length bytes ≡ length h.front + length rest = ap length h.is ∙ length-append h.front rest in
    let n : length h.front ≡ length bytes - length rest = omega arith in
    sym (drop-append_seam h.front rest) ∙ sym (ap (drop (length h.front)) h.is) ∙ ap (λ (k : ℕ). drop k bytes) n

first_end : (t : Bool) (b : ℕ) (bs : List ℕ) (x : ℕ × List ℕ) → ((y : ℕ × List ℕ) → groups_at bs ≡ Some y → IsEnd bs y.1)
    → (if t then Some (b, bs) else (groups_at bs >>= λ y. Some (b - 128 + 128 * y.0, y.1))) ≡ Some x → IsEnd (b ∷ bs) x.1
first_end true b bs x h e = end_as (b ∷ bs) bs b x (end_one b bs bs (end_none bs)) e
first_end false b bs x h e =
    let p = bind_parts (groups_at bs) (λ (y : ℕ × List ℕ). Some (b - 128 + 128 * y.0, y.1)) x e in
    end_as (b ∷ bs) p.0.1 _ x (end_one b bs p.0.1 (h p.0 p.1)) p.2

groups_end : (bs : List ℕ) (x : ℕ × List ℕ) → groups_at bs ≡ Some x → IsEnd bs x.1
unfolding groups_at
groups_end [] x e = absurd (cc)
groups_end (b ∷ bs) x e = first_end (nat_lt b 128) b bs x (groups_end bs) e

signed_first_end : (t : Bool) (b : ℕ) (bs : List ℕ) (x : ℤ × List ℕ) → ((y : ℤ × List ℕ) → signed_groups_at bs ≡ Some y → IsEnd bs y.1)
    → (if t then Some (signed_seven b, bs) else (signed_groups_at bs >>= λ y. Some (above_seven (b - 128) y.0, y.1))) ≡ Some x → IsEnd (b ∷ bs) x.1
signed_first_end true b bs x h e = end_as (b ∷ bs) bs (signed_seven b) x (end_one b bs bs (end_none bs)) e
signed_first_end false b bs x h e =
    let p = bind_parts (signed_groups_at bs) (λ (y : ℤ × List ℕ). Some (above_seven (b - 128) y.0, y.1)) x e in
    end_as (b ∷ bs) p.0.1 _ x (end_one b bs p.0.1 (h p.0 p.1)) p.2

signed_groups_end : (bs : List ℕ) (x : ℤ × List ℕ) → signed_groups_at bs ≡ Some x → IsEnd bs x.1
unfolding signed_groups_at
signed_groups_end [] x e = absurd (cc)
signed_groups_end (b ∷ bs) x e = signed_first_end (nat_lt b 128) b bs x (signed_groups_end bs) e

-- a value that passed a test is the one that was read before it
tested_end : {A : Type 0} (t : Bool) (bytes : List ℕ) (y x : A × List ℕ) → IsEnd bytes y.1 → when t (Some y) ≡ Some x → IsEnd bytes x.1
tested_end t bytes y x h e = end_as bytes y.1 y.0 x h (when_same t (Some y) x e)

uleb_end : (bs : List ℕ) (x : ℕ × List ℕ) → uleb_at bs ≡ Some x → IsEnd bs x.1
unfolding uleb_at
uleb_end bs x e = let p = bind_parts (groups_at bs) _ x e in tested_end _ bs p.0 x (groups_end bs p.0 p.1) p.2

uleb16_end : (bs : List ℕ) (x : ℕ × List ℕ) → uleb16_at bs ≡ Some x → IsEnd bs x.1
unfolding uleb16_at
uleb16_end bs x e = let p = bind_parts (uleb_at bs) _ x e in tested_end _ bs p.0 x (uleb_end bs p.0 p.1) p.2

sleb_end : (bs : List ℕ) (x : ℤ × List ℕ) → sleb_at bs ≡ Some x → IsEnd bs x.1
unfolding sleb_at
sleb_end bs x e = let p = bind_parts (signed_groups_at bs) _ x e in tested_end _ bs p.0 x (signed_groups_end bs p.0 p.1) p.2

constant_end_by : (t : Bool) (bs : List ℕ) (x : Option ℤ × List ℕ) → (if t then (sleb_at bs >>= λ y. Some (Some y.0, y.1)) else Some (None, bs)) ≡ Some x → IsEnd bs x.1
constant_end_by true bs x e = let p = bind_parts (sleb_at bs) (λ (y : ℤ × List ℕ). Some (Some y.0, y.1)) x e in end_as bs p.0.1 (Some p.0.0) x (sleb_end bs p.0 p.1) p.2
constant_end_by false bs x e = end_as bs bs None x (end_none bs) e

constant_end : (form : ℕ) (bs : List ℕ) (x : Option ℤ × List ℕ) → constant_at form bs ≡ Some x → IsEnd bs x.1
constant_end form bs x e = constant_end_by (nat_eq form implicit_const) bs x e

-- what follows a name and a form
named_end : (fuel form : ℕ) (t : Bool) (bs : List ℕ) (name : ℕ) (x : List Specification × List ℕ) → ((cs : List ℕ) (y : List Specification × List ℕ) → specifications_at fuel cs ≡ Some y → IsEnd cs y.1)
    → (if t then when (nat_eq form 0) (Some ([], bs)) else (constant_at form bs >>= λ constant. specifications_at fuel constant.1 >>= λ more. Some (record { name = name; form = form; constant = constant.0 } ∷ more.0, more.1))) ≡ Some x → IsEnd bs x.1
named_end fuel form true bs name x h e = tested_end _ bs ([], bs) x (end_none bs) e
named_end fuel form false bs name x h e =
    let c = bind_parts (constant_at form bs) _ x e in
    let m = bind_parts (specifications_at fuel c.0.1) _ x c.2 in
    end_as bs m.0.1 _ x (end_then bs c.0.1 m.0.1 (constant_end form bs c.0 c.1) (h c.0.1 m.0 m.1)) m.2

specifications_end : (fuel : ℕ) (bs : List ℕ) (x : List Specification × List ℕ) → specifications_at fuel bs ≡ Some x → IsEnd bs x.1
unfolding specifications_at
specifications_end zero bs x e = absurd (cc)
specifications_end (suc fuel) bs x e =
    let n = bind_parts (uleb16_at bs) _ x e in
    let f = bind_parts (uleb16_at n.0.1) _ x n.2 in
    end_then bs n.0.1 x.1 (uleb16_end bs n.0 n.1) (end_then n.0.1 f.0.1 x.1 (uleb16_end n.0.1 f.0 f.1) (named_end fuel f.0.0 (nat_eq n.0.0 0) f.0.1 n.0.0 x (specifications_end fuel) f.2))

children_end : (bs : List ℕ) (x : Bool × List ℕ) → children_at bs ≡ Some x → IsEnd bs x.1
children_end [] x e = absurd (cc)
children_end (zero ∷ bs) x e = end_as (zero ∷ bs) bs false x (end_one zero bs bs (end_none bs)) e
children_end (suc zero ∷ bs) x e = end_as (1 ∷ bs) bs true x (end_one 1 bs bs (end_none bs)) e
children_end (suc (suc n) ∷ bs) x e = absurd (cc)

shape_end : (bs : List ℕ) (x : Shape × List ℕ) → shape_at bs ≡ Some x → IsEnd bs x.1
unfolding shape_at
shape_end bs x e =
    let t = bind_parts (uleb16_at bs) _ x e in
    let c = bind_parts (children_at t.0.1) _ x (when_same (not (nat_eq t.0.0 0)) _ x t.2) in
    let a = bind_parts (specifications_at (length c.0.1) c.0.1) _ x c.2 in
    end_as bs a.0.1 _ x (end_then bs t.0.1 a.0.1 (uleb16_end bs t.0 t.1) (end_then t.0.1 c.0.1 a.0.1 (children_end t.0.1 c.0 c.1) (specifications_end (length c.0.1) c.0.1 a.0 a.1))) a.2

-- what follows a code
coded_end : (fuel code : ℕ) (t : Bool) (bs : List ℕ) (x : List Declaration × List ℕ) → ((cs : List ℕ) (y : List Declaration × List ℕ) → declarations_at fuel cs ≡ Some y → IsEnd cs y.1)
    → (if t then Some ([], bs) else (shape_at bs >>= λ shape. declarations_at fuel shape.1 >>= λ more. when (is_new_code code more.0) (Some (record { code = code; shape = shape.0 } ∷ more.0, more.1)))) ≡ Some x → IsEnd bs x.1
coded_end fuel code true bs x h e = end_as bs bs [] x (end_none bs) e
coded_end fuel code false bs x h e =
    let s = bind_parts (shape_at bs) _ x e in
    let m = bind_parts (declarations_at fuel s.0.1) _ x s.2 in
    tested_end _ bs _ x (end_then bs s.0.1 m.0.1 (shape_end bs s.0 s.1) (h s.0.1 m.0 m.1)) m.2

declarations_end : (fuel : ℕ) (bs : List ℕ) (x : List Declaration × List ℕ) → declarations_at fuel bs ≡ Some x → IsEnd bs x.1
unfolding declarations_at
declarations_end zero bs x e = absurd (cc)
declarations_end (suc fuel) bs x e =
    let c = bind_parts (uleb_at bs) _ x e in
    end_then bs c.0.1 x.1 (uleb_end bs c.0 c.1) (coded_end fuel c.0.0 (nat_eq c.0.0 0) c.0.1 x (declarations_end fuel) c.2)

pub table_end : (bs : List ℕ) (x : List Declaration × List ℕ) → table_at bs ≡ Some x → IsEnd bs x.1
unfolding table_at
table_end bs x e = declarations_end (length bs) bs x e
