-- Items of lists, from what the calls in them answered.
use Rattle.std.proofs.Common.{◌≡◌, ◌∙◌, sym, ap, subst, ℕ, zero, suc, ◌+◌, ◌-◌, ◌<◌, ◌≤◌, length, take, drop, length-drop, arith, nat_le, List, Option, Some, None, Ok, Err, Bool, true, false, refl, ⊎_elim, if◌then◌else◌}
use Rattle.std.specs.Prelude.{◌==◌}
use Rattle.std.proofs.lemmas.Bool.{ne_eqb, eq-eqb, cases_eq, leb-true}
use Rattle.dw_base.specs.Numbers.{when, bytes_at, number_at, value_of, is_width}
use Rattle.dw_base.proofs.NumberLaws.{bind_parts, when_same}
use Rattle.dw_base.specs.declared.common.Encoding.{Encoding}
use Rattle.dw_read.specs.Reading.{Reading, IsReading, Passes, Reads, Read, left}
use Rattle.dw_read.specs.Reasons.{◌=>>◌, number_read, address_at, address_read}
use Rattle.dw_read.specs.Took.{Took}
use Rattle.dw_read.specs.declared.error.ReadError.{ReadError}
use Rattle.dw_read.specs.declared.error.ReadError.TheVariants.{UnknownRangeListsEntry}
use Rattle.dw_read.proofs.Laws.{IsReadOf, number_law, address_law}
use Rattle.dw_read.proofs.Chain.{Went, took_of, took, went, went_none, went_then, went_order}
use Rattle.dw_read.proofs.Lefts.{shorter}
use Rattle.dw_sources.specs.RawLists.{Span, Item, BaseAddress, AddressOrOffsetPair, marker, pair_of, pair_read, close, of_one, of_two, range_row, range_behind, span_read, location_read, range_at, range_read, location_at}

-- an address in the order of the reader that read before
pub address_after : (w x : ℕ) (old mid new : Reading) → Went old mid → Reads ℕ (address_at mid.is_big w) mid new x → Took ℕ (address_read old.is_big w) mid new x
address_after w x old mid new g h =
    subst (λ (b : Bool). Took ℕ (address_read b w) mid new x) (went_order old mid g) (took_of ℕ (address_at mid.is_big w) (address_read mid.is_big w) mid new x (address_law mid.is_big w) h)

pub address_not_after : (w : ℕ) (old mid : Reading) (bs : List ℕ) (e : ReadError) → Went old mid → address_read mid.is_big w bs ≡ Err e → address_read old.is_big w bs ≡ Err e
address_not_after w old mid bs e g h = subst (λ (b : Bool). address_read b w bs ≡ Err e) (went_order old mid g) h

pub address_took : (w x : ℕ) (old new : Reading) → Reads ℕ (address_at old.is_big w) old new x → Took ℕ (address_read old.is_big w) old new x
address_took w x old new h = took_of ℕ (address_at old.is_big w) (address_read old.is_big w) old new x (address_law old.is_big w) h

-- an address that was read has a width of addresses
when_true : {A : Type 0} (b : Bool) (x : Option A) (y : A) → when b x ≡ Some y → b ≡ true
when_true true x y h = refl
when_true false x y h = absurd (cc)

some_same : (a b : List ℕ × List ℕ) → Some a ≡ Some b → a ≡ b
some_same a b h = cc

some_same_number : (a b : ℕ × List ℕ) → Some a ≡ Some b → a ≡ b
some_same_number a b h = cc

pub has_width : (w x : ℕ) (old new : Reading) → Reads ℕ (address_at old.is_big w) old new x → is_width w ≡ true
unfolding address_at
has_width w x old new h = when_true (is_width w) (number_at old.is_big w (left old)) (x, left new) h.value

-- an address takes a byte at least
wide_enough : (w : ℕ) → is_width w ≡ true → 0 < w
wide_enough zero h = absurd (cc)
wide_enough (suc w) h = omega arith

address_rest : (big : Bool) (w x : ℕ) (bs rest : List ℕ) → address_at big w bs ≡ Some (x, rest) → length rest < length bs
unfolding address_at number_at bytes_at
address_rest big w x bs rest h =
    let n : number_at big w bs ≡ Some (x, rest) = when_same (is_width w) (number_at big w bs) (x, rest) h in
    let p = bind_parts (bytes_at w bs) (λ y. Some (value_of big y.0, y.1)) (x, rest) n in
    let b : Some (take w bs, drop w bs) ≡ Some p.0 = when_same (nat_le w (length bs)) (Some (take w bs, drop w bs)) p.0 p.1 in
    let d : drop w bs ≡ rest = ap (λ (y : List ℕ × List ℕ). y.1) (some_same (take w bs, drop w bs) p.0 b) ∙ ap (λ (y : ℕ × List ℕ). y.1) (some_same_number (value_of big p.0.0, p.0.1) (x, rest) p.2) in
    let l : length (drop w bs) ≡ length bs - w = length-drop w bs in
    let e : length rest ≡ length bs - w = ap length (sym d) ∙ l in
    let z : 0 < w = wide_enough w (when_true (is_width w) (number_at big w bs) (x, rest) h) in
    let k : w ≤ length bs = leb-true w (length bs) (when_true (nat_le w (length bs)) (Some (take w bs, drop w bs)) p.0 p.1) in
    omega arith

pub address_on : (w x : ℕ) (old new : Reading) → IsReading old → IsReading new → Reads ℕ (address_at old.is_big w) old new x → old.place < new.place
address_on w x old new i j h =
    let l : length (left new) + h.count ≡ length (left old) = shorter h.count old new i j h.passes in
    let r : length (left new) < length (left old) = address_rest old.is_big w x (left old) (left new) h.value in
    let d : new.place ≡ old.place + h.count = ap (λ (y : Reading). y.place) h.passes.is in
    omega arith

-- a place behind another one, and no less far on after more was read
pub further : (A : Type 0) (read : Read A) (old mid new : Reading) (x : A) → old.place < mid.place → Took A read mid new x → old.place < new.place
further A read old mid new x h t = let d : new.place ≡ mid.place + t.count = ap (λ (y : Reading). y.place) t.passes.is in omega arith

pub number_on : (n : ℕ) (old new : Reading) → 0 < n → Passes n old new → old.place < new.place
number_on n old new z h = let d : new.place ≡ old.place + n = ap (λ (y : Reading). y.place) h.is in omega arith

-- a pair, up to version 4
pub pair_no_begin : (big : Bool) (w : ℕ) (bs : List ℕ) (e : ReadError) → address_read big w bs ≡ Err e → pair_read big w bs ≡ Err e
unfolding pair_read
pair_no_begin big w bs e h = rw h refl

pair_no_second : (big : Bool) (w a : ℕ) (bs mid : List ℕ) (e : ReadError) → address_read big w bs ≡ Ok (a, mid) → address_read big w mid ≡ Err e → pair_read big w bs ≡ Err e
unfolding pair_read
pair_no_second big w a bs mid e h k = rw (h, k) refl

pub pair_no_end : (w a : ℕ) (old mid : Reading) (e : ReadError) → Reads ℕ (address_at old.is_big w) old mid a → address_read mid.is_big w (left mid) ≡ Err e → pair_read old.is_big w (left old) ≡ Err e
pair_no_end w a old mid e h k =
    let t = address_took w a old mid h in
    pair_no_second old.is_big w a (left old) (left mid) e t.value (address_not_after w old mid (left mid) e (went ℕ (address_read old.is_big w) old mid a t) k)

pair_is : (big : Bool) (w a b : ℕ) (bs mid rest : List ℕ) → address_read big w bs ≡ Ok (a, mid) → address_read big w mid ≡ Ok (b, rest) → pair_read big w bs ≡ Ok (pair_of w a b, rest)
unfolding pair_read
pair_is big w a b bs mid rest h k = rw (h, k) refl

pub pair_took : (w a b : ℕ) (o : Option Span) (old mid new : Reading) → o ≡ pair_of w a b → Reads ℕ (address_at old.is_big w) old mid a → Reads ℕ (address_at mid.is_big w) mid new b → Took (Option Span) (pair_read old.is_big w) old new o
pair_took w a b o old mid new e h k =
    let t = address_took w a old mid h in
    let g = went ℕ (address_read old.is_big w) old mid a t in
    let u = address_after w b old mid new g k in
    took (Option Span) (pair_read old.is_big w) old new o (went_then old mid new g (went ℕ (address_read old.is_big w) mid new b u))
    (pair_is old.is_big w a b (left old) (left mid) (left new) t.value u.value ∙ ap (λ (x : Option Span). Ok (x, left new)) (sym e))

pub pair_close : (w a b : ℕ) → a ≡ 0 → b ≡ 0 → None ≡ pair_of w a b
pair_close w a b h k = rw (h, k) refl

pair_by : (w a b : ℕ) → (a ≡ 0 → b ≡ 0 → ⊥) → pair_of w a b ≡ (if a == marker w then Some (BaseAddress b) else Some (AddressOrOffsetPair a b))
pair_by w a b n = ⊎_elim (λ (h : a ≡ 0). rw (h, ne_eqb b 0 (n h)) refl) (λ (h : a ≡ 0 → ⊥). rw (ne_eqb a 0 h) refl) (cases_eq a 0)

pub pair_base : (w a b : ℕ) → (a ≡ 0 → b ≡ 0 → ⊥) → a ≡ marker w → Some (BaseAddress b) ≡ pair_of w a b
pair_base w a b n h = sym (pair_by w a b n ∙ rw (eq-eqb a (marker w) h) refl)

pub pair_other : (w a b : ℕ) → (a ≡ 0 → b ≡ 0 → ⊥) → (a ≡ marker w → ⊥) → Some (AddressOrOffsetPair a b) ≡ pair_of w a b
pair_other w a b n h = sym (pair_by w a b n ∙ rw (ne_eqb a (marker w) h) refl)

-- what stands behind a kind of range lists
pub row_behind : (big : Bool) (w kind : ℕ) (p : Read (Option Span)) (bs : List ℕ) → range_row big w kind ≡ Some p → range_behind big w kind bs ≡ p bs
unfolding range_behind
row_behind big w kind p bs h = rw h refl

pub no_kind : (big : Bool) (w kind : ℕ) (bs : List ℕ) → range_row big w kind ≡ None → range_behind big w kind bs ≡ Err (UnknownRangeListsEntry kind)
unfolding range_behind
no_kind big w kind bs h = rw h refl

pub at_kind : (big : Bool) (w kind k : ℕ) (p : Read (Option Span)) → range_row big w k ≡ Some p → kind ≡ k → range_row big w kind ≡ Some p
at_kind big w kind k p h e = ap (range_row big w) e ∙ h

pub closed : (w kind : ℕ) (old : Reading) → IsReading old → range_row old.is_big w kind ≡ Some close → Took (Option Span) (range_behind old.is_big w kind) old old None
closed w kind old is h = took (Option Span) (range_behind old.is_big w kind) old old None (went_none old is) (row_behind old.is_big w kind close (left old) h)

module _ (big : Bool) (w kind : ℕ) (p : Read ℕ) (f : ℕ → Span) (row : range_row big w kind ≡ Some (of_one p f)) where
  pub one_range : (old new : Reading) (x : ℕ) → Took ℕ p old new x → Took (Option Span) (range_behind big w kind) old new (Some (f x))
  one_range old new x h =
      took (Option Span) (range_behind big w kind) old new (Some (f x)) (went ℕ p old new x h)
      (row_behind big w kind (of_one p f) (left old) row ∙ ap (λ r. r =>> λ a. Ok (Some (f a.0), a.1)) h.value)

  pub one_range_err : (bs : List ℕ) (e : ReadError) → p bs ≡ Err e → range_behind big w kind bs ≡ Err e
  one_range_err bs e h = row_behind big w kind (of_one p f) bs row ∙ ap (λ r. r =>> λ a. Ok (Some (f a.0), a.1)) h

module _ (big : Bool) (w kind : ℕ) (p q : Read ℕ) (f : ℕ → ℕ → Span) (row : range_row big w kind ≡ Some (of_two p q f)) where
  pub two_range : (old mid new : Reading) (x y : ℕ) → Took ℕ p old mid x → Took ℕ q mid new y → Took (Option Span) (range_behind big w kind) old new (Some (f x y))
  two_range old mid new x y h l =
      took (Option Span) (range_behind big w kind) old new (Some (f x y)) (went_then old mid new (went ℕ p old mid x h) (went ℕ q mid new y l))
      (row_behind big w kind (of_two p q f) (left old) row ∙ ap (λ r. r =>> λ a. q a.1 =>> λ b. Ok (Some (f a.0 b.0), b.1)) h.value ∙ ap (λ r. r =>> λ b. Ok (Some (f x b.0), b.1)) l.value)

  pub two_range_first : (bs : List ℕ) (e : ReadError) → p bs ≡ Err e → range_behind big w kind bs ≡ Err e
  two_range_first bs e h = row_behind big w kind (of_two p q f) bs row ∙ ap (λ r. r =>> λ a. q a.1 =>> λ b. Ok (Some (f a.0 b.0), b.1)) h

  pub two_range_second : (old mid : Reading) (x : ℕ) (e : ReadError) → Took ℕ p old mid x → q (left mid) ≡ Err e → range_behind big w kind (left old) ≡ Err e
  two_range_second old mid x e h l =
      row_behind big w kind (of_two p q f) (left old) row ∙ ap (λ r. r =>> λ a. q a.1 =>> λ b. Ok (Some (f a.0 b.0), b.1)) h.value ∙ ap (λ r. r =>> λ b. Ok (Some (f x b.0), b.1)) l

-- an item by its version
module _ (behind : Bool → ℕ → ℕ → Read (Option Span)) (e : Encoding) where
  pub five_no_kind : (big : Bool) (bs : List ℕ) (x : ReadError) → e.version ≡ 5 → number_read big 1 bs ≡ Err x → span_read behind big e bs ≡ Err x
  five_no_kind big bs x v h = rw (v, h) refl

  five_is : (big : Bool) (kind : ℕ) (bs mid : List ℕ) → e.version ≡ 5 → number_read big 1 bs ≡ Ok (kind, mid) → span_read behind big e bs ≡ behind big e.address_size kind mid
  five_is big kind bs mid v h = rw (v, h) refl

  pub old_is : (big : Bool) (bs : List ℕ) → (e.version ≡ 5 → ⊥) → span_read behind big e bs ≡ pair_read big e.address_size bs
  old_is big bs v = rw (ne_eqb e.version 5 v) refl

  module _ (kind : ℕ) (old mid : Reading) (v : e.version ≡ 5) (read : Reads ℕ (number_at old.is_big 1) old mid kind) where
    known : Took ℕ (number_read old.is_big 1) old mid kind
    known = took_of ℕ (number_at old.is_big 1) (number_read old.is_big 1) old mid kind (number_law old.is_big 1) read

    went_kind : Went old mid
    went_kind = went ℕ (number_read old.is_big 1) old mid kind known

    pub five_took : (new : Reading) (o : Option Span) → Took (Option Span) (behind mid.is_big e.address_size kind) mid new o → Took (Option Span) (span_read behind old.is_big e) old new o
    five_took new o h =
        took (Option Span) (span_read behind old.is_big e) old new o (went_then old mid new went_kind (went (Option Span) (behind mid.is_big e.address_size kind) mid new o h))
        (five_is old.is_big kind (left old) (left mid) v known.value ∙ ap (λ (b : Bool). behind b e.address_size kind (left mid)) (sym (went_order old mid went_kind)) ∙ h.value)

    pub five_not : (x : ReadError) → behind mid.is_big e.address_size kind (left mid) ≡ Err x → span_read behind old.is_big e (left old) ≡ Err x
    five_not x h = five_is old.is_big kind (left old) (left mid) v known.value ∙ ap (λ (b : Bool). behind b e.address_size kind (left mid)) (sym (went_order old mid went_kind)) ∙ h

  pub old_took : (old new : Reading) (o : Option Span) → (e.version ≡ 5 → ⊥) → Took (Option Span) (pair_read old.is_big e.address_size) old new o → Took (Option Span) (span_read behind old.is_big e) old new o
  old_took old new o v h = took (Option Span) (span_read behind old.is_big e) old new o (went (Option Span) (pair_read old.is_big e.address_size) old new o h) (old_is old.is_big (left old) v ∙ h.value)

pub range_law : (big : Bool) (e : Encoding) → IsReadOf (Option Span) (range_at big e) (range_read big e)
unfolding range_at
range_law big e bytes = refl

pub location_law : (big : Bool) (e : Encoding) → IsReadOf (Option Item) (location_at big e) (location_read big e)
unfolding location_at
location_law big e bytes = refl
