-- Items of location lists, from what the calls in them answered.
use Rattle.std.proofs.Common.{◌≡◌, ◌∙◌, sym, ap, subst, ℕ, List, Option, Some, None, Ok, Err, Bool, true, false, refl}
use Rattle.std.proofs.lemmas.Bool.{ne_eqb}
use Rattle.dw_base.specs.Numbers.{number_at}
use Rattle.dw_base.specs.declared.common.Encoding.{Encoding}
use Rattle.dw_base.specs.declared.constants.TheConstants.{DW_LLE_default_location}
use Rattle.dw_read.specs.Reading.{Reading, IsReading, Passes, Reads, Read, left, part}
use Rattle.dw_read.specs.Reasons.{bytes_read, number_read}
use Rattle.dw_read.specs.Took.{Took, option_of}
use Rattle.dw_read.specs.declared.error.ReadError.{ReadError}
use Rattle.dw_read.specs.declared.error.ReadError.TheVariants.{UnknownLocListsEntry}
use Rattle.dw_read.proofs.Laws.{number_law}
use Rattle.dw_read.proofs.Chain.{Went, took_of, took, went, went_of, went_none, went_then, went_order}
use Rattle.dw_read.proofs.HeaderParts.{bytes_took}
use Rattle.dw_sources.specs.Operands.{block_read}
use Rattle.dw_sources.specs.RawLists.{Span, Item, DefaultLocation, location_row, range_behind, location_behind, expression_read, is_located, behind_span, location_span_read, location_read}
use Rattle.dw_sources.specs.RawListViews.{located_item, base_item, spot_span}
use Rattle.dw_sources.specs.declared.location_item.Spot.{Spot}
use Rattle.dw_sources.specs.declared.location_item.Spot.TheVariants as spot

-- the default location has no operands
pub default_took : (w kind : ℕ) (old : Reading) → IsReading old → kind ≡ DW_LLE_default_location.0 → Took (Option Span) (location_behind old.is_big w kind) old old (Some DefaultLocation)
unfolding location_behind location_row
default_took w kind old is h = took (Option Span) (location_behind old.is_big w kind) old old (Some DefaultLocation) (went_none old is) (rw h refl)

-- kinds that both sorts of lists have
pub same_kind : (kind k n : ℕ) → kind ≡ n → ((big : Bool) (w : ℕ) (bytes : List ℕ) → location_behind big w n bytes ≡ range_behind big w k bytes) → (big : Bool) (w : ℕ) (bytes : List ℕ) → location_behind big w kind bytes ≡ range_behind big w k bytes
same_kind kind k n h f big w bytes = ap (λ (m : ℕ). location_behind big w m bytes) h ∙ f big w bytes

pub range_took : (w kind k : ℕ) (old new : Reading) (o : Option Span) → ((big : Bool) (w : ℕ) (bytes : List ℕ) → location_behind big w kind bytes ≡ range_behind big w k bytes) → Took (Option Span) (range_behind old.is_big w k) old new o → Took (Option Span) (location_behind old.is_big w kind) old new o
range_took w kind k old new o f h = took (Option Span) (location_behind old.is_big w kind) old new o (went (Option Span) (range_behind old.is_big w k) old new o h) (f old.is_big w (left old) ∙ h.value)

-- the bytes of an expression
pub expression_five : (e : Encoding) (big : Bool) (bs : List ℕ) → e.version ≡ 5 → expression_read big e bs ≡ block_read bs
unfolding expression_read
expression_five e big bs v = rw v refl

pub five_expression : (e : Encoding) (old new : Reading) (x : List ℕ) → e.version ≡ 5 → Took (List ℕ) block_read old new x → Took (List ℕ) (expression_read old.is_big e) old new x
five_expression e old new x v h = took (List ℕ) (expression_read old.is_big e) old new x (went (List ℕ) block_read old new x h) (expression_five e old.is_big (left old) v ∙ h.value)

pub old_uncounted : (e : Encoding) (big : Bool) (bs : List ℕ) (x : ReadError) → (e.version ≡ 5 → ⊥) → number_read big 2 bs ≡ Err x → expression_read big e bs ≡ Err x
unfolding expression_read
old_uncounted e big bs x v h = rw (ne_eqb e.version 5 v, h) refl

old_short : (e : Encoding) (big : Bool) (n : ℕ) (bs mid : List ℕ) (x : ReadError) → (e.version ≡ 5 → ⊥) → number_read big 2 bs ≡ Ok (n, mid) → bytes_read n mid ≡ Err x → expression_read big e bs ≡ Err x
unfolding expression_read
old_short e big n bs mid x v h k = rw (ne_eqb e.version 5 v, h, k) refl

pub old_cut : (e : Encoding) (n : ℕ) (old mid : Reading) (x : ReadError) → (e.version ≡ 5 → ⊥) → Reads ℕ (number_at old.is_big 2) old mid n → bytes_read n (left mid) ≡ Err x → expression_read old.is_big e (left old) ≡ Err x
old_cut e n old mid x v h k = old_short e old.is_big n (left old) (left mid) x v (took_of ℕ (number_at old.is_big 2) (number_read old.is_big 2) old mid n (number_law old.is_big 2) h).value k

old_bytes : (e : Encoding) (big : Bool) (n : ℕ) (bs mid x rest : List ℕ) → (e.version ≡ 5 → ⊥) → number_read big 2 bs ≡ Ok (n, mid) → bytes_read n mid ≡ Ok (x, rest) → expression_read big e bs ≡ Ok (x, rest)
unfolding expression_read
old_bytes e big n bs mid x rest v h k = rw (ne_eqb e.version 5 v, h, k) refl

pub old_expression : (e : Encoding) (n : ℕ) (old mid new r : Reading) → (e.version ≡ 5 → ⊥) → Reads ℕ (number_at old.is_big 2) old mid n → IsReading mid → r ≡ part n mid → Passes n mid new → Took (List ℕ) (expression_read old.is_big e) old new (left r)
old_expression e n old mid new r v h is q p =
    let t = took_of ℕ (number_at old.is_big 2) (number_read old.is_big 2) old mid n (number_law old.is_big 2) h in
    took (List ℕ) (expression_read old.is_big e) old new (left r) (went_then old mid new (went ℕ (number_read old.is_big 2) old mid n t) (went_of n mid new p)) (old_bytes e old.is_big n (left old) (left mid) (left r) (left new) v t.value (bytes_took n mid new r is q p))

-- an item
pub no_span : (big : Bool) (e : Encoding) (bs : List ℕ) (x : ReadError) → location_span_read big e bs ≡ Err x → location_read big e bs ≡ Err x
unfolding location_read
no_span big e bs x h = rw h refl

by_span : (big : Bool) (e : Encoding) (o : Option Span) (bs mid : List ℕ) → location_span_read big e bs ≡ Ok (o, mid) → location_read big e bs ≡ behind_span big e o mid
unfolding location_read
by_span big e o bs mid h = rw h refl

pub closed_locations : (e : Encoding) (old new : Reading) → Took (Option Span) (location_span_read old.is_big e) old new None → Took (Option Item) (location_read old.is_big e) old new None
closed_locations e old new h = took (Option Item) (location_read old.is_big e) old new None (went (Option Span) (location_span_read old.is_big e) old new None h) (by_span old.is_big e None (left old) (left new) h.value)

bare_is : (big : Bool) (e : Encoding) (s : Span) (bs : List ℕ) → is_located s ≡ false → behind_span big e (Some s) bs ≡ Ok (Some (base_item s), bs)
bare_is big e s bs h = rw h refl

pub base_took : (e : Encoding) (s : Span) (old new : Reading) → is_located s ≡ false → Took (Option Span) (location_span_read old.is_big e) old new (Some s) → Took (Option Item) (location_read old.is_big e) old new (Some (base_item s))
base_took e s old new n h = took (Option Item) (location_read old.is_big e) old new (Some (base_item s)) (went (Option Span) (location_span_read old.is_big e) old new (Some s) h) (by_span old.is_big e (Some s) (left old) (left new) h.value ∙ bare_is old.is_big e s (left new) n)

pub located_true : (l : Spot) → is_located (spot_span l) ≡ true
located_true (spot.Pair m n) = refl
located_true (spot.StartxEndx m n) = refl
located_true (spot.StartxLength m n) = refl
located_true (spot.OffsetPair m n) = refl
located_true spot.Default = refl
located_true (spot.StartEnd m n) = refl
located_true (spot.StartLength m n) = refl

with_bytes : (big : Bool) (e : Encoding) (s : Span) (x bs rest : List ℕ) → is_located s ≡ true → expression_read big e bs ≡ Ok (x, rest) → behind_span big e (Some s) bs ≡ Ok (Some (located_item s x), rest)
with_bytes big e s x bs rest h k = rw (h, k) refl

without_bytes : (big : Bool) (e : Encoding) (s : Span) (bs : List ℕ) (y : ReadError) → is_located s ≡ true → expression_read big e bs ≡ Err y → behind_span big e (Some s) bs ≡ Err y
without_bytes big e s bs y h k = rw (h, k) refl

module _ (e : Encoding) (l : Spot) (old mid : Reading) (span : Took (Option Span) (location_span_read old.is_big e) old mid (Some (spot_span l))) where
  went_span : Went old mid
  went_span = went (Option Span) (location_span_read old.is_big e) old mid (Some (spot_span l)) span

  pub located_took : (new : Reading) (x : List ℕ) → Took (List ℕ) (expression_read mid.is_big e) mid new x → Took (Option Item) (location_read old.is_big e) old new (Some (located_item (spot_span l) x))
  located_took new x h =
      let v : expression_read old.is_big e (left mid) ≡ Ok (x, left new) = ap (λ (b : Bool). expression_read b e (left mid)) (sym (went_order old mid went_span)) ∙ h.value in
      took (Option Item) (location_read old.is_big e) old new (Some (located_item (spot_span l) x)) (went_then old mid new went_span (went (List ℕ) (expression_read mid.is_big e) mid new x h))
      (by_span old.is_big e (Some (spot_span l)) (left old) (left mid) span.value ∙ with_bytes old.is_big e (spot_span l) x (left mid) (left new) (located_true l) v)

  pub located_cut : (y : ReadError) → expression_read mid.is_big e (left mid) ≡ Err y → location_read old.is_big e (left old) ≡ Err y
  located_cut y h =
      let v : expression_read old.is_big e (left mid) ≡ Err y = ap (λ (b : Bool). expression_read b e (left mid)) (sym (went_order old mid went_span)) ∙ h in
      by_span old.is_big e (Some (spot_span l)) (left old) (left mid) span.value ∙ without_bytes old.is_big e (spot_span l) (left mid) y (located_true l) v

pub unknown_kind : (big : Bool) (w kind : ℕ) (bs : List ℕ) → location_row big w kind ≡ None → location_behind big w kind bs ≡ Err (UnknownLocListsEntry kind)
unfolding location_behind
unknown_kind big w kind bs h = rw h refl

-- the same of an equal value
pub retold : (read : Read (Option Span)) (old new : Reading) (o p : Option Span) → o ≡ p → Took (Option Span) read old new o → Took (Option Span) read old new p
retold read old new o p e h = subst (λ (x : Option Span). Took (Option Span) read old new x) e h

-- what an item has before its expression
pub span_took : (A : Type 0) (f : A → Span) (g : Option Span) (read : Read (Option Span)) (old new : Reading) (o : Option A) → option_of f o ≡ g → Took (Option Span) read old new (option_of f o) → Took (Option Span) read old new g
span_took A f g read old new o e h = subst (λ (x : Option Span). Took (Option Span) read old new x) e h

pub before_is : (A : Type 0) (f : A → Span) (o : Option A) (a b : A) → o ≡ Some a → a ≡ b → option_of f o ≡ Some (f b)
before_is A f o a b h e = ap (option_of f) h ∙ ap (λ (x : A). Some (f x)) e

pub item_retold : (read : Read (Option Item)) (old new : Reading) (o p : Option Item) → o ≡ p → Took (Option Item) read old new o → Took (Option Item) read old new p
item_retold read old new o p e h = subst (λ (x : Option Item). Took (Option Item) read old new x) e h
