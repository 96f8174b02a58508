-- The parts of a unit's header, from what was read of it.
use Rattle.std.proofs.Common.{◌≡◌, ◌∙◌, subst, ℕ, List, Option, Some, None, Ok, Err, Result, Bool, true, false, ◌&&◌, refl, nat_eq, nat_le, if◌then◌else◌}
use borrow.Author.Tests.{ne_eqb, eq-eqb}
use Rattle.std.specs.Result.{result_ok}
use Rattle.dw_base.specs.Numbers.{◌>>=◌, when, bytes_at, number_at, initial_length_at, word_of, is_width}
use Rattle.dw_base.specs.Headers.{Header, is_unit_type, has_identity, has_type_offset, identity_at, type_offset_at, old_fields_at, new_fields_at, fields_at, header_at}
use Rattle.dw_base.specs.declared.common.Format.{Format}
use Rattle.dw_read.specs.Reasons.{◌=>>◌, if_so, bytes_read, number_read, initial_length_read}
use Rattle.dw_read.specs.Headers.{optional_read, old_fields_read, new_begin_read, new_fields_read, fields_read, header_read}
use Rattle.dw_read.specs.declared.error.ReadError.{ReadError}
use Rattle.dw_read.specs.declared.error.ReadError.TheVariants.{UnknownVersion, UnsupportedAddressSize, UnknownUnitType}
use Rattle.dw_read.proofs.Laws.{IsReadOf, then_ok, if_so_ok, number_law, bytes_law, initial_length_law}

pub optional_none : (there big : Bool) (w : ℕ) (bs : List ℕ) → there ≡ false → optional_read there big w bs ≡ Ok (None, bs)
optional_none there big w bs h = rw h refl

pub optional_some : (there big : Bool) (w n : ℕ) (bs rest : List ℕ) → there ≡ true → number_read big w bs ≡ Ok (n, rest) → optional_read there big w bs ≡ Ok (Some n, rest)
optional_some there big w n bs rest h r = rw (h, r) refl

pub optional_err : (there big : Bool) (w : ℕ) (bs : List ℕ) (e : ReadError) → there ≡ true → number_read big w bs ≡ Err e → optional_read there big w bs ≡ Err e
optional_err there big w bs e h r = rw (h, r) refl

pub optional_at : (there t b big : Bool) (w : ℕ) (bs : List ℕ) (x : Result (Option ℕ × List ℕ) ReadError) → there ≡ t → b ≡ big → optional_read there b w bs ≡ x → optional_read t big w bs ≡ x
optional_at there t b big w bs x p q h = subst (λ (z : Bool). optional_read z big w bs ≡ x) p (subst (λ (z : Bool). optional_read there z w bs ≡ x) q h)

pub old_no_table : (big : Bool) (f : Format) (v : ℕ) (bs : List ℕ) (e : ReadError) → number_read big (word_of f) bs ≡ Err e → old_fields_read big f v bs ≡ Err e
unfolding old_fields_read
old_no_table big f v bs e h = rw h refl

pub old_no_size : (big : Bool) (f : Format) (v table : ℕ) (bs mid : List ℕ) (e : ReadError) → number_read big (word_of f) bs ≡ Ok (table, mid) → number_read big 1 mid ≡ Err e → old_fields_read big f v bs ≡ Err e
unfolding old_fields_read
old_no_size big f v table bs mid e h k = rw (h, k) refl

pub old_bad_size : (big : Bool) (f : Format) (v table size : ℕ) (bs mid rest : List ℕ) → number_read big (word_of f) bs ≡ Ok (table, mid) → number_read big 1 mid ≡ Ok (size, rest) → is_width size ≡ false → old_fields_read big f v bs ≡ Err (UnsupportedAddressSize size)
unfolding old_fields_read
old_bad_size big f v table size bs mid rest h k w = rw (h, k, w) refl

pub old_whole : (big : Bool) (f : Format) (v table size : ℕ) (bs mid rest : List ℕ) → number_read big (word_of f) bs ≡ Ok (table, mid) → number_read big 1 mid ≡ Ok (size, rest) → is_width size ≡ true
    → old_fields_read big f v bs ≡ Ok (record { encoding = record { address_size = size; format = f; version = v }; unit_type = None; table_offset = table; identity = None; type_offset = None }, rest)
unfolding old_fields_read
old_whole big f v table size bs mid rest h k w = rw (h, k, w) refl

pub begin_no_type : (big : Bool) (f : Format) (bs : List ℕ) (e : ReadError) → number_read big 1 bs ≡ Err e → new_begin_read big f bs ≡ Err e
unfolding new_begin_read
begin_no_type big f bs e h = rw h refl

pub begin_no_size : (big : Bool) (f : Format) (t : ℕ) (bs a : List ℕ) (e : ReadError) → number_read big 1 bs ≡ Ok (t, a) → number_read big 1 a ≡ Err e → new_begin_read big f bs ≡ Err e
unfolding new_begin_read
begin_no_size big f t bs a e h k = rw (h, k) refl

pub begin_no_table : (big : Bool) (f : Format) (t size : ℕ) (bs a b : List ℕ) (e : ReadError) → number_read big 1 bs ≡ Ok (t, a) → number_read big 1 a ≡ Ok (size, b) → number_read big (word_of f) b ≡ Err e → new_begin_read big f bs ≡ Err e
unfolding new_begin_read
begin_no_table big f t size bs a b e h k l = rw (h, k, l) refl

-- the three numbers that each header of version 5 begins with after its version
pub record Begins (big : Bool) (f : Format) (bs : List ℕ) (t size table : ℕ) (c : List ℕ) : Type 0 where
  pub is : new_begin_read big f bs ≡ if_so (is_unit_type t) (UnknownUnitType (record { 0 = t })) (if_so (is_width size) (UnsupportedAddressSize size) (Ok ((t, size, table), c)))

pub new_begins : (big : Bool) (f : Format) (t size table : ℕ) (bs a b c : List ℕ) → number_read big 1 bs ≡ Ok (t, a) → number_read big 1 a ≡ Ok (size, b) → number_read big (word_of f) b ≡ Ok (table, c) → Begins big f bs t size table c
unfolding new_begin_read
new_begins big f t size table bs a b c h k l = record { is = rw (h, k, l) refl }

pub begin_bad_type : (big : Bool) (f : Format) (t size table : ℕ) (bs c : List ℕ) → Begins big f bs t size table c → is_unit_type t ≡ false → new_begin_read big f bs ≡ Err (UnknownUnitType (record { 0 = t }))
begin_bad_type big f t size table bs c h u = h.is ∙ rw u refl

pub begin_bad_size : (big : Bool) (f : Format) (t size table : ℕ) (bs c : List ℕ) → Begins big f bs t size table c → is_unit_type t ≡ true → is_width size ≡ false → new_begin_read big f bs ≡ Err (UnsupportedAddressSize size)
begin_bad_size big f t size table bs c h u w = h.is ∙ rw (u, w) refl

pub begin_whole : (big : Bool) (f : Format) (t size table : ℕ) (bs c : List ℕ) → Begins big f bs t size table c → is_unit_type t ≡ true → is_width size ≡ true → new_begin_read big f bs ≡ Ok ((t, size, table), c)
begin_whole big f t size table bs c h u w = h.is ∙ rw (u, w) refl

-- what stands behind those numbers
abbrev behind_begin : Bool → Format → (ℕ × ℕ × ℕ) × List ℕ → Result (Header × List ℕ) ReadError
behind_begin big f x =
    optional_read (has_identity x.0.0) big 8 x.1 =>> λ identity. optional_read (has_type_offset x.0.0) big (word_of f) identity.1 =>> λ place. Ok (
      record { encoding = record { address_size = x.0.1; format = f; version = 5 }; unit_type = Some x.0.0; table_offset = x.0.2; identity = identity.0; type_offset = place.0 },
      place.1,
    )

then_then : {A B C : Type 0} (r : Result A ReadError) (f : A → Result B ReadError) (g : B → Result C ReadError) (h : A → Result C ReadError) → ((x : A) → h x ≡ (f x =>> g)) → (r =>> h) ≡ ((r =>> f) =>> g)
then_then (Ok x) f g h k = k x
then_then (Err e) f g h k = refl

both_then : {A B : Type 0} (a b : Bool) (e y : ReadError) (x : A) (g : A → Result B ReadError) → if_so a e (if_so b y (g x)) ≡ (if_so a e (if_so b y (Ok x)) =>> g)
both_then true true e y x g = refl
both_then true false e y x g = refl
both_then false b e y x g = refl

begun_first : (big : Bool) (f : Format) (bs : List ℕ) → new_fields_read big f bs ≡ (new_begin_read big f bs =>> behind_begin big f)
unfolding new_fields_read new_begin_read
begun_first big f bs =
    then_then (number_read big 1 bs) _ (behind_begin big f) _ (λ type.
    then_then (number_read big 1 type.1) _ (behind_begin big f) _ (λ size.
    then_then (number_read big (word_of f) size.1) _ (behind_begin big f) _ (λ table.
    both_then (is_unit_type type.0) (is_width size.0) (UnknownUnitType (record { 0 = type.0 })) (UnsupportedAddressSize size.0) ((type.0, size.0, table.0), table.1) (behind_begin big f))))

pub new_not_begun : (big : Bool) (f : Format) (bs : List ℕ) (e : ReadError) → new_begin_read big f bs ≡ Err e → new_fields_read big f bs ≡ Err e
new_not_begun big f bs e h = begun_first big f bs ∙ rw h refl

pub new_no_identity : (big : Bool) (f : Format) (t size table : ℕ) (bs c : List ℕ) (e : ReadError) → new_begin_read big f bs ≡ Ok ((t, size, table), c) → optional_read (has_identity t) big 8 c ≡ Err e → new_fields_read big f bs ≡ Err e
new_no_identity big f t size table bs c e h i = begun_first big f bs ∙ rw (h, i) refl

pub new_no_place : (big : Bool) (f : Format) (t size table : ℕ) (identity : Option ℕ) (bs c d : List ℕ) (e : ReadError) → new_begin_read big f bs ≡ Ok ((t, size, table), c) → optional_read (has_identity t) big 8 c ≡ Ok (identity, d)
    → optional_read (has_type_offset t) big (word_of f) d ≡ Err e → new_fields_read big f bs ≡ Err e
new_no_place big f t size table identity bs c d e h i p = begun_first big f bs ∙ rw (h, i, p) refl

pub new_whole : (big : Bool) (f : Format) (t size table : ℕ) (identity place : Option ℕ) (bs c d last : List ℕ) → new_begin_read big f bs ≡ Ok ((t, size, table), c) → optional_read (has_identity t) big 8 c ≡ Ok (identity, d)
    → optional_read (has_type_offset t) big (word_of f) d ≡ Ok (place, last)
    → new_fields_read big f bs ≡ Ok (record { encoding = record { address_size = size; format = f; version = 5 }; unit_type = Some t; table_offset = table; identity = identity; type_offset = place }, last)
new_whole big f t size table identity place bs c d last h i p = begun_first big f bs ∙ rw (h, i, p) refl

pub no_version : (big : Bool) (f : Format) (bs : List ℕ) (e : ReadError) → number_read big 2 bs ≡ Err e → fields_read big f bs ≡ Err e
unfolding fields_read
no_version big f bs e h = rw h refl

pub version_5 : (big : Bool) (f : Format) (v : ℕ) (bs rest : List ℕ) → number_read big 2 bs ≡ Ok (v, rest) → v ≡ 5 → fields_read big f bs ≡ new_fields_read big f rest
unfolding fields_read
version_5 big f v bs rest h q = rw (h, eq-eqb v 5 q) refl

pub version_2_to_4 : (big : Bool) (f : Format) (v : ℕ) (bs rest : List ℕ) → number_read big 2 bs ≡ Ok (v, rest) → (v ≡ 5 → ⊥) → (nat_le 2 v && nat_le v 4) ≡ true → fields_read big f bs ≡ old_fields_read big f v rest
unfolding fields_read
version_2_to_4 big f v bs rest h q a = rw (h, ne_eqb v 5 q, a) refl

-- no other version
pub unknown_version : (big : Bool) (f : Format) (v : ℕ) (bs rest : List ℕ) → number_read big 2 bs ≡ Ok (v, rest) → (v ≡ 5 → ⊥) → (nat_le 2 v && nat_le v 4) ≡ false → fields_read big f bs ≡ Err (UnknownVersion v)
unfolding fields_read
unknown_version big f v bs rest h q a = rw (h, ne_eqb v 5 q, a) refl

-- the laws
optional_law : (there big : Bool) (w : ℕ) (bytes : List ℕ) → result_ok (optional_read there big w bytes) ≡ (if there then (number_at big w bytes >>= λ x. Some (Some x.0, x.1)) else Some (None, bytes))
optional_law true big w bytes = then_ok (number_read big w bytes) (number_at big w bytes) _ _ (number_law big w bytes) (λ x. refl)
optional_law false big w bytes = refl

old_fields_law : (big : Bool) (f : Format) (v : ℕ) → IsReadOf Header (old_fields_at big f v) (old_fields_read big f v)
unfolding old_fields_read
old_fields_law big f v bytes =
    then_ok (number_read big (word_of f) bytes) (number_at big (word_of f) bytes) _ _ (number_law big (word_of f) bytes) (λ table.
    then_ok (number_read big 1 table.1) (number_at big 1 table.1) _ _ (number_law big 1 table.1) (λ size.
    if_so_ok (is_width size.0) (UnsupportedAddressSize size.0) _ _ refl))

if_both_ok : {A : Type 0} (a b : Bool) (e y : ReadError) (r : Result A ReadError) (o : Option A) → result_ok r ≡ o → result_ok (if_so a e (if_so b y r)) ≡ when (a && b) o
if_both_ok true true e y r o h = h
if_both_ok true false e y r o h = refl
if_both_ok false b e y r o h = refl

new_fields_law : (big : Bool) (f : Format) → IsReadOf Header (new_fields_at big f) (new_fields_read big f)
unfolding new_fields_read
new_fields_law big f bytes =
    then_ok (number_read big 1 bytes) (number_at big 1 bytes) _ _ (number_law big 1 bytes) (λ type.
    then_ok (number_read big 1 type.1) (number_at big 1 type.1) _ _ (number_law big 1 type.1) (λ size.
    then_ok (number_read big (word_of f) size.1) (number_at big (word_of f) size.1) _ _ (number_law big (word_of f) size.1) (λ table.
    if_both_ok (is_unit_type type.0) (is_width size.0) (UnknownUnitType (record { 0 = type.0 })) (UnsupportedAddressSize size.0) _ _
    (then_ok (optional_read (has_identity type.0) big 8 table.1) (identity_at big type.0 table.1) _ _ (optional_law (has_identity type.0) big 8 table.1) (λ identity.
    then_ok (optional_read (has_type_offset type.0) big (word_of f) identity.1) (type_offset_at big f type.0 identity.1) _ _ (optional_law (has_type_offset type.0) big (word_of f) identity.1) (λ place. refl))))))

versions_law : (t b : Bool) (e : ReadError) (r s : Result (Header × List ℕ) ReadError) (o p : Option (Header × List ℕ)) → result_ok r ≡ o → result_ok s ≡ p → result_ok (if t then r else if_so b e s) ≡ (if t then o else when b p)
versions_law true b e r s o p h k = h
versions_law false b e r s o p h k = if_so_ok b e s p k

fields_law : (big : Bool) (f : Format) → IsReadOf Header (fields_at big f) (fields_read big f)
unfolding fields_read
fields_law big f bytes =
    then_ok (number_read big 2 bytes) (number_at big 2 bytes) _ _ (number_law big 2 bytes) (λ v.
    versions_law (nat_eq v.0 5) (nat_le 2 v.0 && nat_le v.0 4) (UnknownVersion v.0) _ _ _ _ (new_fields_law big f v.1) (old_fields_law big f v.0 v.1))

pub header_law : (big : Bool) (bytes : List ℕ) → result_ok (header_read big bytes) ≡ header_at big bytes
unfolding header_at header_read
header_law big bytes =
    then_ok (initial_length_read big bytes) (initial_length_at big bytes) _ _ (initial_length_law big bytes) (λ start.
    then_ok (bytes_read start.0.1 start.1) (bytes_at start.0.1 start.1) _ _ (bytes_law start.0.1 start.1) (λ unit.
    then_ok (fields_read big start.0.0 unit.0) (fields_at big start.0.0 unit.0) _ _ (fields_law big start.0.0 unit.0) (λ fields. refl)))
