-- How an entry begins, from what the calls in it answered.
use Rattle.std.proofs.Common.{◌≡◌, ◌∙◌, ap, subst, ℕ, ◌+◌, ◌-◌, ◌<◌, ◌≤◌, List, Option, Some, None, Ok, Err, Bool, true, false, refl}
use Rattle.std.specs.Prelude.{◌==◌, ◌&&◌}
use Rattle.std.proofs.lemmas.Bool.{ne_eqb, eq-eqb, le-leb, lt-leb}
use Rattle.dw_base.specs.Numbers.{initial_length_at, length_size}
use Rattle.dw_base.specs.declared.common.Format.{Format}
use Rattle.dw_read.specs.Reading.{Reading, IsReading, Passes, Reads, left, part}
use Rattle.dw_read.specs.Reasons.{bytes_read, number_read, initial_length_read}
use Rattle.dw_read.specs.Took.{Took}
use Rattle.dw_read.specs.declared.error.ReadError.{ReadError}
use Rattle.dw_read.specs.declared.error.ReadError.TheVariants.{InvalidCiePointer}
use Rattle.dw_read.proofs.Laws.{read_is, initial_length_law}
use Rattle.dw_read.proofs.Chain.{took, went, went_of, went_then}
use Rattle.dw_read.proofs.HeaderParts.{bytes_took}
use Rattle.dw_read.proofs.Lefts.{same_order}
use Rattle.dw_read_frames.specs.Heads.{Head, id_width, cie_number, led_back, owner_read, head_read}

pub led_offset : (eh : Bool) (place n : ℕ) → eh ≡ false → led_back eh place n ≡ Some n
led_offset eh place n h = rw h refl

pub led_before : (eh : Bool) (place n : ℕ) → eh ≡ true → n ≤ place → led_back eh place n ≡ Some (place - n)
led_before eh place n h k = rw (h, le-leb n place k) refl

pub led_nowhere : (eh : Bool) (place n : ℕ) → eh ≡ true → place < n → led_back eh place n ≡ None
led_nowhere eh place n h k = rw (h, lt-leb n place k) refl

-- the field that tells a CIE from an FDE
module _ (eh : Bool) (format : Format) where
  pub owner_no_field : (big : Bool) (place : ℕ) (bs : List ℕ) (e : ReadError) → number_read big (id_width eh format) bs ≡ Err e → owner_read eh big format place bs ≡ Err e
  unfolding owner_read
  owner_no_field big place bs e h = rw h refl

  module _ (n : ℕ) (old new : Reading) (field : Took ℕ (number_read old.is_big (id_width eh format)) old new n) where
    pub owner_none : n ≡ cie_number eh format → Took (Option ℕ) (owner_read eh old.is_big format old.place) old new None
    unfolding owner_read
    owner_none h = took (Option ℕ) _ old new None (went ℕ _ old new n field) (rw (field.value, eq-eqb n (cie_number eh format) h) refl)

    pub owner_some : (c : ℕ) → (n ≡ cie_number eh format → ⊥) → led_back eh old.place n ≡ Some c → Took (Option ℕ) (owner_read eh old.is_big format old.place) old new (Some c)
    unfolding owner_read
    owner_some c h l = took (Option ℕ) _ old new (Some c) (went ℕ _ old new n field) (rw (field.value, ne_eqb n (cie_number eh format) h, l) refl)

    pub owner_lost : (n ≡ cie_number eh format → ⊥) → led_back eh old.place n ≡ None → owner_read eh old.is_big format old.place (left old) ≡ Err (InvalidCiePointer n)
    unfolding owner_read
    owner_lost h l = rw (field.value, ne_eqb n (cie_number eh format) h, l) refl

-- an entry
pub not_both : (eh : Bool) (n : ℕ) → (eh ≡ true → n ≡ 0 → ⊥) → (eh && (n == 0)) ≡ false
not_both true n h = ne_eqb n 0 (h refl)
not_both false n h = refl

module _ (eh big : Bool) (at : ℕ) (bs : List ℕ) where
  pub head_no_length : (e : ReadError) → initial_length_read big bs ≡ Err e → head_read eh big at bs ≡ Err e
  unfolding head_read
  head_no_length e h = rw h refl

  module _ (f : Format) (n : ℕ) (mid : List ℕ) (length_is : initial_length_read big bs ≡ Ok ((f, n), mid)) where
    head_ends : eh ≡ true → n ≡ 0 → head_read eh big at bs ≡ Ok (None, mid)
    unfolding head_read
    head_ends h k = rw (length_is, h, k) refl

    head_cut : (e : ReadError) → (eh && (n == 0)) ≡ false → bytes_read n mid ≡ Err e → head_read eh big at bs ≡ Err e
    unfolding head_read
    head_cut e z h = rw (length_is, z, h) refl

    head_no_owner : (entry rest : List ℕ) (e : ReadError) → (eh && (n == 0)) ≡ false → bytes_read n mid ≡ Ok (entry, rest) → owner_read eh big f (at + length_size f) entry ≡ Err e → head_read eh big at bs ≡ Err e
    unfolding head_read
    head_no_owner entry rest e z h k = rw (length_is, z, h, k) refl

    head_is : (entry rest body : List ℕ) (owner : Option ℕ) → (eh && (n == 0)) ≡ false → bytes_read n mid ≡ Ok (entry, rest) → owner_read eh big f (at + length_size f) entry ≡ Ok (owner, body)
        → head_read eh big at bs ≡ Ok (Some (record { format = f; cie = owner; body = body }), rest)
    unfolding head_read
    head_is entry rest body owner z h k = rw (length_is, z, h, k) refl

module _ (eh : Bool) (f : Format) (n : ℕ) (old mid : Reading) (passed : Passes (length_size f) old mid) (length_at : Reads (Format × ℕ) (initial_length_at old.is_big) old mid (f, n)) where
  known : initial_length_read old.is_big (left old) ≡ Ok ((f, n), left mid)
  known = read_is (Format × ℕ) (initial_length_at old.is_big) (initial_length_read old.is_big) (left old) ((f, n), left mid) (initial_length_law old.is_big) length_at.value

  pub ended : eh ≡ true → n ≡ 0 → Took (Option Head) (head_read eh old.is_big old.place) old mid None
  ended h k = took (Option Head) (head_read eh old.is_big old.place) old mid None (went_of (length_size f) old mid passed) (head_ends eh old.is_big old.place (left old) f n (left mid) known h k)

  pub cut : (e : ReadError) → (eh && (n == 0)) ≡ false → bytes_read n (left mid) ≡ Err e → head_read eh old.is_big old.place (left old) ≡ Err e
  cut e z h = head_cut eh old.is_big old.place (left old) f n (left mid) known e z h

  module _ (z : (eh && (n == 0)) ≡ false) (entry after : Reading) (is : IsReading mid) (q : entry ≡ part n mid) (p : Passes n mid after) where
    order : entry.is_big ≡ old.is_big
    order = ap (λ (r : Reading). r.is_big) q ∙ same_order (length_size f) old mid passed

    begin : entry.place ≡ old.place + length_size f
    begin = ap (λ (r : Reading). r.place) q ∙ ap (λ (r : Reading). r.place) passed.is

    split_off : bytes_read n (left mid) ≡ Ok (left entry, left after)
    split_off = bytes_took n mid after entry is q p

    pub no_owner : (e : ReadError) → owner_read eh entry.is_big f entry.place (left entry) ≡ Err e → head_read eh old.is_big old.place (left old) ≡ Err e
    no_owner e h =
        head_no_owner eh old.is_big old.place (left old) f n (left mid) known (left entry) (left after) e z split_off
        (subst (λ (b : Bool). owner_read eh b f (old.place + length_size f) (left entry) ≡ Err e) order (subst (λ (k : ℕ). owner_read eh entry.is_big f k (left entry) ≡ Err e) begin h))

    pub begun : (body : Reading) (owner : Option ℕ) → Took (Option ℕ) (owner_read eh entry.is_big f entry.place) entry body owner → Took (Option Head) (head_read eh old.is_big old.place) old after (Some (record { format = f; cie = owner; body = left body }))
    begun body owner h =
        took (Option Head) (head_read eh old.is_big old.place) old after (Some (record { format = f; cie = owner; body = left body })) (went_then old mid after (went_of (length_size f) old mid passed) (went_of n mid after p))
        (head_is eh old.is_big old.place (left old) f n (left mid) known (left entry) (left after) (left body) owner z split_off
        (subst (λ (b : Bool). owner_read eh b f (old.place + length_size f) (left entry) ≡ Ok (owner, left body)) order (subst (λ (k : ℕ). owner_read eh entry.is_big f k (left entry) ≡ Ok (owner, left body)) begin h.value)))
