-- Common information entries, from what the calls in them answered.
use Rattle.std.proofs.Common.{◌≡◌, subst, ℕ, ◌<◌, ◌≤◌, ◌^◌, List, Option, Ok, Err, Bool, true, false, ℤ, refl}
use Rattle.std.proofs.lemmas.Bool.{ne_eqb, eq-eqb, lt-ltb, le-ltb}
use Rattle.dw_base.specs.Numbers.{number_at, is_width}
use Rattle.dw_base.specs.Leb128.{uleb_at, sleb_at}
use Rattle.dw_base.specs.Forms.{text_at}
use Rattle.dw_base.specs.declared.common.Format.{Format}
use Rattle.dw_read.specs.Reading.{Reading, IsReading, Reads, left}
use Rattle.dw_read.specs.Reasons.{number_read, uleb_read, uleb16_read, sleb_read, text_read}
use Rattle.dw_read.specs.Took.{Took}
use Rattle.dw_read.specs.declared.error.ReadError.{ReadError}
use Rattle.dw_read.specs.declared.error.ReadError.TheVariants.{BadLeb128, UnknownVersion, UnsupportedAddressSize, UnsupportedSegmentSize}
use Rattle.dw_read.proofs.Laws.{uleb_law, sleb_law, text_law}
use Rattle.dw_read.proofs.Chain.{Went, took, took_of, went, went_none, went_then}
use Rattle.dw_read_frames.specs.Augmentations.{augmentation_read}
use Rattle.dw_read_frames.specs.Cies.{is_cie_version, version_read, sizes_read, has_byte_register, register_read, fields_read}
use Rattle.dw_read_frames.specs.declared.augmentation.Augmentation.{Augmentation}
use Rattle.dw_read_frames.specs.declared.cie.CieFields.{CieFields}
use Rattle.dw_read_frames.proofs.Steps.{number_took, number_in, number_not_in, took_in, not_in, end_kept}

-- registers
pub uleb16_is : (n : ℕ) (old new : Reading) → Reads ℕ uleb_at old new n → n < 2 ^ 16 → Took ℕ uleb16_read old new n
unfolding uleb16_read
uleb16_is n old new h l =
    let t = took_of ℕ uleb_at uleb_read old new n uleb_law h in
    took ℕ uleb16_read old new n (went ℕ uleb_read old new n t) (rw (t.value, lt-ltb n (2 ^ 16) l) refl)

pub uleb16_large : (n : ℕ) (old new : Reading) → Reads ℕ uleb_at old new n → 2 ^ 16 ≤ n → uleb16_read (left old) ≡ Err BadLeb128
unfolding uleb16_read
uleb16_large n old new h l = let t = took_of ℕ uleb_at uleb_read old new n uleb_law h in rw (t.value, le-ltb n (2 ^ 16) l) refl

pub uleb16_not : (bs : List ℕ) (e : ReadError) → uleb_read bs ≡ Err e → uleb16_read bs ≡ Err e
unfolding uleb16_read
uleb16_not bs e h = rw h refl

-- versions
pub version_not : (big : Bool) (bs : List ℕ) (e : ReadError) → number_read big 1 bs ≡ Err e → version_read big bs ≡ Err e
unfolding version_read
version_not big bs e h = rw h refl

pub version_unknown : (v : ℕ) (old new : Reading) → is_cie_version v ≡ false → Reads ℕ (number_at old.is_big 1) old new v → version_read old.is_big (left old) ≡ Err (UnknownVersion v)
unfolding version_read
version_unknown v old new k h = let t = number_took 1 v old new h in rw (t.value, k) refl

pub version_took : (v : ℕ) (old new : Reading) → is_cie_version v ≡ true → Reads ℕ (number_at old.is_big 1) old new v → Took ℕ (version_read old.is_big) old new v
unfolding version_read
version_took v old new k h = let t = number_took 1 v old new h in took ℕ (version_read old.is_big) old new v (went ℕ (number_read old.is_big 1) old new v t) (rw (t.value, k) refl)

-- the bytes of addresses
pub size_given : (version size : ℕ) (old : Reading) → IsReading old → (version ≡ 4 → ⊥) → Took ℕ (sizes_read old.is_big version size) old old size
unfolding sizes_read
size_given version size old is n = took ℕ (sizes_read old.is_big version size) old old size (went_none old is) (rw (ne_eqb version 4 n) refl)

module _ (version size : ℕ) (l : version ≡ 4) where
  pub size_not : (big : Bool) (bs : List ℕ) (e : ReadError) → number_read big 1 bs ≡ Err e → sizes_read big version size bs ≡ Err e
  unfolding sizes_read
  size_not big bs e h = rw (l, h) refl

  module _ (w : ℕ) (old mid : Reading) (h : Reads ℕ (number_at old.is_big 1) old mid w) where
    known : Took ℕ (number_read old.is_big 1) old mid w
    known = number_took 1 w old mid h

    gone : Went old mid
    gone = went ℕ (number_read old.is_big 1) old mid w known

    pub size_unsupported : is_width w ≡ false → sizes_read old.is_big version size (left old) ≡ Err (UnsupportedAddressSize w)
    unfolding sizes_read
    size_unsupported k = rw (l, known.value, k) refl

    no_segment : (e : ReadError) → is_width w ≡ true → number_read old.is_big 1 (left mid) ≡ Err e → sizes_read old.is_big version size (left old) ≡ Err e
    unfolding sizes_read
    no_segment e k i = rw (l, known.value, k, i) refl

    pub segment_not : (e : ReadError) → is_width w ≡ true → number_read mid.is_big 1 (left mid) ≡ Err e → sizes_read old.is_big version size (left old) ≡ Err e
    segment_not e k i = no_segment e k (number_not_in 1 old mid (left mid) e gone i)

    module _ (k : is_width w ≡ true) (s : ℕ) (new : Reading) (i : Reads ℕ (number_at mid.is_big 1) mid new s) where
      segment : Took ℕ (number_read old.is_big 1) mid new s
      segment = number_in 1 s old mid new gone i

      pub segment_unsupported : (s ≡ 0 → ⊥) → sizes_read old.is_big version size (left old) ≡ Err (UnsupportedSegmentSize s)
      unfolding sizes_read
      segment_unsupported n = rw (l, known.value, k, segment.value, ne_eqb s 0 n) refl

      pub size_own : s ≡ 0 → Took ℕ (sizes_read old.is_big version size) old new w
      unfolding sizes_read
      size_own z = took ℕ (sizes_read old.is_big version size) old new w (went_then old mid new gone (went ℕ (number_read old.is_big 1) mid new s segment)) (rw (l, known.value, k, segment.value, eq-eqb s 0 z) refl)

-- the column of the return address
module _ (eh : Bool) (version : ℕ) where
  pub byte_not : (big : Bool) (bs : List ℕ) (e : ReadError) → has_byte_register eh version ≡ true → number_read big 1 bs ≡ Err e → register_read eh big version bs ≡ Err e
  unfolding register_read
  byte_not big bs e k h = rw k h

  pub byte_took : (n : ℕ) (old new : Reading) → has_byte_register eh version ≡ true → Reads ℕ (number_at old.is_big 1) old new n → Took ℕ (register_read eh old.is_big version) old new n
  unfolding register_read
  byte_took n old new k h = let t = number_took 1 n old new h in took ℕ (register_read eh old.is_big version) old new n (went ℕ (number_read old.is_big 1) old new n t) (rw k t.value)

  pub column_not : (big : Bool) (bs : List ℕ) (e : ReadError) → has_byte_register eh version ≡ false → uleb16_read bs ≡ Err e → register_read eh big version bs ≡ Err e
  unfolding register_read
  column_not big bs e k h = rw k h

  pub column_took : (n : ℕ) (old new : Reading) → has_byte_register eh version ≡ false → Took ℕ uleb16_read old new n → Took ℕ (register_read eh old.is_big version) old new n
  unfolding register_read
  column_took n old new k t = took ℕ (register_read eh old.is_big version) old new n (went ℕ uleb16_read old new n t) (rw k t.value)

-- the fields in turn
module _ (eh : Bool) (size : ℕ) (format : Format) where
  pub fields_no_version : (big : Bool) (end : ℕ) (bs : List ℕ) (e : ReadError) → version_read big bs ≡ Err e → fields_read eh big size format end bs ≡ Err e
  unfolding fields_read
  fields_no_version big end bs e h = rw h refl

  module _ (v : ℕ) (old r1 : Reading) (t1 : Took ℕ (version_read old.is_big) old r1 v) where
    pub fields_no_text : (e : ReadError) → text_read (left r1) ≡ Err e → fields_read eh old.is_big size format old.end (left old) ≡ Err e
    unfolding fields_read
    fields_no_text e h = rw (t1.value, h) refl

    w1 : Went old r1
    w1 = went ℕ (version_read old.is_big) old r1 v t1

    module _ (text : List ℕ) (r2 : Reading) (h2 : Reads (List ℕ) text_at r1 r2 text) where
      t2 : Took (List ℕ) text_read r1 r2 text
      t2 = took_of (List ℕ) text_at text_read r1 r2 text text_law h2

      w2 : Went old r2
      w2 = went_then old r1 r2 w1 (went (List ℕ) text_read r1 r2 text t2)

      sizes_not : (e : ReadError) → sizes_read old.is_big v size (left r2) ≡ Err e → fields_read eh old.is_big size format old.end (left old) ≡ Err e
      unfolding fields_read
      sizes_not e h = rw (t1.value, t2.value, h) refl

      pub fields_no_sizes : (e : ReadError) → sizes_read r2.is_big v size (left r2) ≡ Err e → fields_read eh old.is_big size format old.end (left old) ≡ Err e
      fields_no_sizes e h = sizes_not e (not_in ℕ (λ b. sizes_read b v size) old r2 (left r2) e w2 h)

      module _ (w : ℕ) (r3 : Reading) (h3 : Took ℕ (sizes_read r2.is_big v size) r2 r3 w) where
        t3 : Took ℕ (sizes_read old.is_big v size) r2 r3 w
        t3 = took_in ℕ (λ b. sizes_read b v size) old r2 r3 w w2 h3

        w3 : Went old r3
        w3 = went_then old r2 r3 w2 (went ℕ (sizes_read old.is_big v size) r2 r3 w t3)

        pub fields_no_code : (e : ReadError) → uleb_read (left r3) ≡ Err e → fields_read eh old.is_big size format old.end (left old) ≡ Err e
        unfolding fields_read
        fields_no_code e h = rw (t1.value, t2.value, t3.value, h) refl

        module _ (c : ℕ) (r4 : Reading) (h4 : Reads ℕ uleb_at r3 r4 c) where
          t4 : Took ℕ uleb_read r3 r4 c
          t4 = took_of ℕ uleb_at uleb_read r3 r4 c uleb_law h4

          w4 : Went old r4
          w4 = went_then old r3 r4 w3 (went ℕ uleb_read r3 r4 c t4)

          pub fields_no_data : (e : ReadError) → sleb_read (left r4) ≡ Err e → fields_read eh old.is_big size format old.end (left old) ≡ Err e
          unfolding fields_read
          fields_no_data e h = rw (t1.value, t2.value, t3.value, t4.value, h) refl

          module _ (d : ℤ) (r5 : Reading) (h5 : Reads ℤ sleb_at r4 r5 d) where
            t5 : Took ℤ sleb_read r4 r5 d
            t5 = took_of ℤ sleb_at sleb_read r4 r5 d sleb_law h5

            w5 : Went old r5
            w5 = went_then old r4 r5 w4 (went ℤ sleb_read r4 r5 d t5)

            register_not : (e : ReadError) → register_read eh old.is_big v (left r5) ≡ Err e → fields_read eh old.is_big size format old.end (left old) ≡ Err e
            unfolding fields_read
            register_not e h = rw (t1.value, t2.value, t3.value, t4.value, t5.value, h) refl

            pub fields_no_register : (e : ReadError) → register_read eh r5.is_big v (left r5) ≡ Err e → fields_read eh old.is_big size format old.end (left old) ≡ Err e
            fields_no_register e h = register_not e (not_in ℕ (λ b. register_read eh b v) old r5 (left r5) e w5 h)

            module _ (n : ℕ) (r6 : Reading) (h6 : Took ℕ (register_read eh r5.is_big v) r5 r6 n) where
              t6 : Took ℕ (register_read eh old.is_big v) r5 r6 n
              t6 = took_in ℕ (λ b. register_read eh b v) old r5 r6 n w5 h6

              w6 : Went old r6
              w6 = went_then old r5 r6 w5 (went ℕ (register_read eh old.is_big v) r5 r6 n t6)

              augmentation_not : (e : ReadError) → augmentation_read old.is_big w old.end text (left r6) ≡ Err e → fields_read eh old.is_big size format old.end (left old) ≡ Err e
              unfolding fields_read
              augmentation_not e h = rw (t1.value, t2.value, t3.value, t4.value, t5.value, t6.value, h) refl

              pub fields_no_augmentation : (e : ReadError) → augmentation_read r6.is_big w r6.end text (left r6) ≡ Err e → fields_read eh old.is_big size format old.end (left old) ≡ Err e
              fields_no_augmentation e h = augmentation_not e (not_in (Option Augmentation) (λ b. augmentation_read b w old.end text) old r6 (left r6) e w6 (subst (λ (k : ℕ). augmentation_read r6.is_big w k text (left r6) ≡ Err e) (end_kept old r6 w6) h))

              module _ (a : Option Augmentation) (r7 : Reading) (h7 : Took (Option Augmentation) (augmentation_read r6.is_big w r6.end text) r6 r7 a) where
                t7 : Took (Option Augmentation) (augmentation_read old.is_big w old.end text) r6 r7 a
                t7 = took_in (Option Augmentation) (λ b. augmentation_read b w old.end text) old r6 r7 a w6 (subst (λ (k : ℕ). Took (Option Augmentation) (augmentation_read r6.is_big w k text) r6 r7 a) (end_kept old r6 w6) h7)

                abbrev all_fields : CieFields
                all_fields = record {
                  encoding = record { address_size = w; format = format; version = v };
                  augmentation = a;
                  code_alignment_factor = c;
                  data_alignment_factor = d;
                  return_address_register = record { 0 = n };
                }

                fields_are : fields_read eh old.is_big size format old.end (left old) ≡ Ok (all_fields, left r7)
                unfolding fields_read
                fields_are = rw (t1.value, t2.value, t3.value, t4.value, t5.value, t6.value, t7.value) refl

                pub fields_took : Took CieFields (fields_read eh old.is_big size format old.end) old r7 all_fields
                fields_took = took CieFields (fields_read eh old.is_big size format old.end) old r7 all_fields (went_then old r6 r7 w6 (went (Option Augmentation) (augmentation_read old.is_big w old.end text) r6 r7 a t7)) fields_are
