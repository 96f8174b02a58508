-- Frame descriptions, from what the calls in them answered.
use Rattle.std.proofs.Common.{◌≡◌, ◌∙◌, sym, ap, subst, ℕ, ◌+◌, List, Option, Some, None, Ok, Err, Bool, refl}
use Rattle.dw_base.specs.Leb128.{uleb_at}
use Rattle.dw_base.specs.declared.constants.DwEhPe.{DwEhPe}
use Rattle.dw_read.specs.Reading.{Reading, IsReading, Passes, Reads, left, part}
use Rattle.dw_read.specs.Reasons.{bytes_read, uleb_read}
use Rattle.dw_read.specs.Took.{Took}
use Rattle.dw_read.specs.declared.error.ReadError.{ReadError}
use Rattle.dw_read.proofs.Laws.{uleb_law}
use Rattle.dw_read.proofs.Chain.{Went, took, took_of, went, went_of, went_none, went_then, went_order}
use Rattle.dw_read.proofs.HeaderParts.{bytes_took}
use Rattle.dw_read_frames.specs.Pointers.{data_read, pointer_read}
use Rattle.dw_read_frames.specs.Augmentations.{standing}
use Rattle.dw_read_frames.specs.Fdes.{address_encoding, pointed_read, lsda_read, fde_read}
use Rattle.dw_read_frames.specs.declared.augmentation.Augmentation.{Augmentation}
use Rattle.dw_read_frames.specs.declared.cie.CieFields.{CieFields}
use Rattle.dw_read_frames.specs.declared.fde.FdeFields.{FdeFields}
use Rattle.dw_read_frames.proofs.Steps.{took_in, not_in, end_kept, place_is, place_stands}

-- a pointer that may have an encoding
pub pointed_none : (size : ℕ) (o : Option DwEhPe) (old : Reading) → IsReading old → o ≡ None → Took (Option ℕ) (pointed_read old.is_big size o old.end) old old None
unfolding pointed_read
pointed_none size o old is h = took (Option ℕ) (pointed_read old.is_big size o old.end) old old None (went_none old is) (rw h refl)

module _ (size : ℕ) (o : Option DwEhPe) (e : DwEhPe) (there : o ≡ Some e) (old : Reading) (is : IsReading old) where
  pointed_by : (r : ReadError) (place : ℕ) → place ≡ standing old.end (left old) → pointer_read old.is_big size e place (left old) ≡ Err r → pointed_read old.is_big size o old.end (left old) ≡ Err r
  unfolding pointed_read
  pointed_by r place q h = let k : pointer_read old.is_big size e (standing old.end (left old)) (left old) ≡ Err r = subst (λ (n : ℕ). pointer_read old.is_big size e n (left old) ≡ Err r) q h in rw (there, k) refl

  pub pointed_not : (r : ReadError) → pointer_read old.is_big size e old.place (left old) ≡ Err r → pointed_read old.is_big size o old.end (left old) ≡ Err r
  pointed_not r h = pointed_by r old.place (place_is old is) h

  pub pointed_took : (p : ℕ) (new : Reading) → Took ℕ (pointer_read old.is_big size e old.place) old new p → Took (Option ℕ) (pointed_read old.is_big size o old.end) old new (Some p)
  unfolding pointed_read
  pointed_took p new h =
      let k : pointer_read old.is_big size e (standing old.end (left old)) (left old) ≡ Ok (p, left new) = subst (λ (n : ℕ). pointer_read old.is_big size e n (left old) ≡ Ok (p, left new)) (place_is old is) h.value in
      took (Option ℕ) (pointed_read old.is_big size o old.end) old new (Some p) (went_of h.count old new h.passes) (rw (there, k) refl)

-- the augmentation of an FDE
pub lsda_none : (size : ℕ) (o : Option Augmentation) (old : Reading) → IsReading old → o ≡ None → Took (Option ℕ) (lsda_read old.is_big size o old.end) old old None
unfolding lsda_read
lsda_none size o old is h = took (Option ℕ) (lsda_read old.is_big size o old.end) old old None (went_none old is) (rw h refl)

module _ (size : ℕ) (o : Option Augmentation) (a : Augmentation) (there : o ≡ Some a) where
  pub lsda_no_size : (big : Bool) (end : ℕ) (bs : List ℕ) (e : ReadError) → uleb_read bs ≡ Err e → lsda_read big size o end bs ≡ Err e
  unfolding lsda_read
  lsda_no_size big end bs e h = rw (there, h) refl

  module _ (n : ℕ) (old mid : Reading) (size_at : Reads ℕ uleb_at old mid n) where
    sized : Took ℕ uleb_read old mid n
    sized = took_of ℕ uleb_at uleb_read old mid n uleb_law size_at

    pub lsda_cut : (e : ReadError) → bytes_read n (left mid) ≡ Err e → lsda_read old.is_big size o old.end (left old) ≡ Err e
    unfolding lsda_read
    lsda_cut e h = rw (there, sized.value, h) refl

    module _ (block after : Reading) (is : IsReading mid) (ia : IsReading after) (q : block ≡ part n mid) (p : Passes n mid after) where
      gone : Went old after
      gone = went_then old mid after (went ℕ uleb_read old mid n sized) (went_of n mid after p)

      split_off : bytes_read n (left mid) ≡ Ok (left block, left after)
      split_off = bytes_took n mid after block is q p

      order : block.is_big ≡ old.is_big
      order = ap (λ (r : Reading). r.is_big) q ∙ went_order old mid (went ℕ uleb_read old mid n sized)

      block_end : block.end ≡ standing old.end (left after)
      block_end =
          let e : block.end ≡ mid.place + n = ap (λ (r : Reading). r.end) q in
          let s : after.place ≡ mid.place + n = ap (λ (r : Reading). r.place) p.is in
          e ∙ sym s ∙ place_stands old after ia gone

      lost_is : (e : ReadError) → pointed_read old.is_big size a.lsda (standing old.end (left after)) (left block) ≡ Err e → lsda_read old.is_big size o old.end (left old) ≡ Err e
      unfolding lsda_read
      lost_is e h = rw (there, sized.value, split_off, h) refl

      found_is : (x : Option ℕ) (rest : List ℕ) → pointed_read old.is_big size a.lsda (standing old.end (left after)) (left block) ≡ Ok (x, rest) → lsda_read old.is_big size o old.end (left old) ≡ Ok (x, left after)
      unfolding lsda_read
      found_is x rest h = rw (there, sized.value, split_off, h) refl

      pub lsda_lost : (e : ReadError) → pointed_read block.is_big size a.lsda block.end (left block) ≡ Err e → lsda_read old.is_big size o old.end (left old) ≡ Err e
      lsda_lost e h = lost_is e (subst (λ (b : Bool). pointed_read b size a.lsda (standing old.end (left after)) (left block) ≡ Err e) order (subst (λ (k : ℕ). pointed_read block.is_big size a.lsda k (left block) ≡ Err e) block_end h))

      pub lsda_found : (x : Option ℕ) (last : Reading) → Took (Option ℕ) (pointed_read block.is_big size a.lsda block.end) block last x → Took (Option ℕ) (lsda_read old.is_big size o old.end) old after x
      lsda_found x last h =
          took (Option ℕ) (lsda_read old.is_big size o old.end) old after x gone
          (found_is x (left last) (subst (λ (b : Bool). pointed_read b size a.lsda (standing old.end (left after)) (left block) ≡ Ok (x, left last)) order (subst (λ (k : ℕ). pointed_read block.is_big size a.lsda k (left block) ≡ Ok (x, left last)) block_end h.value)))

-- the fields in turn
module _ (c : CieFields) (e : DwEhPe) (encoded : e ≡ address_encoding c.augmentation) (old : Reading) (is : IsReading old) where
  address_by : (r : ReadError) → pointer_read old.is_big c.encoding.address_size (address_encoding c.augmentation) (standing old.end (left old)) (left old) ≡ Err r → fde_read old.is_big c old.end (left old) ≡ Err r
  unfolding fde_read
  address_by r h = rw h refl

  pub fde_no_address : (r : ReadError) → pointer_read old.is_big c.encoding.address_size e old.place (left old) ≡ Err r → fde_read old.is_big c old.end (left old) ≡ Err r
  fde_no_address r h =
      address_by r
      (subst (λ (x : DwEhPe). pointer_read old.is_big c.encoding.address_size x (standing old.end (left old)) (left old) ≡ Err r) encoded (subst (λ (n : ℕ). pointer_read old.is_big c.encoding.address_size e n (left old) ≡ Err r) (place_is old is) h))

  module _ (p : ℕ) (r1 : Reading) (h1 : Took ℕ (pointer_read old.is_big c.encoding.address_size e old.place) old r1 p) where
    v1 : pointer_read old.is_big c.encoding.address_size (address_encoding c.augmentation) (standing old.end (left old)) (left old) ≡ Ok (p, left r1)
    v1 = subst (λ (x : DwEhPe). pointer_read old.is_big c.encoding.address_size x (standing old.end (left old)) (left old) ≡ Ok (p, left r1)) encoded (subst (λ (n : ℕ). pointer_read old.is_big c.encoding.address_size e n (left old) ≡ Ok (p, left r1)) (place_is old is) h1.value)

    w1 : Went old r1
    w1 = went_of h1.count old r1 h1.passes

    length_by : (r : ReadError) → data_read old.is_big c.encoding.address_size (address_encoding c.augmentation) (left r1) ≡ Err r → fde_read old.is_big c old.end (left old) ≡ Err r
    unfolding fde_read
    length_by r h = rw (v1, h) refl

    pub fde_no_length : (r : ReadError) → data_read r1.is_big c.encoding.address_size e (left r1) ≡ Err r → fde_read old.is_big c old.end (left old) ≡ Err r
    fde_no_length r h =
        length_by r (not_in ℕ (λ b. data_read b c.encoding.address_size (address_encoding c.augmentation)) old r1 (left r1) r w1
        (subst (λ (x : DwEhPe). data_read r1.is_big c.encoding.address_size x (left r1) ≡ Err r) encoded h))

    module _ (n : ℕ) (r2 : Reading) (h2 : Took ℕ (data_read r1.is_big c.encoding.address_size e) r1 r2 n) where
      t2 : Took ℕ (data_read old.is_big c.encoding.address_size (address_encoding c.augmentation)) r1 r2 n
      t2 = took_in ℕ (λ b. data_read b c.encoding.address_size (address_encoding c.augmentation)) old r1 r2 n w1
          (subst (λ (x : DwEhPe). Took ℕ (data_read r1.is_big c.encoding.address_size x) r1 r2 n) encoded h2)

      w2 : Went old r2
      w2 = went_then old r1 r2 w1 (went_of t2.count r1 r2 t2.passes)

      lsda_by : (r : ReadError) → lsda_read old.is_big c.encoding.address_size c.augmentation old.end (left r2) ≡ Err r → fde_read old.is_big c old.end (left old) ≡ Err r
      unfolding fde_read
      lsda_by r h = rw (v1, t2.value, h) refl

      pub fde_no_lsda : (r : ReadError) → lsda_read r2.is_big c.encoding.address_size c.augmentation r2.end (left r2) ≡ Err r → fde_read old.is_big c old.end (left old) ≡ Err r
      fde_no_lsda r h =
          lsda_by r (not_in (Option ℕ) (λ b. lsda_read b c.encoding.address_size c.augmentation old.end) old r2 (left r2) r w2
          (subst (λ (k : ℕ). lsda_read r2.is_big c.encoding.address_size c.augmentation k (left r2) ≡ Err r) (end_kept old r2 w2) h))

      module _ (x : Option ℕ) (r3 : Reading) (h3 : Took (Option ℕ) (lsda_read r2.is_big c.encoding.address_size c.augmentation r2.end) r2 r3 x) where
        t3 : Took (Option ℕ) (lsda_read old.is_big c.encoding.address_size c.augmentation old.end) r2 r3 x
        t3 = took_in (Option ℕ) (λ b. lsda_read b c.encoding.address_size c.augmentation old.end) old r2 r3 x w2
            (subst (λ (k : ℕ). Took (Option ℕ) (lsda_read r2.is_big c.encoding.address_size c.augmentation k) r2 r3 x) (end_kept old r2 w2) h3)

        fields_are : fde_read old.is_big c old.end (left old) ≡ Ok (record { initial_address = p; length = n; lsda = x }, left r3)
        unfolding fde_read
        fields_are = rw (v1, t2.value, t3.value) refl

        pub fde_took : Took FdeFields (fde_read old.is_big c old.end) old r3 (record { initial_address = p; length = n; lsda = x })
        fde_took = took FdeFields (fde_read old.is_big c old.end) old r3 (record { initial_address = p; length = n; lsda = x }) (went_then old r2 r3 w2 (went_of t3.count r2 r3 t3.passes)) fields_are
