-- Entries, from what the calls in them answered.
use Rattle.std.proofs.Common.{◌≡◌, ◌∙◌, sym, ap, subst, ℕ, ◌+◌, ◌-◌, List, length, Option, Some, None, IfSome, Ok, Err, Bool, refl, arith}
use Rattle.dw_base.specs.declared.common.Format.{Format}
use Rattle.dw_read.specs.Reading.{Reading, IsReading, Passes, left, part}
use Rattle.dw_read.specs.Reasons.{bytes_read}
use Rattle.dw_read.specs.Took.{Took, option_of}
use Rattle.dw_read.specs.declared.error.ReadError.{ReadError}
use Rattle.dw_read.specs.declared.error.ReadError.TheVariants.{InvalidCiePointer}
use Rattle.dw_read.proofs.Laws.{IsReadOf}
use Rattle.dw_read.proofs.Chain.{Went, took, went}
use Rattle.dw_read.proofs.HeaderParts.{bytes_took}
use Rattle.dw_read.proofs.Lefts.{shorter, same_order}
use Rattle.dw_read_frames.specs.Augmentations.{standing}
use Rattle.dw_read_frames.specs.Heads.{Head, head_read}
use Rattle.dw_read_frames.specs.HeadViews.{IsBody}
use Rattle.dw_read_frames.specs.Cies.{fields_read}
use Rattle.dw_read_frames.specs.Entries.{Entry, Cie, Fde, entry_read, entry_at, cie_or, cie_at_read, end_at_read}
use Rattle.dw_read_frames.specs.EntryViews.{IsRestAt, entry_of, rest_of, held_cie}
use Rattle.dw_read_frames.specs.declared.cie.CommonInformationEntry.{CommonInformationEntry}
use Rattle.dw_read_frames.specs.declared.entries.CieOrFde.{CieOrFde}
use Rattle.dw_read_frames.specs.declared.entries.CieOrFde.TheVariants as held
use Rattle.dw_read_frames.specs.declared.cie.CieFields.{CieFields}
use Rattle.dw_read_frames.proofs.Steps.{place_is}

module _ (eh : Bool) (size : ℕ) where
  pub entry_no_head : (big : Bool) (at : ℕ) (bs : List ℕ) (e : ReadError) → head_read eh big at bs ≡ Err e → entry_read eh big size at bs ≡ Err e
  unfolding entry_read
  entry_no_head big at bs e h = rw h refl

  pub entry_ends : (old new : Reading) → Took (Option Head) (head_read eh old.is_big old.place) old new None → Took (Option Entry) (entry_read eh old.is_big size old.place) old new None
  unfolding entry_read
  entry_ends old new t = took (Option Entry) (entry_read eh old.is_big size old.place) old new None (went (Option Head) (head_read eh old.is_big old.place) old new None t) (rw t.value refl)

  fde_is : (big : Bool) (at : ℕ) (f : Format) (cie : Option ℕ) (c : ℕ) (body bs rest : List ℕ) → head_read eh big at bs ≡ Ok (Some (record { format = f; cie = cie; body = body }), rest) → cie ≡ Some c → entry_read eh big size at bs ≡ Ok (Some (Fde f c body), rest)
  unfolding entry_read
  fde_is big at f cie c body bs rest h k = rw (h, k) refl

  fields_lost : (big : Bool) (at : ℕ) (f : Format) (cie : Option ℕ) (body bs rest : List ℕ) (e : ReadError) → head_read eh big at bs ≡ Ok (Some (record { format = f; cie = cie; body = body }), rest) → cie ≡ None
      → fields_read eh big size f (at + (length bs - length rest)) body ≡ Err e → entry_read eh big size at bs ≡ Err e
  unfolding entry_read
  fields_lost big at f cie body bs rest e h k i = rw (h, k, i) refl

  fields_found : (big : Bool) (at : ℕ) (f : Format) (cie : Option ℕ) (body bs rest last : List ℕ) (x : CieFields) → head_read eh big at bs ≡ Ok (Some (record { format = f; cie = cie; body = body }), rest) → cie ≡ None
      → fields_read eh big size f (at + (length bs - length rest)) body ≡ Ok (x, last) → entry_read eh big size at bs ≡ Ok (Some (Cie x last), rest)
  unfolding entry_read
  fields_found big at f cie body bs rest last x h k i = rw (h, k, i) refl

  module _ (f : Format) (cie : Option ℕ) (old new body : Reading) (t : Took (Option Head) (head_read eh old.is_big old.place) old new (Some (record { format = f; cie = cie; body = left body }))) where
    gone : Went old new
    gone = went (Option Head) (head_read eh old.is_big old.place) old new (Some (record { format = f; cie = cie; body = left body })) t

    pub entry_is_fde : (c : ℕ) → cie ≡ Some c → Took (Option Entry) (entry_read eh old.is_big size old.place) old new (Some (Fde f c (left body)))
    entry_is_fde c k = took (Option Entry) (entry_read eh old.is_big size old.place) old new (Some (Fde f c (left body))) gone (fde_is old.is_big old.place f cie c (left body) (left old) (left new) t.value k)

    module _ (k : cie ≡ None) (io : IsReading old) (inn : IsReading new) (is : IsBody old new body) where
      ends : body.end ≡ old.place + (length (left old) - length (left new))
      ends =
          let a : body.end ≡ new.place = ap (λ (r : Reading). r.end) is in
          let b : length (left new) + gone.count ≡ length (left old) = shorter gone.count old new io inn gone.passes in
          let d : new.place ≡ old.place + gone.count = ap (λ (r : Reading). r.place) gone.passes.is in
          omega arith

      order : body.is_big ≡ old.is_big
      order = ap (λ (r : Reading). r.is_big) is

      pub entry_no_fields : (e : ReadError) → fields_read eh body.is_big size f body.end (left body) ≡ Err e → entry_read eh old.is_big size old.place (left old) ≡ Err e
      entry_no_fields e h =
          fields_lost old.is_big old.place f cie (left body) (left old) (left new) e t.value k
          (subst (λ (b : Bool). fields_read eh b size f (old.place + (length (left old) - length (left new))) (left body) ≡ Err e) order (subst (λ (n : ℕ). fields_read eh body.is_big size f n (left body) ≡ Err e) ends h))

      pub entry_is_cie : (x : CieFields) (last : Reading) → Took CieFields (fields_read eh body.is_big size f body.end) body last x → Took (Option Entry) (entry_read eh old.is_big size old.place) old new (Some (Cie x (left last)))
      entry_is_cie x last h =
          took (Option Entry) (entry_read eh old.is_big size old.place) old new (Some (Cie x (left last))) gone
          (fields_found old.is_big old.place f cie (left body) (left old) (left new) (left last) x t.value k
          (subst (λ (b : Bool). fields_read eh b size f (old.place + (length (left old) - length (left new))) (left body) ≡ Ok (x, left last)) order (subst (λ (n : ℕ). fields_read eh body.is_big size f n (left body) ≡ Ok (x, left last)) ends h.value)))

-- what is left once more was read of an entry
pub body_goes_on : (old new body last : Reading) → IsBody old new body → Went body last → IsReading last → IsBody old new last
body_goes_on old new body last is g il =
    let b : last ≡ record body { place = body.place + g.count } = g.passes.is in
    let c : last ≡ record old { place = body.place + g.count; end = new.place } = b ∙ ap (λ (r : Reading). record r { place = body.place + g.count }) is in
    let e : last.end ≡ new.place = ap (λ (r : Reading). r.end) c in
    let p : last.place ≡ body.place + g.count = ap (λ (r : Reading). r.place) c in
    let q : last.place ≡ last.end - length (left last) = place_is last il in
    let z : body.place + g.count ≡ new.place - length (left last) = omega arith in
    c ∙ ap (λ (n : ℕ). record old { place = n; end = new.place }) z

pub entry_law : (eh big : Bool) (size at : ℕ) → IsReadOf (Option Entry) (entry_at eh big size at) (entry_read eh big size at)
unfolding entry_at
entry_law eh big size at bytes = refl

-- the CIE at an offset
module _ (eh : Bool) (size offset : ℕ) where
  pub at_no_place : (big : Bool) (at : ℕ) (bs : List ℕ) (e : ReadError) → bytes_read offset bs ≡ Err e → cie_at_read eh big size at offset bs ≡ Err e
  unfolding cie_at_read
  at_no_place big at bs e h = rw h refl

  module _ (old mid : Reading) (io : IsReading old) (p : Passes offset old mid) where
    skipped : bytes_read offset (left old) ≡ Ok (left (part offset old), left mid)
    skipped = bytes_took offset old mid (part offset old) io refl p

    lost_by : (e : ReadError) → entry_read eh old.is_big size (old.place + offset) (left mid) ≡ Err e → cie_at_read eh old.is_big size old.place offset (left old) ≡ Err e
    unfolding cie_at_read
    lost_by e h = rw (skipped, h) refl

    found_by : (x : Option Entry) (rest : List ℕ) → entry_read eh old.is_big size (old.place + offset) (left mid) ≡ Ok (x, rest) → cie_at_read eh old.is_big size old.place offset (left old) ≡ cie_or (InvalidCiePointer offset) x
    unfolding cie_at_read
    found_by x rest h = rw (skipped, h) refl

    ended_by : (x : Option Entry) (rest : List ℕ) → entry_read eh old.is_big size (old.place + offset) (left mid) ≡ Ok (x, rest) → end_at_read eh old.is_big size old.place offset old.end (left old) ≡ Ok (standing old.end rest)
    unfolding end_at_read
    ended_by x rest h = rw (skipped, h) refl

    stands : mid.place ≡ old.place + offset
    stands = ap (λ (r : Reading). r.place) p.is

    pub at_no_entry : (e : ReadError) → entry_read eh mid.is_big size mid.place (left mid) ≡ Err e → cie_at_read eh old.is_big size old.place offset (left old) ≡ Err e
    at_no_entry e h = lost_by e (subst (λ (b : Bool). entry_read eh b size (old.place + offset) (left mid) ≡ Err e) (same_order offset old mid p) (subst (λ (n : ℕ). entry_read eh mid.is_big size n (left mid) ≡ Err e) stands h))

    module _ (x : Option Entry) (new : Reading) (h : Took (Option Entry) (entry_read eh mid.is_big size mid.place) mid new x) where
      read_there : entry_read eh old.is_big size (old.place + offset) (left mid) ≡ Ok (x, left new)
      read_there = subst (λ (b : Bool). entry_read eh b size (old.place + offset) (left mid) ≡ Ok (x, left new)) (same_order offset old mid p) (subst (λ (n : ℕ). entry_read eh mid.is_big size n (left mid) ≡ Ok (x, left new)) stands h.value)

      pub at_entry : cie_at_read eh old.is_big size old.place offset (left old) ≡ cie_or (InvalidCiePointer offset) x
      at_entry = found_by x (left new) read_there

      pub rest_at : (last : Reading) → IsReading new → IsBody mid new last → IsRestAt eh size offset old last
      rest_at last is b =
          let e : new.end ≡ old.end = ap (λ (r : Reading). r.end) h.passes.is ∙ ap (λ (r : Reading). r.end) p.is in
          let q : new.place ≡ standing old.end (left new) = place_is new is ∙ ap (λ (n : ℕ). n - length (left new)) e in
          let l : last.end ≡ new.place = ap (λ (r : Reading). r.end) b in
          record {
            ends = ended_by x (left new) read_there ∙ ap (λ (n : ℕ). Ok n) (sym (l ∙ q));
            is = b ∙ ap (λ (r : Reading). record r { place = new.place - length (left last); end = new.place }) p.is ∙ ap (λ (n : ℕ). record old { place = n - length (left last); end = n }) (sym l);
          }

pub no_cie : {R E : Type 0} (reading : R → Reading) (e : ReadError) (o : Option (CieOrFde R E)) → held_cie o ≡ None → cie_or e (option_of (entry_of reading) o) ≡ Err e
no_cie reading e None h = refl
no_cie reading e (Some (held.Cie c)) h = absurd (cc)
no_cie reading e (Some (held.Fde f)) h = refl

pub one_cie : {R E : Type 0} (reading : R → Reading) (e : ReadError) (o : Option (CieOrFde R E)) (c : CommonInformationEntry R E) → held_cie o ≡ Some c → cie_or e (option_of (entry_of reading) o) ≡ Ok (c.fields, left (reading c.instructions))
one_cie reading e None c h = absurd (cc)
one_cie {R = R} {E = E} reading e (Some (held.Cie d)) c h = let q : d ≡ c = cc in ap (λ (x : CommonInformationEntry R E). Ok (x.fields, left (reading x.instructions))) q
one_cie reading e (Some (held.Fde f)) c h = absurd (cc)

pub cie_rest : {R E : Type 0} (reading : R → Reading) (old new : Reading) (o : Option (CieOrFde R E)) (c : CommonInformationEntry R E) → held_cie o ≡ Some c → IfSome o (λ x. IsBody old new (rest_of reading x)) → IsBody old new (reading c.instructions)
cie_rest reading old new None c h b = absurd (cc)
cie_rest {R = R} {E = E} reading old new (Some (held.Cie d)) c h b = let q : d ≡ c = cc in subst (λ (x : CommonInformationEntry R E). IsBody old new (reading x.instructions)) q b
cie_rest reading old new (Some (held.Fde f)) c h b = absurd (cc)
