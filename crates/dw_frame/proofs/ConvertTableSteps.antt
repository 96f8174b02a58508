-- Entries that are read and converted, one after the other.
use Rattle.std.proofs.Common.{◌≡◌, ◌∙◌, sym, ap, subst, inl, inr, ℕ, ◌-◌, ◌≤◌, List, [], ◌∷◌, ◌++◌, length, Option, Some, None, Result, Ok, Err, Bool, true, false, refl, ⊎_elim, arith}
use Rattle.std.specs.List.{position_or_len}
use Rattle.std.proofs.lemmas.List.{append-nil, append_assoc}
use Rattle.dw_base.specs.declared.address.Address.{Address}
use Rattle.dw_base.specs.declared.ids.CieId.{CieId}
use Rattle.dw_read.specs.Reading.{Reading, IsReading, left}
use Rattle.dw_read.specs.declared.error.ReadError.{ReadError}
use Rattle.dw_read.proofs.Lefts.{length-left}
use Rattle.dw_read_frames.specs.Augmentations.{standing}
use Rattle.dw_read_frames.specs.Entries.{Entry, entry_at, entry_read, cie_at_read, end_at_read}
use Rattle.dw_read_frames.specs.EntryViews.{BeginsEntries, IsRestAt, PassesEntry, EndsEntries, RefusesEntry, ReadsEntry, IsOver, entry_of}
use Rattle.dw_read_frames.specs.declared.cie.CieFields.{CieFields}
use Rattle.dw_read_frames.specs.declared.fde.FdeFields.{FdeFields}
use Rattle.dw_read_frames.specs.declared.cie.CommonInformationEntry.{CommonInformationEntry as ReadCie}
use Rattle.dw_read_frames.specs.declared.entries.CfiEntriesIter.{CfiEntriesIter}
use Rattle.dw_read_frames.specs.declared.entries.CieOrFde.{CieOrFde}
use Rattle.dw_read_frames.specs.declared.entries.CieOrFde.TheVariants as held
use Rattle.dw_read_frames.specs.declared.entries.PartialFrameDescriptionEntry.{PartialFrameDescriptionEntry}
use Rattle.dw_sources.specs.ConvertErrors.{from_read}
use Rattle.dw_sources.specs.declared.convert_error.ConvertError.{ConvertError}
use Rattle.dw_frame.proofs.ConvertLaws.{first_more}
use Rattle.dw_frame.specs.declared.cie.CommonInformationEntry.{CommonInformationEntry}
use Rattle.dw_frame.specs.declared.fde.FrameDescriptionEntry.{FrameDescriptionEntry}
use Rattle.dw_frame.specs.ConvertEntries.{IsCie, RefusesCie, IsFde, RefusesFde}
use Rattle.dw_frame.specs.ConvertTables.{Source, Frame, Pair, frames_of, next_of, joined, with_cie, cies_of, fdes_of, frames_at, EndsSection, IsFrame, RefusesFrame, AreFrames, BegunTable, MissesEntry, FailsEntry}
use Rattle.dw_frame.specs.ConvertSections.{frame_in}
use Rattle.dw_frame.specs.ConvertViews.{cie_terms}

-- where a reader stands, by the bytes that it has left
place_is : (r : Reading) → IsReading r → r.place ≡ r.end - length (left r)
place_is r is = let l : length (left r) ≡ r.end - r.place = length-left r is in let p : r.place ≤ r.end = is.place in omega arith

pub joined_more : (xs : List (List Frame)) (x : List Frame) → joined (xs ++ x ∷ []) ≡ joined xs ++ x
joined_more [] x = append-nil x
joined_more (y ∷ ys) x = ap (λ (zs : List Frame). y ++ zs) (joined_more ys x) ∙ sym (append_assoc y (joined ys) x)

module _ (same : CommonInformationEntry → CommonInformationEntry → Bool) where
  pub cies_more : (cs : List CommonInformationEntry) (xs : List Pair) (x : Pair) → cies_of same cs (xs ++ x ∷ []) ≡ with_cie same x.0 (cies_of same cs xs)
  cies_more cs [] x = refl
  cies_more cs (y ∷ ys) x = cies_more (with_cie same y.0 cs) ys x

  pub fdes_more : (cs : List CommonInformationEntry) (xs : List Pair) (x : Pair) → fdes_of same cs (xs ++ x ∷ []) ≡ fdes_of same cs xs ++ (record { 0 = position_or_len (same x.0) (cies_of same cs xs) }, x.1) ∷ []
  fdes_more cs [] x = refl
  fdes_more cs (y ∷ ys) x = ap (λ (zs : List (CieId × FrameDescriptionEntry)). (record { 0 = position_or_len (same y.0) cs }, y.1) ∷ zs) (fdes_more (with_cie same y.0 cs) ys x)

-- the same section, place and entry
entry_so : (h k : Bool) (b d : Bool) (n m : ℕ) (p q : ℕ) (bytes next : List ℕ) (x : Option Entry) → h ≡ k → b ≡ d → n ≡ m → p ≡ q → entry_at h b n p bytes ≡ Some (x, next) → entry_at k d m q bytes ≡ Some (x, next)
entry_so h k b d n m p q bytes next x e f g i j = cc

refused_so : (h k : Bool) (b d : Bool) (n m : ℕ) (p q : ℕ) (bytes : List ℕ) (why : ReadError) → h ≡ k → b ≡ d → n ≡ m → p ≡ q → entry_read h b n p bytes ≡ Err why → entry_read k d m q bytes ≡ Err why
refused_so h k b d n m p q bytes why e f g i j = cc

not_nil : (b : ℕ) (bs : List ℕ) → length (b ∷ bs) ≡ 0 → ⊥
not_nil b bs h = cc

not_both : (b : Bool) → b ≡ true → b ≡ false → ⊥
not_both b p q = cc

module _ (answers : ℕ → Option Address → Type 0) (s : Source) where
  frames_more : (fs : List Frame) (xs : List Pair) (f : Frame) (x : Pair) → AreFrames answers s fs xs → IsFrame answers s s.section.is_big f x → AreFrames answers s (fs ++ f ∷ []) (xs ++ x ∷ [])
  frames_more [] [] f x h i = (i, tt)
  frames_more [] (y ∷ ys) f x h i = absurd h
  frames_more (g ∷ gs) [] f x h i = absurd h
  frames_more (g ∷ gs) (y ∷ ys) f x h i = (h.0, frames_more gs ys f x h.1 i)

  module _ (R E : Type 0) (reading : R → Reading) where
    -- what is known where the first entries of a section were read and converted
    pub record Stands (i : CfiEntriesIter R E) (pairs : List Pair) : Type 0 where
      pub order : (reading i.input).is_big ≡ s.section.is_big
      pub end : (reading i.input).end ≡ s.section.end
      pub eh : i.is_eh ≡ s.is_eh
      pub size : i.address_size ≡ s.address_size
      pub working : i.has_ended ≡ false
      pub begun : BegunTable answers s (left (reading i.input)) pairs

    pub stands_first : (section : R) (i : CfiEntriesIter R E) → s.section ≡ reading section → BeginsEntries reading section s.address_size s.is_eh i → Stands i []
    stands_first section i e h = record {
      order = ap (λ (r : Reading). r.is_big) (h.input ∙ sym e);
      end = ap (λ (r : Reading). r.end) (h.input ∙ sym e);
      eh = h.is_eh;
      size = h.address_size;
      working = h.not_ended;
      begun = record { entries = []; read = ap left (h.input ∙ sym e); are = tt };
    }

    pub passes_one : (old new : CfiEntriesIter R E) (o : Option (CieOrFde R E)) (x : CieOrFde R E) → ReadsEntry reading old new (Ok o) → o ≡ Some x → PassesEntry reading old new x
    passes_one old new o x h e = subst (λ p. ReadsEntry reading old new (Ok p)) e h

    pub ends_all : (old new : CfiEntriesIter R E) (o : Option (CieOrFde R E)) → ReadsEntry reading old new (Ok o) → o ≡ None → EndsEntries reading old new
    ends_all old new o h e = subst (λ p. ReadsEntry reading old new (Ok p)) e h

    pub is_entry : (old new : CfiEntriesIter R E) (x y : CieOrFde R E) → PassesEntry reading old new x → x ≡ y → PassesEntry reading old new y
    is_entry old new x y h e = subst (λ z. PassesEntry reading old new z) e h

    module _ (old new : CfiEntriesIter R E) (pairs : List Pair) (st : Stands old pairs) (is : IsReading (reading old.input)) where
      stands_at : (reading old.input).place ≡ standing s.section.end (left (reading old.input))
      stands_at = place_is (reading old.input) is ∙ ap (λ (n : ℕ). n - length (left (reading old.input))) st.end

      module _ (x : CieOrFde R E) (p : PassesEntry reading old new x) where
        entry_here : frames_at answers s (left (reading old.input)) ≡ Some (frames_of (standing s.section.end (left (reading new.input))) (entry_of reading x), left (reading new.input))
        entry_here = ap (next_of s.section.end) (entry_so _ _ _ _ _ _ _ _ (left (reading old.input)) (left (reading new.input)) (Some (entry_of reading x)) st.eh st.order st.size stands_at p.entry.value)

        end_same : (reading new.input).end ≡ s.section.end
        end_same = ap (λ (r : Reading). r.end) p.entry.passes.is ∙ st.end

        -- one more entry was read, with what its FDEs become
        grown : (frames : List Frame) (more : List Pair) → frames_of (standing s.section.end (left (reading new.input))) (entry_of reading x) ≡ frames
            → ((entries : List (List Frame)) → AreFrames answers s (joined entries) pairs → AreFrames answers s (joined entries ++ frames) (pairs ++ more)) → Stands new (pairs ++ more)
        grown frames more e f = record {
          order = ap (λ (r : Reading). r.is_big) p.entry.passes.is ∙ st.order;
          end = end_same;
          eh = p.same.0 ∙ st.eh;
          size = p.same.1 ∙ st.size;
          working = p.went_on.1;
          begun = record {
            entries = st.begun.entries ++ frames ∷ [];
            read = first_more (frames_at answers s) (left s.section) st.begun.entries (left (reading old.input)) frames (left (reading new.input)) st.begun.read (subst (λ (fs : List Frame). frames_at answers s (left (reading old.input)) ≡ Some (fs, left (reading new.input))) e entry_here);
            are = subst (λ (fs : List Frame). AreFrames answers s fs (pairs ++ more)) (sym (joined_more st.begun.entries frames)) (f st.begun.entries st.begun.are);
          };
        }

      -- a CIE is none by itself
      pub stands_cie : (c : ReadCie R E) → PassesEntry reading old new (held.Cie c) → Stands new pairs
      stands_cie c p =
          subst (λ (ps : List Pair). Stands new ps) (append-nil pairs)
          (grown (held.Cie c) p [] [] refl (λ entries are. subst (λ (fs : List Frame). AreFrames answers s fs (pairs ++ [])) (sym (append-nil (joined entries))) (subst (λ (ps : List Pair). AreFrames answers s (joined entries) ps) (sym (append-nil pairs)) are)))

      module _ (f : PartialFrameDescriptionEntry R E) (p : PassesEntry reading old new (held.Fde f)) (now : IsReading (reading new.input)) where
        -- the FDE ends where the next entry begins
        frame_here : frames_of (standing s.section.end (left (reading new.input))) (entry_of reading (held.Fde f)) ≡ frame_in reading f ∷ []
        frame_here =
            let e : (reading f.body).end ≡ standing s.section.end (left (reading new.input)) = ap (λ (r : Reading). r.end) p.rest ∙ place_is (reading new.input) now ∙ ap (λ (n : ℕ). n - length (left (reading new.input))) (end_same (held.Fde f) p) in
            ap (λ (n : ℕ). record { cie = f.cie_offset; body = left (reading f.body); end = n } ∷ []) (sym e)

        order_here : (reading f.body).is_big ≡ s.section.is_big
        order_here = ap (λ (r : Reading). r.is_big) p.rest ∙ st.order

        pub stands_fde : (x : Pair) → IsFrame answers s (reading f.body).is_big (frame_in reading f) x → Stands new (pairs ++ x ∷ [])
        stands_fde x h = grown (held.Fde f) p (frame_in reading f ∷ []) (x ∷ []) frame_here (λ entries are. frames_more (joined entries) pairs (frame_in reading f) x are (subst (λ (b : Bool). IsFrame answers s b (frame_in reading f) x) order_here h))

        pub stands_failing : (why : ConvertError) → RefusesFrame answers s (reading f.body).is_big (frame_in reading f) why → FailsEntry answers s (left (reading old.input)) why
        stands_failing why h = record {
          frame = frame_in reading f;
          next = left (reading new.input);
          read = subst (λ (fs : List Frame). frames_at answers s (left (reading old.input)) ≡ Some (fs, left (reading new.input))) frame_here (entry_here (held.Fde f) p);
          refused = subst (λ (b : Bool). RefusesFrame answers s b (frame_in reading f) why) order_here h;
        }

      over_or : (bytes : List ℕ) → left (reading old.input) ≡ bytes → EndsEntries reading old new → EndsSection answers s (left (reading old.input))
      over_or [] e h = inl e
      over_or (b ∷ bs) e h =
          let open_yet : IsOver reading old new → ⊥ = λ o. ⊎_elim (λ (t : old.has_ended ≡ true). not_both old.has_ended t st.working) (λ (z : length (left (reading old.input)) ≡ 0). not_nil b bs (sym (ap length e) ∙ z)) o in
          inr (left (reading new.input), entry_so _ _ _ _ _ _ _ _ (left (reading old.input)) (left (reading new.input)) None st.eh st.order st.size stands_at (h.is open_yet).value)

      pub stands_last : EndsEntries reading old new → EndsSection answers s (left (reading old.input))
      stands_last h = over_or (left (reading old.input)) refl h

      pub stands_missing : (why : ReadError) → RefusesEntry reading old new why → MissesEntry answers s (left (reading old.input)) (from_read why)
      stands_missing why h = record {
        more = λ e. h.not_over (inr (ap length e));
        error = why;
        refused = refused_so _ _ _ _ _ _ _ _ (left (reading old.input)) why st.eh st.order st.size stands_at h.refused.reason;
        is = refl;
      }

-- a CIE at a place that is another one
pub by_place : (h b : Bool) (n p q r : ℕ) (bytes : List ℕ) (x : Result (CieFields × List ℕ) ReadError) → q ≡ r → cie_at_read h b n p q bytes ≡ x → cie_at_read h b n p r bytes ≡ x
by_place h b n p q r bytes x e f = cc

-- a CIE that is another one, read where it stands in a section
module _ (answers : ℕ → Option Address → Type 0) (R E : Type 0) (reading : R → Reading) (eh : Bool) (size p q : ℕ) (section : Reading) (read common : ReadCie R E) (e : p ≡ q) (same : read ≡ common) (at : IsRestAt eh size p section (reading common.instructions)) where
  pub ends_by_place : end_at_read eh section.is_big size section.place q section.end (left section) ≡ Ok (reading common.instructions).end
  ends_by_place = subst (λ (n : ℕ). end_at_read eh section.is_big size section.place n section.end (left section) ≡ Ok (reading common.instructions).end) e at.ends

  order_there : (reading common.instructions).is_big ≡ section.is_big
  order_there = ap (λ (r : Reading). r.is_big) at.is

  pub cie_so : (x : CommonInformationEntry) → IsCie answers (cie_terms reading read) (left (reading read.instructions)) x
      → IsCie answers (record { is_big = section.is_big; end = (reading common.instructions).end; cie = common.fields }) (left (reading common.instructions)) x
  cie_so x h =
      subst (λ (b : Bool). IsCie answers (record { is_big = b; end = (reading common.instructions).end; cie = common.fields }) (left (reading common.instructions)) x) order_there
      (subst (λ (k : ReadCie R E). IsCie answers (cie_terms reading k) (left (reading k.instructions)) x) same h)

  pub refuses_cie_so : (why : ConvertError) → RefusesCie answers (cie_terms reading read) (left (reading read.instructions)) why
      → RefusesCie answers (record { is_big = section.is_big; end = (reading common.instructions).end; cie = common.fields }) (left (reading common.instructions)) why
  refuses_cie_so why h =
      subst (λ (b : Bool). RefusesCie answers (record { is_big = b; end = (reading common.instructions).end; cie = common.fields }) (left (reading common.instructions)) why) order_there
      (subst (λ (k : ReadCie R E). RefusesCie answers (cie_terms reading k) (left (reading k.instructions)) why) same h)

module _ (answers : ℕ → Option Address → Type 0) (b d : Bool) (n m : ℕ) (f k : CieFields) (bytes : List ℕ) (own : FdeFields) (p : b ≡ d) (q : n ≡ m) (e : f ≡ k) where
  -- an FDE by the same terms
  pub fde_so : (x : FrameDescriptionEntry) → IsFde answers (record { is_big = b; end = n; cie = f }) bytes own x → IsFde answers (record { is_big = d; end = m; cie = k }) bytes own x
  fde_so x h =
      subst (λ (z : CieFields). IsFde answers (record { is_big = d; end = m; cie = z }) bytes own x) e
      (subst (λ (z : ℕ). IsFde answers (record { is_big = d; end = z; cie = f }) bytes own x) q (subst (λ (z : Bool). IsFde answers (record { is_big = z; end = n; cie = f }) bytes own x) p h))

  pub refuses_fde_so : (why : ConvertError) → RefusesFde answers (record { is_big = b; end = n; cie = f }) bytes own why → RefusesFde answers (record { is_big = d; end = m; cie = k }) bytes own why
  refuses_fde_so why h =
      subst (λ (z : CieFields). RefusesFde answers (record { is_big = d; end = m; cie = z }) bytes own why) e
      (subst (λ (z : ℕ). RefusesFde answers (record { is_big = d; end = z; cie = f }) bytes own why) q (subst (λ (z : Bool). RefusesFde answers (record { is_big = z; end = n; cie = f }) bytes own why) p h))
