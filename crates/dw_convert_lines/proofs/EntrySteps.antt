-- One step over the directories or the files of a header.
use Rattle.std.proofs.Common.{◌≡◌, ◌∙◌, sym, subst, ap, ℕ, zero, suc, ◌-◌, ◌<◌, Bool, false, List, length, Option, Some, None, Result, Ok, Err, refl, arith}
use Rattle.dw_read.specs.Reading.{Reading, left}
use Rattle.dw_read.specs.declared.error.ReadError.{ReadError}
use Rattle.dw_read.proofs.Lefts.{same_order}
use Rattle.dw_read_lines.specs.FileEntryIters.{layout_of, HasParts, TakesEntry, MissesEntry, PassesEntry, ClosesEntries, RefusesEntry, ReadsEntry}
use Rattle.dw_read_lines.specs.LineEntries.{Entry, next_read}
use Rattle.dw_read_lines.specs.LineEntryViews.{entry_of}
use Rattle.dw_read_lines.specs.declared.file_entries.FileEntryIter.{FileEntryIter}
use Rattle.dw_read_lines.specs.declared.file_entries.Layout.{Layout as HeldLayout}
use Rattle.dw_read_lines.specs.declared.file_entries.Layout.TheVariants as held
use Rattle.dw_read_lines.specs.declared.file_entry.FileEntry.{FileEntry}
use Rattle.dw_convert_lines.proofs.OldEntries.{directory_shorter, file_shorter}

-- how much of entries there is: up to version 4 their bytes, else their number
abbrev pub left_over : {R E : Type 0} → HeldLayout R E → ℕ → ℕ → ℕ
left_over held.Directories n m = m
left_over held.Files n m = m
left_over (held.Described d) n m = n

abbrev Next : Type 0
Next = Option Entry × List ℕ

abbrev ok : Next → Result Next ReadError
ok x = Ok x

none_left : (x y : Next) (e : Entry) → x.0 ≡ None → y.0 ≡ Some e → ok x ≡ ok y → ⊥
none_left x y e h k s =
    let t : x ≡ y = cc in
    let u : x.0 ≡ y.0 = ap (λ (p : Next). p.0) t in
    cc

module _ (R E : Type 0) (reading : R → Reading) where
  pub smaller_by : (l : HeldLayout R E) (big : Bool) (parts : List (ℕ × ℕ)) (n : ℕ) (bytes rest : List ℕ) (x : Entry) (k : ℕ) → next_read big (layout_of reading l parts) n bytes ≡ Ok (Some x, rest) → k ≡ n - 1 → left_over l k (length rest) < left_over l n (length bytes)
  unfolding next_read
  smaller_by held.Directories big parts n bytes rest x k h e = directory_shorter bytes (Some x, rest) h
  smaller_by held.Files big parts n bytes rest x k h e = file_shorter bytes x rest h
  smaller_by (held.Described d) big parts zero bytes rest x k h e = absurd (none_left (None, bytes) (Some x, rest) x refl refl h)
  smaller_by (held.Described d) big parts (suc n) bytes rest x k h e = omega arith

module _ (R E : Type 0) (reading : R → Reading) (old new : FileEntryIter R E) where
  pub passes : (o : Option (FileEntry R E)) (x : FileEntry R E) → ReadsEntry reading old new (Ok o) → o ≡ Some x → PassesEntry reading old new x
  passes o x h e = subst (λ (p : Option (FileEntry R E)). ReadsEntry reading old new (Ok p)) e h

  pub closes : (o : Option (FileEntry R E)) → ReadsEntry reading old new (Ok o) → o ≡ None → ClosesEntries reading old new
  closes o h e = subst (λ (p : Option (FileEntry R E)). ReadsEntry reading old new (Ok p)) e h

  module _ (big : Bool) (l : HeldLayout R E) (parts : List (ℕ × ℕ)) (order : (reading old.input).is_big ≡ big) (layout : old.layout ≡ l) (has : HasParts reading l parts) where
    -- what was read, by the order and the layout of the list
    taken_here : (x : Option Entry) → TakesEntry reading (reading old.input) (reading new.input) old.layout old.remaining x → next_read big (layout_of reading l parts) old.remaining (left (reading old.input)) ≡ Ok (x, left (reading new.input))
    taken_here x t =
        let u : TakesEntry reading (reading old.input) (reading new.input) l old.remaining x = subst (λ (k : HeldLayout R E). TakesEntry reading (reading old.input) (reading new.input) k old.remaining x) layout t in
        subst (λ (b : Bool). next_read b (layout_of reading l parts) old.remaining (left (reading old.input)) ≡ Ok (x, left (reading new.input))) order (u parts has).value

    pub read_here : (x : FileEntry R E) → PassesEntry reading old new x → next_read big (layout_of reading l parts) old.remaining (left (reading old.input)) ≡ Ok (Some (entry_of reading x), left (reading new.input))
    read_here x h = taken_here (Some (entry_of reading x)) h.entry

    pub closed_here : old.has_ended ≡ false → ClosesEntries reading old new → next_read big (layout_of reading l parts) old.remaining (left (reading old.input)) ≡ Ok (None, left (reading new.input))
    closed_here o h = taken_here None (h.is o)

    pub refused_here : (e : ReadError) → RefusesEntry reading old new e → next_read big (layout_of reading l parts) old.remaining (left (reading old.input)) ≡ Err e
    refused_here e h =
        let u : MissesEntry reading (reading old.input) l old.remaining e = subst (λ (k : HeldLayout R E). MissesEntry reading (reading old.input) k old.remaining e) layout h.refused in
        subst (λ (b : Bool). next_read b (layout_of reading l parts) old.remaining (left (reading old.input)) ≡ Err e) order (u parts has)

    order_then : (x : Option Entry) → TakesEntry reading (reading old.input) (reading new.input) old.layout old.remaining x → (reading new.input).is_big ≡ (reading old.input).is_big
    order_then x t =
        let u : TakesEntry reading (reading old.input) (reading new.input) l old.remaining x = subst (λ (k : HeldLayout R E). TakesEntry reading (reading old.input) (reading new.input) k old.remaining x) layout t in
        same_order _ _ _ (u parts has).passes

    pub order_passed : (x : FileEntry R E) → PassesEntry reading old new x → (reading new.input).is_big ≡ (reading old.input).is_big
    order_passed x h = order_then (Some (entry_of reading x)) h.entry

    pub order_closed : old.has_ended ≡ false → ClosesEntries reading old new → (reading new.input).is_big ≡ (reading old.input).is_big
    order_closed o h = order_then None (h.is o)

    pub smaller : (x : FileEntry R E) → PassesEntry reading old new x → left_over new.layout new.remaining (length (left (reading new.input))) < left_over old.layout old.remaining (length (left (reading old.input)))
    smaller x h =
        let e : l ≡ new.layout = sym (h.layout ∙ layout) in
        let s : left_over l new.remaining (length (left (reading new.input))) < left_over l old.remaining (length (left (reading old.input))) =
        smaller_by R E reading l big parts old.remaining (left (reading old.input)) (left (reading new.input)) (entry_of reading x) new.remaining (read_here x h) h.remaining in
        subst (λ (k : HeldLayout R E). left_over k new.remaining (length (left (reading new.input))) < left_over old.layout old.remaining (length (left (reading old.input)))) e
        (subst (λ (k : HeldLayout R E). left_over l new.remaining (length (left (reading new.input))) < left_over k old.remaining (length (left (reading old.input)))) (sym layout) s)
