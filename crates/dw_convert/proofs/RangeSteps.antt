-- One step over the items of a range list.
use Rattle.std.proofs.Common.{◌≡◌, subst, Bool, false, Option, Some, None, Ok, Err}
use Rattle.dw_base.specs.declared.common.Encoding.{Encoding}
use Rattle.dw_read.specs.Reading.{Reading, left}
use Rattle.dw_read.specs.declared.error.ReadError.{ReadError}
use Rattle.dw_sources.specs.RawLists.{range_at, range_read}
use Rattle.dw_sources.specs.RawListViews.{span_of}
use Rattle.dw_sources.specs.RawListIters.{PassesRange, ClosesRanges, RefusesRange, ReadsRange}
use Rattle.dw_sources.specs.declared.range_item.RawRngListEntry.{RawRngListEntry}
use Rattle.dw_sources.specs.declared.raw_lists.RawRngListIter.{RawRngListIter}

module _ (R E : Type 0) (reading : R → Reading) (old new : RawRngListIter R E) where
  pub passes : (o : Option RawRngListEntry) (x : RawRngListEntry) → ReadsRange reading old new (Ok o) → o ≡ Some x → PassesRange reading old new x
  passes o x h e = subst (λ p. ReadsRange reading old new (Ok p)) e h

  pub closes : (o : Option RawRngListEntry) → ReadsRange reading old new (Ok o) → o ≡ None → ClosesRanges reading old new
  closes o h e = subst (λ p. ReadsRange reading old new (Ok p)) e h

  -- what is read, by the order and the encoding of the list
  pub read_here : (big : Bool) (e : Encoding) (x : RawRngListEntry) → (reading old.input).is_big ≡ big → old.encoding ≡ e → PassesRange reading old new x
      → range_at big e (left (reading old.input)) ≡ Some (Some (span_of x), left (reading new.input))
  read_here big e x b n h = subst (λ (y : Encoding). range_at big y (left (reading old.input)) ≡ Some (Some (span_of x), left (reading new.input))) n
      (subst (λ (y : Bool). range_at y old.encoding (left (reading old.input)) ≡ Some (Some (span_of x), left (reading new.input))) b h.item.value)

  pub closed_here : (big : Bool) (e : Encoding) → (reading old.input).is_big ≡ big → old.encoding ≡ e → old.has_ended ≡ false → ClosesRanges reading old new
      → range_at big e (left (reading old.input)) ≡ Some (None, left (reading new.input))
  closed_here big e b n o h = subst (λ (y : Encoding). range_at big y (left (reading old.input)) ≡ Some (None, left (reading new.input))) n
      (subst (λ (y : Bool). range_at y old.encoding (left (reading old.input)) ≡ Some (None, left (reading new.input))) b (h.is o).value)

  pub refused_here : (big : Bool) (e : Encoding) (r : ReadError) → (reading old.input).is_big ≡ big → old.encoding ≡ e → RefusesRange reading old new r
      → range_read big e (left (reading old.input)) ≡ Err r
  refused_here big e r b n h = subst (λ (y : Encoding). range_read big y (left (reading old.input)) ≡ Err r) n
      (subst (λ (y : Bool). range_read y old.encoding (left (reading old.input)) ≡ Err r) b h.refused.reason)
