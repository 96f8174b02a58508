-- Operands as they are written are read again.
use Rattle.std.proofs.Common.{◌≡◌, refl, ℕ, ◌^◌, ◌<◌, Bool, true, false, List, Option, Some, None, ℤ, pos, negsuc, if◌then◌else◌}
use Rattle.std.specs.Prelude.{slice_get, ◌+ℤ◌, ◌-ℤ◌, ◌==◌}
use Rattle.dw_base.specs.Numbers.{◌>>=◌, when, word_of}
use Rattle.dw_base.specs.Forms.{info_place_of}
use Rattle.dw_base.specs.declared.address.Address.{Address as TargetAddress}
use Rattle.dw_base.specs.declared.address.Address.TheVariants as addresses
use Rattle.dw_base.specs.declared.address.DebugInfoRef.{DebugInfoRef as InfoRef}
use Rattle.dw_base.specs.declared.address.DebugInfoRef.TheVariants as refs
use Rattle.dw_base.specs.declared.common.Encoding.{Encoding}
use Rattle.dw_base.specs.declared.ids.UnitEntryId.{UnitEntryId}
use Rattle.dw_writer.specs.Texts.{num_text, int_text}
use Rattle.dw_writer.specs.SignedNumbers.{signed_fits, signed_num}
use Rattle.dw_writer.specs.SectionTexts.{address_text, bytes_text}
use Rattle.dw_writer.specs.Meaning.{Layout}
use Rattle.dw_writer.specs.Drafts.{Info}
use Rattle.dw_expr.specs.Spelling.{info_draft, place_draft, distance_text, operand_draft}
use Rattle.dw_expr.specs.Operands.{base_or_generic}
use Rattle.dw_read.specs.Reasons.{number_read, uleb_read, address_read}
use Rattle.dw_sources.specs.Operands.{signed_read, base_read, info_place_read}
use Rattle.dw_read_back.specs.ReadAs.{natural, address_as, info_as, distance_as, base_as}
use Rattle.dw_read_back.specs.ReadBack.{ArePlaces}
use Rattle.dw_read_back.proofs.Numbers.{Again, again_none, place_again, address_again, uleb_again, signed_again, generic_again, base_again}

-- an address of the target
symbol_again : (big : Bool) (w : ℕ) (addend : ℤ) (v : Option ℕ) → Again ℕ (address_read big w) (v >>= λ n. natural (addend +ℤ pos n)) (elim v [ None ↦ None | Some n ↦ int_text big w (addend +ℤ pos n) ])
unfolding int_text
symbol_again big w addend None = again_none ℕ (address_read big w) None
symbol_again big w addend (Some n) = whole (addend +ℤ pos n)
  where
    whole : (z : ℤ) → Again ℕ (address_read big w) (natural z) (int_text big w z)
    whole (pos k) = address_again big w k
    whole (negsuc k) = again_none ℕ (address_read big w) None

pub target_again : (big : Bool) (w : ℕ) (l : Layout) (a : TargetAddress) → Again ℕ (address_read big w) (address_as l a) (address_text w a big l)
unfolding address_text
target_again big w l (addresses.Constant n) = address_again big w n
target_again big w l (addresses.Symbol s addend) = symbol_again big w addend (slice_get l.symbols s)

-- an entry's place in .debug_info
pub info_again : (big : Bool) (w : ℕ) (info : Info) (l : Layout) (r : InfoRef) → Again ℕ (number_read big w) (info_as info r) ((info_draft w r).text info big l)
info_again big w info l (refs.Symbol s) = again_none ℕ (number_read big w) None
info_again big w info l (refs.Entry u i) = place_again big w (info u.0 i.0)

address_place_again : (big : Bool) (w : ℕ) (info : Info) (l : Layout) (r : InfoRef) → Again ℕ (address_read big w) (info_as info r) ((info_draft w r).text info big l)
address_place_again big w info l (refs.Symbol s) = again_none ℕ (address_read big w) None
address_place_again big w info l (refs.Entry u i) = there (info u.0 i.0)
  where
    there : (o : Option ℕ) → Again ℕ (address_read big w) o (o >>= num_text big w)
    there None = again_none ℕ (address_read big w) None
    there (Some n) = address_again big w n

pub info_place_again : (big : Bool) (e : Encoding) (info : Info) (l : Layout) (r : InfoRef) → Again ℕ (info_place_read big e) (info_as info r) ((info_draft (info_place_of e) r).text info big l)
unfolding info_place_read
info_place_again big e info l r = by (e.version == 2)
  where
    by : (b : Bool) → Again ℕ (λ bytes. if b then address_read big e.address_size bytes else number_read big (word_of e.format) bytes) (info_as info r) ((info_draft (if b then e.address_size else word_of e.format) r).text info big l)
    by true = address_place_again big e.address_size info l r
    by false = info_again big (word_of e.format) info l r

-- an entry's place in the unit
pub unit_place_again : (place : ℕ → Option ℕ) (i : ℕ) → ArePlaces place → (info : Info) (big : Bool) (l : Layout) → Again ℕ uleb_read (place i) ((place_draft (place i)).text info big l)
unfolding bytes_text
unit_place_again place i are info big l = by (place i) (are i)
  where
    by : (o : Option ℕ) → ((n : ℕ) → o ≡ Some n → (0 < n) × (n < 2 ^ 64)) → Again ℕ uleb_read o ((place_draft o).text info big l)
    by None h = again_none ℕ uleb_read None
    by (Some n) h = uleb_again n (h n refl).1

pub base_or_generic_again : (e : Encoding) (place : ℕ → Option ℕ) (base : Option UnitEntryId) → ArePlaces place → (info : Info) (big : Bool) (l : Layout) (starts : List ℕ) (to : ℕ) →
    Again (Option ℕ) base_read (base_as place base) ((operand_draft e place starts to (base_or_generic base)).text info big l)
unfolding bytes_text
base_or_generic_again e place None are info big l starts to = generic_again
base_or_generic_again e place (Some i) are info big l starts to = by (place i.0) (are i.0)
  where
    by : (o : Option ℕ) → ((n : ℕ) → o ≡ Some n → (0 < n) × (n < 2 ^ 64)) → Again (Option ℕ) base_read (o >>= λ n. Some (Some n)) ((place_draft o).text info big l)
    by None h = again_none (Option ℕ) base_read None
    by (Some n) h = base_again n (h n refl).0 (h n refl).1

-- how far it is to another operation
pub distance_again : (big : Bool) (starts : List ℕ) (from : ℕ) (target : Option ℕ) → Again ℤ (signed_read big 2) (distance_as starts from target) (distance_text big starts from target)
distance_again big starts from None = again_none ℤ (signed_read big 2) None
distance_again big starts from (Some k) = by (slice_get starts k)
  where
    fitting : (z : ℤ) (b : Bool) → signed_fits 2 z ≡ b → Again ℤ (signed_read big 2) (Some z) (when b (Some (signed_num big 2 z)))
    fitting z true h = signed_again big z h
    fitting z false h = again_none ℤ (signed_read big 2) (Some z)

    by : (o : Option ℕ) → Again ℤ (signed_read big 2) (o >>= λ to. Some (pos to -ℤ pos from)) (o >>= λ to. when (signed_fits 2 (pos to -ℤ pos from)) (Some (signed_num big 2 (pos to -ℤ pos from))))
    by None = again_none ℤ (signed_read big 2) None
    by (Some to) = fitting (pos to -ℤ pos from) (signed_fits 2 (pos to -ℤ pos from)) refl
