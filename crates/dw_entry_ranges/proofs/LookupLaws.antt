-- Addresses and lists that indices lead to, from what the calls of a unit answer.
use Rattle.std.proofs.Common.{◌≡◌, ◌∙◌, sym, ap, subst, ℕ, ◌+◌, ◌<◌, ◌^◌, List, Result, Ok, Err, IfOk, IfErr, ◌⊎◌, inr, ⊎_elim, nat_lt}
use Rattle.std.proofs.lemmas.Bool.{lt-ltb, le-ltb}
use Rattle.std.specs.Prelude.{IsErr}
use Rattle.std.specs.Result.{IsErrAnd}
use Rattle.dw_base.specs.declared.offsets.RangeListsOffset.{RangeListsOffset}
use Rattle.dw_base.specs.Numbers.{number_at}
use Rattle.dw_read.specs.Reading.{Reading}
use Rattle.dw_read.specs.Reasons.{◌=>>◌, if_so, number_read, address_at, address_read}
use Rattle.dw_read.specs.declared.error.ReadError.{ReadError}
use Rattle.dw_read.specs.declared.error.ReadError.TheVariants.{OffsetOutOfBounds, NoMemory}
use Rattle.dw_read.proofs.Laws.{read_is, number_law, address_law}
use Rattle.dw_read_units.specs.Lookups.{bytes_from, indexed, StandsAt, IsMissing, FindsList, MissesList, LeadsPast}
use Rattle.dw_read_units.specs.Units.{word_in, address_in}
use Rattle.dw_read_units.specs.declared.unit_ref.UnitRef.{UnitRef}
use Rattle.dw_entry_ranges.specs.Addresses.{indexed_address}
use Rattle.dw_entry_ranges.specs.Lists.{indexed_list}

-- a `?` hands on a reason
pub is_err : {A : Type 0} (r : Result A ReadError) (e : ReadError) → IsErr r × IsErrAnd r (λ x. x ≡ e) → r ≡ Err e
is_err (Ok x) e h = absurd h.1
is_err (Err x) e h = ap Err h.1

-- so the refusal of a part is that of the whole
pub if_refused : {A B : Type 0} (whole : Result B ReadError) (r : Result A ReadError) (e : ReadError) → IsErr r × IsErrAnd r (λ x. x ≡ e) → whole ≡ Err e → IfErr r (λ y. (y ≡ NoMemory) ⊎ (whole ≡ Err y))
if_refused whole (Ok x) e h k = tt
if_refused whole (Err x) e h k = inr (k ∙ ap Err (sym h.1))

module _ (R E : Type 0) (reading : R → Reading) (u : UnitRef R E) (i : ℕ) where
  pub found_address : (x : ℕ) → StandsAt ℕ (address_at (reading u.dwarf.now.debug_addr).is_big (address_in u)) (indexed u.unit.now.addr_base i (address_in u)) (reading u.dwarf.now.debug_addr) x → indexed_address reading u i ≡ Ok x
  unfolding indexed_address
  found_address x h =
      let section : Reading = reading u.dwarf.now.debug_addr in
      let bytes = bytes_from (indexed u.unit.now.addr_base i (address_in u)) section in
      ap (λ r. r =>> λ y. Ok y.0) (read_is ℕ (address_at section.is_big (address_in u)) (address_read section.is_big (address_in u)) bytes (x, h.rest) (address_law section.is_big (address_in u)) h.is)

  pub missing_address : (e : ReadError) → IsMissing ℕ (address_at (reading u.dwarf.now.debug_addr).is_big (address_in u)) (address_read (reading u.dwarf.now.debug_addr).is_big (address_in u)) (indexed u.unit.now.addr_base i (address_in u)) (reading u.dwarf.now.debug_addr) e → indexed_address reading u i ≡ Err e
  unfolding indexed_address
  missing_address e h = ap (λ r. r =>> λ y. Ok y.0) h.reason

  -- a place in the section of lists
  abbrev place_of : ℕ → RangeListsOffset
  place_of p = record { 0 = p }

  -- what comes of the word at an index
  abbrev placed : ℕ × List ℕ → Result RangeListsOffset ReadError
  placed x = if_so (nat_lt (u.unit.now.rnglists_base + x.0) (2 ^ 64)) (OffsetOutOfBounds x.0) (Ok (place_of (u.unit.now.rnglists_base + x.0)))

  word_there : (x : ℕ) → (h : StandsAt ℕ (number_at (reading u.dwarf.now.debug_rnglists).is_big (word_in u)) (indexed u.unit.now.rnglists_base i (word_in u)) (reading u.dwarf.now.debug_rnglists) x)
      → number_read (reading u.dwarf.now.debug_rnglists).is_big (word_in u) (bytes_from (indexed u.unit.now.rnglists_base i (word_in u)) (reading u.dwarf.now.debug_rnglists)) ≡ Ok (x, h.rest)
  word_there x h =
      let section : Reading = reading u.dwarf.now.debug_rnglists in
      read_is ℕ (number_at section.is_big (word_in u)) (number_read section.is_big (word_in u)) (bytes_from (indexed u.unit.now.rnglists_base i (word_in u)) section) (x, h.rest) (number_law section.is_big (word_in u)) h.is

  pub found_list : (place : RangeListsOffset) → place.0 < 2 ^ 64 → FindsList (word_in u) u.unit.now.rnglists_base i (reading u.dwarf.now.debug_rnglists) place.0 → indexed_list reading u i ≡ Ok place
  unfolding indexed_list
  found_list place small h =
      let within : u.unit.now.rnglists_base + h.offset < 2 ^ 64 = subst (λ (n : ℕ). n < 2 ^ 64) h.is small in
      ap (λ y. y =>> placed) (word_there h.offset h.stands)
      ∙ ap (λ b. if_so b (OffsetOutOfBounds h.offset) (Ok (place_of (u.unit.now.rnglists_base + h.offset)))) (lt-ltb (u.unit.now.rnglists_base + h.offset) (2 ^ 64) within)
      ∙ ap (λ (p : ℕ). Ok (place_of p)) (sym h.is)

  pub missing_list : (e : ReadError) → MissesList (word_in u) u.unit.now.rnglists_base i (reading u.dwarf.now.debug_rnglists) e → indexed_list reading u i ≡ Err e
  unfolding indexed_list
  missing_list e h = ⊎_elim
      (λ (m : IsMissing ℕ (number_at (reading u.dwarf.now.debug_rnglists).is_big (word_in u)) (number_read (reading u.dwarf.now.debug_rnglists).is_big (word_in u)) (indexed u.unit.now.rnglists_base i (word_in u)) (reading u.dwarf.now.debug_rnglists) e). ap (λ y. y =>> placed) m.reason)
      (λ (l : LeadsPast (word_in u) u.unit.now.rnglists_base i (reading u.dwarf.now.debug_rnglists) e).
      ap (λ y. y =>> placed) (word_there l.offset l.stands)
      ∙ ap (λ b. if_so b (OffsetOutOfBounds l.offset) (Ok (place_of (u.unit.now.rnglists_base + l.offset)))) (le-ltb (u.unit.now.rnglists_base + l.offset) (2 ^ 64) l.past)
      ∙ ap Err (sym l.is))
      h

  pub address_is : (r : Result ℕ ReadError) → IfOk r (StandsAt ℕ (address_at (reading u.dwarf.now.debug_addr).is_big (address_in u)) (indexed u.unit.now.addr_base i (address_in u)) (reading u.dwarf.now.debug_addr))
      → IfErr r (IsMissing ℕ (address_at (reading u.dwarf.now.debug_addr).is_big (address_in u)) (address_read (reading u.dwarf.now.debug_addr).is_big (address_in u)) (indexed u.unit.now.addr_base i (address_in u)) (reading u.dwarf.now.debug_addr)) → r ≡ indexed_address reading u i
  address_is (Ok x) ok err = sym (found_address x ok)
  address_is (Err e) ok err = sym (missing_address e err)
