-- The units of a file, one after the other.
use Rattle.std.proofs.Common.{◌≡◌, ◌∙◌, sym, ap, subst, ℕ, zero, suc, ◌+◌, ◌-◌, ◌<◌, ◌≤◌, List, [], ◌∷◌, ◌++◌, length, All, Bool, false, Some, Result, Ok, Err, ◌⊎◌, inl, inr, refl, arith, append-nil}
use Rattle.dw_base.specs.Headers.{Header, HeaderRead}
use Rattle.dw_base.specs.Info.{ReadUnit}
use Rattle.dw_base.specs.Numbers.{length_size}
use Rattle.dw_base.specs.declared.common.Format.{Format}
use Rattle.dw_base.specs.declared.common.Format.TheVariants.{Dwarf32, Dwarf64}
use Rattle.dw_read.specs.Reading.{Reading, IsReading, left}
use Rattle.dw_read.specs.Reasons.{◌=>>◌, bytes_read, initial_length_read}
use Rattle.dw_read.specs.Headers.{fields_read, header_read}
use Rattle.dw_read.specs.Fields.{header_of}
use Rattle.dw_read.specs.UnitHeaders.{header_size, IsHeaderRead, PassesUnit}
use Rattle.dw_read.specs.declared.unit_header.UnitHeader.{UnitHeader}
use Rattle.dw_read.specs.declared.unit_header.UnitHeadersIter.{UnitHeadersIter}
use Rattle.dw_read.specs.declared.error.ReadError.{ReadError}
use Rattle.dw_read.proofs.Items.{then_parts}
use Rattle.dw_read.proofs.Lefts.{shorter}
use Rattle.dw_read.specs.declared.error.ReadError.TheVariants.{NoMemory}
use Rattle.dw_read_units.specs.Walks.{unit_read, units_in, units_read, HasRoot}
use Rattle.dw_read_units.specs.declared.dwarf.Dwarf.{Dwarf}
use Rattle.dw_read_units.proofs.WalkLaws.{units_given, units_give, strict_info}
use Rattle.dw_read_units.specs.Passes.{unit_reading, units_there, units_reading, info_there}
use Rattle.dw_read_units.proofs.RowWalk.{then_none, then_one, length-zero}

length_size_pos : (f : Format) → 0 < length_size f
length_size_pos Dwarf32 = omega arith
length_size_pos Dwarf64 = omega arith

abbrev gives : HeaderRead → Result HeaderRead ReadError
gives h = Ok h

abbrev ok_units : List ReadUnit → Result (List ReadUnit) ReadError
ok_units us = Ok us

-- a header has bytes
header_has_bytes : (big : Bool) (bytes : List ℕ) (h : HeaderRead) → header_read big bytes ≡ Ok h → 0 < h.size
unfolding header_read
header_has_bytes big bytes h e =
    let s = then_parts (initial_length_read big bytes) _ h e in
    let u = then_parts (bytes_read s.0.0.1 s.0.1) _ h s.2 in
    let f = then_parts (fields_read big s.0.0.0 u.0.0) _ h u.2 in
    let r : gives (record { header = f.0.0; size = length_size s.0.0.0 + (length u.0.0 - length f.0.1); body = f.0.1; rest = u.0.1 }) ≡ gives h = f.2 in
    let q : record { header = f.0.0; size = length_size s.0.0.0 + (length u.0.0 - length f.0.1); body = f.0.1; rest = u.0.1 } ≡ h = cc r in
    let z : length_size s.0.0.0 + (length u.0.0 - length f.0.1) ≡ h.size = ap (λ (x : HeaderRead). x.size) q in
    let p : 0 < length_size s.0.0.0 = length_size_pos s.0.0.0 in
    omega arith

module _ (big : Bool) (tables addresses : Reading) where
  units_none : (fuel from : ℕ) → units_read fuel big tables addresses from [] ≡ Ok []
  unfolding units_read
  units_none zero from = refl
  units_none (suc fuel) from = refl

  units_step : (fuel from : ℕ) (bytes : List ℕ) (h : HeaderRead) (u : ReadUnit) → 0 < length bytes → header_read big bytes ≡ Ok h → unit_read big tables addresses from h.header h.size h.body ≡ Ok u
      → units_read (suc fuel) big tables addresses from bytes ≡ (units_read fuel big tables addresses (from + (length bytes - length h.rest)) h.rest =>> λ more. Ok (u ∷ more))
  unfolding units_read
  units_step fuel from [] h u l e r = absurd (omega arith)
  units_step fuel from (b ∷ bs) h u l e r =
      ap (λ z. z =>> λ x. unit_read big tables addresses from x.header x.size x.body =>> λ unit. units_read fuel big tables addresses (from + (length (b ∷ bs) - length x.rest)) x.rest =>> λ more. Ok (unit ∷ more)) e
      ∙ ap (λ z. z =>> λ unit. units_read fuel big tables addresses (from + (length (b ∷ bs) - length h.rest)) h.rest =>> λ more. Ok (unit ∷ more)) r

  no_header : (fuel from : ℕ) (bytes : List ℕ) (y : ReadError) → 0 < length bytes → header_read big bytes ≡ Err y → units_read (suc fuel) big tables addresses from bytes ≡ Err y
  unfolding units_read
  no_header fuel from [] y l e = absurd (omega arith)
  no_header fuel from (b ∷ bs) y l e =
      ap (λ z. z =>> λ x. unit_read big tables addresses from x.header x.size x.body =>> λ unit. units_read fuel big tables addresses (from + (length (b ∷ bs) - length x.rest)) x.rest =>> λ more. Ok (unit ∷ more)) e

  no_unit : (fuel from : ℕ) (bytes : List ℕ) (h : HeaderRead) (y : ReadError) → 0 < length bytes → header_read big bytes ≡ Ok h → unit_read big tables addresses from h.header h.size h.body ≡ Err y
      → units_read (suc fuel) big tables addresses from bytes ≡ Err y
  unfolding units_read
  no_unit fuel from [] h y l e r = absurd (omega arith)
  no_unit fuel from (b ∷ bs) h y l e r =
      ap (λ z. z =>> λ x. unit_read big tables addresses from x.header x.size x.body =>> λ unit. units_read fuel big tables addresses (from + (length (b ∷ bs) - length x.rest)) x.rest =>> λ more. Ok (unit ∷ more)) e
      ∙ ap (λ z. z =>> λ unit. units_read fuel big tables addresses (from + (length (b ∷ bs) - length h.rest)) h.rest =>> λ more. Ok (unit ∷ more)) r

unit_same : (big order : Bool) (tables addresses : Reading) (from place : ℕ) (h g : Header) (size count : ℕ) (body bytes : List ℕ) → big ≡ order → from ≡ place → h ≡ g → size ≡ count → body ≡ bytes → unit_read order tables addresses place g count bytes ≡ unit_read big tables addresses from h size body
unit_same big order tables addresses from place h g size count body bytes a b c d e =
    sym (ap (λ z. unit_read z tables addresses from h size body) a
    ∙ ap (λ z. unit_read order tables addresses z h size body) b
    ∙ ap (λ z. unit_read order tables addresses place z size body) c
    ∙ ap (λ z. unit_read order tables addresses place g z body) d
    ∙ ap (λ z. unit_read order tables addresses place g count z) e)

module _ {R E : Type 0} (reading : R → Reading) (d : Dwarf R E) where
  -- what is read from the first unit on is what is read from here on, after the units before
  pub record WalkedUnits (now : UnitHeadersIter R E) (units : List ReadUnit) : Type 0 where
    pub fuel : ℕ
    pub enough : length (left (reading now.input)) ≤ fuel
    pub is : units_read (length (left (reading d.debug_info))) (reading d.debug_info).is_big (reading d.debug_abbrev) (reading d.debug_addr) (reading d.debug_info).place (left (reading d.debug_info))
        ≡ (units_read fuel (reading d.debug_info).is_big (reading d.debug_abbrev) (reading d.debug_addr) (reading now.input).place (left (reading now.input)) =>> λ more. Ok (units ++ more))
    pub order : (reading now.input).is_big ≡ (reading d.debug_info).is_big
    pub going : now.has_failed ≡ false

  pub walked_none : (now : UnitHeadersIter R E) → reading now.input ≡ reading d.debug_info → now.has_failed ≡ false → WalkedUnits now []
  walked_none now q f =
      let info = reading d.debug_info in
      record {
        fuel = length (left info);
        enough = (let e : length (left (reading now.input)) ≡ length (left info) = ap (λ (r : Reading). length (left r)) q in omega arith);
        is = then_none (units_read (length (left info)) info.is_big (reading d.debug_abbrev) (reading d.debug_addr) info.place (left info))
            ∙ ap (λ (r : Reading). units_read (length (left info)) info.is_big (reading d.debug_abbrev) (reading d.debug_addr) r.place (left r) =>> λ more. Ok ([] ++ more)) (sym q);
        order = ap (λ (r : Reading). r.is_big) q;
        going = f;
      }

  -- a header stands before what follows it
  pub header_place : (old new : Reading) (h : UnitHeader R E) → IsHeaderRead reading old new h → h.offset.0 ≤ (reading h.body).place
  header_place old new h u =
      let p : (reading h.body).place ≡ old.place + u.read.size = ap (λ (r : Reading). r.place) u.body in
      let o : h.offset.0 ≡ old.place = u.offset in
      omega arith

  -- the unit of a header, as it is read at its place
  unit_there : (old new : Reading) (h : UnitHeader R E) (u : IsHeaderRead reading old new h) → old.is_big ≡ (reading d.debug_info).is_big
      → unit_read (reading d.debug_info).is_big (reading d.debug_abbrev) (reading d.debug_addr) old.place u.read.header u.read.size u.read.body ≡ unit_reading reading d h
  unit_there old new h u o =
      let p : (reading h.body).place ≡ old.place + u.read.size = ap (λ (r : Reading). r.place) u.body in
      let f : h.offset.0 ≡ old.place = u.offset in
      let size : header_size reading h ≡ u.read.size = omega arith in
      unit_same (reading h.body).is_big (reading d.debug_info).is_big (reading d.debug_abbrev) (reading d.debug_addr) h.offset.0 old.place (header_of h.fields) u.read.header (header_size reading h) u.read.size (left (reading h.body)) u.read.body
      (ap (λ (r : Reading). r.is_big) u.body ∙ o) f u.header size u.entries

  -- a unit takes a byte at least
  pub unit_shorter : (old new : Reading) (h : UnitHeader R E) → IsReading old → IsReading new → IsReading (reading h.body) → IsHeaderRead reading old new h → length (left new) < length (left old)
  unit_shorter old new h i j k u =
      let s : length (left new) + u.count ≡ length (left old) = shorter u.count old new i j u.passes in
      let p : new.place ≡ old.place + u.count = ap (λ (r : Reading). r.place) u.passes.is in
      let b : (reading h.body).place ≡ old.place + u.read.size = ap (λ (r : Reading). r.place) u.body in
      let e : (reading h.body).end ≡ new.place = ap (λ (r : Reading). r.end) u.body in
      let w : (reading h.body).place ≤ (reading h.body).end = k.place in
      let z : 0 < u.read.size = header_has_bytes old.is_big (left old) u.read u.is in
      omega arith

  pub walked_more : (old new : UnitHeadersIter R E) (us : List ReadUnit) (h : UnitHeader R E) (one : ReadUnit) → IsReading (reading old.input) → IsReading (reading new.input) → IsReading (reading h.body) → WalkedUnits old us → PassesUnit reading old new h → unit_reading reading d h ≡ Ok one
      → WalkedUnits new (us ++ one ∷ [])
  walked_more old new us h one i j k w p s =
      let u = p.unit in
      let a = left (reading old.input) in
      let from = (reading old.input).place in
      let info = reading d.debug_info in
      let tables = reading d.debug_abbrev in
      let addresses = reading d.debug_addr in
      let less : length (left (reading new.input)) < length a = unit_shorter (reading old.input) (reading new.input) h i j k u in
      let rest : left (reading new.input) ≡ u.read.rest = u.rest in
      let lengths : length (left (reading new.input)) ≡ length u.read.rest = ap length rest in
      let passed : length (left (reading new.input)) + u.count ≡ length a = shorter u.count (reading old.input) (reading new.input) i j u.passes in
      let place : (reading new.input).place ≡ from + u.count = ap (λ (r : Reading). r.place) u.passes.is in
      let enough : length a ≤ w.fuel = w.enough in
      let fuel : w.fuel ≡ suc (w.fuel - 1) = omega arith in
      let header : header_read info.is_big a ≡ Ok u.read = subst (λ (b : Bool). header_read b a ≡ Ok u.read) w.order u.is in
      let unit : unit_read info.is_big tables addresses from u.read.header u.read.size u.read.body ≡ Ok one = unit_there (reading old.input) (reading new.input) h u w.order ∙ s in
      let to : from + (length a - length u.read.rest) ≡ (reading new.input).place = omega arith in
      record {
        fuel = w.fuel - 1;
        enough = omega arith;
        is = w.is
            ∙ ap (λ (n : ℕ). units_read n info.is_big tables addresses from a =>> λ more. Ok (us ++ more)) fuel
            ∙ ap (λ r. r =>> λ more. Ok (us ++ more)) (units_step info.is_big tables addresses (w.fuel - 1) from a u.read one (omega arith) header unit)
            ∙ then_one (units_read (w.fuel - 1) info.is_big tables addresses (from + (length a - length u.read.rest)) u.read.rest) us one
            ∙ ap (λ (n : ℕ). units_read (w.fuel - 1) info.is_big tables addresses n u.read.rest =>> λ more. Ok ((us ++ one ∷ []) ++ more)) to
            ∙ ap (λ bytes. units_read (w.fuel - 1) info.is_big tables addresses (reading new.input).place bytes =>> λ more. Ok ((us ++ one ∷ []) ++ more)) (sym rest);
        order = ap (λ (r : Reading). r.is_big) u.passes.is ∙ w.order;
        going = p.went_on.1;
      }

  pub walked_end : (now : UnitHeadersIter R E) (us : List ReadUnit) → WalkedUnits now us → length (left (reading now.input)) ≡ 0 → units_reading reading d ≡ Ok us
  walked_end now us w z =
      let info = reading d.debug_info in
      let tables = reading d.debug_abbrev in
      let addresses = reading d.debug_addr in
      let e : left (reading now.input) ≡ [] = length-zero (left (reading now.input)) z in
      w.is
      ∙ ap (λ bytes. units_read w.fuel info.is_big tables addresses (reading now.input).place bytes =>> λ more. Ok (us ++ more)) e
      ∙ ap (λ r. r =>> λ more. Ok (us ++ more)) (units_none info.is_big tables addresses w.fuel (reading now.input).place)
      ∙ ap (λ l. Ok l) (append-nil us)

  -- what a walk gave, the grammar gives
  pub units_found : (us : List ReadUnit) → units_reading reading d ≡ Ok us → units_there reading d ≡ Some us
  units_found us e = units_given (length (left (reading d.debug_info))) (reading d.debug_info).is_big (reading d.debug_abbrev) (reading d.debug_addr) (reading d.debug_info).place (left (reading d.debug_info)) us e

  -- no header is read here
  pub header_refused : (now : UnitHeadersIter R E) (us : List ReadUnit) (y : ReadError) → WalkedUnits now us → (length (left (reading now.input)) ≡ 0 → ⊥) → header_read (reading now.input).is_big (left (reading now.input)) ≡ Err y
      → units_read (length (left (reading d.debug_info))) (reading d.debug_info).is_big (reading d.debug_abbrev) (reading d.debug_addr) (reading d.debug_info).place (left (reading d.debug_info)) ≡ Err y
  header_refused now us y w n e =
      let info = reading d.debug_info in
      let a = left (reading now.input) in
      let enough : length a ≤ w.fuel = w.enough in
      let fuel : w.fuel ≡ suc (w.fuel - 1) = omega arith in
      let header : header_read info.is_big a ≡ Err y = subst (λ (b : Bool). header_read b a ≡ Err y) w.order e in
      w.is
      ∙ ap (λ (k : ℕ). units_read k info.is_big (reading d.debug_abbrev) (reading d.debug_addr) (reading now.input).place a =>> λ more. Ok (us ++ more)) fuel
      ∙ ap (λ r. r =>> λ more. Ok (us ++ more)) (no_header info.is_big (reading d.debug_abbrev) (reading d.debug_addr) (w.fuel - 1) (reading now.input).place a y (omega arith) header)

  -- a header is read here, and its unit isn't
  pub unit_refused : (old new : UnitHeadersIter R E) (us : List ReadUnit) (h : UnitHeader R E) (y : ReadError) → IsReading (reading old.input) → IsReading (reading new.input) → IsReading (reading h.body) → WalkedUnits old us → PassesUnit reading old new h → unit_reading reading d h ≡ Err y
      → units_read (length (left (reading d.debug_info))) (reading d.debug_info).is_big (reading d.debug_abbrev) (reading d.debug_addr) (reading d.debug_info).place (left (reading d.debug_info)) ≡ Err y
  unit_refused old new us h y i j k w p e =
      let u = p.unit in
      let info = reading d.debug_info in
      let tables = reading d.debug_abbrev in
      let addresses = reading d.debug_addr in
      let a = left (reading old.input) in
      let from = (reading old.input).place in
      let less : length (left (reading new.input)) < length a = unit_shorter (reading old.input) (reading new.input) h i j k u in
      let enough : length a ≤ w.fuel = w.enough in
      let fuel : w.fuel ≡ suc (w.fuel - 1) = omega arith in
      let header : header_read info.is_big a ≡ Ok u.read = subst (λ (b : Bool). header_read b a ≡ Ok u.read) w.order u.is in
      let unit : unit_read info.is_big tables addresses from u.read.header u.read.size u.read.body ≡ Err y = unit_there (reading old.input) (reading new.input) h u w.order ∙ e in
      w.is
      ∙ ap (λ (n : ℕ). units_read n info.is_big tables addresses from a =>> λ more. Ok (us ++ more)) fuel
      ∙ ap (λ r. r =>> λ more. Ok (us ++ more)) (no_unit info.is_big tables addresses (w.fuel - 1) from a u.read y (omega arith) header unit)

  -- sections that are read strictly are read so
  pub strict_units : (us units : List ReadUnit) → (reading d.debug_info).place ≡ 0 → info_there reading d ≡ Some units → units_there reading d ≡ Some us → us ≡ units
  strict_units us units z e s =
      let info = reading d.debug_info in
      let a : units_there reading d ≡ Some units = ap (λ (n : ℕ). units_in (length (left info)) info.is_big (left (reading d.debug_abbrev)) n (left info)) z ∙ strict_info info.is_big (left info) (left (reading d.debug_abbrev)) units e in
      let f : Some us ≡ Some units = sym s ∙ a in
      cc f

  -- nothing but memory is wanting where the grammar reads the units
  pub is_complete : (units : List ReadUnit) (y : ReadError) → units_there reading d ≡ Some units → All (HasRoot (reading d.debug_addr)) units → (y ≡ NoMemory) ⊎ (units_reading reading d ≡ Err y) → y ≡ NoMemory
  is_complete units y e r (inl m) = m
  is_complete units y e r (inr n) =
      let info = reading d.debug_info in
      let o : units_reading reading d ≡ Ok units = units_give (length (left info)) info.is_big (reading d.debug_abbrev) (reading d.debug_addr) info.place (left info) units e r in
      let f : ok_units units ≡ Err y = sym o ∙ n in
      absurd (cc f)
