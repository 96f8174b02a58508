-- What a loop over operations or items needs: fewer bytes are left after each.
use Rattle.std.proofs.Common.{◌≡◌, ◌+◌, ◌<◌, length, ap, arith}
use Rattle.dw_base.specs.Numbers.{Parser}
use Rattle.dw_read.specs.Reading.{Reading, IsReading, Reads, left}
use Rattle.dw_read.proofs.Lefts.{shorter}

pub fewer_left : (A : Type 0) (grammar : Parser A) (old new : Reading) (x : A) → IsReading old → IsReading new → Reads A grammar old new x → old.place < new.place → length (left new) < length (left old)
fewer_left A grammar old new x i j h p =
    let l : length (left new) + h.count ≡ length (left old) = shorter h.count old new i j h.passes in
    let d : new.place ≡ old.place + h.count = ap (λ (y : Reading). y.place) h.passes.is in
    omega arith
