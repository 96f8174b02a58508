use Rattle.std.proofs.Common.{◌≡◌, subst, ℤ, pos, ◌+ℤ◌, w64, to_z, of_z, refl, arith}
use Rattle.std.specs.Int.{FitsUnsigned}
use Rattle.std.specs.Int.RustNames.{unsigned_abs}
use Rattle.std.proofs.lemmas.Int.{ints}
use Rattle.dw_convert.proofs.Searching.{leads_nowhere}
use Rattle.dw_convert.proofs.listing.target.Goals as goal

pub returns-in-Err : goal.returns-in-Err
returns-in-Err c =
    let same : to_z w64 (of_z w64 c.from.result) ≡ c.args.distance = omega (arith, ints) in
    let there : FitsUnsigned w64 (pos c.args.behind +ℤ c.args.distance) × (c.in-Some.place ≡ unsigned_abs (pos c.args.behind +ℤ c.args.distance)) =
    subst (λ (z : ℤ). FitsUnsigned w64 (pos c.args.behind +ℤ z) × (c.in-Some.place ≡ unsigned_abs (pos c.args.behind +ℤ z))) same c.in-Some.ensures in
    (refl, λ i h. leads_nowhere c.args.begins.now c.args.behind c.args.distance c.in-Some.place c.in-Err.field-0 i there.0 there.1 c.requires c.in-Err.ensures.position h)
