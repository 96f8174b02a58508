use Rattle.std.proofs.Common.{refl}
use Rattle.dw_expr.specs.Places.{known_by}
use Rattle.dw_expr.proofs.OperandLaws.{placed_by, size_by}
use Rattle.dw_expr.proofs.op.size.operand_bytes.Goals as goal

pub returns-in-Nothing-clause-ok : goal.returns-in-Nothing-clause-ok
returns-in-Nothing-clause-ok g c = size_by c.args.encoding (known_by g.P.EntryPlaces.places c.args.places) _ _ _ c.in-Nothing.is refl

pub returns-in-Target-clause-ok : goal.returns-in-Target-clause-ok
returns-in-Target-clause-ok g c = size_by c.args.encoding (known_by g.P.EntryPlaces.places c.args.places) _ _ _ c.in-Target.is refl

pub returns-in-Place-clause-ok : goal.returns-in-Place-clause-ok
returns-in-Place-clause-ok g c = size_by c.args.encoding (known_by g.P.EntryPlaces.places c.args.places) _ _ _ c.in-Place.is refl

pub returns-in-Distance-clause-ok : goal.returns-in-Distance-clause-ok
returns-in-Distance-clause-ok g c = size_by c.args.encoding (known_by g.P.EntryPlaces.places c.args.places) _ _ _ c.in-Distance.is refl

pub returns-in-Uleb-clause-ok : goal.returns-in-Uleb-clause-ok
returns-in-Uleb-clause-ok g c = size_by c.args.encoding (known_by g.P.EntryPlaces.places c.args.places) _ _ _ c.in-Uleb.is c.uleb128_size.ensures.size

pub returns-in-Nothing-clause-sound : goal.returns-in-Nothing-clause-sound
returns-in-Nothing-clause-sound g c = placed_by c.args.encoding (known_by g.P.EntryPlaces.places c.args.places) _ _ c.in-Nothing.is (λ err. refl)

pub returns-in-Bytes-clause-sound : goal.returns-in-Bytes-clause-sound
returns-in-Bytes-clause-sound g c = placed_by c.args.encoding (known_by g.P.EntryPlaces.places c.args.places) _ _ c.in-Bytes.is (λ err. refl)

pub returns-in-Uleb-clause-sound : goal.returns-in-Uleb-clause-sound
returns-in-Uleb-clause-sound g c = placed_by c.args.encoding (known_by g.P.EntryPlaces.places c.args.places) _ _ c.in-Uleb.is (λ err. refl)

pub returns-in-Sleb-clause-sound : goal.returns-in-Sleb-clause-sound
returns-in-Sleb-clause-sound g c = placed_by c.args.encoding (known_by g.P.EntryPlaces.places c.args.places) _ _ c.in-Sleb.is (λ err. refl)

pub returns-in-Target-clause-sound : goal.returns-in-Target-clause-sound
returns-in-Target-clause-sound g c = placed_by c.args.encoding (known_by g.P.EntryPlaces.places c.args.places) _ _ c.in-Target.is (λ err. refl)

pub returns-in-Place-clause-sound : goal.returns-in-Place-clause-sound
returns-in-Place-clause-sound g c = placed_by c.args.encoding (known_by g.P.EntryPlaces.places c.args.places) _ _ c.in-Place.is (λ err. refl)

pub returns-in-Info-clause-sound : goal.returns-in-Info-clause-sound
returns-in-Info-clause-sound g c = placed_by c.args.encoding (known_by g.P.EntryPlaces.places c.args.places) _ _ c.in-Info.is (λ err. refl)

pub returns-in-Distance-clause-sound : goal.returns-in-Distance-clause-sound
returns-in-Distance-clause-sound g c = placed_by c.args.encoding (known_by g.P.EntryPlaces.places c.args.places) _ _ c.in-Distance.is (λ err. refl)

pub returns-in_ok-place-in-Base-clause-sound : goal.returns-in_ok-place-in-Base-clause-sound
returns-in_ok-place-in-Base-clause-sound g c = placed_by c.args.encoding (known_by g.P.EntryPlaces.places c.args.places) _ _ c.in-Base.is c.in_ok-place-in-Base.ensures.sound
