use Rattle.std.proofs.Common.{refl}
use Rattle.dw_entries.proofs.ValueSizes.{size_by, placed_by}
use Rattle.dw_entries.proofs.value.AttributeValue.size.Goals as goal

pub returns-in-Nothing-clause-ok : goal.returns-in-Nothing-clause-ok
returns-in-Nothing-clause-ok g c = λ place keeps. size_by c.args.encoding c.args.self.now _ _ c.in-Nothing.is c.content.ensures place _ refl

pub returns-in-Plain-clause-ok : goal.returns-in-Plain-clause-ok
returns-in-Plain-clause-ok g c = λ place keeps. size_by c.args.encoding c.args.self.now _ _ c.in-Plain.is c.content.ensures place _ refl

pub returns-in-Wide-clause-ok : goal.returns-in-Wide-clause-ok
returns-in-Wide-clause-ok g c = λ place keeps. size_by c.args.encoding c.args.self.now _ _ c.in-Wide.is c.content.ensures place _ refl

pub returns-in-Target-clause-ok : goal.returns-in-Target-clause-ok
returns-in-Target-clause-ok g c = λ place keeps. size_by c.args.encoding c.args.self.now _ _ c.in-Target.is c.content.ensures place _ refl

pub returns-in-Leb-clause-ok : goal.returns-in-Leb-clause-ok
returns-in-Leb-clause-ok g c = λ place keeps. size_by c.args.encoding c.args.self.now _ _ c.in-Leb.is c.content.ensures place _ c.uleb128_size.ensures.size

pub returns-in-Offset-clause-ok : goal.returns-in-Offset-clause-ok
returns-in-Offset-clause-ok g c = λ place keeps. size_by c.args.encoding c.args.self.now _ _ c.in-Offset.is c.content.ensures place _ c.word_size.ensures

pub returns-in-InTable-clause-ok : goal.returns-in-InTable-clause-ok
returns-in-InTable-clause-ok g c = λ place keeps. size_by c.args.encoding c.args.self.now _ _ c.in-InTable.is c.content.ensures place _ c.word_size-in-InTable.ensures

pub returns-in-TableIndex-clause-ok : goal.returns-in-TableIndex-clause-ok
returns-in-TableIndex-clause-ok g c = λ place keeps. size_by c.args.encoding c.args.self.now _ _ c.in-TableIndex.is c.content.ensures place _ c.uleb128_size-in-TableIndex.ensures.size

pub returns-in-OwnPart-clause-ok : goal.returns-in-OwnPart-clause-ok
returns-in-OwnPart-clause-ok g c = λ place keeps. size_by c.args.encoding c.args.self.now _ _ c.in-OwnPart.is c.content.ensures place _ c.word_size-in-OwnPart.ensures

pub returns-in-File-clause-ok : goal.returns-in-File-clause-ok
returns-in-File-clause-ok g c = λ place keeps. size_by c.args.encoding c.args.self.now _ _ c.in-File.is c.content.ensures place _ c.file_size.ensures

pub returns-in-EntryPlace-clause-ok : goal.returns-in-EntryPlace-clause-ok
returns-in-EntryPlace-clause-ok g c = λ place keeps. size_by c.args.encoding c.args.self.now _ _ c.in-EntryPlace.is c.content.ensures place _ c.word_size-in-EntryPlace.ensures

pub returns-in-InfoPlace-clause-ok : goal.returns-in-InfoPlace-clause-ok
returns-in-InfoPlace-clause-ok g c = λ place keeps. size_by c.args.encoding c.args.self.now _ _ c.in-InfoPlace.is c.content.ensures place _ c.info_place_size.ensures

pub returns-in-Nothing-clause-sound : goal.returns-in-Nothing-clause-sound
returns-in-Nothing-clause-sound g c = placed_by c.args.encoding c.args.self.now _ _ c.in-Nothing.is c.content.ensures (g.P.EntryPlaces.places c.args.places.now) (λ err. refl)

pub returns-in-Plain-clause-sound : goal.returns-in-Plain-clause-sound
returns-in-Plain-clause-sound g c = placed_by c.args.encoding c.args.self.now _ _ c.in-Plain.is c.content.ensures (g.P.EntryPlaces.places c.args.places.now) (λ err. refl)

pub returns-in-Wide-clause-sound : goal.returns-in-Wide-clause-sound
returns-in-Wide-clause-sound g c = placed_by c.args.encoding c.args.self.now _ _ c.in-Wide.is c.content.ensures (g.P.EntryPlaces.places c.args.places.now) (λ err. refl)

pub returns-in-Leb-clause-sound : goal.returns-in-Leb-clause-sound
returns-in-Leb-clause-sound g c = placed_by c.args.encoding c.args.self.now _ _ c.in-Leb.is c.content.ensures (g.P.EntryPlaces.places c.args.places.now) (λ err. refl)

pub returns-in-SignedLeb-clause-sound : goal.returns-in-SignedLeb-clause-sound
returns-in-SignedLeb-clause-sound g c = placed_by c.args.encoding c.args.self.now _ _ c.in-SignedLeb.is c.content.ensures (g.P.EntryPlaces.places c.args.places.now) (λ err. refl)

pub returns-in-Target-clause-sound : goal.returns-in-Target-clause-sound
returns-in-Target-clause-sound g c = placed_by c.args.encoding c.args.self.now _ _ c.in-Target.is c.content.ensures (g.P.EntryPlaces.places c.args.places.now) (λ err. refl)

pub returns-in-Offset-clause-sound : goal.returns-in-Offset-clause-sound
returns-in-Offset-clause-sound g c = placed_by c.args.encoding c.args.self.now _ _ c.in-Offset.is c.content.ensures (g.P.EntryPlaces.places c.args.places.now) (λ err. refl)

pub returns-in-InTable-clause-sound : goal.returns-in-InTable-clause-sound
returns-in-InTable-clause-sound g c = placed_by c.args.encoding c.args.self.now _ _ c.in-InTable.is c.content.ensures (g.P.EntryPlaces.places c.args.places.now) (λ err. refl)

pub returns-in-TableIndex-clause-sound : goal.returns-in-TableIndex-clause-sound
returns-in-TableIndex-clause-sound g c = placed_by c.args.encoding c.args.self.now _ _ c.in-TableIndex.is c.content.ensures (g.P.EntryPlaces.places c.args.places.now) (λ err. refl)

pub returns-in-OwnPart-clause-sound : goal.returns-in-OwnPart-clause-sound
returns-in-OwnPart-clause-sound g c = placed_by c.args.encoding c.args.self.now _ _ c.in-OwnPart.is c.content.ensures (g.P.EntryPlaces.places c.args.places.now) (λ err. refl)

pub returns-in-File-clause-sound : goal.returns-in-File-clause-sound
returns-in-File-clause-sound g c = placed_by c.args.encoding c.args.self.now _ _ c.in-File.is c.content.ensures (g.P.EntryPlaces.places c.args.places.now) (λ err. refl)

pub returns-in-EntryPlace-clause-sound : goal.returns-in-EntryPlace-clause-sound
returns-in-EntryPlace-clause-sound g c = placed_by c.args.encoding c.args.self.now _ _ c.in-EntryPlace.is c.content.ensures (g.P.EntryPlaces.places c.args.places.now) (λ err. refl)

pub returns-in-InfoPlace-clause-sound : goal.returns-in-InfoPlace-clause-sound
returns-in-InfoPlace-clause-sound g c = placed_by c.args.encoding c.args.self.now _ _ c.in-InfoPlace.is c.content.ensures (g.P.EntryPlaces.places c.args.places.now) (λ err. refl)

pub returns-in-Nothing-clause-err : goal.returns-in-Nothing-clause-err
returns-in-Nothing-clause-err g c = tt

pub returns-in-Plain-clause-err : goal.returns-in-Plain-clause-err
returns-in-Plain-clause-err g c = tt

pub returns-in-Wide-clause-err : goal.returns-in-Wide-clause-err
returns-in-Wide-clause-err g c = tt

pub returns-in-Leb-clause-err : goal.returns-in-Leb-clause-err
returns-in-Leb-clause-err g c = tt

pub returns-in-SignedLeb-clause-err : goal.returns-in-SignedLeb-clause-err
returns-in-SignedLeb-clause-err g c = tt

pub returns-in-Target-clause-err : goal.returns-in-Target-clause-err
returns-in-Target-clause-err g c = tt

pub returns-in-Offset-clause-err : goal.returns-in-Offset-clause-err
returns-in-Offset-clause-err g c = tt

pub returns-in-InTable-clause-err : goal.returns-in-InTable-clause-err
returns-in-InTable-clause-err g c = tt

pub returns-in-TableIndex-clause-err : goal.returns-in-TableIndex-clause-err
returns-in-TableIndex-clause-err g c = tt

pub returns-in-OwnPart-clause-err : goal.returns-in-OwnPart-clause-err
returns-in-OwnPart-clause-err g c = tt

pub returns-in-File-clause-err : goal.returns-in-File-clause-err
returns-in-File-clause-err g c = tt

pub returns-in-EntryPlace-clause-err : goal.returns-in-EntryPlace-clause-err
returns-in-EntryPlace-clause-err g c = tt

pub returns-in-InfoPlace-clause-err : goal.returns-in-InfoPlace-clause-err
returns-in-InfoPlace-clause-err g c = tt
