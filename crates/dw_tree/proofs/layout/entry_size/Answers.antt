use Rattle.std.specs.Prelude.{ℕ, Result, Ok, Err, OnOk, IsFalse}
use Rattle.dw_base.specs.declared.error.Error.{Error}
use Rattle.dw_tree.specs.Early.{attributes_unplaced}
use Rattle.dw_tree.specs.Places.{known_at}
use Rattle.dw_tree.proofs.layout.entry_size.Goals as goal

on_ok : (r : Result ℕ Error) (P : Type 0) → P → OnOk r P
on_ok (Ok n) P h = h
on_ok (Err e) P h = tt

pub returns-clause-sound : goal.returns-clause-sound
returns-clause-sound c =
    let sound : (err : Error) → IsFalse (attributes_unplaced c.args.encoding (known_at c.args.places.now) c.args.entry.now.attributes err) = rw c.attributes.ensures.value at c.in_ok-values.ensures.sound in
    on_ok c.sum-2.result ((err : Error) → IsFalse (attributes_unplaced c.args.encoding (known_at c.args.places.now) c.args.entry.now.attributes err)) sound
