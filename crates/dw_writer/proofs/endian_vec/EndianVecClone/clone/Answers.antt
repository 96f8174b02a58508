use Rattle.std.specs.Prelude.{◌≡◌, ℕ, Bool, true, List, [], Some}
use Rattle.std.specs.List.{each_same}
use Rattle.std.proofs.Common.{ap, ◌∙◌}
use Rattle.dw_writer.specs.Meaning.{Meaning}
use Rattle.dw_writer.proofs.endian_vec.EndianVecClone.clone.Goals as goal

-- a plain writer with these bytes
abbrev plain : Bool → ℕ → List ℕ → Meaning
plain big n xs = record { bytes = Some xs; size = n; is_big = big; is_plain = true; records = []; faults = 0 }

-- a copy of the bytes
copied : (big : Bool) (a b : ℕ) (xs ys : List ℕ) → ys ≡ xs → b ≡ a → plain big b ys ≡ plain big a xs
copied big a b xs ys e h = ap (λ l. plain big b l) e ∙ ap (λ n. plain big n xs) h

pub returns : goal.returns
returns g c =
    let copy = c.in_ok-clone.ensures.cases in
    record { cases = copied _ _ _ _ _ (each_same c.args.self.now.bytes.items c.in_ok-clone.field-0.items copy.0) copy.1 }
