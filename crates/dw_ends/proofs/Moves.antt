-- What several reads or writes do together.
use Rattle.std.proofs.Common.{◌≡◌, ℕ, ◌+◌, List, [], ◌++◌, take, drop, Option, Some, None, refl, ap, sym, append_assoc}
use Rattle.std.proofs.lemmas.List.{take-append-drop, append-nil}
use Rattle.std.proofs.Math.Seq.{take-add}
use Rattle.std.specs.Option.{option_map, IfSome}
use Rattle.dw_ends.specs.Ends.{without, with_after}

-- told bytes with more before them
abbrev pub with_before : List ℕ → Option (List ℕ) → Option (List ℕ)
with_before bytes told = option_map (λ xs. bytes ++ xs) told

-- nothing before them
pub with_before-nil : (told : Option (List ℕ)) → told ≡ with_before [] told
with_before-nil None = refl
with_before-nil (Some xs) = refl

-- what was read so far, and one read more
pub with_before-more : (start old new : Option (List ℕ)) (front buffer : List ℕ) (n : ℕ) →
    start ≡ with_before front old →
    new ≡ without n old →
    IfSome old (λ xs. take n buffer ≡ take n xs) →
    start ≡ with_before (front ++ take n buffer) new
with_before-more start None new front buffer n begun moved copied = rw moved begun
with_before-more start (Some xs) new front buffer n begun moved copied =
    rw (moved, copied, append_assoc, take-append-drop) begun

-- nothing after them
pub with_after-nil : (told : Option (List ℕ)) → told ≡ with_after told []
with_after-nil None = refl
with_after-nil (Some xs) = ap Some (sym (append-nil xs))

-- what was written so far, and one write more
pub with_after-more : (start old new : Option (List ℕ)) (text : List ℕ) (at n : ℕ) →
    old ≡ with_after start (take at text) →
    new ≡ with_after old (take n (drop at text)) →
    new ≡ with_after start (take (at + n) text)
with_after-more None old new text at n begun moved = rw begun at moved
with_after-more (Some xs) old new text at n begun moved =
    rw (take-add, ← append_assoc) (rw begun at moved)
