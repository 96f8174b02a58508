-- Directories that were added are in the program.
use Rattle.std.proofs.Common.{◌≡◌, ◌∙◌, sym, subst, ℕ, suc, ◌+◌, get_or, ◌<◌, ◌≤◌, Bool, true, false, ◌||◌, List, [], ◌∷◌, ◌++◌, length, Option, Some, None, refl, arith, true≢false, length-append}
use Rattle.std.specs.Prelude.{not, if◌then◌else◌, IsSome}
use Rattle.std.specs.Option.{option_map}
use Rattle.std.specs.List.{list_any, position_or_len}
use Rattle.std.proofs.lemmas.List.Elements.{All-nil, All-cons, All-append}
use Rattle.std.proofs.lemmas.List.Sums.{prefix_len-le-length}
use Rattle.dw_base.specs.declared.ids.DirectoryId.{DirectoryId}
use Rattle.dw_line.specs.LinePrograms.{LineProgramValue, changed, encoding_of, directories_of}
use Rattle.dw_line.specs.LineStrings.{line_string_eq}
use Rattle.dw_line.specs.ProgramTexts.{ProgramValue, directory_index, with_directory}
use Rattle.dw_line.specs.declared.line_string.LineString.{LineString}
use Rattle.dw_convert_lines.specs.Views.{IsTarget}

by_head : (b r : Bool) (m n : ℕ) → (b || r) ≡ true → (r ≡ true → m < n) → (if not b then 1 + m else 0) < suc n
by_head true r m n h f = omega arith
by_head false r m n h f = let i : m < n = f h in omega arith

pub found : {X : Type 0} (p : X → Bool) (xs : List X) → list_any p xs ≡ true → position_or_len p xs < length xs
found p [] h = absurd (true≢false (sym h))
found p (x ∷ xs) h = by_head (p x) (list_any p xs) (position_or_len p xs) (length xs) h (found p xs)

inserted_by : {X : Type 0} (p : X → Bool) (xs : List X) (x : X) (b : Bool) → list_any p xs ≡ b → position_or_len p xs < length (if b then xs else xs ++ x ∷ [])
inserted_by p xs x true h = found p xs h
inserted_by p xs x false h =
    let l : position_or_len p xs ≤ length xs = prefix_len-le-length (λ y. not (p y)) xs in
    let e : length (xs ++ x ∷ []) ≡ length xs + 1 = length-append xs (x ∷ []) in
    omega arith

kept_by : {X : Type 0} (xs : List X) (x : X) (b : Bool) → length xs ≤ length (if b then xs else xs ++ x ∷ [])
kept_by xs x true = omega arith
kept_by xs x false = let e : length (xs ++ x ∷ []) ≡ length xs + 1 = length-append xs (x ∷ []) in omega arith

-- of a program that there is
there_still : (f : ProgramValue → ProgramValue) (o : Option ProgramValue) → IsSome o → IsSome (option_map f o)
there_still f None h = h
there_still f (Some p) h = h

same_version : (d : LineString) (o : Option ProgramValue) → (encoding_of (option_map (with_directory d) o)).version ≡ (encoding_of o).version
same_version d None = refl
same_version d (Some p) = refl

index_within : (d : LineString) (o : Option ProgramValue) → IsSome o → directory_index (directories_of o) d < length (directories_of (option_map (with_directory d) o))
index_within d None h = absurd (true≢false (sym h))
index_within d (Some p) h = inserted_by (line_string_eq d) p.directories d (list_any (line_string_eq d) p.directories) refl

no_fewer : (d : LineString) (o : Option ProgramValue) → length (directories_of o) ≤ length (directories_of (option_map (with_directory d) o))
no_fewer d None = omega arith
no_fewer d (Some p) = kept_by p.directories d (list_any (line_string_eq d) p.directories)

target_with_directory : (version : ℕ) (ids : List DirectoryId) (p : LineProgramValue) (d : LineString) (id : DirectoryId) → IsTarget version ids p → id.0 ≡ directory_index (directories_of p.program) d → IsTarget version (ids ++ id ∷ []) (changed (with_directory d) p)
target_with_directory version ids p d id t e =
    let new : LineProgramValue = changed (with_directory d) p in
    let within : DirectoryId → Type 0 = λ (i : DirectoryId). i.0 < length (directories_of new.program) in
    let more : length (directories_of p.program) ≤ length (directories_of new.program) = no_fewer d p.program in
    let there : directory_index (directories_of p.program) d < length (directories_of new.program) = index_within d p.program t.there in
    let here : id.0 < length (directories_of new.program) = subst (λ (n : ℕ). n < length (directories_of new.program)) (sym e) there in
    record {
      there = there_still (with_directory d) p.program t.there;
      encoded = same_version d p.program ∙ t.encoded;
      within = All-append within ids (id ∷ []) (λ k x l. let i : (get_or ids k x).0 < length (directories_of p.program) = t.within k x l in omega arith) (All-cons within id [] here (All-nil within));
    }

-- a directory was added, and its id to others
pub target_added : (version : ℕ) (ids items : List DirectoryId) (p new : LineProgramValue) (d : LineString) (id : DirectoryId) → IsTarget version ids p → id.0 ≡ directory_index (directories_of p.program) d → new ≡ changed (with_directory d) p → items ≡ ids ++ id ∷ [] → IsTarget version items new
target_added version ids items p new d id t i n e =
    subst (λ (q : LineProgramValue). IsTarget version items q) (sym n) (subst (λ (xs : List DirectoryId). IsTarget version xs (changed (with_directory d) p)) (sym e) (target_with_directory version ids p d id t i))
