-- One more string after those that have their places.
use Rattle.std.specs.Prelude.{◌≡◌, ℕ, ◌+◌, ◌<◌, Bool, true, false, not, List, [], ◌∷◌, ◌++◌, length, take, if◌then◌else◌}
use Rattle.std.specs.List.{list_any}
use Rattle.std.proofs.Common.{sym, ◌∙◌, ap, arith, inl, inr, get_or, length-append}
use Rattle.std.proofs.Math.Seq.{get_or-append_seam, take-append_seam}
use Rattle.std.proofs.lemmas.Bool.{cases_lt}
use Rattle.std.proofs.lemmas.List.{get_or_append_left, take-append-le, append-nil}
use Rattle.std.proofs.lemmas.List.Elements.{All-nil, All-cons, All-append}
use Rattle.std.proofs.lemmas.List.Concat.{flat_map-append}
use Rattle.dw_base.specs.Spellable.{IsText}
use Rattle.dw_strings.specs.Strings.{is_same_string, with_string, closed, string_bytes, string_place, AreLaidOut}

bytes_more : (ss : List (List ℕ)) (s : List ℕ) → length (string_bytes (ss ++ s ∷ [])) ≡ length (string_bytes ss) + length s + 1
bytes_more ss s =
    ap length (flat_map-append closed ss (s ∷ []))
    ∙ length-append (string_bytes ss) (closed s ++ [])
    ∙ ap (λ xs. length (string_bytes ss) + length xs) (append-nil (closed s))
    ∙ ap (λ n. length (string_bytes ss) + n) (length-append s (0 ∷ []))
    ∙ omega arith

place_more : (ss : List (List ℕ)) (s : List ℕ) (ps : List ℕ) (n i : ℕ) → AreLaidOut ss ps n → i < length (ss ++ s ∷ []) → get_or (ps ++ n ∷ []) i 0 ≡ string_place (ss ++ s ∷ []) i
place_more ss s ps n i old below =
    elim (cases_lt i (length ss)) [
      | inl before ↦
          get_or_append_left ps (n ∷ []) 0 i (omega (arith, old.count))
          ∙ old.each i before
          ∙ sym (ap (λ ts. length (string_bytes ts)) (take-append-le i ss (s ∷ []) (omega arith)))
      | inr past ↦
          let last : i ≡ length ss = omega (arith, length-append ss (s ∷ [])) in
          ap (λ k. get_or (ps ++ n ∷ []) k 0) (last ∙ sym old.count)
          ∙ get_or-append_seam ps n [] 0
          ∙ old.all
          ∙ sym (ap (λ ts. length (string_bytes ts)) (ap (λ k. take k (ss ++ s ∷ [])) last ∙ take-append_seam ss (s ∷ [])))
    ]

pub laid_out_more : (ss : List (List ℕ)) (s : List ℕ) (ps : List ℕ) (n m : ℕ) → AreLaidOut ss ps n → IsText s → m ≡ n + length s + 1 → AreLaidOut (ss ++ s ∷ []) (ps ++ n ∷ []) m
laid_out_more ss s ps n m old text e = record {
  texts = All-append IsText ss (s ∷ []) old.texts (All-cons IsText s [] text (All-nil IsText));
  count = omega (arith, length-append ss (s ∷ []), length-append ps (n ∷ []), old.count);
  each = λ i below. place_more ss s ps n i old below;
  all = e ∙ omega (arith, bytes_more ss s, old.all);
}

-- a string that was new stands last
pub added_keys : (ss ks : List (List ℕ)) (s : List ℕ) (is_new : Bool) → is_new ≡ true → is_new ≡ not (list_any (is_same_string s) ss) → ks ≡ with_string ss s → ks ≡ ss ++ s ∷ []
added_keys ss ks s is_new new e keys = by (list_any (is_same_string s) ss) (sym e ∙ new) keys
  where
    by : (b : Bool) → not b ≡ true → ks ≡ (if b then ss else ss ++ s ∷ []) → ks ≡ ss ++ s ∷ []
    by true h k = cc
    by false h k = k
