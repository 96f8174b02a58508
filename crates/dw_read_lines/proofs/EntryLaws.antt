-- Entries of parts that are described.
use Rattle.std.proofs.Common.{◌≡◌, ◌∙◌, sym, ap, ℕ, zero, suc, Bool, List, [], ◌∷◌, Result, Ok, Err, refl}
use Rattle.dw_base.specs.declared.common.Encoding.{Encoding}
use Rattle.dw_read.specs.Reasons.{◌=>>◌}
use Rattle.dw_read.specs.FormValues.{value_read}
use Rattle.dw_read.specs.Values.{Value}
use Rattle.dw_read.specs.declared.error.ReadError.{ReadError}
use Rattle.dw_read.proofs.Items.{then_parts}
use Rattle.dw_read_lines.specs.LineEntries.{Entry, told, format_read, formats_read, entry_read, entry_by}

abbrev parts_of : List (ℕ × ℕ) → List ℕ → Result (List (ℕ × ℕ) × List ℕ) ReadError
parts_of parts rest = Ok (parts, rest)

list_is : (l m : List (ℕ × ℕ)) (r s : List ℕ) → parts_of l r ≡ parts_of m s → l ≡ m
list_is l m r s h = let q : (l, r) ≡ (m, s) = cc in ap (λ (y : List (ℕ × ℕ) × List ℕ). y.0) q

module _ (big : Bool) (e : Encoding) where
  pub by_none : (n : ℕ) (formats : List ℕ) (x : Entry) (bytes : List ℕ) → n ≡ 0 → entry_by big e n formats x bytes ≡ Ok (x, bytes)
  unfolding entry_by
  by_none n formats x bytes h = rw h refl

  pub by_no_format : (n m : ℕ) (formats : List ℕ) (x : Entry) (bytes : List ℕ) (y : ReadError) → n ≡ suc m → format_read formats ≡ Err y → entry_by big e n formats x bytes ≡ Err y
  unfolding entry_by
  by_no_format n m formats x bytes y h k = rw (h, k) refl

  pub by_no_value : (n m content form : ℕ) (formats after : List ℕ) (x : Entry) (bytes : List ℕ) (y : ReadError) → n ≡ suc m → format_read formats ≡ Ok ((content, form), after) → value_read big e form bytes ≡ Err y → entry_by big e n formats x bytes ≡ Err y
  unfolding entry_by
  by_no_value n m content form formats after x bytes y h k v = rw (h, k, v) refl

  pub by_more : (n m content form : ℕ) (v : Value) (formats after : List ℕ) (x z : Entry) (bytes rest : List ℕ) → n ≡ suc m → format_read formats ≡ Ok ((content, form), after) → value_read big e form bytes ≡ Ok (v, rest) → z ≡ told content v x
      → entry_by big e n formats x bytes ≡ entry_by big e m after z rest
  unfolding entry_by
  by_more n m content form v formats after x z bytes rest h k r q = rw (h, k, r, q) refl

  -- an entry behind a value, and behind a format
  abbrev by_value : ℕ → ℕ → Entry → List ℕ → Result (Value × List ℕ) ReadError → Result (Entry × List ℕ) ReadError
  by_value n content x formats r = r =>> λ v. entry_by big e n formats (told content v.0 x) v.1

  abbrev by_format : ℕ → Entry → List ℕ → Result ((ℕ × ℕ) × List ℕ) ReadError → Result (Entry × List ℕ) ReadError
  by_format n x bytes r = r =>> λ f. by_value n f.0.0 x f.1 (value_read big e f.0.1 bytes)

  -- parts that stand in bytes are those that are read of them
  pub by_parts : (n : ℕ) (formats after : List ℕ) (parts : List (ℕ × ℕ)) (x : Entry) (bytes : List ℕ) → formats_read n formats ≡ Ok (parts, after) → entry_by big e n formats x bytes ≡ entry_read big e parts x bytes
  unfolding entry_by entry_read formats_read
  by_parts zero formats after parts x bytes h = let q = list_is [] parts formats after h in rw (sym q) refl
  by_parts (suc n) formats after parts x bytes h =
      let a = then_parts (format_read formats) _ (parts, after) h in
      let b = then_parts (formats_read n a.0.1) _ (parts, after) a.2 in
      let q = list_is (a.0.0 ∷ b.0.0) parts b.0.1 after b.2 in
      ap (by_format n x bytes) a.1
      ∙ more a.0.0.0 (value_read big e a.0.0.1 bytes) a.0.1 b.0.0 (λ z bs. by_parts n a.0.1 b.0.1 b.0.0 z bs b.1)
      ∙ ap (λ (ps : List (ℕ × ℕ)). entry_read big e ps x bytes) q where
        more : (content : ℕ) (r : Result (Value × List ℕ) ReadError) (rest : List ℕ) (ps : List (ℕ × ℕ)) → ((z : Entry) (bs : List ℕ) → entry_by big e n rest z bs ≡ entry_read big e ps z bs)
            → by_value n content x rest r ≡ (r =>> λ v. entry_read big e ps (told content v.0 x) v.1)
        more content (Ok v) rest ps k = k (told content v.0 x) v.1
        more content (Err y) rest ps k = refl
