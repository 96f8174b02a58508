-- A compile unit's header is read again, with what stands in the unit and what follows it.
use Rattle.std.proofs.Common.{◌≡◌, ◌∙◌, sym, ap, subst, ℕ, ◌+◌, ◌-◌, ◌<◌, ◌≤◌, Bool, true, false, List, [], ◌∷◌, ◌++◌, length, Some, None, refl, arith, IsTrue, nat_le, nat_eq, ◌==◌, ◌&&◌, append_assoc, length-append, ⊎_elim}
use Rattle.std.proofs.lemmas.Bool.{cases_eq, eq-eqb, ne_eqb, le-leb, and_from, cond_both}
use Rattle.dw_base.specs.Numbers.{when, number_at, value_of, num, fits, word_of, escape_of, length_size, length_fits, is_width}
use Rattle.dw_base.specs.Headers.{old_fields_at, new_fields_at, fields_at, header_at}
use Rattle.dw_base.specs.Spelling.{after_version, fields_bytes, fields_size, header_size, unit_bytes, compile_header}
use Rattle.dw_base.specs.declared.common.Encoding.{Encoding}
use Rattle.dw_base.specs.declared.common.Format.{Format}
use Rattle.dw_base.proofs.NumberLaws.{bind_is, length-num, bytes_at-again, number_at_is, number-again, number-fits-again, initial_length-again}

-- the number of one byte
value_of_byte : (big : Bool) (b : ℕ) → value_of big (b ∷ []) ≡ b
value_of_byte true b = omega arith
value_of_byte false b = omega arith

pub byte-again : (big : Bool) (b : ℕ) (rest : List ℕ) → number_at big 1 (b ∷ rest) ≡ Some (b, rest)
byte-again big b rest = number_at_is big 1 (b ∷ []) rest refl ∙ ap (λ v. Some (v, rest)) (value_of_byte big b)

new_fields-again : (big : Bool) (format : Format) (size table : ℕ) (rest : List ℕ) → IsTrue (is_width size) → IsTrue (fits (word_of format) table) → new_fields_at big format (1 ∷ size ∷ (num big (word_of format) table ++ rest)) ≡ Some (record { encoding = record { address_size = size; format = format; version = 5 }; unit_type = Some 1; table_offset = table; identity = None; type_offset = None }, rest)
new_fields-again big format size table rest w t =
    bind_is _ _ _ (byte-again big 1 _)
    ∙ bind_is _ _ _ (byte-again big size _)
    ∙ bind_is _ _ _ (number-fits-again big (word_of format) table rest t)
    ∙ ap (λ (b : Bool). when b (Some (record { encoding = record { address_size = size; format = format; version = 5 }; unit_type = Some 1; table_offset = table; identity = None; type_offset = None }, rest))) w

old_fields-again : (big : Bool) (format : Format) (version size table : ℕ) (rest : List ℕ) → IsTrue (is_width size) → IsTrue (fits (word_of format) table) → old_fields_at big format version (num big (word_of format) table ++ (size ∷ rest)) ≡ Some (record { encoding = record { address_size = size; format = format; version = version }; unit_type = None; table_offset = table; identity = None; type_offset = None }, rest)
old_fields-again big format version size table rest w t =
    bind_is _ _ _ (number-fits-again big (word_of format) table (size ∷ rest) t)
    ∙ bind_is _ _ _ (byte-again big size rest)
    ∙ ap (λ (b : Bool). when b (Some (record { encoding = record { address_size = size; format = format; version = version }; unit_type = None; table_offset = table; identity = None; type_offset = None }, rest))) w

new_again : (big : Bool) (size : ℕ) (format : Format) (version table : ℕ) (body : List ℕ) → version ≡ 5 → IsTrue (is_width size) → IsTrue (fits (word_of format) table) → fields_at big format (fields_bytes big (record { address_size = size; format = format; version = version }) table ++ body) ≡ Some (compile_header (record { address_size = size; format = format; version = version }) table, body)
unfolding fields_bytes
new_again big size format version table body five w t =
    subst (λ v. fields_at big format (fields_bytes big (record { address_size = size; format = format; version = v }) table ++ body) ≡ Some (compile_header (record { address_size = size; format = format; version = v }) table, body)) (sym five) (
    ap (fields_at big format) (append_assoc (num big 2 5) (1 ∷ size ∷ num big (word_of format) table) body)
    ∙ bind_is _ _ _ (number-again big 2 5 _ (omega arith))
    ∙ new_fields-again big format size table body w t)

old_again : (big : Bool) (e : Encoding) (table : ℕ) (body : List ℕ) → 2 ≤ e.version → e.version ≤ 4 → IsTrue (is_width e.address_size) → IsTrue (fits (word_of e.format) table) → fields_at big e.format (fields_bytes big e table ++ body) ≡ Some (compile_header e table, body)
unfolding fields_bytes
old_again big e table body low high w t =
    let new : nat_eq e.version 5 ≡ false = ne_eqb _ _ (λ (five : e.version ≡ 5). omega arith) in
    let old : (nat_le 2 e.version && nat_le e.version 4) ≡ true = and_from _ _ (le-leb _ _ low) (le-leb _ _ high) in
    let regrouped : fields_bytes big e table ++ body ≡ num big 2 e.version ++ (num big (word_of e.format) table ++ (e.address_size ∷ body)) = rw new (simp append_assoc) in
    ap (fields_at big e.format) regrouped
    ∙ bind_is _ _ _ (number-again big 2 e.version _ (omega arith))
    ∙ rw new (rw old (old_fields-again big e.format e.version e.address_size table body w t))

pub fields-again : (big : Bool) (e : Encoding) (table : ℕ) (body : List ℕ) → 2 ≤ e.version → e.version ≤ 5 → IsTrue (is_width e.address_size) → IsTrue (fits (word_of e.format) table) → fields_at big e.format (fields_bytes big e table ++ body) ≡ Some (compile_header e table, body)
fields-again big e table body low high w t =
    ⊎_elim
    (λ five. new_again big e.address_size e.format e.version table body five w t)
    (λ other. old_again big e table body low (omega (arith, other)) w t)
    (cases_eq e.version 5)

pub length-fields_bytes : (big : Bool) (e : Encoding) (table : ℕ) → length (fields_bytes big e table) ≡ fields_size e
unfolding fields_bytes
length-fields_bytes big e table =
    let word = length-num big (word_of e.format) table in
    let half = length-num big 2 e.version in
    length-append (num big 2 e.version) (after_version big e table)
    ∙ ⊎_elim
    (λ (five : e.version ≡ 5). let new : nat_eq e.version 5 ≡ true = eq-eqb _ _ five in rw new (omega arith))
    (λ (other : e.version ≡ 5 → ⊥). let new : nat_eq e.version 5 ≡ false = ne_eqb _ _ other in rw new (omega (arith, length-append (num big (word_of e.format) table) (e.address_size ∷ []))))
    (cases_eq e.version 5)

pub header_size_pos : (e : Encoding) → 0 < header_size e
header_size_pos e =
    cond_both (e.version == 5) (4 + word_of e.format) (3 + word_of e.format) (λ n. 0 < length_size e.format + n) (λ _. omega arith) (λ _. omega arith)

-- what a length counts is found again
regrouped : (a b c d : List ℕ) → (a ++ (b ++ c)) ++ d ≡ a ++ (b ++ (c ++ d))
regrouped a b c d = simp append_assoc

pub length-content : (big : Bool) (e : Encoding) (table : ℕ) (body : List ℕ) → length (fields_bytes big e table ++ body) ≡ fields_size e + length body
length-content big e table body =
    omega (arith, length-append (fields_bytes big e table) body, length-fields_bytes big e table)

pub length-unit_bytes : (big : Bool) (e : Encoding) (table : ℕ) (body : List ℕ) → length (unit_bytes big e table body) ≡ header_size e + length body
unfolding unit_bytes
length-unit_bytes big e table body =
    let content = fields_bytes big e table ++ body in
    let size = num big (word_of e.format) (length content) in
    omega (arith, length-append (escape_of e.format) (size ++ content), length-append size content, length-num big (word_of e.format) (length content), length-append (fields_bytes big e table) body, length-fields_bytes big e table)

pub header-again : (big : Bool) (e : Encoding) (table : ℕ) (body rest : List ℕ) → 2 ≤ e.version → e.version ≤ 5 → IsTrue (is_width e.address_size) → IsTrue (fits (word_of e.format) table) → IsTrue (length_fits e.format (length (fields_bytes big e table ++ body))) → header_at big (unit_bytes big e table body ++ rest) ≡ Some (record { header = compile_header e table; size = header_size e; body = body; rest = rest })
unfolding header_at unit_bytes
header-again big e table body rest low high w t fit =
    let content = fields_bytes big e table ++ body in
    let size : length content - length body ≡ fields_size e = omega (arith, length-append (fields_bytes big e table) body, length-fields_bytes big e table) in
    ap (header_at big) (regrouped (escape_of e.format) (num big (word_of e.format) (length content)) content rest)
    ∙ bind_is _ _ _ (initial_length-again big e.format (length content) (content ++ rest) fit)
    ∙ bind_is _ _ _ (bytes_at-again content rest)
    ∙ bind_is _ _ _ (fields-again big e table body low high w t)
    ∙ ap (λ n. Some (record { header = compile_header e table; size = length_size e.format + n; body = body; rest = rest })) size
