-- A listing, one section more at a time.
use Rattle.std.proofs.Common.{◌≡◌, ◌∙◌, ℕ, Bool, List, [], ◌∷◌, ◌++◌, append_assoc, append-nil, ap, sym}
use Rattle.std.proofs.lemmas.List.Concat.{flat_map-append}
use Rattle.dw_base.specs.SectionName.{section_name}
use Rattle.dw_base.specs.declared.section_id.SectionId.{SectionId}
use Rattle.dw_ends.specs.Listing.{AddsLine, order_line, section_line, listing}

-- the text is the listing of these sections
pub record IsListing (big : Bool) (done : List (List ℕ × List ℕ)) (text : List ℕ) : Type 0 where
  pub is : text ≡ listing big done

-- with no section it is the order's line alone
pub none_listed : (big : Bool) (text : List ℕ) → text ≡ order_line big → IsListing big [] text
none_listed big text e = record { is = e ∙ sym (append-nil (order_line big)) }

-- one section more adds its line at the end
listing-push : (big : Bool) (sections : List (List ℕ × List ℕ)) (name bytes : List ℕ) →
    listing big (sections ++ (name, bytes) ∷ []) ≡ listing big sections ++ section_line name bytes
listing-push big sections name bytes =
    rw (flat_map-append, ← append_assoc) (ap (λ line. listing big sections ++ line) (append-nil (section_line name bytes)))

pub one_listed : {big : Bool} {done : List (List ℕ × List ℕ)} {id : SectionId} {bytes text next : List ℕ} → IsListing big done text → AddsLine id bytes text next →
    IsListing big (done ++ (section_name id, bytes) ∷ []) next
one_listed {big} {done} {id} {bytes} before line = record {
  is = line.added ∙ ap (λ t. t ++ section_line (section_name id) bytes) before.is ∙ sym (listing-push big done (section_name id) bytes);
}
