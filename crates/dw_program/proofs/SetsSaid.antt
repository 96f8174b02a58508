-- What is said of sets.
use Rattle.std.specs.Prelude.{◌≡◌, List, All, Ok, Some, ℕ, Bool}
use Rattle.std.proofs.Common.{sym, ap, subst, inl, inr}
use Rattle.dw_base.specs.Order.{is_big_of}
use Rattle.dw_base.specs.declared.endianity.RunTimeEndian.{RunTimeEndian}
use Rattle.dw_base.specs.declared.error.Error.{Error}
use Rattle.dw_writer.specs.Meaning.{Meaning}
use Rattle.dw_writer.specs.declared.sections.Sections.{Sections}
use Rattle.dw_dwarf.specs.DwarfValue.{DwarfValue}
use Rattle.dw_dwarf.specs.Valid.{AreUnwritten}
use Rattle.dw_ends.specs.Listing.{Lists, read_of}
use Rattle.dw_ends.specs.Sections.{sections_of}
use Rattle.dw_link.specs.Linked.{AreLeft, LinksDwarfs}
use Rattle.dw_link.specs.Outcome.{AllInOrder, JoinsParts, LinkRefused}
use Rattle.dw_link.specs.Sets.{sets_of}
use Rattle.dw_link.specs.declared.error.LinkError.{LinkError}
use Rattle.dw_link.specs.declared.error.LinkError.TheVariants.{NoMemory}
use Rattle.dw_build.specs.Script.{AreOpen}
use Rattle.dw_build.specs.SetsValue.{SetsValue}
use Rattle.dw_program.specs.Answers.{SaysOfSets}
use Rattle.dw_program.specs.Linked.{AreValidSets, IsFirstSetFault, ListsSets}
use Rattle.dw_program.specs.SetParts.{AreSets}
use Rattle.dw_program.specs.Texts.{refused_text, link_refused_text}
use Rattle.dw_program.specs.declared.status.Status.{Status}
use Rattle.dw_program.specs.declared.status.Status.TheVariants.{WriteRefused}
use Rattle.dw_program.proofs.SetsJoined.{sets_listed, link_refused}

-- units that are still built weren't written
pub sets_unwritten : (ds : List DwarfValue) → All (λ (d : DwarfValue). AreOpen d.units) ds → All AreUnwritten ds
sets_unwritten ds all k d within j u inside = (all k d within j u inside).0

pub says_set_refused : (s : SetsValue) (status : Status) (text : List ℕ) (e : Error) → status ≡ WriteRefused → text ≡ refused_text e → IsFirstSetFault s.dwarfs e → SaysOfSets s status text
says_set_refused s status text e is says first = subst (λ x. SaysOfSets s x text) (sym is) (inl (record { error = e; first = first; says = says }))

module _ {W : Type 0} (from : W → Meaning) (endian : RunTimeEndian) (symbols : List ℕ) (s : SetsValue) (sets : List (Sections W)) where
  abbrev big : Bool
  big = is_big_of endian

  pub says_link_refused : (status : Status) (text : List ℕ) (e : LinkError) → s.endian ≡ endian → s.symbols ≡ symbols → AreValidSets s.dwarfs → AreSets big (sets_of from sets) s.dwarfs → LinkRefused big (sets_of from sets) symbols e →
      status ≡ WriteRefused → text ≡ link_refused_text e → (e ≡ NoMemory → ⊥) → SaysOfSets s status text
  says_link_refused status text e same values valid parts refused is says other =
      let own = ap is_big_of same in
      let here = subst (λ b. AreSets b (sets_of from sets) s.dwarfs) (sym own) parts in
      let cause = subst (λ b. LinkRefused b (sets_of from sets) s.symbols e) (sym own) (subst (λ ns. LinkRefused big (sets_of from sets) ns e) (sym values) refused) in
      subst (λ x. SaysOfSets s x text) (sym is) (inr (link_refused s (sets_of from sets) e text valid here cause other says))

pub says_listed : {W X : Type 0} (from : W → Meaning) (to : X → Meaning) (tells : (x : X) → (bytes : List ℕ) × ((to x).bytes ≡ Some bytes)) (endian : RunTimeEndian) (symbols : List ℕ) (s : SetsValue) (sets : List (Sections W)) (joined : Sections X) (text : List ℕ) →
    s.endian ≡ endian → s.symbols ≡ symbols → AreValidSets s.dwarfs → AreLeft from (is_big_of endian) sets s.dwarfs → AreSets (is_big_of endian) (sets_of from sets) s.dwarfs →
    ((ds : List DwarfValue) → AreLeft from (is_big_of endian) sets ds → LinksDwarfs from to (is_big_of endian) sets symbols ds joined) → JoinsParts to (sets_of from sets) symbols joined → AllInOrder to (is_big_of endian) joined → Lists to joined text →
    sections_of text ≡ Ok (read_of to joined) → ListsSets s text
says_listed from to tells endian symbols s sets joined text same values valid left parts dwarfs joins order listed back =
    let own = ap is_big_of same in
    sets_listed from to tells s sets joined text valid (subst (λ b. AreSets b (sets_of from sets) s.dwarfs) (sym own) parts)
    (subst (λ b. LinksDwarfs from to b sets s.symbols s.dwarfs joined) (sym own) (subst (λ ns. LinksDwarfs from to (is_big_of endian) sets ns s.dwarfs joined) (sym values) (dwarfs s.dwarfs left)))
    (subst (λ ns. JoinsParts to (sets_of from sets) ns joined) (sym values) joins)
    (subst (λ b. AllInOrder to b joined) (sym own) order) listed back
