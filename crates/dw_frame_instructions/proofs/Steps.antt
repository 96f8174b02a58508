-- What writes of parts, one after another, come to.
use Rattle.std.specs.Prelude.{◌≡◌, ℕ, ◌<◌, Bool, true, false, ◌||◌, List, [], ◌∷◌, length, Result, Ok, Err, OnOk, IfErr, Some, None, refl, IsTrue, IsFalse}
use Rattle.std.proofs.Common.{sym, ◌∙◌, ap, subst, arith, add_assoc, add-zero}
use Rattle.std.proofs.Math.Path.{fun_ext}
use Rattle.dw_base.specs.Numbers.{num}
use Rattle.dw_base.specs.declared.error.Error.{Error}
use Rattle.dw_base.specs.declared.error.Error.TheVariants as errors
use Rattle.dw_base.proofs.NumberLaws.{length-num}
use Rattle.dw_writer.specs.Texts.{Text, followed}
use Rattle.dw_writer.specs.Meaning.{Meaning, Layout, Model, IsSameWriter, Adds}
use Rattle.dw_writer.specs.Causes.{BytesRefused}
use Rattle.dw_writer.proofs.Laws.{followed_assoc}
use Rattle.dw_writer.proofs.Parts.{followed-nothing}
use Rattle.dw_writer.proofs.Plain.{num-byte}
use Rattle.dw_writer.proofs.Steps.{Adds-appends, Appends-then, Appends-by}
use Rattle.dw_writer.proofs.FaultLaws.{HasRisen-from}
use Rattle.dw_expr.specs.Places.{Refused}
use Rattle.dw_frame_instructions.specs.Pieces.{Piece, nothing, bytes, field, both, IsWritten}
use Rattle.dw_frame_instructions.specs.Causes.{IsNone, never, either, Writes}

pub or_here : (a b : Bool) → IsTrue a → IsTrue (a || b)
or_here true b h = refl
or_here false b h = cc

pub or_there : (a b : Bool) → IsTrue b → IsTrue (a || b)
or_there true b h = refl
or_there false b h = h

pub or_none : (a b : Bool) → IsFalse a → IsFalse b → IsFalse (a || b)
or_none true b h k = h
or_none false b h k = k

-- a refusal for a cause, or of a later write
pub refused_in : (a b c : Meaning) (f g : Error → Bool) → IsSameWriter a b → ((e : Error) → IsTrue (f e) → IsTrue (g e)) → (e : Error) → Refused b c f e → Refused a c g e
refused_in a b c f g same h errors.NoMemory r = tt
refused_in a b c f g same h errors.WriteFault r = HasRisen-from a b c same.faults r
refused_in a b c f g same h e r = h e r

itself : (m : Meaning) → IsSameWriter m m
itself m = record { order = refl; kind = refl; faults = omega arith }

-- the first of two is refused
pub refused_first : (a b : Meaning) (f g : Error → Bool) (e : Error) → Refused a b f e → Refused a b (either f g) e
refused_first a b f g = refused_in a a b f (either f g) (itself a) (λ e. or_here (f e) (g e))

-- the second of two is refused
pub refused_second : (a b c : Meaning) (f g : Error → Bool) → IsSameWriter a b → (e : Error) → Refused b c g e → Refused a c (either f g) e
refused_second a b c f g same = refused_in a b c g (either f g) same (λ e. or_there (f e) (g e))

-- one part after another
pub Writes-then : {T : Type 0} (r : Result T Error) (a b c : Meaning) (p q : Piece) (f g : Error → Bool) → IsWritten a b p × IsNone f → Writes r b c q g → Writes r a c (both p q) (either f g)
unfolding both
Writes-then (Ok x) a b c p q f g h k = (Appends-then h.0 k.0, λ e. or_none (f e) (g e) (h.1 e) (k.1 e))
Writes-then (Err e) a b c p q f g h k = refused_second a b c f g h.0.same e k

-- the same part with the same causes, told otherwise
pub Writes-as : {T : Type 0} (r : Result T Error) (a b : Meaning) (p q : Piece) (f g : Error → Bool) → Writes r a b p f → p ≡ q → f ≡ g → Writes r a b q g
Writes-as r a b p q f g h e k = subst (λ x. Writes r a b x g) e (subst (λ x. Writes r a b p x) k h)

bytes_refused : (a b : Meaning) (f : Error → Bool) (e : Error) → BytesRefused a b e → Refused a b f e
bytes_refused a b f errors.NoMemory h = tt
bytes_refused a b f errors.WriteFault h = h
bytes_refused a b f e h = absurd h

-- bytes are added, for which there is no cause
pub Writes-bytes : {T : Type 0} (r : Result T Error) (a b : Meaning) (xs : List ℕ) → OnOk r (Adds a b xs) → IfErr r (BytesRefused a b) → Writes r a b (bytes xs) never
Writes-bytes (Ok x) a b xs p q = (Adds-appends p, λ e. refl)
Writes-bytes (Err e) a b xs p q = bytes_refused a b never e q

pub written-nothing : (m : Meaning) → IsWritten m m nothing
written-nothing m = Adds-appends (record { same = itself m; size = omega arith; told = sym (followed-nothing m.bytes); records = refl })

pub byte-is : (m b : Meaning) (n : ℕ) → n < 256 → Adds m b (num m.is_big 1 n) → Adds m b (n ∷ [])
byte-is m b n small p = subst (λ xs. Adds m b xs) (num-byte m.is_big n small) p

-- Pieces, one behind another

pub piece_is : (a b : ℕ) (s t : Model) → a ≡ b → ((big : Bool) (l : Layout) → s big l ≡ t big l) → ◌≡◌ {A = Piece} (record { size = a; text = s }) (record { size = b; text = t })
piece_is a b s t e f =
    let size : ℕ → Piece = λ n. record { size = n; text = s } in
    let text : Model → Piece = λ x. record { size = b; text = x } in
    ap size e ∙ ap text (fun_ext (λ big. fun_ext (λ l. f big l)))

pub nothing-followed : (t : Text) → followed (Some []) t ≡ t
unfolding followed
nothing-followed None = refl
nothing-followed (Some xs) = refl

pub both-assoc : (p q r : Piece) → both (both p q) r ≡ both p (both q r)
unfolding both
both-assoc p q r = piece_is _ _ _ _ (add_assoc p.size q.size r.size) (λ big l. followed_assoc (p.text big l) (q.text big l) (r.text big l))

pub nothing-both : (p : Piece) → both nothing p ≡ p
unfolding both
nothing-both p = piece_is _ _ _ _ (omega arith) (λ big l. nothing-followed (p.text big l))

pub both-nothing : (p : Piece) → both p nothing ≡ p
unfolding both
both-nothing p = piece_is _ _ _ _ (add-zero p.size) (λ big l. followed-nothing (p.text big l))

-- a cause that isn't a fault of the writer
pub cause_refused : (a b : Meaning) (f : Error → Bool) → f errors.WriteFault ≡ false → (e : Error) → IsTrue (f e) → Refused a b f e
cause_refused a b f quiet errors.NoMemory h = tt
cause_refused a b f quiet errors.WriteFault h = absurd (let k : true ≡ false = sym h ∙ quiet in cc)
cause_refused a b f quiet e h = h

-- bytes that were added
pub bytes_written : {a b : Meaning} {xs : List ℕ} → Adds a b xs → IsWritten a b (bytes xs) × IsNone never
bytes_written p = (Adds-appends p, λ e. refl)

pub both_written : (a b c : Meaning) (p q : Piece) (f g : Error → Bool) → IsWritten a b p × IsNone f → IsWritten b c q × IsNone g → IsWritten a c (both p q) × IsNone (either f g)
unfolding both
both_written a b c p q f g h k = (Appends-then h.0 k.0, λ e. or_none (f e) (g e) (h.1 e) (k.1 e))

pub bytes_refused_in : (a b c : Meaning) (f : Error → Bool) → IsSameWriter a b → (e : Error) → BytesRefused b c e → Refused a c f e
bytes_refused_in a b c f same e h = refused_in a b c never f same (λ e k. absurd (let x : false ≡ true = k in cc)) e (bytes_refused b c never e h)

pub written-field : {a b : Meaning} (w n : ℕ) → Adds a b (num a.is_big w n) → IsWritten a b (field w n)
written-field {a} {b} w n p =
    Appends-by (Adds-appends p) (length-num a.is_big w n) (λ l. refl) (λ big l xs e. let f : num big w n ≡ xs = cc in sym (ap length f) ∙ length-num big w n)

pub Writes-field : {T : Type 0} (r : Result T Error) (a b : Meaning) (w n : ℕ) → OnOk r (Adds a b (num a.is_big w n)) → IfErr r (BytesRefused a b) → Writes r a b (field w n) never
Writes-field (Ok x) a b w n p q = (written-field w n p, λ e. refl)
Writes-field (Err e) a b w n p q = bytes_refused a b never e q

-- where there is nothing to write
pub Writes-none : (m : Meaning) (p : Piece) → nothing ≡ p → Writes {T = Unit {0}} (Ok tt) m m p never
Writes-none m p e = (subst (IsWritten m m) e (written-nothing m), λ e. refl)
