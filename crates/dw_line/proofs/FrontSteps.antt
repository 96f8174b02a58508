-- What stands in front of what calls add, also where they fail.
use Rattle.std.specs.Prelude.{◌≡◌, ℕ, zero, suc, ◌+◌, ◌-◌, ◌≤◌, List, [], ◌∷◌, ◌++◌, length, take, Some, None, refl, Result, Ok, Err, OnOk, OnErr}
use Rattle.std.proofs.Common.{sym, ◌∙◌, ap, subst, inl, inr, arith, length-append, append_assoc, append-nil}
use Rattle.dw_base.specs.declared.error.Error.{Error}
use Rattle.dw_writer.specs.Texts.{Text, followed, overwrite, patched}
use Rattle.dw_writer.specs.Meaning.{Meaning, IsTidy, Adds, AddsSome, AddsSomeWith, Replaces, ReplacesSome}
use Rattle.dw_writer.specs.declared.relocate.Relocation.{Relocation}
use Rattle.dw_writer.proofs.Parts.{followed-nothing}
use Rattle.dw_writer.proofs.Places.{length-overwrite}
use Rattle.dw_writer.proofs.Steps.{told_twice}
use Rattle.dw_line.specs.Parts.{KeepsFront}

pub Front-none : (m : Meaning) → KeepsFront m m
Front-none m = record { added = []; recorded = []; size = omega arith; told = sym (followed-nothing m.bytes); records = sym (append-nil m.records) }

pub Front-then : {a b c : Meaning} → KeepsFront a b → KeepsFront b c → KeepsFront a c
Front-then {a} {b} {c} p q = record {
  added = p.added ++ q.added;
  recorded = p.recorded ++ q.recorded;
  size = omega (arith, p.size, q.size, length-append p.added q.added);
  told = q.told ∙ ap (λ t. followed t (Some q.added)) p.told ∙ sym (told_twice a.bytes p.added q.added);
  records = q.records ∙ ap (λ rs. rs ++ q.recorded) p.records ∙ append_assoc a.records p.recorded q.recorded;
}

pub Adds-front : {a b : Meaning} {xs : List ℕ} → Adds a b xs → KeepsFront a b
Adds-front {a} {b} {xs} p = record { added = xs; recorded = []; size = p.size; told = p.told; records = p.records ∙ sym (append-nil a.records) }

pub AddsSome-front : {a b : Meaning} {xs : List ℕ} → AddsSome a b xs → KeepsFront a b
AddsSome-front {a} {b} {xs} p = record { added = take p.count xs; recorded = []; size = p.size; told = p.told; records = p.records ∙ sym (append-nil a.records) }

-- a call that adds bytes, whatever it answers
pub Front-either : {T : Type 0} {a b : Meaning} (xs ys : List ℕ) (r : Result T Error) → OnOk r (Adds a b xs) → OnErr r (AddsSome a b ys) → KeepsFront a b
Front-either xs ys (Ok x) p q = Adds-front p
Front-either xs ys (Err e) p q = AddsSome-front q

-- one that may record something
pub AddsSomeWith-front : {a b : Meaning} {xs : List ℕ} {rs : List Relocation} → AddsSomeWith a b xs rs → KeepsFront a b
AddsSomeWith-front {a} {b} {xs} {rs} p =
    elim p.records [
      | inl more ↦ record { added = take p.count xs; recorded = rs; size = p.size; told = p.told; records = more }
      | inr same ↦ subst (KeepsFront a) (sym same) (Front-none a)
    ]

overwrite-past : (xs zs ys : List ℕ) (p : ℕ) → length xs ≤ p → overwrite p ys (xs ++ zs) ≡ xs ++ overwrite (p - length xs) ys zs
overwrite-past [] zs ys p h = let e : p ≡ p - 0 = omega arith in ap (λ k. overwrite k ys zs) e
overwrite-past (x ∷ xs) zs ys zero h = absurd (omega arith)
overwrite-past (x ∷ xs) zs ys (suc p) h =
    let e : p - length xs ≡ suc p - length (x ∷ xs) = omega arith in
    ap (λ r. x ∷ r) (overwrite-past xs zs ys p (omega arith) ∙ ap (λ k. xs ++ overwrite k ys zs) e)

-- what is written over later bytes
patched-past : (t : Text) (n p : ℕ) (xs ys : List ℕ) → ((b : List ℕ) → t ≡ Some b → length b ≡ n) → n ≤ p →
    patched p (Some ys) (followed t (Some xs)) ≡ followed t (Some (overwrite (p - n) ys xs))
unfolding followed patched
patched-past None n p xs ys sized h = refl
patched-past (Some b) n p xs ys sized h =
    let e = sized b refl in
    ap Some (overwrite-past b xs ys p (omega arith) ∙ ap (λ k. b ++ overwrite (p - k) ys xs) e)

module _ {a b c : Meaning} (tidy : IsTidy a) (p : ℕ) (within : a.size ≤ p) (front : KeepsFront a b) where
  patched_front : (ys : List ℕ) → c.size ≡ b.size → c.bytes ≡ patched p (Some ys) b.bytes → c.records ≡ b.records → KeepsFront a c
  patched_front ys size told records = record {
    added = overwrite (p - a.size) ys front.added;
    recorded = front.recorded;
    size = size ∙ front.size ∙ ap (λ n. a.size + n) (sym (length-overwrite (p - a.size) ys front.added));
    told = told ∙ ap (patched p (Some ys)) front.told ∙ patched-past a.bytes a.size p front.added ys tidy.sized within;
    records = records ∙ front.records;
  }

  -- a call that patches what was added, whatever it answers
  pub Front-patched : {T : Type 0} (xs ys : List ℕ) (r : Result T Error) → OnOk r (Replaces b c p xs) → OnErr r (ReplacesSome b c p ys) → KeepsFront a c
  Front-patched xs ys (Ok x) q s = patched_front xs q.size q.told q.records
  Front-patched xs ys (Err e) q s = patched_front (take s.count ys) s.size s.told s.records
