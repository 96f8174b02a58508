-- Equality and hashes of expressions: those of their operations, one after another.
use Rattle.std.specs.Prelude.{◌≡◌, ◌==◌, Bool, true, false, ◌&&◌, List, [], ◌∷◌, ◌++◌, length, pos, refl, IsTrue}
use Rattle.std.proofs.Common.{sym, ◌∙◌, ap}
use Rattle.std.specs.Bool.{Decides}
use Rattle.std.specs.Cmp.{IsEquivalence, decided, unsigned_Decides, signed_Decides}
use Rattle.std.specs.Cmp.Lexicographic.{pointwise, pointwise_decides}
use Rattle.std.specs.Ordering.{int_eq}
use Rattle.std.specs.Hash as fed
use Rattle.dw_expr.specs.Trees.{Plain, Node, Tree, plain, entry_value, nothing, before}
use Rattle.dw_expr.specs.Keys.{Key, key, key_by, key_eq, plain_by, plain_by-key}
use Rattle.dw_expr.specs.declared.op.equality.Key.{Key as Fields}

-- the key that fields are
abbrev pub key_in : Fields → Key
key_in k = key_by k.kind k.first k.second k.third k.signed k.bytes.now

-- what tells an operation apart, but for an expression in it
abbrev pub node_key : Node → Key
node_key (plain p) = key p
node_key (entry_value x) = key_by 30 0 0 0 (pos 0) []

abbrev mutual
  pub node_eq : Node → Node → Bool
  node_eq (plain p) (plain q) = key_eq (key p) (key q)
  node_eq (plain p) (entry_value y) = false
  node_eq (entry_value x) (plain q) = false
  node_eq (entry_value x) (entry_value y) = tree_eq x y

  pub tree_eq : Tree → Tree → Bool
  tree_eq nothing nothing = true
  tree_eq nothing (before n y) = false
  tree_eq (before m x) nothing = false
  tree_eq (before m x) (before n y) = node_eq m n && tree_eq x y

abbrev pub nodes_eq : List Node → List Node → Bool
nodes_eq xs ys = pointwise node_eq xs ys

-- what is fed to a hasher; a list ends with 255
abbrev pub key_hash : Key → fed.HashWrites
key_hash k =
    fed.u8 k.kind ++ (fed.u64 k.first ++ (fed.u64 k.second ++ (fed.u64 k.third ++ (fed.i64 k.signed ++ (fed.usize (length k.bytes) ++ (k.bytes ∷ []))))))

abbrev mutual
  pub node_hash : Node → fed.HashWrites
  node_hash (plain p) = key_hash (key p)
  node_hash (entry_value x) = key_hash (key_by 30 0 0 0 (pos 0) []) ++ tree_hash x

  pub tree_hash : Tree → fed.HashWrites
  tree_hash nothing = fed.u8 255
  tree_hash (before n x) = node_hash n ++ tree_hash x

abbrev pub nodes_hash : List Node → fed.HashWrites
nodes_hash [] = fed.u8 255
nodes_hash (n ∷ ns) = node_hash n ++ nodes_hash ns

-- Tests decide equality.

both : {A B : Type 0} (a b : Bool) → Decides a A → Decides b B → Decides (a && b) (A × B)
both true b p q = (λ e. (p.0 refl, q.0 e), λ h. q.1 h.1)
both false b p q = (λ e. absurd (let k : false ≡ true = e in cc), λ h. p.1 h.0)

same_test : {A B : Type 0} (a : Bool) → (A → B) → (B → A) → Decides a A → Decides a B
same_test a f g d = (λ e. f (d.0 e), λ h. d.1 (g h))

never : {A : Type 0} → (A → ⊥) → Decides false A
never f = (λ e. absurd (let k : false ≡ true = e in cc), λ h. absurd (f h))

key_is : (j k : Key) → (j.kind ≡ k.kind) × ((j.first ≡ k.first) × ((j.second ≡ k.second) × ((j.third ≡ k.third) × ((j.signed ≡ k.signed) × (j.bytes ≡ k.bytes))))) → j ≡ k
key_is j k h = λ i. key_by (h.0 i) (h.1.0 i) (h.1.1.0 i) (h.1.1.1.0 i) (h.1.1.1.1.0 i) (h.1.1.1.1.1 i)

key_parts : (j k : Key) → j ≡ k → (j.kind ≡ k.kind) × ((j.first ≡ k.first) × ((j.second ≡ k.second) × ((j.third ≡ k.third) × ((j.signed ≡ k.signed) × (j.bytes ≡ k.bytes)))))
key_parts j k h = (ap (λ x. x.kind) h, (ap (λ x. x.first) h, (ap (λ x. x.second) h, (ap (λ x. x.third) h, (ap (λ x. x.signed) h, ap (λ x. x.bytes) h)))))

key_decides : (j k : Key) → Decides (key_eq j k) (j ≡ k)
key_decides j k =
    same_test (key_eq j k) (key_is j k) (key_parts j k)
    (both (j.kind == k.kind) _ (unsigned_Decides j.kind k.kind)
    (both (j.first == k.first) _ (unsigned_Decides j.first k.first)
    (both (j.second == k.second) _ (unsigned_Decides j.second k.second)
    (both (j.third == k.third) _ (unsigned_Decides j.third k.third)
    (both (int_eq j.signed k.signed) _ (signed_Decides j.signed k.signed) (pointwise_decides unsigned_Decides j.bytes k.bytes))))))

plain_decides : (p q : Plain) → Decides (key_eq (key p) (key q)) (p ≡ q)
plain_decides p q =
    same_test (key_eq (key p) (key q)) (λ e. sym (plain_by-key p) ∙ ap plain_by e ∙ plain_by-key q) (λ e. ap key e) (key_decides (key p) (key q))

mutual
  pub node_decides : (m n : Node) → Decides (node_eq m n) (m ≡ n)
  node_decides (plain p) (plain q) = same_test (key_eq (key p) (key q)) (λ e. ap plain e) (λ e. cc) (plain_decides p q)
  node_decides (plain p) (entry_value y) = never (λ e. cc)
  node_decides (entry_value x) (plain q) = never (λ e. cc)
  node_decides (entry_value x) (entry_value y) = same_test (tree_eq x y) (λ e. ap entry_value e) (λ e. cc) (tree_decides x y)

  pub tree_decides : (x y : Tree) → Decides (tree_eq x y) (x ≡ y)
  tree_decides nothing nothing = (λ e. refl, λ e. refl)
  tree_decides nothing (before n y) = never (λ e. cc)
  tree_decides (before m x) nothing = never (λ e. cc)
  tree_decides (before m x) (before n y) =
      same_test (node_eq m n && tree_eq x y) (λ h. ap (λ k. before k x) h.0 ∙ ap (before n) h.1) (λ e. (cc, cc)) (both (node_eq m n) (tree_eq x y) (node_decides m n) (tree_decides x y))

pub nodes_decides : (xs ys : List Node) → Decides (nodes_eq xs ys) (xs ≡ ys)
nodes_decides = pointwise_decides node_decides

pub node_equiv : IsEquivalence node_eq
node_equiv = decided node_eq node_decides

pub nodes_equiv : IsEquivalence nodes_eq
nodes_equiv = decided nodes_eq nodes_decides

pub node_hash_alike : (m n : Node) → IsTrue (node_eq m n) → node_hash m ≡ node_hash n
node_hash_alike m n h = ap node_hash ((node_decides m n).0 h)

pub nodes_hash_alike : (xs ys : List Node) → IsTrue (nodes_eq xs ys) → nodes_hash xs ≡ nodes_hash ys
nodes_hash_alike xs ys h = ap nodes_hash ((nodes_decides xs ys).0 h)
