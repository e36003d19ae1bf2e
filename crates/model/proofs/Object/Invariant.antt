-- What holds of one object after every list of calls.
use Rattle.std.proofs.Common.{◌≡◌, ℕ, true, false, eqb, List, [], ◌∷◌, refl}
use Rattle.std.proofs.lemmas.Bool.{or_right}
use Rattle.kinds.specs.declared.operation.Operation.{Operation}
use Rattle.model.specs.Histories.{Items, in_order}
use Rattle.model.specs.Model.{Setting}
use Rattle.model.specs.Stores.{Version, Object, owned}
use Rattle.model.specs.Tables.{Tables, is_open, holds}
use Rattle.model.proofs.Tree.Invariants.{Locks}
use Rattle.model.proofs.Object.Runs.{Runs, touches}
use Rattle.model.proofs.Object.Seeing.{Each, each_map, seen}

-- w's owner is a proper ancestor of v's
abbrev pub Beneath : {S : Type 0} → Tables → Version S → Version S → Type 0
Beneath T v w = (T.line v.owner w.owner ≡ true) × (v.owner ≡ w.owner → ⊥)

-- owners have the write lock, and each is a proper descendant of those beneath
abbrev pub Stack : {S : Type 0} → Tables → ℕ → List (Version S) → Type 0
Stack T x [] = Unit {0}
Stack T x (v ∷ vs) = (T.writers x v.owner ≡ true) × Each (Beneath T v) vs × Stack T x vs

-- every operation is to s what it is to the initial state
abbrev pub Alike : {S : Type 0} → Setting S → S → S → Type 0
Alike m initial s = (o : Operation) → m.class s o ≡ m.class initial o

-- the object x with its initial state, and what the transactions have done with it
pub record SoundObject {S : Type 0} (m : Setting S) (T : Tables) (items : ℕ → Items) (changes : ℕ → ℕ) (x : ℕ) (initial : S) (ob : Object S) : Type 0 where
  pub stack : Stack T x ob.versions
  pub alike : Each (λ v. Alike m initial v.state) ob.versions
  pub alike_committed : Alike m initial ob.committed
  -- what u and its committed descendants did leads from what u's ancestors see to what u sees
  pub values : (u : ℕ) → is_open T u ≡ true → Runs m.acts x (in_order (items u)) (seen (T.line (T.parent u)) ob.committed ob.versions) (seen (T.line u) ob.committed ob.versions)
  -- what was kept leads from the initial state to the committed one
  pub whole : Runs m.acts x (in_order (items 0)) initial ob.committed
  -- whoever did something with x holds a lock
  pub locked : (u : ℕ) → is_open T u ≡ true → touches x (in_order (items u)) ≡ true → holds T x u ≡ true
  pub counts : (u : ℕ) → is_open T u ≡ true → changes u ≡ owned u ob.versions

-- a holder of a write lock is open
pub writer_open : (T : Tables) → Locks T → (x u : ℕ) → T.writers x u ≡ true → is_open T u ≡ true
writer_open T locks x u e = locks.holder_open x u (or_right _ _ e)

module _ {S : Type 0} where
  -- a stack is one in other tables that keep its owners' locks and lines
  pub stack_carried : (T N : Tables) (x : ℕ) (Q : ℕ → Type 0) → ((u : ℕ) → Q u → T.writers x u ≡ true → N.writers x u ≡ true) → ((u v : ℕ) → Q u → T.line u v ≡ true → N.line u v ≡ true) → (vs : List (Version S)) → Each (λ v. Q v.owner) vs → Stack T x vs → Stack N x vs
  stack_carried T N x Q f g [] q s = tt
  stack_carried T N x Q f g (v ∷ vs) q s = (
    f v.owner q.0 s.0,
    each_map (Beneath T v) (Beneath N v) (λ w e. (g v.owner w.owner q.0 e.0, e.1)) vs s.1,
    stack_carried T N x Q f g vs q.1 s.2,
  )

  -- what holds of every holder of the write lock holds of every owner
  pub each_owner : (T : Tables) (x : ℕ) (P : ℕ → Type 0) → ((u : ℕ) → T.writers x u ≡ true → P u) → (vs : List (Version S)) → Stack T x vs → Each (λ v. P v.owner) vs
  each_owner T x P f [] s = tt
  each_owner T x P f (v ∷ vs) s = (f v.owner s.0, each_owner T x P f vs s.2)

  -- one who owns no version has no changes
  pub owned_none : (t : ℕ) (vs : List (Version S)) → Each (λ v. eqb v.owner t ≡ false) vs → owned t vs ≡ 0
  owned_none t [] e = refl
  owned_none t (v ∷ vs) e = let k = owned_none t vs e.1 in rw (e.0, k)
