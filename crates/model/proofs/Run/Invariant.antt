-- What holds of an account and a store after every list of calls, and that waits, begins and reads keep it.
use Rattle.std.proofs.Common.{◌≡◌, ℕ, Bool, false, List, Some, None, Option}
use Rattle.std.specs.List.{slice_get}
use Rattle.kinds.specs.declared.answer.Class.{Class}
use Rattle.kinds.specs.declared.answer.Class.TheVariants as classes
use Rattle.kinds.specs.declared.answer.Outcome.{Outcome}
use Rattle.kinds.specs.declared.operation.Operation.{Operation}
use Rattle.model.specs.declared.facts.Facts.{Facts}
use Rattle.model.specs.declared.lock.Wait.{Wait}
use Rattle.model.specs.Histories.{Account, Asked, class_at, class_of, in_order}
use Rattle.model.specs.Model.{Setting}
use Rattle.model.specs.Stores.{Object}
use Rattle.model.proofs.Tree.Invariants.{Tree, Locks}
use Rattle.model.proofs.Object.Invariant.{SoundObject}
use Rattle.model.proofs.General.Places.{Matched}
use Rattle.model.proofs.Object.Runs.{touches}

-- the laws of kinds that the proof needs
pub record Lawful {S : Type 0} (m : Setting S) : Type 0 where
  pub class_stays : (s : S) (o p : Operation) → m.class (m.acts s p).next o ≡ m.class s o
  pub read_stays : (s : S) (o : Operation) → m.class s o ≡ classes.Read → (m.acts s o).next ≡ s

-- a kind's laws are those of every setting with its behaviour
pub lawful_kind : {S : Type 0} (class : S → Operation → Class) (acts : S → Operation → Outcome S) → ((s : S) (o p : Operation) → class (acts s p).next o ≡ class s o) → ((s : S) (o : Operation) → class s o ≡ classes.Read → (acts s o).next ≡ s) → (capacity limit : ℕ) (before : Facts → Facts → Bool) → Lawful (record { class = class; acts = acts; capacity = capacity; before = before; limit = limit })
lawful_kind class acts stays reads capacity limit before = record { class_stays = stays; read_stays = reads }

-- u was last told to wait with a step for what it waits for
abbrev pub WaitsWith : {S : Type 0} → Setting S → List S → (ℕ → Option Asked) → ℕ → Wait → Type 0
WaitsWith m initial waiting_step u w =
    (q : Asked) × (waiting_step u ≡ Some q) × (q.object ≡ w.object) ×
    (class_at m.class initial q.object q.operation ≡ class_of w.mode)

pub record Sound {S : Type 0} (m : Setting S) (initial : List S) (A : Account) (obs : List (Object S)) : Type 0 where
  pub tree : Tree m.limit A.tables
  pub locks : Locks A.tables
  pub each : (x : ℕ) → Matched (SoundObject m A.tables A.items (A.changes x) x) (slice_get initial x) (slice_get obs x)
  -- no step is on an object that does not exist
  pub known : (x : ℕ) → slice_get initial x ≡ None → (u : ℕ) → touches x (in_order (A.items u)) ≡ false
  pub asks : (u : ℕ) (w : Wait) → A.tables.wait u ≡ Some w → WaitsWith m initial A.waiting_step u w
