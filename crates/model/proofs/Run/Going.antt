-- While something is open and nobody is deadlocked, some open transaction can go on.
use Rattle.std.proofs.Common.{◌≡◌, ℕ, Bool, true, false, cond, eqb, List, Some, None, Ok, Err, Option, sym, refl, ◌∙◌, subst, inl, inr}
use Rattle.std.specs.List.{slice_get}
use Rattle.kinds.specs.declared.answer.Class.TheVariants as classes
use Rattle.kinds.specs.declared.operation.Operation.{Operation}
use Rattle.model.specs.declared.call.Call.TheVariants.{Step, Commit}
use Rattle.model.specs.declared.fault.StoreFault.TheVariants.{Full}
use Rattle.model.specs.declared.lock.Mode.{Mode}
use Rattle.model.specs.declared.lock.Mode.TheVariants.{Read, Write}
use Rattle.model.specs.declared.lock.Wait.{Wait}
use Rattle.model.specs.declared.reply.Reply.TheVariants.{Accepted, Waits}
use Rattle.model.specs.Deadlocks.{in_conflict}
use Rattle.model.specs.Histories.{Account, History, account, class_at, class_in, Follows, class_of}
use Rattle.model.specs.Checks.{has_child}
use Rattle.model.specs.Model.{Setting, State, state, respond, step_at, step_by, step_written}
use Rattle.model.specs.Numbers.{at}
use Rattle.model.specs.Promises.{CanGoOn, Progress}
use Rattle.model.specs.Stores.{Object, top, weight, changed}
use Rattle.model.specs.Tables.{Tables, is_open, waits}
use Rattle.model.proofs.Object.Invariant.{SoundObject, Alike}
use Rattle.model.proofs.General.Places.{Matched}
use Rattle.model.proofs.Deadlock.Progress.{Unblocked, progress_at}
use Rattle.model.proofs.Run.Promised.{tables_told, sound}
use Rattle.model.proofs.Run.Steps.{top_alike}
use Rattle.model.proofs.Run.Invariant.{Lawful, Sound}

module _ {S : Type 0} (m : Setting S) (lawful : Lawful m) (initial : List S) (h : History) (s : State S) (follows : Follows m initial h s) where
  abbrev A : Account
  A = account m.class initial h

  abbrev T : Tables
  T = A.tables

  abbrev r : State S
  r = state T s.objects

  same_state : r ≡ s
  same_state = λ i. record { tables = sym (tables_told m lawful initial h s follows) i; objects = s.objects }

  abbrev holds_true : Sound m initial A s.objects
  holds_true = sound m lawful initial h s follows

  commits : (u : ℕ) → is_open T u ≡ true → has_child m.limit T u ≡ false → waits T u ≡ false → (respond m r (Commit u)).0 ≡ Ok Accepted
  unfolding respond
  commits u o c w = rw (holds_true.tree.in_range u o, o, c, w)

  -- a step for a lock that nobody holds against it
  module _ (u x : ℕ) (op : Operation) (a : S) (ob : Object S) (object_sound : SoundObject m T A.items (A.changes x) x a ob) where
    updated_not_waits : (b : Bool) → (step_written r u x (cond b (Err Full, s.objects) (Ok (m.acts (top ob) op).answer, at x (changed u (m.acts (top ob) op).next) s.objects))).0 ≡ Ok Waits → ⊥
    updated_not_waits true e = cc
    updated_not_waits false e = cc

    free_not_waits : (mode : Mode) → slice_get s.objects x ≡ Some ob → in_conflict m.limit T u x mode ≡ false → (step_by m r u x op ob (class_of mode)).0 ≡ Ok Waits → ⊥
    free_not_waits Read here free = rw free (λ e. cc)
    free_not_waits Write here free = rw (free, here) (updated_not_waits (eqb (weight ob.versions) m.capacity))

    same_class : m.class (top ob) op ≡ m.class a op
    same_class = top_alike (Alike m a) ob.committed ob.versions object_sound.alike_committed object_sound.alike op

  -- a known operation is on an object
  class_none : (mode : Mode) → classes.Unknown ≡ class_of mode → ⊥
  class_none Read e = cc
  class_none Write e = cc

  step_not_waits : (u x : ℕ) (op : Operation) (mode : Mode) → in_conflict m.limit T u x mode ≡ false → (a : Option S) (b : Option (Object S)) → slice_get s.objects x ≡ b → Matched (SoundObject m T A.items (A.changes x) x) a b → class_in m.class op a ≡ class_of mode → (step_at m r u x op b).0 ≡ Ok Waits → ⊥
  step_not_waits u x op mode free None b here k c = absurd (class_none mode c)
  step_not_waits u x op mode free (Some a) None here k c = absurd k
  step_not_waits u x op mode free (Some a) (Some ob) here k c =
      let e : m.class (top ob) op ≡ class_of mode = same_class u x op a ob k ∙ c in rw e (free_not_waits u x op a ob k mode here free)

  respond_not_waits : (u x : ℕ) (op : Operation) (mode : Mode) → is_open T u ≡ true → in_conflict m.limit T u x mode ≡ false → class_at m.class initial x op ≡ class_of mode → (respond m r (Step u x op)).0 ≡ Ok Waits → ⊥
  unfolding respond
  respond_not_waits u x op mode o free c =
      rw (holds_true.tree.in_range u o, o)
      (step_not_waits u x op mode free (slice_get initial x) (slice_get s.objects x) refl (holds_true.each x) c)

  repeats : (u : ℕ) → is_open T u ≡ true → (w : Wait) → T.wait u ≡ Some w → in_conflict m.limit T u w.object w.mode ≡ false → CanGoOn m initial h r u
  repeats u o w e free =
      let k = holds_true.asks u w e in
      inr (
        k.0,
        k.1,
        rw e,
        respond_not_waits u k.0.object k.0.operation w.mode o
            (subst (λ (x : ℕ). in_conflict m.limit T u x w.mode ≡ false) (sym k.2) free) k.3,
      )

  goes_on : (u : ℕ) → is_open T u ≡ true → Unblocked m.limit T u → CanGoOn m initial h r u
  goes_on u o (inl k) = inl (commits u o k.0 k.1)
  goes_on u o (inr k) = repeats u o k.0 k.1 k.2

  pub progress : Progress m initial h s
  progress t o free =
      let k = progress_at m.limit T holds_true.tree holds_true.locks t o free in
      (k.0, k.1, subst (λ (z : State S). CanGoOn m initial h z k.0) same_state (goes_on k.0 k.1 k.2))
