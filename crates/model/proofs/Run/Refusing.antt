-- A refused call changes nothing.
use Rattle.std.proofs.Common.{◌≡◌, ℕ, Bool, true, false, cond, List, Some, None, Ok, Err, Option, Result, refl}
use Rattle.std.specs.List.{slice_get}
use Rattle.kinds.specs.Outcomes.{Answer}
use Rattle.kinds.specs.declared.answer.Class.{Class}
use Rattle.kinds.specs.declared.answer.Class.TheVariants as classes
use Rattle.kinds.specs.declared.operation.Operation.{Operation}
use Rattle.model.specs.declared.call.Call.TheVariants.{Begin, Step, Commit, Abort, BreakDeadlock}
use Rattle.model.specs.declared.fault.EngineFault.{EngineFault}
use Rattle.model.specs.declared.fault.StoreFault.{StoreFault}
use Rattle.model.specs.declared.lock.Mode.TheVariants.{Read, Write}
use Rattle.model.specs.declared.reply.Reply.{Reply}
use Rattle.model.specs.declared.reply.Reply.TheVariants.{Victim}
use Rattle.model.specs.Deadlocks.{in_conflict}
use Rattle.model.specs.Checks.{begin_fault, absent_fault, commit_fault}
use Rattle.model.specs.Model.{Response, Setting, State, respond, unless, step_at, step_by, step_written, deadlock_broken, victim}
use Rattle.model.specs.Promises.{Refusals}
use Rattle.model.specs.Stores.{Object, top, update}

module _ {S : Type 0} (s : State S) (f : EngineFault) where
  -- where a result is a refusal, it leaves the state
  abbrev Leaves : Response × State S → Type 0
  Leaves r = r.0 ≡ Err f → r.1 ≡ s

  -- what is told with a reply is no refusal
  replied : (r : Reply) (later : State S) → Leaves (Ok r, later)
  replied r later e = cc

  unless_leaves : (g : Option EngineFault) (r : Response × State S) → Leaves r → Leaves (unless g s r)
  unless_leaves None r k = k
  unless_leaves (Some g) r k = λ _. refl

  either_leaves : (b : Bool) (r q : Response × State S) → Leaves r → Leaves q → Leaves (cond b r q)
  either_leaves true r q k l = k
  either_leaves false r q k l = l

  written_leaves : (t x : ℕ) (r : Result Answer StoreFault × List (Object S)) → Leaves (step_written s t x r)
  written_leaves t x (Err g, obs) = λ _. refl
  written_leaves t x (Ok a, obs) = replied _ _

  by_class_leaves : (m : Setting S) (t x : ℕ) (o : Operation) (ob : Object S) (k : Class) → Leaves (step_by m s t x o ob k)
  by_class_leaves m t x o ob classes.Unknown = λ _. refl
  by_class_leaves m t x o ob classes.Read = either_leaves (in_conflict m.limit s.tables t x Read) _ _ (replied _ _) (replied _ _)
  by_class_leaves m t x o ob classes.Write =
      either_leaves (in_conflict m.limit s.tables t x Write) _ _ (replied _ _)
      (written_leaves t x (update m.acts m.capacity t x o s.objects))

  at_leaves : (m : Setting S) (t x : ℕ) (o : Operation) (b : Option (Object S)) → Leaves (step_at m s t x o b)
  at_leaves m t x o None = λ _. refl
  at_leaves m t x o (Some ob) = by_class_leaves m t x o ob (m.class (top ob) o)

  broken_leaves : (limit : ℕ) (v : Option ℕ) → Leaves (deadlock_broken limit s v)
  broken_leaves limit None = λ _. refl
  broken_leaves limit (Some v) = replied (Victim (Some v)) _

pub refusals : {S : Type 0} (m : Setting S) → Refusals m
unfolding respond
refusals m s (Begin t p) f = unless_leaves s f (begin_fault m.limit s.tables t p) _ (replied s f _ _)
refusals m s (Step t x o) f = unless_leaves s f (absent_fault m.limit s.tables t) _ (at_leaves s f m t x o (slice_get s.objects x))
refusals m s (Commit t) f = unless_leaves s f (commit_fault m.limit s.tables t) _ (replied s f _ _)
refusals m s (Abort t) f = unless_leaves s f (absent_fault m.limit s.tables t) _ (replied s f _ _)
refusals m s BreakDeadlock f = broken_leaves s f m.limit (victim m s)
