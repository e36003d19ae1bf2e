-- What every call is told, and the state that it leaves. Assumes nothing.
--
-- | Response        | what a call is told: a reply, or the fault that refuses it |
-- | Setting         | a kind's behaviour, a capacity, a victim policy and the number of transactions |
-- | State           | the tables, and the meaning of the store |
-- | state           | a state from its two parts |
-- | initially       | the state before the first call |
-- | unless          | a refusal, which changes nothing, or else a result |
-- | step_in         | a step that may have to wait |
-- | step_written    | a write that the store has refused or answered |
-- | step_by         | a step on an object, by what the operation is to it |
-- | step_at         | a step on the object of a number |
-- | committed       | a transaction ends, and its parent inherits |
-- | ended           | some transactions end one after the other, and the store discards each |
-- | aborted         | a transaction and its descendants end |
-- | facts           | what a victim policy sees of a transaction |
-- | victim          | the deadlocked one that goes before all others |
-- | deadlock_broken | the victim is aborted and named |
-- | respond         | the reply to a call, and the later state |
use Rattle.std.specs.Prelude.{ℕ, Bool, cond, List, [], ◌∷◌, map, Some, None, Ok, Err, Option, Result, filter}
use Rattle.std.specs.List.{slice_get}
use Rattle.kinds.specs.Outcomes.{Answer}
use Rattle.kinds.specs.declared.answer.Class.{Class}
use Rattle.kinds.specs.declared.answer.Class.TheVariants as classes
use Rattle.kinds.specs.declared.answer.Outcome.{Outcome}
use Rattle.kinds.specs.declared.operation.Operation.{Operation}
use Rattle.model.specs.declared.call.Call.{Call}
use Rattle.model.specs.declared.call.Call.TheVariants.{Begin, Step, Commit, Abort, BreakDeadlock}
use Rattle.model.specs.declared.facts.Facts.{Facts}
use Rattle.model.specs.declared.fault.EngineFault.{EngineFault}
use Rattle.model.specs.declared.fault.EngineFault.TheVariants.{NoObject, Kind, Store}
use Rattle.model.specs.declared.fault.KindFault.TheVariants.{Unknown}
use Rattle.model.specs.declared.fault.StoreFault.{StoreFault}
use Rattle.model.specs.declared.lock.Mode.{Mode}
use Rattle.model.specs.declared.lock.Mode.TheVariants.{Read, Write}
use Rattle.model.specs.declared.reply.Reply.{Reply}
use Rattle.model.specs.declared.reply.Reply.TheVariants.{Accepted, Answered, Waits, Victim}
use Rattle.model.specs.Checks.{begin_fault, absent_fault, commit_fault}
use Rattle.model.specs.Deadlocks.{in_conflict, deadlocked, waiting}
use Rattle.model.specs.Policies.{foremost}
use Rattle.model.specs.Stores.{Object, made, top, change_count, update, inherit, discard}
use Rattle.model.specs.Tables.{Tables, vacant, opened, granted, delayed, handed, closed, closing_order}

-- what a call is told
abbrev pub Response : Type 0
Response = Result Reply EngineFault

-- what an engine is set up with
pub record Setting (S : Type 0) : Type 0 where
  -- what an operation is to an object, and what it does
  pub class : S → Operation → Class
  pub acts : S → Operation → Outcome S
  -- the most that an object's weight may be
  pub capacity : ℕ
  -- the victim policy
  pub before : Facts → Facts → Bool
  -- transactions are numbered from 1 to this
  pub limit : ℕ

-- the tables, and what the store holds of each object
pub record State (S : Type 0) : Type 0 where
  pub tables : Tables
  pub objects : List (Object S)

-- a state from its two parts
abbrev pub state : {S : Type 0} → Tables → List (Object S) → State S
state T obs = record { tables = T; objects = obs }

-- before the first call: nothing is open, and each object has its initial state
abbrev pub initially : {S : Type 0} → List S → State S
initially initial = state vacant (map made initial)

-- a refusal changes nothing
abbrev pub unless : {S : Type 0} → Option EngineFault → State S → Response × State S → Response × State S
unless None s result = result
unless (Some f) s result = (Err f, s)

-- a step on x that conflicts waits; else it does what `free` says
abbrev pub step_in : {S : Type 0} → Setting S → State S → Mode → ℕ → ℕ → Response × State S → Response × State S
step_in m s mode t x free =
    cond (in_conflict m.limit s.tables t x mode) (Ok Waits, state (delayed mode t x s.tables) s.objects) free

-- a write of t on x that the store has refused or answered
abbrev pub step_written : {S : Type 0} → State S → ℕ → ℕ → Result Answer StoreFault × List (Object S) → Response × State S
step_written s t x (Err f, obs) = (Err (Store f), s)
step_written s t x (Ok a, obs) = (Ok (Answered a), state (granted Write t x s.tables) obs)

-- a step of t on the object ob of number x, by what the operation is to it
abbrev pub step_by : {S : Type 0} → Setting S → State S → ℕ → ℕ → Operation → Object S → Class → Response × State S
step_by m s t x o ob classes.Unknown = (Err (Kind Unknown), s)
step_by m s t x o ob classes.Read =
    step_in m s Read t x (Ok (Answered (m.acts (top ob) o).answer), state (granted Read t x s.tables) s.objects)
step_by m s t x o ob classes.Write = step_in m s Write t x (step_written s t x (update m.acts m.capacity t x o s.objects))

-- a step of t on the object of number x, if there is one
abbrev pub step_at : {S : Type 0} → Setting S → State S → ℕ → ℕ → Operation → Option (Object S) → Response × State S
step_at m s t x o None = (Err NoObject, s)
step_at m s t x o (Some ob) = step_by m s t x o ob (m.class (top ob) o)

-- t's parent inherits its versions and gains its locks, and t ends
abbrev pub committed : {S : Type 0} → ℕ → State S → State S
committed t s = state (handed t s.tables) (inherit t (s.tables.parent t) s.objects)

-- some transactions end, one after the other, and the store discards each
abbrev pub ended : {S : Type 0} → List ℕ → State S → State S
ended [] s = s
ended (u ∷ us) s = ended us (state (closed u s.tables) (discard u s.objects))

-- t and its descendants end
abbrev pub aborted : {S : Type 0} → ℕ → ℕ → State S → State S
aborted limit t s = ended (closing_order limit s.tables t) s

-- what a victim policy sees of t
abbrev pub facts : {S : Type 0} → State S → ℕ → Facts
facts s t = record { number = t; ordinal = s.tables.ordinal t; changes = change_count t s.objects }

-- the deadlocked one that the policy puts before all others
abbrev pub victim : {S : Type 0} → Setting S → State S → Option ℕ
victim m s =
    foremost (λ t u. m.before (facts s t) (facts s u)) (filter (deadlocked m.limit s.tables) (waiting m.limit s.tables))

-- the victim is aborted and named, if there is one
abbrev pub deadlock_broken : {S : Type 0} → ℕ → State S → Option ℕ → Response × State S
deadlock_broken limit s None = (Ok (Victim None), s)
deadlock_broken limit s (Some t) = (Ok (Victim (Some t)), aborted limit t s)

-- the reply to a call, and the state that it leaves
unfoldable pub respond : {S : Type 0} → Setting S → State S → Call → Response × State S
respond m s (Begin t p) = unless (begin_fault m.limit s.tables t p) s (Ok Accepted, state (opened t p s.tables) s.objects)
respond m s (Step t x o) = unless (absent_fault m.limit s.tables t) s (step_at m s t x o (slice_get s.objects x))
respond m s (Commit t) = unless (commit_fault m.limit s.tables t) s (Ok Accepted, committed t s)
respond m s (Abort t) = unless (absent_fault m.limit s.tables t) s (Ok Accepted, aborted m.limit t s)
respond m s BreakDeadlock = deadlock_broken m.limit s (victim m s)
