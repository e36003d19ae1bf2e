-- What the three questions answer. They change nothing. Assumes nothing.
--
-- | condition   | whether a number is free, or its transaction waits, or is just open |
-- | read_only   | the answer of a read, and a refusal of anything else |
-- | peek_at     | what an operation answers at a state, if there is one |
-- | peek        | what a read operation answers at a committed state |
-- | lock_counts | how many transactions hold each lock of an object |
use Rattle.std.specs.Prelude.{ℕ, cond, List, Some, None, Ok, Err, Option, Result, nat_lt}
use Rattle.std.specs.List.{slice_get}
use Rattle.kinds.specs.Outcomes.{Answer}
use Rattle.kinds.specs.declared.answer.Class.{Class}
use Rattle.kinds.specs.declared.answer.Class.TheVariants as classes
use Rattle.kinds.specs.declared.answer.Outcome.{Outcome}
use Rattle.kinds.specs.declared.operation.Operation.{Operation}
use Rattle.model.specs.declared.fault.EngineFault.{EngineFault}
use Rattle.model.specs.declared.fault.EngineFault.TheVariants.{NumberOutOfRange, NoObject, Kind}
use Rattle.model.specs.declared.fault.KindFault.TheVariants.{Unknown, NotARead}
use Rattle.model.specs.declared.reply.Condition.{Condition}
use Rattle.model.specs.declared.reply.Condition.TheVariants as conditions
use Rattle.model.specs.declared.reply.LockCounts.{LockCounts}
use Rattle.model.specs.Checks.{numbered}
use Rattle.model.specs.Numbers.{size}
use Rattle.model.specs.Tables.{Tables, is_open, waits}

-- condition (t)
abbrev pub condition : ℕ → Tables → ℕ → Result Condition EngineFault
condition limit T t =
    cond (numbered limit t) (Ok (cond (is_open T t) (cond (waits T t) conditions.Waiting conditions.Open) conditions.Free))
    (Err NumberOutOfRange)

-- an answer of a read, by what the operation is
abbrev pub read_only : Class → Answer → Result Answer EngineFault
read_only classes.Unknown a = Err (Kind Unknown)
read_only classes.Read a = Ok a
read_only classes.Write a = Err (Kind NotARead)

-- what a read operation answers at a state; there may be no such object
abbrev pub peek_at : {S : Type 0} → (S → Operation → Class) → (S → Operation → Outcome S) → Operation → Option S → Result Answer EngineFault
peek_at class acts o None = Err NoObject
peek_at class acts o (Some s) = read_only (class s o) (acts s o).answer

-- peek (object x, read operation o), over the committed states
abbrev pub peek : {S : Type 0} → (S → Operation → Class) → (S → Operation → Outcome S) → List S → ℕ → Operation → Result Answer EngineFault
peek class acts states x o = peek_at class acts o (slice_get states x)

-- lock counts (object x of so many)
abbrev pub lock_counts : ℕ → Tables → ℕ → ℕ → Result LockCounts EngineFault
lock_counts limit T objects x =
    cond (nat_lt x objects) (Ok (record { readers = size limit (T.readers x); writers = size limit (T.writers x) })) (Err NoObject)
