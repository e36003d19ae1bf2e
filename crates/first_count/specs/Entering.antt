-- What comes of an entry. Assumes nothing.
--
-- | entry_of      | an operation on an object, and whether it is undone |
-- | reply_of      | what an object replies, or why it refuses |
-- | state_after   | its state after |
-- | told          | what is told of an entry |
-- | objects_after | the objects after an entry |
use Rattle.std.specs.Prelude.{ℕ, List, slice_set, Some, None, Option, Ok, Err, Result}
use Rattle.kinds.specs.Outcomes.{Answer}
use Rattle.kinds.specs.declared.answer.Class.{Class}
use Rattle.kinds.specs.declared.answer.Class.TheVariants.{Unknown, Read, Write}
use Rattle.kinds.specs.declared.answer.Outcome.{Outcome}
use Rattle.kinds.specs.declared.operation.Operation.{Operation}
use Rattle.first_count.specs.declared.enter.Entry.{Entry}
use Rattle.first_count.specs.declared.enter.Then.{Then}
use Rattle.first_count.specs.declared.enter.Then.TheVariants.{Keep, Undo}
use Rattle.first_count.specs.declared.enter.Reply.{Reply}
use Rattle.first_count.specs.declared.enter.Reply.TheVariants.{Answered, Undone}
use Rattle.first_count.specs.declared.enter.Refusal.{Refusal}
use Rattle.first_count.specs.declared.enter.Refusal.TheVariants as refusals

-- an operation on the object of a number, and whether it is undone right after
abbrev pub entry_of : ℕ → Operation → Then → Entry
entry_of n o t = record { object = n; operation = o; then = t }

-- an operation that the object knows is answered; only a write is undone
abbrev pub reply_of : Class → Then → Answer → Result Reply Refusal
reply_of Unknown t a = Err refusals.Unknown
reply_of Read t a = Ok (Answered a)
reply_of Write Keep a = Ok (Answered a)
reply_of Write Undo a = Ok (Undone a)

-- an operation that is undone leaves the state as it was
abbrev pub state_after : {K : Type 0} → Then → K → Outcome K → K
state_after Keep k done = done.next
state_after Undo k done = k

-- what is told of an entry on an object, if there is one
abbrev pub told : {K : Type 0} → (K → Operation → Class) → (K → Operation → Outcome K) → Entry → Option K → Result Reply Refusal
told classed acts e None = Err refusals.NoObject
told classed acts e (Some k) = reply_of (classed k e.operation) e.then (acts k e.operation).answer

-- the objects after an entry: that which it names has its next state, and the others stay
abbrev pub objects_after : {K : Type 0} → (K → Operation → Outcome K) → Entry → Option K → List K → List K
objects_after acts e None ks = ks
objects_after acts e (Some k) ks = slice_set ks e.object (state_after e.then k (acts k e.operation))
