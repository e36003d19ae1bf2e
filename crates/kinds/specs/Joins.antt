-- The join of two kinds: each object is of one side, and everything about it is that side's. Assumes nothing.
--
-- | lifted         | an outcome with another state |
-- | either_class   | what an operation is to an object of either side |
-- | either_acts    | what an operation does to it |
-- | either_uses    | how many numbers a code uses |
-- | either_records | the record made when an operation is about to act |
-- | either_undone  | the state that undoing by a record leaves |
-- | either_reads   | the state of a row |
use Rattle.std.specs.Prelude.{ℕ, Option}
use Rattle.std.specs.Option.{option_map}
use Rattle.kinds.specs.declared.answer.Class.{Class}
use Rattle.kinds.specs.declared.answer.Outcome.{Outcome}
use Rattle.either.specs.declared.Either.{Either}
use Rattle.either.specs.declared.Either.TheVariants.{Left, Right}
use Rattle.kinds.specs.declared.operation.Operation.{Operation}

-- an outcome with its state put another way
abbrev pub lifted : {S T : Type 0} → (S → T) → Outcome S → Outcome T
lifted f x = record { answer = x.answer; next = f x.next }

-- what an operation is to an object of either side
abbrev pub either_class : {L R : Type 0} → (L → Operation → Class) → (R → Operation → Class) → Either L R → Operation → Class
either_class f g (Left l) o = f l o
either_class f g (Right r) o = g r o

-- what an operation does to it; the side stays
abbrev pub either_acts : {L R : Type 0} → (L → Operation → Outcome L) → (R → Operation → Outcome R) → Either L R → Operation → Outcome (Either L R)
either_acts f g (Left l) o = lifted Left (f l o)
either_acts f g (Right r) o = lifted Right (g r o)

-- how many numbers a code uses
abbrev pub either_uses : {L R : Type 0} → (L → ℕ → ℕ) → (R → ℕ → ℕ) → Either L R → ℕ → ℕ
either_uses f g (Left l) code = f l code
either_uses f g (Right r) code = g r code

-- the record made when an operation is about to act
abbrev pub either_records : {L R U V : Type 0} → (L → Operation → U) → (R → Operation → V) → Either L R → Operation → Either U V
either_records f g (Left l) o = Left (f l o)
either_records f g (Right r) o = Right (g r o)

-- the state that undoing by a record leaves; a record of the other side undoes nothing
abbrev pub either_undone : {L R U V : Type 0} → (L → U → L) → (R → V → R) → Either L R → Either U V → Either L R
either_undone f g (Left l) (Left u) = Left (f l u)
either_undone f g (Left l) (Right v) = Left l
either_undone f g (Right r) (Left u) = Right r
either_undone f g (Right r) (Right v) = Right (g r v)

-- the state of a row, if it is a state's
abbrev pub either_reads : {L R U V : Type 0} → (U → Option L) → (V → Option R) → Either U V → Option (Either L R)
either_reads f g (Left u) = option_map Left (f u)
either_reads f g (Right v) = option_map Right (g v)
