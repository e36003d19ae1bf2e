-- The objects of the count as it opens. Assumes nothing.
--
-- | Held   | what an object holds |
-- | held   | a tally's value, a queue's entries or a roll's keys with their numbers |
-- | opened | what the four objects hold as the count opens |
use Rattle.std.specs.Prelude.{ℕ, List, [], ◌∷◌}
use Rattle.either.specs.declared.Either.{Either}
use Rattle.either.specs.declared.Either.TheVariants.{Left, Right}
use Rattle.kinds.specs.Queues.{entries}
use Rattle.kinds.specs.Rolls.{marks}
use Rattle.kinds.specs.Tallies.{value_of}
use Rattle.kinds.specs.declared.tally.state.Tally.{Tally}
use Rattle.kinds.specs.declared.queue.state.Queue.{Queue}
use Rattle.kinds.specs.declared.roll.state.Roll.{Roll}
use Rattle.kinds.specs.declared.roll.entry.Entry.{Entry}

-- a value, or entries, or keys with their numbers
abbrev pub Held : Type 0
Held = Either ℕ (Either (List ℕ) (List Entry))

-- what an object holds
abbrev pub held : Either Tally (Either Queue Roll) → Held
held (Left t) = Left (value_of t)
held (Right (Left q)) = Right (Left (entries q))
held (Right (Right r)) = Right (Right (marks r))

-- two tallies, a queue without entries and a roll without keys
abbrev pub opened : List Held
opened = Left 120000 ∷ Left 0 ∷ Right (Left []) ∷ Right (Right []) ∷ []
