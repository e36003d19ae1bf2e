-- The worked examples: calls on the product's objects, each with the reply that the rules give it. Assumes nothing.
--
-- | Thing         | an object of the product |
-- | product       | its behaviour, with 64 transactions and capacity 16 |
-- | tallies       | the tallies of some values |
-- | Example       | a victim policy, values of tallies, and calls with their replies |
-- | due           | a call and the reply that is due to it |
-- | replies_from, replies | what some calls are told one after the other |
-- | show, add, unknown, yes_with | steps and answers in short |
-- | two_begin, three_begin, crossed, adds | beginnings that several examples share |
-- | row           | one example before others |
-- | examples      | the table |
-- | ExamplesHold  | the replies are those of the table |
use Rattle.std.specs.Prelude.{◌≡◌, ℕ, Bool, List, [], ◌∷◌, ◌++◌, map, Some, None, Ok, Err, filter_map}
use Rattle.std.specs.List.{range_with_len}
use Rattle.kinds.specs.Joins.{either_class, either_acts}
use Rattle.kinds.specs.Queues.{queue_class, queue_operation, queue_acts}
use Rattle.kinds.specs.Rolls.{roll_class, roll_operation, roll_acts}
use Rattle.kinds.specs.Tallies.{tally_class, tally_operation, tally_acts, tally_at}
use Rattle.either.specs.declared.Either.{Either}
use Rattle.either.specs.declared.Either.TheVariants.{Left}
use Rattle.kinds.specs.declared.operation.Operation.{Operation}
use Rattle.kinds.specs.declared.queue.state.Queue.{Queue}
use Rattle.kinds.specs.declared.roll.state.Roll.{Roll}
use Rattle.kinds.specs.declared.tally.state.Tally.{Tally}
use Rattle.model.specs.declared.call.Call.{Call}
use Rattle.model.specs.declared.call.Call.TheVariants.{Begin, Step, Commit, Abort, BreakDeadlock}
use Rattle.model.specs.declared.facts.Facts.{Facts}
use Rattle.model.specs.declared.fault.EngineFault.TheVariants.{NumberOutOfRange, AlreadyOpen, ParentNotOpen, NotOpen, OpenChild, Waiting, NoObject, Kind, Store}
use Rattle.model.specs.declared.fault.KindFault.TheVariants.{Unknown}
use Rattle.model.specs.declared.fault.StoreFault.TheVariants.{Full}
use Rattle.model.specs.declared.reply.Reply.TheVariants.{Accepted, Answered, Waits, Victim}
use Rattle.model.specs.Histories.{Event}
use Rattle.model.specs.Model.{Response, Setting, State, initially, respond}
use Rattle.model.specs.Policies.{youngest, lightest}

-- the objects of the product: a tally, or else a queue or a roll
abbrev pub Thing : Type 0
Thing = Either Tally (Either Queue Roll)

-- the product: 64 transactions, capacity 16
abbrev pub product : (Facts → Facts → Bool) → Setting Thing
product before =
    record {
      class =
          either_class (λ t o. tally_class (tally_operation o))
          (either_class (λ q o. queue_class (queue_operation o)) (λ r o. roll_class (roll_operation o)));
      acts = either_acts tally_acts (either_acts queue_acts roll_acts);
      capacity = 16;
      before = before;
      limit = 64;
    }

-- the tallies of some values
abbrev pub tallies : List ℕ → List Thing
tallies vs = map Left (filter_map tally_at vs)

-- a victim policy, the initial values of some tallies, and calls with their replies in the order of calling
pub record Example : Type 0 where
  pub before : Facts → Facts → Bool
  pub values : List ℕ
  pub events : List Event

-- a call and the reply that is due to it
abbrev pub due : Call → Response → Event
due c r = record { call = c; reply = r }

-- what some calls are told, one after the other
abbrev pub replies_from : {S : Type 0} → Setting S → State S → List Event → List Response
replies_from m s [] = []
replies_from m s (e ∷ es) = let r = respond m s e.call in r.0 ∷ replies_from m r.1 es

-- what the calls of an example are told
abbrev pub replies : Example → List Response
replies e = replies_from (product e.before) (initially (tallies e.values)) e.events

-- t reads the tally x
abbrev pub show : ℕ → ℕ → Call
show t x = Step t x (record { code = 1; first = 0; second = 0 })

-- t adds n to the tally x
abbrev pub add : ℕ → ℕ → ℕ → Call
add t x n = Step t x (record { code = 2; first = n; second = 0 })

-- an operation that no object knows
abbrev pub unknown : Operation
unknown = record { code = 9; first = 0; second = 0 }

-- an answer of yes
abbrev pub yes_with : ℕ → Response
yes_with n = Ok (Answered (Some n))

-- top transactions 1 and 2 begin
abbrev pub two_begin : List Event
two_begin = due (Begin 1 0) (Ok Accepted) ∷ due (Begin 2 0) (Ok Accepted) ∷ []

-- 1, 2 and a child 3 of 1 begin
abbrev pub three_begin : List Event
three_begin = two_begin ++ (due (Begin 3 1) (Ok Accepted) ∷ [])

-- 1 writes object 0, 2 writes object 1, then each asks for the other's
abbrev pub crossed : List Event
crossed = due (add 1 0 5) (yes_with 5) ∷ due (add 2 1 7) (yes_with 7) ∷ due (add 1 1 1) (Ok Waits) ∷ due (add 2 0 1) (Ok Waits) ∷ []

-- n ADDs of 1 by transaction 1 to object 0, at first k
abbrev pub adds : ℕ → ℕ → List Event
adds n k = map (λ i. due (add 1 0 1) (yes_with i)) (range_with_len k n)

-- one example before others
abbrev pub row : (Facts → Facts → Bool) → List ℕ → List Event → List Example → List Example
row before values events others = record { before = before; values = values; events = events } ∷ others

-- the table
abbrev pub examples : List Example
examples =
    -- the highest number is accepted; one more and 0 are refused
    row youngest (0 ∷ [])
    (due (Begin 64 0) (Ok Accepted) ∷ due (Begin 65 0) (Err NumberOutOfRange) ∷ due (Begin 0 0) (Err NumberOutOfRange) ∷ [])
    -- commit with an open child; commit while waiting
    (row youngest (0 ∷ []) (three_begin ++ (due (Commit 1) (Err OpenChild) ∷ due (Abort 3) (Ok Accepted) ∷ due (add 2 0 1) (yes_with 1) ∷ due (show 1 0) (Ok Waits) ∷ due (Commit 1) (Err Waiting) ∷ []))
    -- two readers, and a writer that waits
    (row youngest (0 ∷ []) (two_begin ++ (due (show 1 0) (yes_with 0) ∷ due (show 2 0) (yes_with 0) ∷ due (add 1 0 1) (Ok Waits) ∷ []))
    -- a child writes what its parent has read
    (row youngest (0 ∷ []) (three_begin ++ (due (show 1 0) (yes_with 0) ∷ due (add 3 0 4) (yes_with 4) ∷ []))
    -- a parent waits for its child's write, and is answered after the child's commit
    (row youngest (0 ∷ []) (three_begin ++ (due (add 3 0 4) (yes_with 4) ∷ due (show 1 0) (Ok Waits) ∷ due (Commit 3) (Ok Accepted) ∷ due (show 1 0) (yes_with 4) ∷ []))
    -- the crossed pair under Youngest
    (row youngest (0 ∷ 0 ∷ []) (two_begin ++ (crossed ++ (due BreakDeadlock (Ok (Victim (Some 2))) ∷ due (add 1 1 1) (yes_with 1) ∷ due BreakDeadlock (Ok (Victim None)) ∷ [])))
    -- the crossed pair under Lightest, with one change more by 2
    (row lightest (0 ∷ 0 ∷ []) (two_begin ++ (due (add 2 1 0) (yes_with 0) ∷ (crossed ++ (due BreakDeadlock (Ok (Victim (Some 1))) ∷ []))))
    -- a tally one below the largest number
    (row youngest (999999998 ∷ []) (two_begin ++ (due (add 1 0 1) (yes_with 999999999) ∷ due (add 1 0 1) (Ok (Answered None)) ∷ []))
    -- a child's read lock is its parent's after its commit
    (row youngest (0 ∷ []) (three_begin ++ (due (show 3 0) (yes_with 0) ∷ due (Commit 3) (Ok Accepted) ∷ due (add 2 0 1) (Ok Waits) ∷ due (Commit 1) (Ok Accepted) ∷ due (add 2 0 1) (yes_with 1) ∷ []))
    -- a parent held up by another child: 4 holds what 2 waits for and does not wait itself, but 3 waits below the same parent
    (row youngest (0 ∷ 0 ∷ []) (three_begin ++ (due (Begin 4 1) (Ok Accepted) ∷ due (add 4 0 1) (yes_with 1) ∷ due (add 2 1 1) (yes_with 1) ∷ due (show 2 0) (Ok Waits) ∷ due (show 3 1) (Ok Waits) ∷ due BreakDeadlock (Ok (Victim (Some 3))) ∷ due (Commit 4) (Ok Accepted) ∷ []))
    -- a circle closed by a granted read: 3 reads what 2 waits to write, and a child of 3 waits for 2
    (row youngest (0 ∷ 0 ∷ []) (two_begin ++ (due (Begin 3 0) (Ok Accepted) ∷ due (Begin 4 3) (Ok Accepted) ∷ due (show 1 0) (yes_with 0) ∷ due (add 2 1 1) (yes_with 1) ∷ due (add 2 0 1) (Ok Waits) ∷ due (show 4 1) (Ok Waits) ∷ due BreakDeadlock (Ok (Victim None)) ∷ due (show 3 0) (yes_with 0) ∷ due BreakDeadlock (Ok (Victim (Some 4))) ∷ []))
    -- 1 changes a tally as often as the capacity allows, not once more; after its commit 2 can change it
    (row youngest (0 ∷ []) (two_begin ++ (adds 16 1 ++ (due (add 1 0 1) (Err (Store Full)) ∷ due (Commit 1) (Ok Accepted) ∷ due (add 2 0 1) (yes_with 17) ∷ [])))
    -- the first refusal that applies is told: of a begin, of a step and of a commit
    (row youngest (0 ∷ []) (three_begin ++ (due (Begin 0 9) (Err NumberOutOfRange) ∷ due (Begin 1 9) (Err AlreadyOpen) ∷ due (Begin 4 9) (Err ParentNotOpen) ∷ due (show 65 9) (Err NumberOutOfRange) ∷ due (show 4 9) (Err NotOpen) ∷ due (Step 1 9 unknown) (Err NoObject) ∷ due (add 2 0 1) (yes_with 1) ∷ due (Step 1 0 unknown) (Err (Kind Unknown)) ∷ due (add 1 0 1) (Ok Waits) ∷ due (Commit 4) (Err NotOpen) ∷ due (Commit 1) (Err OpenChild) ∷ []))
    []))))))))))))

-- each call of the table is told what the table says
abbrev pub ExamplesHold : Type 0
ExamplesHold = map replies examples ≡ map (λ e. map (λ v. v.reply) e.events) examples
