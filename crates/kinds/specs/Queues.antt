-- A queue: what it knows, what each operation does, and how a write is undone. Assumes nothing.
--
-- | queue_operation | the operation of a code and its numbers |
-- | queue_uses      | how many numbers a code uses |
-- | queue_class     | what an operation is to a queue |
-- | entries         | the entries of a queue, from the front |
-- | front_of        | the front entry |
-- | joined          | what one entry more answers, and the entries after it |
-- | entries_after   | what an operation answers, and the entries after it |
-- | read_queue      | the queue of a row |
-- | queue_of        | the queue of some entries |
-- | queue_acts      | what an operation does to a queue |
-- | end_move        | what an operation is about to move at an end |
-- | entries_before  | the entries before a move at an end |
use Rattle.std.specs.Prelude.{ℕ, ◌+◌, ◌-◌, cond, List, [], ◌∷◌, ◌++◌, length, take, Some, None, Option, ◌==◌, nat_lt}
use Rattle.kinds.specs.Outcomes.{Answer, by_table}
use Rattle.kinds.specs.declared.answer.Class.{Class}
use Rattle.kinds.specs.declared.answer.Class.TheVariants.{Unknown, Read, Write}
use Rattle.kinds.specs.declared.answer.Outcome.{Outcome}
use Rattle.kinds.specs.declared.operation.Operation.{Operation}
use Rattle.kinds.specs.declared.short_list.ShortList.{ShortList}
use Rattle.kinds.specs.declared.queue.state.Queue.{Queue}
use Rattle.kinds.specs.declared.queue.operation.QueueOperation.{QueueOperation}
use Rattle.kinds.specs.declared.queue.operation.QueueOperation.TheVariants.{Front, Put, Next}
use Rattle.kinds.specs.declared.queue.operation.EndMove.{EndMove}
use Rattle.kinds.specs.declared.queue.operation.EndMove.TheVariants.{Stayed, BackJoined, FrontLeft}
use Rattle.std.specs.Option.{option_map}
use Rattle.kinds.specs.Numbers.{numbers}
use Rattle.kinds.specs.QueueRows.{is_queue}
use Rattle.kinds.specs.Rows.{checked}
use Rattle.kinds.specs.ShortLists.{room, items, packed}

-- code 12 is FRONT, code 13 PUT n, code 14 NEXT
abbrev pub queue_operation : Operation → Option QueueOperation
queue_operation o =
    cond (o.code == 12) (option_map (λ n. Front) (numbers 0 o)) (cond (o.code == 13) (option_map (λ n. Put n.0) (numbers 1 o)) (cond (o.code == 14) (option_map (λ n. Next) (numbers 0 o)) None))

-- PUT uses one number
abbrev pub queue_uses : Queue → ℕ → ℕ
queue_uses q code = cond (code == 13) 1 0

-- FRONT reads, PUT and NEXT write
abbrev pub queue_class : Option QueueOperation → Class
queue_class None = Unknown
queue_class (Some Front) = Read
queue_class (Some (Put n)) = Write
queue_class (Some Next) = Write

-- the entries of a queue, from the front
abbrev pub entries : Queue → List ℕ
entries q = items q.row

-- the front entry, if there is one
abbrev pub front_of : List ℕ → Option ℕ
front_of [] = None
front_of (x ∷ xs) = Some x

-- some entries with one more at the back: yes with how many there are, or no where there are twelve
abbrev pub joined : List ℕ → ℕ → Answer × List ℕ
joined xs n = cond (nat_lt (length xs) room) (Some (length xs + 1), xs ++ n ∷ []) (None, xs)

-- what an operation answers, and the entries after it
abbrev pub entries_after : List ℕ → QueueOperation → Answer × List ℕ
entries_after [] Front = (None, [])
entries_after (x ∷ xs) Front = (Some x, x ∷ xs)
entries_after xs (Put n) = joined xs n.value
entries_after [] Next = (None, [])
entries_after (x ∷ xs) Next = (Some x, xs)

-- the queue of a row, if the row is a queue's
abbrev pub read_queue : ShortList ℕ → Option Queue
read_queue = checked is_queue (λ l e. record { row = l; sound = e })

-- the queue of some entries, if there are at most twelve and none is above the largest number
abbrev pub queue_of : List ℕ → Option Queue
queue_of xs = read_queue (packed 0 xs)

-- what an operation does to a queue
abbrev pub queue_acts : Queue → Operation → Outcome Queue
queue_acts q o = by_table queue_of (entries_after (entries q)) q (queue_operation o)

-- what an operation is about to move at an end
abbrev pub end_move : List ℕ → Option QueueOperation → EndMove
end_move xs None = Stayed
end_move xs (Some Front) = Stayed
end_move xs (Some (Put n)) = cond (nat_lt (length xs) room) BackJoined Stayed
end_move [] (Some Next) = Stayed
end_move (x ∷ xs) (Some Next) = FrontLeft x

-- the entry that joined the back leaves it, and the one that left the front returns to it
abbrev pub entries_before : List ℕ → EndMove → List ℕ
entries_before xs Stayed = xs
entries_before xs BackJoined = take (length xs - 1) xs
entries_before xs (FrontLeft n) = n ∷ xs
