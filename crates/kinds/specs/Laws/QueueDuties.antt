-- The laws that a queue owes, by its entries.
use Rattle.std.specs.Prelude.{◌≡◌, ℕ, ◌-◌, ◌≤◌, true, cond, List, [], ◌∷◌, ◌++◌, length, Some, None, Option, nat_lt, refl}
use Rattle.std.proofs.Common.{ap, sym, ◌∙◌, arith, ⊎_elim}
use Rattle.std.proofs.lemmas.List.{length-append, take_at}
use Rattle.std.proofs.lemmas.List.Folds.{list_all-append}
use Rattle.std.proofs.lemmas.Bool.{cases_Bool, and_from, and_parts}
use Rattle.std.proofs.lemmas.Bool.Decides.{nat_tests}
use Rattle.kinds.specs.declared.answer.Class.TheVariants.{Read, Write}
use Rattle.kinds.specs.declared.answer.Outcome.{Outcome}
use Rattle.kinds.specs.declared.queue.state.Queue.{Queue}
use Rattle.kinds.specs.declared.queue.operation.QueueOperation.{QueueOperation}
use Rattle.kinds.specs.declared.queue.operation.QueueOperation.TheVariants.{Front, Put, Next}
use Rattle.kinds.specs.declared.queue.operation.EndMove.TheVariants.{Stayed, BackJoined}
use Rattle.kinds.specs.Operations.{ranged}
use Rattle.kinds.specs.Outcomes.{turned, left_by, content_after, by_table}
use Rattle.kinds.specs.Queues.{entries, joined, entries_after, entries_before, end_move, queue_class, queue_of}
use Rattle.std.specs.List.{list_all}
use Rattle.kinds.specs.ShortLists.{room}
use Rattle.kinds.specs.Laws.QueueLaws.{queue_own, queue_held, queue_made, entries_length}
use Rattle.kinds.specs.Laws.Tables as tables

-- a no to one entry more changes no entries, whatever its number
joined_keeps : (xs : List ℕ) (n : ℕ) → (joined xs n).0 ≡ None → (joined xs n).1 ≡ xs
joined_keeps xs n e = grind (arith, nat_tests)

pub joined_leaves : (q : Queue) (n : ℕ) → (joined (entries q) n).0 ≡ None → (left_by queue_of q (joined (entries q) n)).next ≡ q
joined_leaves q n e = tables.turned_own queue_of entries queue_own q q _ (sym (joined_keeps (entries q) n e))

-- a no changes no entries
no_keeps : (xs : List ℕ) (p : QueueOperation) → (entries_after xs p).0 ≡ None → (entries_after xs p).1 ≡ xs
no_keeps [] Front e = refl
no_keeps (x ∷ xs) Front e = refl
no_keeps xs (Put n) e = joined_keeps xs n.value e
no_keeps [] Next e = refl
no_keeps (x ∷ xs) Next e = cc

pub no_leaves_state : (q : Queue) (p : Option QueueOperation) → (by_table queue_of (entries_after (entries q)) q p).answer ≡ None → (by_table queue_of (entries_after (entries q)) q p).next ≡ q
no_leaves_state q p e = tables.no_leaves queue_of entries queue_own (entries_after (entries q)) q p (no_keeps (entries q)) e

-- FRONT changes no entries
front_keeps : (xs : List ℕ) → (entries_after xs Front).1 ≡ xs
front_keeps [] = refl
front_keeps (x ∷ xs) = refl

pub read_leaves_state : (q : Queue) (p : Option QueueOperation) → queue_class p ≡ Read → (by_table queue_of (entries_after (entries q)) q p).next ≡ q
read_leaves_state q None e = refl
read_leaves_state q (Some Front) e = tables.turned_own queue_of entries queue_own q q _ (sym (front_keeps (entries q)))
read_leaves_state q (Some (Put n)) e = cc
read_leaves_state q (Some Next) e = cc

all_push : (xs : List ℕ) (n : ℕ) → list_all ranged xs ≡ true → ranged n ≡ true → list_all ranged (xs ++ n ∷ []) ≡ true
all_push xs n e f = list_all-append ranged xs (n ∷ []) ∙ and_from (list_all ranged xs) _ e (and_from (ranged n) true f refl)

-- one entry more leaves at most twelve, whatever its number
joined_few : (xs : List ℕ) (n : ℕ) → length xs ≤ room → length (joined xs n).1 ≤ room
joined_few xs n h = grind (arith, nat_tests, length-append xs (n ∷ []))

-- an operation leaves at most twelve entries
after_few : (xs : List ℕ) (p : QueueOperation) → length xs ≤ room → length (entries_after xs p).1 ≤ room
after_few [] Front h = h
after_few (x ∷ xs) Front h = h
after_few xs (Put n) h = joined_few xs n.value h
after_few [] Next h = h
after_few (x ∷ xs) Next h = omega arith

-- and none above the largest number
after_ranged : (xs : List ℕ) (p : QueueOperation) → list_all ranged xs ≡ true → list_all ranged (entries_after xs p).1 ≡ true
after_ranged [] Front e = e
after_ranged (x ∷ xs) Front e = e
after_ranged xs (Put n) e =
    ⊎_elim (λ t. rw t (all_push xs n.value e n.in_range)) (λ f. rw f e) (cases_Bool (nat_lt (length xs) room))
after_ranged [] Next e = e
after_ranged (x ∷ xs) Next e = (and_parts (ranged x) (list_all ranged xs) e).1

-- taking the back one out after one entry more restores the entries, whatever its number
joined_restored : (xs : List ℕ) (n : ℕ) → entries_before (joined xs n).1 (cond (nat_lt (length xs) room) BackJoined Stayed) ≡ xs
joined_restored xs n =
    let k = length-append xs (n ∷ []) in
    ⊎_elim (λ t. rw t (take_at xs (n ∷ []) (length (xs ++ n ∷ []) - 1) (omega arith))) (λ f. rw f refl) (cases_Bool (nat_lt (length xs) room))

-- undoing an operation's move restores the entries
entries_restored : (xs : List ℕ) (p : QueueOperation) → entries_before (entries_after xs p).1 (end_move xs (Some p)) ≡ xs
entries_restored [] Front = refl
entries_restored (x ∷ xs) Front = refl
entries_restored xs (Put n) = joined_restored xs n.value
entries_restored [] Next = refl
entries_restored (x ∷ xs) Next = refl

-- an operation leaves the entries of a queue
after_made : (q : Queue) (p : QueueOperation) → (u : Queue) × (entries u ≡ (entries_after (entries q) p).1)
after_made q p =
    let h = queue_held q in
    queue_made (entries_after (entries q) p).1 (after_few (entries q) p (omega (arith, entries_length q, h.0))) (after_ranged (entries q) p h.2)

pub undo_leads_back : (q : Queue) (p : Option QueueOperation) → queue_class p ≡ Write → let u = (by_table queue_of (entries_after (entries q)) q p).next in turned queue_of u (entries_before (entries u) (end_move (entries q) p)) ≡ q
undo_leads_back q None e = cc
undo_leads_back q (Some p) e =
    let made = after_made q p in
    tables.undo_returns queue_of entries queue_own entries_before q made.0 _ (end_move (entries q) (Some p)) made.1 (entries_restored (entries q) p)

-- the entries after an operation are the table's
pub entries_left : (q : Queue) (p : Option QueueOperation) (r : Outcome Queue) → r ≡ by_table queue_of (entries_after (entries q)) q p → entries r.next ≡ content_after entries_after (entries q) p
entries_left q None r e = ap (λ (x : Outcome Queue). entries x.next) e
entries_left q (Some p) r e =
    let made = after_made q p in
    ap (λ (x : Outcome Queue). entries x.next) e ∙ tables.left_content queue_of entries queue_own q made.0 (entries_after (entries q) p) made.1
