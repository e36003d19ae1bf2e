-- Queues by their entries.
use Rattle.std.specs.Prelude.{◌≡◌, ℕ, zero, suc, ◌+◌, ◌-◌, ◌<◌, ◌≤◌, true, false, List, [], ◌∷◌, ◌++◌, length, take, drop, Some, None, Option, nat_le, slice_index_or, refl}
use Rattle.std.proofs.Common.{ap, sym, ◌∙◌, arith}
use Rattle.std.specs.Option.{unwrap_or}
use Rattle.std.specs.List.{insert, remove, list_all}
use Rattle.std.proofs.lemmas.Bool.{eqb-true, lt-ltb, le-ltb, lt-leb, leb-true, leb-false, and_left, and_right}
use Rattle.std.proofs.lemmas.List.{length-take, drop_all, append-nil}
use Rattle.kinds.specs.Outcomes.{Answer, yes_to, no_to, turned, left_by}
use Rattle.kinds.specs.declared.short_list.ShortList.{ShortList}
use Rattle.kinds.specs.declared.number.value.Number.{Number}
use Rattle.kinds.specs.declared.queue.state.Queue.{Queue}
use Rattle.kinds.specs.QueueRows.{blank_number, is_queue}
use Rattle.kinds.specs.Operations.{ranged}
use Rattle.kinds.specs.Queues.{entries, front_of, joined, entries_after, entries_before, read_queue, queue_of}
use Rattle.kinds.specs.ShortLists.{room, items, packed, pushed, pulled}
use Rattle.kinds.specs.declared.queue.operation.QueueOperation.TheVariants.{Front, Next}
use Rattle.kinds.specs.declared.queue.operation.EndMove.TheVariants.{BackJoined, FrontLeft}
use Rattle.kinds.specs.Laws.Alls.{all_inserted, all_removed}
use Rattle.kinds.specs.Laws.Checks.{checked_passes, checked_fails, checked_made}
use Rattle.kinds.specs.Laws.Packing as packing
use Rattle.kinds.specs.Laws.Tables as tables

inserted_end : {T : Type 0} (xs : List T) (x : T) → insert xs (length xs) x ≡ xs ++ x ∷ []
inserted_end [] x = refl
inserted_end {T} (y ∷ xs) x = ap (λ (ys : List T). y ∷ ys) (inserted_end xs x)

only_zero : (n : ℕ) → blank_number n ≡ true → n ≡ 0
only_zero n e = eqb-true n 0 e

-- a queue has at most twelve entries, its row is theirs, and each is at most the largest number
pub queue_held : (q : Queue) → (q.row.count ≤ room) × (q.row ≡ packed 0 (entries q)) × (list_all ranged (entries q) ≡ true)
queue_held q = packing.held blank_number 0 only_zero refl (list_all ranged) q.row q.sound

-- as many entries as the row counts
pub entries_length : (q : Queue) → length (entries q) ≡ q.row.count
entries_length q = packing.held_length blank_number 0 only_zero refl (list_all ranged) q.row q.sound

-- up to twelve entries in range are a queue's
pub queue_made : (xs : List ℕ) → length xs ≤ room → list_all ranged xs ≡ true → (q : Queue) × (entries q ≡ xs)
queue_made xs h e = (record { row = packed 0 xs; sound = packing.holds_packed blank_number 0 only_zero refl (list_all ranged) xs h e }, packing.take_all_padded 0 room xs h)

-- an entry put in
pub entry_in : (q : Queue) (m : ShortList ℕ) (at n : ℕ) → at ≤ q.row.count → q.row.count < room → ranged n ≡ true → m.count ≡ q.row.count + 1 → m.places ≡ pushed at n q.row.places → (is_queue m ≡ true) × (items m ≡ insert (entries q) at n)
entry_in q m at n within few r k e =
    packing.held_in blank_number 0 only_zero refl (list_all ranged) q.row q.sound m at n within few (all_inserted ranged (entries q) at n (queue_held q).2 r) k e

-- a number put at the back
pub put_in : (q : Queue) (m : ShortList ℕ) (n : Number) → nat_le room q.row.count ≡ false → m.count ≡ q.row.count + 1 → m.places ≡ pushed q.row.count n.value q.row.places → (is_queue m ≡ true) × (items m ≡ insert (entries q) q.row.count n.value)
put_in q m n h k e = entry_in q m q.row.count n.value (omega arith) (omega (arith, leb-false room q.row.count h)) n.in_range k e

-- a number put at the front
pub front_in : (q : Queue) (m : ShortList ℕ) (n : Number) → nat_le room q.row.count ≡ false → m.count ≡ q.row.count + 1 → m.places ≡ pushed 0 n.value q.row.places → (is_queue m ≡ true) × (items m ≡ n.value ∷ entries q)
front_in q m n h k e = entry_in q m 0 n.value (omega arith) (omega (arith, leb-false room q.row.count h)) n.in_range k e

-- an entry taken out
pub entry_out : (q : Queue) (m : ShortList ℕ) (at : ℕ) → at < q.row.count → m.count ≡ q.row.count - 1 → m.places ≡ pulled at 0 q.row.places → (is_queue m ≡ true) × (items m ≡ remove (entries q) at)
entry_out q m at within k e =
    packing.held_out blank_number 0 only_zero refl (list_all ranged) q.row q.sound m at within (all_removed ranged (entries q) at (queue_held q).2) k e

-- a queue is the one of its row
pub read_own : (q : Queue) → read_queue q.row ≡ Some q
read_own q = checked_passes is_queue (λ l e. record { row = l; sound = e }) q.row q.sound

-- the queue of a row has that row
pub read_row : (q : Queue) (l : ShortList ℕ) → read_queue l ≡ Some q → q.row ≡ l
read_row q l m = ap (λ (p : Queue). p.row) (sym (checked_made is_queue (λ l e. record { row = l; sound = e }) l q m).1)

-- a queue is the one of its entries
pub queue_own : (q : Queue) → queue_of (entries q) ≡ Some q
queue_own q = ap read_queue (sym (queue_held q).1) ∙ read_own q

-- an answer and the entries of a queue leave that queue
pub left_own : (q p : Queue) (a : Answer) (xs : List ℕ) → entries p ≡ xs → left_by queue_of q (a, xs) ≡ record { answer = a; next = p }
left_own = tables.left_own queue_of entries queue_own

-- no queue is made of a row that fails the check
pub unread : (l : ShortList ℕ) → is_queue l ≡ false → read_queue l ≡ None
unread l e = checked_fails is_queue (λ l e. record { row = l; sound = e }) l e

-- an empty row has no entries
pub no_entries : (q : Queue) → q.row.count ≡ 0 → entries q ≡ []
no_entries q e = ap (λ (n : ℕ). take n q.row.places) e

take_front : {T : Type 0} (n : ℕ) (ps : List T) (d : T) → 0 < n → n ≤ length ps → take n ps ≡ slice_index_or ps 0 d ∷ drop 1 (take n ps)
take_front zero ps d h k = absurd (omega arith)
take_front (suc n) [] d h k = absurd (omega arith)
take_front (suc n) (p ∷ ps) d h k = refl

-- the front entry stands in the first place
pub front_entry : (q : Queue) (d : ℕ) → 0 < q.row.count → entries q ≡ slice_index_or q.row.places 0 d ∷ drop 1 (entries q)
front_entry q d h = take_front q.row.count q.row.places d h (omega (arith, length-take q.row.count q.row.places, entries_length q))

-- what the front entry says of the entries
pub front_some_is : (xs : List ℕ) (x : ℕ) → Some x ≡ front_of xs → xs ≡ x ∷ drop 1 xs
front_some_is [] x e = cc
front_some_is (y ∷ xs) x e = let same : y ≡ x = cc in ap (λ (z : ℕ). z ∷ xs) same

pub front_none_is : (xs : List ℕ) → None ≡ front_of xs → xs ≡ []
front_none_is [] e = refl
front_none_is (y ∷ xs) e = cc

-- the answers of FRONT, PUT and NEXT
front_table : (xs : List ℕ) → entries_after xs Front ≡ (front_of xs, xs)
front_table [] = refl
front_table (x ∷ xs) = refl

pub front_answers : (q : Queue) (a : Answer) → a ≡ front_of (entries q) → left_by queue_of q (entries_after (entries q) Front) ≡ record { answer = a; next = q }
front_answers q a e = ap (left_by queue_of q) (front_table (entries q)) ∙ left_own q q (front_of (entries q)) (entries q) refl ∙ ap (λ (b : Answer). record { answer = b; next = q }) (sym e)

pub put_none : (q : Queue) (n : ℕ) → nat_le room q.row.count ≡ true → left_by queue_of q (joined (entries q) n) ≡ no_to q
put_none q n h = rw (le-ltb (length (entries q)) room (omega (arith, entries_length q, leb-true room q.row.count h))) (left_own q q None (entries q) refl)

pub put_some : (q p : Queue) (n count : ℕ) → nat_le room q.row.count ≡ false → count ≡ q.row.count + 1 → entries p ≡ insert (entries q) q.row.count n → left_by queue_of q (joined (entries q) n) ≡ yes_to count p
put_some q p n count h c e =
    let k = entries_length q in
    let f : entries p ≡ entries q ++ n ∷ [] = e ∙ ap (λ (i : ℕ). insert (entries q) i n) (sym k) ∙ inserted_end (entries q) n in
    rw (lt-ltb (length (entries q)) room (omega (arith, leb-false room q.row.count h))) (left_own q p (Some (length (entries q) + 1)) (entries q ++ n ∷ []) f ∙ ap (λ (m : ℕ). yes_to m p) (omega (arith, k, c)))

pub next_none : (q : Queue) → entries q ≡ [] → left_by queue_of q (entries_after (entries q) Next) ≡ no_to q
next_none q e = ap (λ (es : List ℕ). left_by queue_of q (entries_after es Next)) e ∙ left_own q q None [] e

pub next_some : (q p : Queue) (x : ℕ) (xs : List ℕ) → entries q ≡ x ∷ xs → entries p ≡ remove (entries q) 0 → left_by queue_of q (entries_after (entries q) Next) ≡ yes_to x p
next_some q p x xs e f =
    ap (λ (es : List ℕ). left_by queue_of q (entries_after es Next)) e ∙ left_own q p (Some x) xs (f ∙ ap (λ (es : List ℕ). remove es 0) e)

-- a queue turned into the one of its own entries, or of another's
pub turned_stays : (q : Queue) → q ≡ turned queue_of q (entries q)
turned_stays q = sym (tables.turned_own queue_of entries queue_own q q (entries q) refl)

pub turned_into : (q p : Queue) (xs : List ℕ) → entries p ≡ xs → p ≡ turned queue_of q xs
turned_into q p xs e = sym (tables.turned_own queue_of entries queue_own q p xs e)

removed_end : {T : Type 0} (xs : List T) (k : ℕ) → length xs ≡ k + 1 → remove xs k ≡ take (length xs - 1) xs
removed_end xs k e =
    let f : length xs - 1 ≡ k = omega arith in
    let g : length xs ≤ suc k = omega arith in
    rw (f, drop_all (suc k) xs g) (append-nil (take k xs))

-- undoing at the back
pub back_none : (q : Queue) → entries q ≡ [] → q ≡ turned queue_of q (entries_before (entries q) BackJoined)
back_none q e = turned_into q q (take (length (entries q) - 1) (entries q)) (e ∙ sym (ap (λ (es : List ℕ). take (length es - 1) es) e))

pub back_some : (q p : Queue) (last : ℕ) → q.row.count ≡ last + 1 → entries p ≡ remove (entries q) last → p ≡ turned queue_of q (entries_before (entries q) BackJoined)
back_some q p last h e = turned_into q p _ (e ∙ removed_end (entries q) last (omega (arith, entries_length q)))

-- undoing at the front
pub front_refused : (q : Queue) (n : ℕ) → is_queue (packed 0 (n ∷ entries q)) ≡ false → q ≡ turned queue_of q (entries_before (entries q) (FrontLeft n))
front_refused q n e = sym (ap (λ (o : Option Queue). unwrap_or o q) (unread (packed 0 (n ∷ entries q)) e))

pub front_full : (q : Queue) (n : ℕ) → nat_le room q.row.count ≡ true → q ≡ turned queue_of q (entries_before (entries q) (FrontLeft n))
front_full q n h = front_refused q n (and_left _ _ (and_left _ _ (lt-leb (length (n ∷ entries q)) room (omega (arith, entries_length q, leb-true room q.row.count h)))))

pub front_above : (q : Queue) (n : ℕ) → nat_le room q.row.count ≡ false → ranged n ≡ false → q ≡ turned queue_of q (entries_before (entries q) (FrontLeft n))
front_above q n h e =
    let k : length (n ∷ entries q) ≤ room = omega (arith, entries_length q, leb-false room q.row.count h) in
    front_refused q n (and_right _ _ (ap (list_all ranged) (packing.take_all_padded 0 room (n ∷ entries q) k) ∙ and_left (ranged n) _ e))
