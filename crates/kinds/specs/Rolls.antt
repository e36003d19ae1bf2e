-- A roll: what it knows, what each operation does, and how a write is undone. Assumes nothing.
--
-- | roll_operation | the operation of a code and its numbers |
-- | roll_uses      | how many numbers a code uses |
-- | roll_class     | what an operation is to a roll |
-- | marks          | the entries of a roll, by rising keys |
-- | entry          | a key with its number |
-- | found          | the number of a key |
-- | marked         | the entries with a key's number set |
-- | without        | the entries without a key |
-- | find_after, mark_after | what FIND and MARK answer, and the entries after them |
-- | marks_after    | what an operation answers, and the entries after it |
-- | numbers_after  | the number of each key after a MARK |
-- | read_roll      | the roll of a row |
-- | roll_of        | the roll of some entries |
-- | roll_acts      | what an operation does to a roll |
-- | former_of      | the entry of a key as it is |
-- | former         | the entry of an operation's key before it |
-- | put_back       | the entries with a key's number put back |
-- | marks_before   | the entries with a former entry put back |
use Rattle.std.specs.Prelude.{ℕ, cond, List, [], ◌∷◌, length, Some, None, Option, ◌==◌, nat_lt}
use Rattle.kinds.specs.Outcomes.{Answer, by_table}
use Rattle.kinds.specs.declared.answer.Class.{Class}
use Rattle.kinds.specs.declared.answer.Class.TheVariants.{Unknown, Read, Write}
use Rattle.kinds.specs.declared.answer.Outcome.{Outcome}
use Rattle.kinds.specs.declared.operation.Operation.{Operation}
use Rattle.kinds.specs.declared.roll.entry.Entry.{Entry}
use Rattle.kinds.specs.declared.roll.entry.Former.{Former}
use Rattle.kinds.specs.declared.roll.operation.RollOperation.{RollOperation}
use Rattle.kinds.specs.declared.roll.operation.RollOperation.TheVariants.{Find, Mark}
use Rattle.kinds.specs.declared.roll.state.Roll.{Roll}
use Rattle.kinds.specs.declared.short_list.ShortList.{ShortList}
use Rattle.std.specs.Option.{option_map}
use Rattle.kinds.specs.Numbers.{numbers}
use Rattle.kinds.specs.RollRows.{is_roll}
use Rattle.kinds.specs.Rows.{checked}
use Rattle.kinds.specs.ShortLists.{room, items, packed}

-- code 21 is FIND k, code 22 MARK k v
abbrev pub roll_operation : Operation → Option RollOperation
roll_operation o = cond (o.code == 21) (option_map (λ n. Find n.0) (numbers 1 o)) (cond (o.code == 22) (option_map (λ n. Mark n.0 n.1) (numbers 2 o)) None)

-- FIND uses one number, MARK two
abbrev pub roll_uses : Roll → ℕ → ℕ
roll_uses r code = cond (code == 21) 1 (cond (code == 22) 2 0)

-- FIND reads, MARK writes
abbrev pub roll_class : Option RollOperation → Class
roll_class None = Unknown
roll_class (Some (Find k)) = Read
roll_class (Some (Mark k v)) = Write

-- the entries of a roll, by rising keys
abbrev pub marks : Roll → List Entry
marks r = items r.row

-- a key with its number
abbrev pub entry : ℕ → ℕ → Entry
entry k v = record { key = k; number = v }

-- the number of a key, if it is present
abbrev pub found : ℕ → List Entry → Option ℕ
found k [] = None
found k (e ∷ es) = cond (e.key == k) (Some e.number) (found k es)

-- the entries with the number of key k set to v, and k put in at its place if it was absent
abbrev pub marked : ℕ → ℕ → List Entry → List Entry
marked k v [] = entry k v ∷ []
marked k v (e ∷ es) = cond (nat_lt e.key k) (e ∷ marked k v es) (cond (e.key == k) (entry k v ∷ es) (entry k v ∷ (e ∷ es)))

-- the entries without key k
abbrev pub without : ℕ → List Entry → List Entry
without k [] = []
without k (e ∷ es) = cond (e.key == k) es (e ∷ without k es)

-- FIND: yes with the key's number, or no
abbrev pub find_after : Option ℕ → List Entry → Answer × List Entry
find_after None es = (None, es)
find_after (Some v) es = (Some v, es)

-- MARK: yes with the old number; yes 0 if the key was absent and there is room; or no
abbrev pub mark_after : Option ℕ → ℕ → ℕ → List Entry → Answer × List Entry
mark_after None k v es = cond (nat_lt (length es) room) (Some 0, marked k v es) (None, es)
mark_after (Some old) k v es = (Some old, marked k v es)

-- what an operation answers, and the entries after it
abbrev pub marks_after : List Entry → RollOperation → Answer × List Entry
marks_after es (Find k) = find_after (found k.value es) es
marks_after es (Mark k v) = mark_after (found k.value es) k.value v.value es

-- the number of each key j after a MARK of key k with v: after a no, as it was
abbrev pub numbers_after : Answer → ℕ → ℕ → List Entry → ℕ → Option ℕ
numbers_after None k v es j = found j es
numbers_after (Some old) k v es j = cond (k == j) (Some v) (found j es)

-- the roll of a row, if the row is a roll's
abbrev pub read_roll : ShortList Entry → Option Roll
read_roll = checked is_roll (λ l e. record { row = l; sound = e })

-- the roll of some entries, if there are at most twelve, with keys rising and every number in range
abbrev pub roll_of : List Entry → Option Roll
roll_of es = read_roll (packed (entry 0 0) es)

-- what an operation does to a roll
abbrev pub roll_acts : Roll → Operation → Outcome Roll
roll_acts r o = by_table roll_of (marks_after (marks r)) r (roll_operation o)

-- the entry of a key as it is
abbrev pub former_of : ℕ → List Entry → Former
former_of k es = record { key = k; number = found k es }

-- the entry of an operation's key before it
abbrev pub former : List Entry → Option RollOperation → Former
former es None = former_of 0 es
former es (Some (Find k)) = former_of k.value es
former es (Some (Mark k v)) = former_of k.value es

-- the entries with the number of a key put back, or the key taken out if it was absent
abbrev pub put_back : Option ℕ → ℕ → List Entry → List Entry
put_back None k es = without k es
put_back (Some v) k es = marked k v es

-- the entries with a former entry put back
abbrev pub marks_before : List Entry → Former → List Entry
marks_before es f = put_back f.number f.key es
