-- A tally: what it knows, what each operation does, and how a write is undone. Assumes nothing.
--
-- | tally_operation | the operation of a code and its numbers |
-- | tally_uses      | how many numbers a code uses |
-- | tally_class     | what an operation is to a tally |
-- | value_of        | the value of a tally |
-- | grown, lessened | what growing and falling by a number answer, and the value after it |
-- | value_after     | what an operation answers, and the value after it |
-- | tally_at        | the tally of a value |
-- | tally_acts      | what an operation does to a tally |
-- | amount          | by how much an operation is about to change the value |
-- | value_undone    | the value before a change by an amount |
use Rattle.std.specs.Prelude.{ℕ, suc, ◌+◌, ◌-◌, cond, ◌||◌, ℤ, pos, negsuc, neg_ℤ, Some, None, Option, ◌==◌, nat_le}
use Rattle.kinds.specs.Outcomes.{Answer, by_table}
use Rattle.kinds.specs.declared.answer.Class.{Class}
use Rattle.kinds.specs.declared.answer.Class.TheVariants.{Unknown, Read, Write}
use Rattle.kinds.specs.declared.answer.Outcome.{Outcome}
use Rattle.kinds.specs.declared.operation.Operation.{Operation}
use Rattle.kinds.specs.declared.tally.state.Tally.{Tally}
use Rattle.kinds.specs.declared.tally.operation.TallyOperation.{TallyOperation}
use Rattle.kinds.specs.declared.tally.operation.TallyOperation.TheVariants.{Show, Add, Take}
use Rattle.std.specs.Option.{option_map}
use Rattle.kinds.specs.Numbers.{number_at, numbers}
use Rattle.kinds.specs.Operations.{largest}

-- code 1 is SHOW, code 2 ADD n, code 3 TAKE n
abbrev pub tally_operation : Operation → Option TallyOperation
tally_operation o =
    cond (o.code == 1) (option_map (λ n. Show) (numbers 0 o)) (cond (o.code == 2) (option_map (λ n. Add n.0) (numbers 1 o)) (cond (o.code == 3) (option_map (λ n. Take n.0) (numbers 1 o)) None))

-- ADD and TAKE use one number
abbrev pub tally_uses : Tally → ℕ → ℕ
tally_uses t code = cond (code == 2 || code == 3) 1 0

-- SHOW reads, ADD and TAKE write
abbrev pub tally_class : Option TallyOperation → Class
tally_class None = Unknown
tally_class (Some Show) = Read
tally_class (Some (Add n)) = Write
tally_class (Some (Take n)) = Write

-- the value of a tally
abbrev pub value_of : Tally → ℕ
value_of t = t.number.value

-- a value grown by n: yes with the sum, or no where that is above the largest number
abbrev pub grown : ℕ → ℕ → Answer × ℕ
grown v n = cond (nat_le (v + n) largest) (Some (v + n), v + n) (None, v)

-- a value fallen by n: yes with the difference, or no where n is more
abbrev pub lessened : ℕ → ℕ → Answer × ℕ
lessened v n = cond (nat_le n v) (Some (v - n), v - n) (None, v)

-- what an operation answers, and the value after it
abbrev pub value_after : ℕ → TallyOperation → Answer × ℕ
value_after v Show = (Some v, v)
value_after v (Add n) = grown v n.value
value_after v (Take n) = lessened v n.value

-- the tally of a value, if that is at most the largest number
abbrev pub tally_at : ℕ → Option Tally
tally_at v = option_map (λ n. record { number = n }) (number_at v)

-- what an operation does to a tally
abbrev pub tally_acts : Tally → Operation → Outcome Tally
tally_acts t o = by_table tally_at (value_after (value_of t)) t (tally_operation o)

-- by how much an operation is about to change the value
abbrev pub amount : ℕ → Option TallyOperation → ℤ
amount v None = pos 0
amount v (Some Show) = pos 0
amount v (Some (Add n)) = cond (nat_le (v + n.value) largest) (pos n.value) (pos 0)
amount v (Some (Take n)) = cond (nat_le n.value v) (neg_ℤ (pos n.value)) (pos 0)

-- a value that grew by n falls by n, and one that fell by n grows by n
abbrev pub value_undone : ℕ → ℤ → ℕ
value_undone v (pos n) = (lessened v n).1
value_undone v (negsuc n) = (grown v (suc n)).1
