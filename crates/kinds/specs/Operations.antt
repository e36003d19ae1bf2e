-- What an operation may hold. Assumes nothing.
--
-- | largest | the largest number in operations and states |
-- | ranged  | a number is at most the largest |
-- | limit   | the most that a number may be |
-- | fits    | no number is above the largest, and each unused one is 0 |
use Rattle.std.specs.Prelude.{ℕ, Bool, cond, ◌&&◌, nat_le, nat_lt}
use Rattle.kinds.specs.declared.operation.Operation.{Operation}

-- the largest number in operations and states
abbrev pub largest : ℕ
largest = 999999999

-- a number is at most the largest
abbrev pub ranged : ℕ → Bool
ranged n = nat_le n largest

-- the most that a number may be, by whether it is used
abbrev pub limit : Bool → ℕ
limit used = cond used largest 0

-- no number is above the largest, and each past the first `count` is 0
abbrev pub fits : ℕ → Operation → Bool
fits count o = nat_le o.first (limit (nat_lt 0 count)) && nat_le o.second (limit (nat_lt 1 count))
