-- Numbers from 0 to the largest. Assumes nothing.
--
-- | number_at | the number of a value |
-- | numbers   | the numbers of an operation |
use Rattle.std.specs.Prelude.{ℕ, cond, None, Option}
use Rattle.std.specs.Option.{option_zip}
use Rattle.kinds.specs.declared.number.value.Number.{Number}
use Rattle.kinds.specs.declared.operation.Operation.{Operation}
use Rattle.kinds.specs.Operations.{ranged, fits}
use Rattle.kinds.specs.Rows.{checked}

-- the number of a value, if that is at most the largest
abbrev pub number_at : ℕ → Option Number
number_at = checked ranged (λ v e. record { value = v; in_range = e })

-- both numbers of an operation, if they suit a code that uses the first `count` of them
abbrev pub numbers : ℕ → Operation → Option (Number × Number)
numbers count o = cond (fits count o) (option_zip (number_at o.first) (number_at o.second)) None
