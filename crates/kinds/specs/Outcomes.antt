-- What comes of an operation. Assumes nothing.
--
-- | Answer        | yes with a number, or no |
-- | yes_to        | yes with a number, and the next state |
-- | no_to         | no, and the state as it was |
-- | turned        | the state made of a content |
-- | left_by       | an answer, and the state made of the content after it |
-- | content_after | the content after an operation by its kind's table |
-- | by_table      | what an operation does by its kind's table |
use Rattle.std.specs.Prelude.{ℕ, Some, None, Option}
use Rattle.std.specs.Option.{unwrap_or}
use Rattle.kinds.specs.declared.answer.Outcome.{Outcome}

-- an operation's answer: Some n is yes with n, None is no
abbrev pub Answer : Type 0
Answer = Option ℕ

-- yes with a number, and the next state
abbrev pub yes_to : {S : Type 0} → ℕ → S → Outcome S
yes_to n s = record { answer = Some n; next = s }

-- no, and the state as it was
abbrev pub no_to : {S : Type 0} → S → Outcome S
no_to s = record { answer = None; next = s }

-- a state turned into the one made of a content; where none is made of it, the state stays
abbrev pub turned : {S C : Type 0} → (C → Option S) → S → C → S
turned make s c = unwrap_or (make c) s

-- an answer, and the state turned into the one made of the content after it
abbrev pub left_by : {S C : Type 0} → (C → Option S) → S → Answer × C → Outcome S
left_by make s q = record { answer = q.0; next = turned make s q.1 }

-- the content after an operation by its kind's table; any other leaves it
abbrev pub content_after : {C P : Type 0} → (C → P → Answer × C) → C → Option P → C
content_after table c None = c
content_after table c (Some p) = (table c p).1

-- what a known operation does by its kind's table; any other answers no
abbrev pub by_table : {S C P : Type 0} → (C → Option S) → (P → Answer × C) → S → Option P → Outcome S
by_table make table s None = no_to s
by_table make table s (Some p) = left_by make s (table p)
