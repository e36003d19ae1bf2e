-- The serial run: steps done one after the other, without transactions. Assumes nothing.
--
-- | answer_of      | what an operation answers at a state, if there is one |
-- | states_after   | the states after one step |
-- | serial_answers | the answers of some steps, one after the other |
-- | serial_states  | the states after some steps, one after the other |
use Rattle.std.specs.Prelude.{List, [], ◌∷◌, Some, None, Option}
use Rattle.std.specs.List.{slice_get}
use Rattle.kinds.specs.Outcomes.{Answer}
use Rattle.kinds.specs.declared.answer.Outcome.{Outcome}
use Rattle.kinds.specs.declared.operation.Operation.{Operation}
use Rattle.model.specs.Histories.{Asked}
use Rattle.model.specs.Numbers.{at}

-- what an object answers; there is no answer of no object
abbrev pub answer_of : {S : Type 0} → (S → Operation → Outcome S) → Operation → Option S → Answer
answer_of acts o None = None
answer_of acts o (Some s) = (acts s o).answer

-- the states after one step
abbrev pub states_after : {S : Type 0} → (S → Operation → Outcome S) → Asked → List S → List S
states_after acts q states = at q.object (λ s. (acts s q.operation).next) states

-- the answers of some steps one after the other
abbrev pub serial_answers : {S : Type 0} → (S → Operation → Outcome S) → List S → List Asked → List Answer
serial_answers acts states [] = []
serial_answers acts states (q ∷ qs) =
    answer_of acts q.operation (slice_get states q.object) ∷ serial_answers acts (states_after acts q states) qs

-- the states after some steps one after the other
abbrev pub serial_states : {S : Type 0} → (S → Operation → Outcome S) → List S → List Asked → List S
serial_states acts states [] = states
serial_states acts states (q ∷ qs) = serial_states acts (states_after acts q states) qs
