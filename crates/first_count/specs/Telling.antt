-- How an entry is printed, with what is told of it. Assumes nothing.
--
-- | with_number    | a word with the number that follows it |
-- | operation_text | the word of an operation and the numbers that it uses |
-- | answer_text    | an answer |
-- | reply_text     | what an object replies |
-- | refusal_text   | why an entry is refused |
-- | told_text      | what is told of an entry |
-- | line_text      | an entry with what is told of it |
use Rattle.std.specs.Prelude.{ℕ, cond, List, ◌++◌, Some, None, Ok, Err, Result, ◌==◌, codes}
use Rattle.std.specs.Fmt.{decimal}
use Rattle.kinds.specs.Outcomes.{Answer}
use Rattle.kinds.specs.declared.operation.Operation.{Operation}
use Rattle.first_count.specs.declared.enter.Entry.{Entry}
use Rattle.first_count.specs.declared.enter.Reply.{Reply}
use Rattle.first_count.specs.declared.enter.Reply.TheVariants.{Answered, Undone}
use Rattle.first_count.specs.declared.enter.Refusal.{Refusal}
use Rattle.first_count.specs.declared.enter.Refusal.TheVariants.{NoObject, Unknown}

-- a word with the number that follows it
abbrev pub with_number : List ℕ → ℕ → List ℕ
with_number word n = word ++ decimal n

-- the word of an operation by its code, and the numbers that it uses; any other is printed as its three numbers
abbrev pub operation_text : Operation → List ℕ
operation_text o =
    cond (o.code == 1) (codes "SHOW")
    (cond (o.code == 2) (with_number (codes "ADD ") o.first)
    (cond (o.code == 3) (with_number (codes "TAKE ") o.first)
    (cond (o.code == 12) (codes "FRONT")
    (cond (o.code == 13) (with_number (codes "PUT ") o.first)
    (cond (o.code == 14) (codes "NEXT")
    (cond (o.code == 21) (with_number (codes "FIND ") o.first)
    (cond (o.code == 22) (with_number (with_number (codes "MARK ") o.first ++ codes " ") o.second)
    (with_number (with_number (decimal o.code ++ codes " ") o.first ++ codes " ") o.second))))))))

-- yes with its number, or no
abbrev pub answer_text : Answer → List ℕ
answer_text (Some n) = codes "yes " ++ decimal n
answer_text None = codes "no"

-- the answer, and whether the operation was undone
abbrev pub reply_text : Reply → List ℕ
reply_text (Answered a) = answer_text a
reply_text (Undone a) = answer_text a ++ codes ", undone"

-- why an entry is refused
abbrev pub refusal_text : Refusal → List ℕ
refusal_text NoObject = codes "no such object"
refusal_text Unknown = codes "unknown"

-- what is told of an entry
abbrev pub told_text : Result Reply Refusal → List ℕ
told_text (Ok r) = reply_text r
told_text (Err f) = refusal_text f

-- an entry with what is told of it: object, operation, colon, what is told
abbrev pub line_text : Entry → Result Reply Refusal → List ℕ
line_text e told = decimal e.object ++ (codes " " ++ (operation_text e.operation ++ (codes ": " ++ told_text told)))
