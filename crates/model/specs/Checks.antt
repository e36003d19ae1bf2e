-- Why a call on transactions is refused: the first fault in checking order. Assumes nothing.
--
-- | most_begins  | how many begins are accepted at most |
-- | numbered     | a number is a transaction number |
-- | has_child    | a transaction has an open child |
-- | begin_fault  | why one cannot begin under another |
-- | absent_fault | why one can neither step nor abort |
-- | commit_fault | why one cannot commit |
use Rattle.std.specs.Prelude.{ℕ, Bool, cond, ◌&&◌, ◌||◌, Some, None, Option, ◌==◌, nat_le}
use Rattle.std.specs.List.{list_any}
use Rattle.model.specs.declared.fault.EngineFault.{EngineFault}
use Rattle.model.specs.declared.fault.EngineFault.TheVariants.{NumberOutOfRange, AlreadyOpen, ParentNotOpen, TooManyBegins, NotOpen, OpenChild, Waiting}
use Rattle.model.specs.Numbers.{numbers}
use Rattle.model.specs.Tables.{Tables, is_open, waits}

-- how many begins are accepted at most
abbrev pub most_begins : ℕ
most_begins = 1000000

-- t is a transaction number
abbrev pub numbered : ℕ → ℕ → Bool
numbered limit t = nat_le 1 t && nat_le t limit

-- t has an open child
abbrev pub has_child : ℕ → Tables → ℕ → Bool
has_child limit T t = list_any (λ u. is_open T u && T.parent u == t) (numbers limit)

-- why t cannot begin under p
abbrev pub begin_fault : ℕ → Tables → ℕ → ℕ → Option EngineFault
begin_fault limit T t p =
    cond (numbered limit t)
    (cond (is_open T t) (Some AlreadyOpen)
    (cond (p == 0 || is_open T p)
    (cond (nat_le most_begins T.begins) (Some TooManyBegins) None)
    (Some ParentNotOpen)))
    (Some NumberOutOfRange)

-- why t can neither step nor abort
abbrev pub absent_fault : ℕ → Tables → ℕ → Option EngineFault
absent_fault limit T t = cond (numbered limit t) (cond (is_open T t) None (Some NotOpen)) (Some NumberOutOfRange)

-- why t cannot commit
abbrev pub commit_fault : ℕ → Tables → ℕ → Option EngineFault
commit_fault limit T t =
    cond (numbered limit t)
    (cond (is_open T t)
    (cond (has_child limit T t) (Some OpenChild) (cond (waits T t) (Some Waiting) None))
    (Some NotOpen))
    (Some NumberOutOfRange)
