-- Where a key stands among rising keys. Assumes nothing.
--
-- | smaller  | how many keys stand before a key's place |
-- | placed   | a place, by whether the key was found |
-- | place_of | where a key stands, or else where it would |
use Rattle.std.specs.Prelude.{ℕ, suc, cond, List, [], ◌∷◌, Some, None, Ok, Err, Option, Result, nat_lt}
use Rattle.kinds.specs.declared.roll.entry.Entry.{Entry}
use Rattle.kinds.specs.Rolls.{found}

-- how many keys stand before the place of key k
abbrev pub smaller : ℕ → List Entry → ℕ
smaller k [] = 0
smaller k (e ∷ es) = cond (nat_lt e.key k) (suc (smaller k es)) 0

-- a place at which a key stands, or else at which it would
abbrev pub placed : Option ℕ → ℕ → Result ℕ ℕ
placed None at = Err at
placed (Some v) at = Ok at

-- the place of key k among some entries
abbrev pub place_of : ℕ → List Entry → Result ℕ ℕ
place_of k es = placed (found k es) (smaller k es)
