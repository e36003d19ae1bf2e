-- Which rows are a roll's. Assumes nothing.
--
-- | blank_entry | what stands in an empty place |
-- | suits       | an entry's key and number are in range |
-- | rising      | keys rising, each once, and every number in range |
-- | is_roll     | a row is a roll's |
use Rattle.std.specs.Prelude.{ℕ, ◌+◌, Bool, true, ◌&&◌, List, [], ◌∷◌, ◌==◌, nat_le}
use Rattle.kinds.specs.declared.roll.entry.Entry.{Entry}
use Rattle.kinds.specs.declared.short_list.ShortList.{ShortList}
use Rattle.kinds.specs.Operations.{ranged}
use Rattle.kinds.specs.ShortLists.{holds}

-- key 0 with number 0 stands in an empty place
abbrev pub blank_entry : Entry → Bool
blank_entry e = e.key == 0 && e.number == 0

-- a key from `low` on, and no number above the largest
abbrev pub suits : ℕ → Entry → Bool
suits low e = nat_le low e.key && (ranged e.key && ranged e.number)

-- keys rising from `low` on, each once, and no number above the largest
abbrev pub rising : ℕ → List Entry → Bool
rising low [] = true
rising low (e ∷ es) = suits low e && rising (e.key + 1) es

-- up to twelve keys rising, each once
abbrev pub is_roll : ShortList Entry → Bool
is_roll = holds blank_entry (rising 0)
