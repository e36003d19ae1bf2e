-- Which rows are a queue's. Assumes nothing.
--
-- | blank_number | what stands in an empty place |
-- | is_queue     | a row is a queue's |
use Rattle.std.specs.Prelude.{ℕ, Bool, ◌==◌}
use Rattle.kinds.specs.declared.short_list.ShortList.{ShortList}
use Rattle.kinds.specs.Operations.{ranged}
use Rattle.std.specs.List.{list_all}
use Rattle.kinds.specs.ShortLists.{holds}

-- 0 stands in an empty place
abbrev pub blank_number : ℕ → Bool
blank_number n = n == 0

-- up to twelve entries, none above the largest number
abbrev pub is_queue : ShortList ℕ → Bool
is_queue = holds blank_number (list_all ranged)
