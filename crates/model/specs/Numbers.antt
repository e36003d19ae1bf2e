-- Functions of a number, and lists of numbers. Assumes nothing.
--
-- | put     | a function with one value replaced |
-- | numbers | the numbers from 1 on, so many |
-- | size    | how many of them a set has |
-- | at      | the items with the one at a place replaced |
use Rattle.std.specs.Prelude.{ℕ, zero, suc, Bool, cond, List, [], ◌∷◌, length, filter, ◌==◌}
use Rattle.std.specs.List.{range_with_len}

-- f with a for its value at t
abbrev pub put : {A : Type 0} → ℕ → A → (ℕ → A) → ℕ → A
put t a f u = cond (u == t) a (f u)

-- 1 to n
abbrev pub numbers : ℕ → List ℕ
numbers n = range_with_len 1 n

-- how many of 1 to n are in a set
abbrev pub size : ℕ → (ℕ → Bool) → ℕ
size n p = length (filter p (numbers n))

-- f put to the item at place x, the others as they are
abbrev pub at : {A : Type 0} → ℕ → (A → A) → List A → List A
at x f [] = []
at zero f (a ∷ rest) = f a ∷ rest
at (suc x) f (a ∷ rest) = a ∷ at x f rest
