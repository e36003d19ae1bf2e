-- Victim policies: orders on the facts of transactions. Assumes nothing.
--
-- | Order         | a strict total order on facts |
-- | smaller_first | the smaller number goes first, or else a further test decides |
-- | youngest      | the higher ordinal, then the lower number, then fewer changes |
-- | lightest      | fewer changes, then as youngest decides |
-- | foremost      | the one of some transactions that goes before the others, if there is any |
use Rattle.std.specs.Prelude.{◌≡◌, ℕ, Bool, true, false, cond, not, List, [], ◌∷◌, Some, None, Option, ◌==◌, ◌≢◌, nat_lt}
use Rattle.std.specs.List.{best_of}
use Rattle.model.specs.declared.facts.Facts.{Facts}

-- nothing goes before itself; of two that differ exactly one goes before the other; and before passes along a chain
pub record Order (before : Facts → Facts → Bool) : Type 0 where
  pub irreflexive : (f : Facts) → before f f ≡ false
  pub decided : (f g : Facts) → (f ≢ g) → before f g ≡ not (before g f)
  pub chained : (f g k : Facts) → before f g ≡ true → before g k ≡ true → before f k ≡ true

-- the smaller number goes first; where they are equal, `further` decides
abbrev pub smaller_first : ℕ → ℕ → Bool → Bool
smaller_first a b further = cond (a == b) further (nat_lt a b)

-- the higher ordinal goes first, then the lower number, then fewer changes
abbrev pub youngest : Facts → Facts → Bool
youngest f g = smaller_first g.ordinal f.ordinal (smaller_first f.number g.number (nat_lt f.changes g.changes))

-- fewer changes go first, then as youngest decides
abbrev pub lightest : Facts → Facts → Bool
lightest f g = smaller_first f.changes g.changes (youngest f g)

-- the one that goes before all others, if there is any
abbrev pub foremost : (ℕ → ℕ → Bool) → List ℕ → Option ℕ
foremost first [] = None
foremost first (t ∷ ts) = Some (best_of first t ts)
