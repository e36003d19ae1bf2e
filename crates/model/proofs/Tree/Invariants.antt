-- What holds of the tables after every list of calls.
use Rattle.std.proofs.Common.{◌≡◌, ℕ, ◌<◌, ◌≤◌, true, false, ◌||◌, eqb}
use Rattle.model.specs.Checks.{numbered}
use Rattle.model.specs.Tables.{Tables, is_open, waits, holds}

-- lines are those of a forest of open transactions, and ordinals rise downward
pub record Tree (limit : ℕ) (T : Tables) : Type 0 where
  pub root : (v : ℕ) → T.line 0 v ≡ false
  pub lower_open : (u v : ℕ) → T.line u v ≡ true → is_open T u ≡ true
  pub upper_open : (u v : ℕ) → T.line u v ≡ true → is_open T v ≡ true
  pub along : (u v w : ℕ) → T.line u v ≡ true → T.line v w ≡ true → T.line u w ≡ true
  pub one_way : (u v : ℕ) → T.line u v ≡ true → T.line v u ≡ true → u ≡ v
  pub comparable : (u v w : ℕ) → T.line u v ≡ true → T.line u w ≡ true → (T.line v w || T.line w v) ≡ true
  pub by_parent : (u v : ℕ) → is_open T u ≡ true → T.line u v ≡ (eqb v u || T.line (T.parent u) v)
  pub parent_open : (u : ℕ) → is_open T u ≡ true → (eqb (T.parent u) 0 || is_open T (T.parent u)) ≡ true
  pub parent_apart : (u : ℕ) → is_open T u ≡ true → T.line (T.parent u) u ≡ false
  pub in_range : (u : ℕ) → is_open T u ≡ true → numbered limit u ≡ true
  pub rising : (u v : ℕ) → T.line u v ≡ true → (u ≡ v → ⊥) → T.ordinal v < T.ordinal u
  pub counted : (u : ℕ) → is_open T u ≡ true → T.ordinal u ≤ T.begins

-- only open transactions hold locks or wait, and whoever else holds a lock beside a write lock is an ancestor or a descendant of its holder
pub record Locks (T : Tables) : Type 0 where
  pub holder_open : (x u : ℕ) → holds T x u ≡ true → is_open T u ≡ true
  pub waiter_open : (u : ℕ) → waits T u ≡ true → is_open T u ≡ true
  pub kin_only : (x w u : ℕ) → T.writers x w ≡ true → holds T x u ≡ true → (T.line w u || T.line u w) ≡ true
