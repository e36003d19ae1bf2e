-- Who is open under whom, who waits for what, and who holds which lock. Assumes nothing.
--
-- | Tables        | the tree, the waits and the locks |
-- | vacant        | nothing is open |
-- | is_open       | a transaction is open |
-- | waits         | a transaction waits |
-- | holds         | a transaction holds a lock on an object |
-- | opened        | a transaction begins |
-- | relocked      | the same tree with other waits and locks |
-- | with_holder   | one more holder of a lock |
-- | granted       | a transaction gains a lock, and its wait ends |
-- | delayed       | a transaction's wait is recorded |
-- | gained        | the holders of a lock once a parent has gained its child's |
-- | closed        | a transaction ends |
-- | handed        | a transaction's locks go to its parent, and it ends |
-- | cut_at        | a function without a transaction and its descendants |
-- | cut           | a transaction and all its descendants end at once |
-- | by_depth      | some transactions, the deepest first |
-- | closing_order | a transaction and its descendants, the deepest first |
use Rattle.std.specs.Prelude.{ℕ, zero, suc, Bool, true, false, cond, ◌&&◌, ◌||◌, List, [], ◌++◌, is_some, Some, None, Option, ◌==◌, nat_lt, filter}
use Rattle.model.specs.declared.lock.Mode.{Mode}
use Rattle.model.specs.declared.lock.Mode.TheVariants.{Read, Write}
use Rattle.model.specs.declared.lock.Wait.{Wait}
use Rattle.model.specs.Numbers.{put, numbers, size}

-- the tree, the waits and the locks, by transaction numbers; 0 is no transaction
pub record Tables : Type 0 where
  -- the parent, or 0 for a top transaction
  pub parent : ℕ → ℕ
  -- t's line is the set of t and its ancestors, and empty where t is not open
  pub line : ℕ → ℕ → Bool
  -- begins are numbered in the order in which they were accepted
  pub ordinal : ℕ → ℕ
  -- what it waits for
  pub wait : ℕ → Option Wait
  -- object, then transaction
  pub readers : ℕ → ℕ → Bool
  pub writers : ℕ → ℕ → Bool
  -- how many begins were accepted
  pub begins : ℕ

-- nothing is open
abbrev pub vacant : Tables
vacant =
    record {
      parent = λ t. 0;
      line = λ t u. false;
      ordinal = λ t. 0;
      wait = λ t. None;
      readers = λ x u. false;
      writers = λ x u. false;
      begins = 0;
    }

-- t is open
abbrev pub is_open : Tables → ℕ → Bool
is_open T t = T.line t t

-- t waits
abbrev pub waits : Tables → ℕ → Bool
waits T t = is_some (T.wait t)

-- u holds a lock on x
abbrev pub holds : Tables → ℕ → ℕ → Bool
holds T x u = T.readers x u || T.writers x u

-- t opens under p, with the next ordinal
abbrev pub opened : ℕ → ℕ → Tables → Tables
opened t p T =
    record {
      parent = put t p T.parent;
      line = put t (λ u. (u == t) || T.line p u) T.line;
      ordinal = put t (suc T.begins) T.ordinal;
      wait = put t None T.wait;
      readers = T.readers;
      writers = T.writers;
      begins = suc T.begins;
    }

-- the same tree with other waits, readers and writers
abbrev pub relocked : Tables → (ℕ → Option Wait) → (ℕ → ℕ → Bool) → (ℕ → ℕ → Bool) → Tables
relocked T w r s = record { parent = T.parent; line = T.line; ordinal = T.ordinal; wait = w; readers = r; writers = s; begins = T.begins }

-- one more holder of the lock on x
abbrev pub with_holder : ℕ → ℕ → (ℕ → ℕ → Bool) → ℕ → ℕ → Bool
with_holder x t holders = put x (put t true (holders x)) holders

-- t gains the lock of a mode on x, and its wait ends
abbrev pub granted : Mode → ℕ → ℕ → Tables → Tables
granted Read t x T = relocked T (put t None T.wait) (with_holder x t T.readers) T.writers
granted Write t x T = relocked T (put t None T.wait) T.readers (with_holder x t T.writers)

-- t now waits for x in a mode
abbrev pub delayed : Mode → ℕ → ℕ → Tables → Tables
delayed mode t x T = relocked T (put t (Some (record { object = x; mode = mode })) T.wait) T.readers T.writers

-- the holders of a lock once p has gained t's; 0 gains nothing
abbrev pub gained : ℕ → ℕ → (ℕ → Bool) → ℕ → Bool
gained p t holders u = holders u || ((u == p && nat_lt 0 p) && holders t)

-- t ends: nothing of it is left
abbrev pub closed : ℕ → Tables → Tables
closed t T =
    record {
      parent = put t 0 T.parent;
      line = put t (λ u. false) T.line;
      ordinal = put t 0 T.ordinal;
      wait = put t None T.wait;
      readers = λ x. put t false (T.readers x);
      writers = λ x. put t false (T.writers x);
      begins = T.begins;
    }

-- the parent gains each lock of t in its mode, and t ends
abbrev pub handed : ℕ → Tables → Tables
handed t T = closed t (relocked T T.wait (λ x. gained (T.parent t) t (T.readers x)) (λ x. gained (T.parent t) t (T.writers x)))

-- a in place of f's value at t and at each descendant of t
abbrev pub cut_at : {A : Type 0} → Tables → ℕ → A → (ℕ → A) → ℕ → A
cut_at T t a f u = cond (T.line u t) a (f u)

-- t and its descendants end
abbrev pub cut : ℕ → Tables → Tables
cut t T =
    record {
      parent = cut_at T t 0 T.parent;
      line = cut_at T t (λ u. false) T.line;
      ordinal = cut_at T t 0 T.ordinal;
      wait = cut_at T t None T.wait;
      readers = λ x. cut_at T t false (T.readers x);
      writers = λ x. cut_at T t false (T.writers x);
      begins = T.begins;
    }

-- of some transactions, those of depth n, then those of depth n - 1, and so on; the depth is the size of the line
abbrev pub by_depth : ℕ → Tables → ℕ → List ℕ → List ℕ
by_depth limit T zero us = []
by_depth limit T (suc n) us = filter (λ u. size limit (T.line u) == suc n) us ++ by_depth limit T n us

-- t and its descendants, the deepest first, and equally deep ones by number
abbrev pub closing_order : ℕ → Tables → ℕ → List ℕ
closing_order limit T t = by_depth limit T limit (filter (λ u. T.line u t) (numbers limit))
