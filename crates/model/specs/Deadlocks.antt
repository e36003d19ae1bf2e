-- Who waits for whom, and who is deadlocked. Assumes nothing.
--
-- | against     | a lock that a step of a mode may conflict with |
-- | conflicts   | a holder's lock conflicts with a step |
-- | in_conflict | some holder's lock does |
-- | blocks_for  | a holder's lock conflicts with a step for what is waited for |
-- | blocks      | a holder's lock conflicts now with a waiting step |
-- | Branch      | the highest of a holder and its ancestors that is neither t nor an ancestor of t |
-- | WaitsFor    | t waits for u |
-- | Leads       | a chain of one or more steps |
-- | Deadlocked  | a chain of waits that comes back |
-- | meets       | two lines meet outside a third, as a test |
-- | waits_for   | t waits for u, as a test |
-- | reaches     | a chain of steps leads from one to another, as a test |
-- | waiting     | the waiting transactions |
-- | deadlocked  | a chain of waits comes back, as a test |
use Rattle.std.specs.Prelude.{◌≡◌, ℕ, Bool, true, false, not, ◌&&◌, ◌||◌, List, [], ◌∷◌, Some, None, Option, filter}
use Rattle.std.specs.List.{list_any}
use Rattle.model.specs.declared.lock.Mode.{Mode}
use Rattle.model.specs.declared.lock.Mode.TheVariants.{Read, Write}
use Rattle.model.specs.declared.lock.Wait.{Wait}
use Rattle.model.specs.Numbers.{numbers}
use Rattle.model.specs.Tables.{Tables, waits}

-- a read may conflict with a write lock, a write with any
abbrev pub against : Mode → Bool → Bool → Bool
against Read reads writes = writes
against Write reads writes = reads || writes

-- h's lock on x conflicts with a step of t, unless h is t or an ancestor of t
abbrev pub conflicts : Tables → ℕ → ℕ → Mode → ℕ → Bool
conflicts T t x mode h = against mode (T.readers x h) (T.writers x h) && not (T.line t h)

-- some lock on x conflicts with a step of t
abbrev pub in_conflict : ℕ → Tables → ℕ → ℕ → Mode → Bool
in_conflict limit T t x mode = list_any (conflicts T t x mode) (numbers limit)

-- h's lock conflicts with a step for what is waited for
abbrev pub blocks_for : Tables → ℕ → Option Wait → ℕ → Bool
blocks_for T t None h = false
blocks_for T t (Some w) h = conflicts T t w.object w.mode h

-- h's lock conflicts now with t's waiting step
abbrev pub blocks : Tables → ℕ → ℕ → Bool
blocks T t h = blocks_for T t (T.wait t) h

-- the highest, among h and its ancestors, that is neither t nor an ancestor of t
pub record Branch (T : Tables) (t h b : ℕ) : Type 0 where
  pub on_line : T.line h b ≡ true
  pub outside : T.line t b ≡ false
  pub highest : (c : ℕ) → T.line h c ≡ true → T.line t c ≡ false → T.line c b ≡ true

-- u waits too, and is the branch of a holder that blocks t, or a descendant of it
pub record WaitsFor (T : Tables) (t u : ℕ) : Type 0 where
  pub holder : ℕ
  pub branch : ℕ
  pub blocked : blocks T t holder ≡ true
  pub the_branch : Branch T t holder branch
  pub at_or_below : T.line u branch ≡ true
  pub waits_too : waits T u ≡ true

-- a chain of one or more steps
pub data Leads (R : ℕ → ℕ → Type 0) : ℕ → ℕ → Type 0 where
  step : {a b : ℕ} → R a b → Leads R a b
  then : {a b c : ℕ} → R a b → Leads R b c → Leads R a c

-- a chain of waits leads from t back to t
abbrev pub Deadlocked : Tables → ℕ → Type 0
Deadlocked T t = Leads (WaitsFor T) t t

-- the lines of u and h meet outside that of t: u is the branch of h or a descendant of it
abbrev pub meets : ℕ → Tables → ℕ → ℕ → ℕ → Bool
meets limit T t u h = list_any (λ c. (T.line u c && T.line h c) && not (T.line t c)) (numbers limit)

-- t waits for u, as a test
abbrev pub waits_for : ℕ → Tables → ℕ → ℕ → Bool
waits_for limit T t u = waits T u && list_any (meets limit T t u) (filter (blocks T t) (numbers limit))

-- a chain of steps leads from a to b, through none but ks in between
abbrev pub reaches : (ℕ → ℕ → Bool) → List ℕ → ℕ → ℕ → Bool
reaches E [] a b = E a b
reaches E (k ∷ ks) a b = reaches E ks a b || (reaches E ks a k && reaches E ks k b)

-- the waiting ones, by number
abbrev pub waiting : ℕ → Tables → List ℕ
waiting limit T = filter (waits T) (numbers limit)

-- t is deadlocked, as a test
abbrev pub deadlocked : ℕ → Tables → ℕ → Bool
deadlocked limit T t = reaches (waits_for limit T) (waiting limit T) t t
