-- What holds after every list of calls. Assumes nothing.
--
-- | told            | the account of a history, in a setting |
-- | kept_steps      | the steps that a history says were kept |
-- | total           | the values of a function at 0, 1 and so on, added |
-- | facts_told      | a transaction's facts, by a history |
-- | Told            | what a history tells is what the state holds |
-- | Serial          | the kept steps have the answers and the end of a serial run |
-- | FreeOfDeadlock  | nobody is deadlocked |
-- | Names           | a deadlock break names and aborts one who goes before all others |
-- | RightVictim     | a deadlock break names the right one, or says none |
-- | CanGoOn         | a transaction's commit would be accepted, or its waiting step not told to wait |
-- | Progress        | somebody can go on |
-- | Questions       | what the questions answer follows from the history |
-- | Refusals        | a refused call changes nothing |
-- | calls_of        | the calls of a history |
-- | Single          | every list of calls has one history and one end |
-- | Always          | a promise for every capacity, policy and number of transactions |
-- | AfterEveryRun   | a promise for all initial states and every list of calls |
use Rattle.std.specs.Prelude.{◌≡◌, ℕ, zero, suc, ◌+◌, Bool, true, ◌⊎◌, ◌↔◌, List, map, length, Some, None, Ok, Err, ◌≢◌}
use Rattle.std.specs.List.{slice_get}
use Rattle.kinds.specs.declared.answer.Class.{Class}
use Rattle.kinds.specs.declared.answer.Outcome.{Outcome}
use Rattle.kinds.specs.declared.operation.Operation.{Operation}
use Rattle.model.specs.declared.call.Call.{Call}
use Rattle.model.specs.declared.call.Call.TheVariants.{Step, Commit, Abort, BreakDeadlock}
use Rattle.model.specs.declared.facts.Facts.{Facts}
use Rattle.model.specs.declared.fault.EngineFault.{EngineFault}
use Rattle.model.specs.declared.lock.Wait.{Wait}
use Rattle.model.specs.declared.reply.Reply.TheVariants.{Accepted, Waits, Victim}
use Rattle.model.specs.Deadlocks.{Deadlocked}
use Rattle.model.specs.Histories.{History, Asked, Done, Account, account, kept, class_at, class_of, Follows}
use Rattle.model.specs.Model.{Setting, State, respond}
use Rattle.model.specs.Policies.{Order}
use Rattle.model.specs.Questions.{condition, peek, lock_counts}
use Rattle.model.specs.Serial.{serial_answers, serial_states}
use Rattle.model.specs.Stores.{Object, owned}
use Rattle.model.specs.Tables.{Tables, is_open, waits}

-- what a history tells, in a setting
abbrev pub told : {S : Type 0} → Setting S → List S → History → Account
told m initial h = account m.class initial h

-- the steps that a history says were kept
abbrev pub kept_steps : {S : Type 0} → Setting S → List S → History → List Done
kept_steps m initial h = kept m.class initial h

-- f 0 and so on, n values added
abbrev pub total : ℕ → (ℕ → ℕ) → ℕ
total zero f = 0
total (suc n) f = f 0 + total n (λ x. f (suc x))

-- a transaction's facts, by a history
abbrev pub facts_told : {S : Type 0} → Setting S → List S → History → ℕ → Facts
facts_told m initial h t =
    record {
      number = t;
      ordinal = (told m initial h).tables.ordinal t;
      changes = total (length initial) (λ x. (told m initial h).changes x t);
    }

-- what a history tells of who is open under whom, of ordinals, locks, waits and changes is what the state holds
pub record Told {S : Type 0} (m : Setting S) (initial : List S) (h : History) (s : State S) : Type 0 where
  pub tables : s.tables ≡ (told m initial h).tables
  pub changes : (x t : ℕ) (ob : Object S) → slice_get s.objects x ≡ Some ob → is_open s.tables t ≡ true → owned t ob.versions ≡ (told m initial h).changes x t
  pub waiting_steps : (t : ℕ) (w : Wait) → s.tables.wait t ≡ Some w → (q : Asked) × ((told m initial h).waiting_step t ≡ Some q) × (q.object ≡ w.object) × (class_at m.class initial q.object q.operation ≡ class_of w.mode)

-- the serial run of the kept steps in finishing order gives each its answer, and ends in the committed states
pub record Serial {S : Type 0} (m : Setting S) (initial : List S) (h : History) (s : State S) : Type 0 where
  pub answers : serial_answers m.acts initial (map (λ d. d.asked) (kept_steps m initial h)) ≡ map (λ d. d.answer) (kept_steps m initial h)
  pub states : serial_states m.acts initial (map (λ d. d.asked) (kept_steps m initial h)) ≡ map (λ ob. ob.committed) s.objects

-- nobody is deadlocked
abbrev pub FreeOfDeadlock : Tables → Type 0
FreeOfDeadlock T = (t : ℕ) → Deadlocked T t → ⊥

-- v is deadlocked, goes before every other deadlocked one, and a deadlock break names it and does what its abort does
pub record Names {S : Type 0} (m : Setting S) (initial : List S) (h : History) (s : State S) (v : ℕ) : Type 0 where
  pub deadlocked : Deadlocked (told m initial h).tables v
  pub first : (u : ℕ) → Deadlocked (told m initial h).tables u → (u ≢ v) → m.before (facts_told m initial h v) (facts_told m initial h u) ≡ true
  pub abort_accepted : (respond m s (Abort v)).0 ≡ Ok Accepted
  pub reply : respond m s BreakDeadlock ≡ (Ok (Victim (Some v)), (respond m s (Abort v)).1)

-- a deadlock break says none exactly where nobody is deadlocked, and then changes nothing; else it names the right one
pub record RightVictim {S : Type 0} (m : Setting S) (initial : List S) (h : History) (s : State S) : Type 0 where
  pub none_exactly : (respond m s BreakDeadlock ≡ (Ok (Victim None), s)) ↔ FreeOfDeadlock (told m initial h).tables
  pub named : (t : ℕ) → Deadlocked (told m initial h).tables t → (v : ℕ) × Names m initial h s v

-- u's commit would be accepted, or its waiting step, repeated, would not be told to wait
abbrev pub CanGoOn : {S : Type 0} → Setting S → List S → History → State S → ℕ → Type 0
CanGoOn m initial h s u =
    ((respond m s (Commit u)).0 ≡ Ok Accepted)
    ⊎
    ((q : Asked) × ((told m initial h).waiting_step u ≡ Some q) × (waits (told m initial h).tables u ≡ true) ×
    ((respond m s (Step u q.object q.operation)).0 ≢ Ok Waits))

-- while something is open and nobody is deadlocked, some open transaction can go on
abbrev pub Progress : {S : Type 0} → Setting S → List S → History → State S → Type 0
Progress m initial h s =
    (t : ℕ) → is_open (told m initial h).tables t ≡ true → FreeOfDeadlock (told m initial h).tables → (u : ℕ) ×
    (is_open (told m initial h).tables u ≡ true) × CanGoOn m initial h s u

-- conditions and lock counts follow from the history, and a peek answers as the end of the serial run does
pub record Questions {S : Type 0} (m : Setting S) (initial : List S) (h : History) (s : State S) : Type 0 where
  pub conditions : (t : ℕ) → condition m.limit s.tables t ≡ condition m.limit (told m initial h).tables t
  pub counts : (x : ℕ) → lock_counts m.limit s.tables (length s.objects) x ≡ lock_counts m.limit (told m initial h).tables (length initial) x
  pub peeks : (x : ℕ) (o : Operation) → peek m.class m.acts (map (λ ob. ob.committed) s.objects) x o ≡ peek m.class m.acts (serial_states m.acts initial (map (λ d. d.asked) (kept_steps m initial h))) x o

-- a call that is refused, in whatever state, leaves the whole state
abbrev pub Refusals : {S : Type 0} → Setting S → Type 0
Refusals {S} m = (s : State S) (c : Call) (f : EngineFault) → (respond m s c).0 ≡ Err f → (respond m s c).1 ≡ s

-- the calls of a history, the latest first
abbrev pub calls_of : History → List Call
calls_of h = map (λ e. e.call) h

-- every list of calls has a history that leads to a state, and only one
pub record Single {S : Type 0} (m : Setting S) : Type 0 where
  pub some_end : (initial : List S) (calls : List Call) → (h : History) × (s : State S) × Follows m initial h s × (calls_of h ≡ calls)
  pub one_end : (initial : List S) (h k : History) (s r : State S) → Follows m initial h s → Follows m initial k r → calls_of h ≡ calls_of k → (h ≡ k) × (s ≡ r)

-- what a kind's behaviour promises with every capacity, every policy that is an order, and every number of transactions
abbrev pub Always : {S : Type 0} → (S → Operation → Class) → (S → Operation → Outcome S) → (Setting S → Type 0) → Type 0
Always class acts P =
    (capacity limit : ℕ) (before : Facts → Facts → Bool) → Order before → P
    (record { class = class; acts = acts; capacity = capacity; before = before; limit = limit })

-- a promise for all initial states, after every list of calls
abbrev pub AfterEveryRun : {S : Type 0} → ((m : Setting S) → List S → History → State S → Type 0) → Setting S → Type 0
AfterEveryRun {S} P m = (initial : List S) (h : History) (s : State S) → Follows m initial h s → P m initial h s
