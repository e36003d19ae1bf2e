-- What calls and replies tell, without any memory of the engine. Assumes nothing.
--
-- | Event        | a call and its reply |
-- | History      | events, the latest first |
-- | Asked        | an operation on an object |
-- | Done         | an answered step |
-- | Items        | the answered steps and committed children of a transaction, as they finished |
-- | in_order     | the steps of some items, each child replaced by its own |
-- | Account      | what a history tells |
-- | blank        | the account before the first call |
-- | began        | an account after a begin |
-- | counted      | the changes after an answered step |
-- | answered     | an account after an answered step |
-- | kept_waiting | an account after a step that was told to wait |
-- | joined       | an account after a commit |
-- | rolled_back  | an account after an abort |
-- | if_accepted, stepped, if_victim | an account by what a call was told |
-- | stepped_by   | an account after a step, by what its operation is |
-- | class_in, class_at | what an operation is to an object, by its initial state |
-- | class_of     | the class of the operations that ask for a lock of a mode |
-- | noted        | an account after one more event |
-- | account      | the account of a history |
-- | kept         | the steps that were kept, in finishing order |
-- | Follows      | a history leads from the initial states to a state |
use Rattle.std.specs.Prelude.{◌≡◌, ℕ, suc, ◌+◌, List, [], ◌∷◌, ◌++◌, Some, None, Ok, Option}
use Rattle.std.specs.List.{slice_get}
use Rattle.kinds.specs.Outcomes.{Answer}
use Rattle.kinds.specs.declared.answer.Class.{Class}
use Rattle.kinds.specs.declared.answer.Class.TheVariants as classes
use Rattle.kinds.specs.declared.operation.Operation.{Operation}
use Rattle.model.specs.declared.call.Call.{Call}
use Rattle.model.specs.declared.call.Call.TheVariants.{Begin, Step, Commit, Abort, BreakDeadlock}
use Rattle.model.specs.declared.lock.Mode.{Mode}
use Rattle.model.specs.declared.lock.Mode.TheVariants.{Read, Write}
use Rattle.model.specs.declared.reply.Reply.TheVariants.{Accepted, Answered, Waits, Victim}
use Rattle.model.specs.Model.{Response, Setting, State, initially, respond}
use Rattle.model.specs.Numbers.{put}
use Rattle.model.specs.Tables.{Tables, vacant, opened, granted, delayed, handed, cut}

-- a call and its reply
pub record Event : Type 0 where
  pub call : Call
  pub reply : Response

-- what has been called and replied, the latest first
abbrev pub History : Type 0
History = List Event

-- an operation that a step asked for
pub record Asked : Type 0 where
  pub object : ℕ
  pub operation : Operation

-- an answered step
pub record Done : Type 0 where
  pub asked : Asked
  pub answer : Answer

-- the items of a transaction, as they finished: steps when they were answered, children when they committed
pub data Items : Type 0 where
  nothing : Items
  did : Items → Done → Items
  child : Items → ℕ → Items → Items

-- the steps of some items in finishing order: each child is replaced by its own items
abbrev pub in_order : Items → List Done
in_order nothing = []
in_order (did items d) = in_order items ++ (d ∷ [])
in_order (child items t its) = in_order items ++ in_order its

-- what a history tells
pub record Account : Type 0 where
  -- who is open under whom, with ordinals, locks and waits
  pub tables : Tables
  -- the step that a transaction was last told to wait with
  pub waiting_step : ℕ → Option Asked
  -- how many changes of an object a transaction has made or taken over
  pub changes : ℕ → ℕ → ℕ
  -- the items of a transaction; those of 0 are the committed top transactions
  pub items : ℕ → Items

-- before the first call
abbrev pub blank : Account
blank = record { tables = vacant; waiting_step = λ t. None; changes = λ x t. 0; items = λ t. nothing }

-- t began under p: a new transaction, whatever its number was used for before
abbrev pub began : ℕ → ℕ → Account → Account
began t p A =
    record {
      tables = opened t p A.tables;
      waiting_step = put t None A.waiting_step;
      changes = λ x. put t 0 (A.changes x);
      items = put t nothing A.items;
    }

-- one more change of x by t, if the step was a write
abbrev pub counted : Mode → ℕ → ℕ → (ℕ → ℕ → ℕ) → ℕ → ℕ → ℕ
counted Read t x changes = changes
counted Write t x changes = put x (put t (suc (changes x t)) (changes x)) changes

-- a step of t was answered
abbrev pub answered : Mode → ℕ → Asked → Answer → Account → Account
answered mode t q a A =
    record {
      tables = granted mode t q.object A.tables;
      waiting_step = put t None A.waiting_step;
      changes = counted mode t q.object A.changes;
      items = put t (did (A.items t) (record { asked = q; answer = a })) A.items;
    }

-- a step of t was told to wait
abbrev pub kept_waiting : Mode → ℕ → Asked → Account → Account
kept_waiting mode t q A =
    record {
      tables = delayed mode t q.object A.tables;
      waiting_step = put t (Some q) A.waiting_step;
      changes = A.changes;
      items = A.items;
    }

-- t committed to p
abbrev pub joined : ℕ → ℕ → Account → Account
joined t p A =
    record {
      tables = handed t A.tables;
      waiting_step = A.waiting_step;
      changes = λ x. put p (A.changes x p + A.changes x t) (A.changes x);
      items = put p (child (A.items p) t (A.items t)) A.items;
    }

-- t and its descendants ended
abbrev pub rolled_back : ℕ → Account → Account
rolled_back t A = record { tables = cut t A.tables; waiting_step = A.waiting_step; changes = A.changes; items = A.items }

-- `then` if the call was accepted
abbrev pub if_accepted : Response → Account → Account → Account
if_accepted (Ok Accepted) A then = then
if_accepted _ A then = A

-- a step of a mode, by what it was told
abbrev pub stepped : Mode → ℕ → Asked → Response → Account → Account
stepped mode t q (Ok (Answered a)) A = answered mode t q a A
stepped mode t q (Ok Waits) A = kept_waiting mode t q A
stepped mode t q _ A = A

-- a step, by what its operation is to the object
abbrev pub stepped_by : Class → ℕ → Asked → Response → Account → Account
stepped_by classes.Unknown t q r A = A
stepped_by classes.Read t q r A = stepped Read t q r A
stepped_by classes.Write t q r A = stepped Write t q r A

-- a deadlock break, by whom it named
abbrev pub if_victim : Response → Account → Account
if_victim (Ok (Victim (Some t))) A = rolled_back t A
if_victim _ A = A

-- what an operation is to an object, by the object's initial state: it never changes
abbrev pub class_in : {S : Type 0} → (S → Operation → Class) → Operation → Option S → Class
class_in class o None = classes.Unknown
class_in class o (Some s) = class s o

-- the same, of the object of a number
abbrev pub class_at : {S : Type 0} → (S → Operation → Class) → List S → ℕ → Operation → Class
class_at class initial x o = class_in class o (slice_get initial x)

-- the class of the operations that ask for a lock of a mode
abbrev pub class_of : Mode → Class
class_of Read = classes.Read
class_of Write = classes.Write

-- an account after one more call and its reply
abbrev pub noted : {S : Type 0} → (S → Operation → Class) → List S → Account → Call → Response → Account
noted class initial A (Begin t p) r = if_accepted r A (began t p A)
noted class initial A (Step t x o) r = stepped_by (class_at class initial x o) t (record { object = x; operation = o }) r A
noted class initial A (Commit t) r = if_accepted r A (joined t (A.tables.parent t) A)
noted class initial A (Abort t) r = if_accepted r A (rolled_back t A)
noted class initial A BreakDeadlock r = if_victim r A

-- the account of a history
unfoldable pub account : {S : Type 0} → (S → Operation → Class) → List S → History → Account
account class initial [] = blank
account class initial (e ∷ h) = noted class initial (account class initial h) e.call e.reply

-- the steps whose transaction and all its ancestors committed, in finishing order
abbrev pub kept : {S : Type 0} → (S → Operation → Class) → List S → History → List Done
kept class initial h = in_order ((account class initial h).items 0)

-- the calls of h, from the initial states on, had its replies and led to the state s
abbrev pub Follows : {S : Type 0} → Setting S → List S → History → State S → Type 0
Follows m initial [] s = s ≡ initially initial
Follows {S} m initial (e ∷ h) s = (earlier : State S) × Follows m initial h earlier × ((e.reply, s) ≡ respond m earlier e.call)
