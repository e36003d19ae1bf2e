-- The meaning of a version store: for each object a committed state and a stack of versions. Assumes nothing.
--
-- | Version      | an owner, a state, and how many changes it holds |
-- | Object       | a committed state, and versions from the uppermost down |
-- | object, version | one of them from its parts |
-- | top_of       | the uppermost state of some versions |
-- | top          | the uppermost version's state, or else the committed one |
-- | weight       | the change counts of an object, added |
-- | owned        | the change counts of one owner's versions, added |
-- | change_count | the same over all objects |
-- | made         | an object with its initial state |
-- | stacked      | some versions after a change by an owner |
-- | changed      | an object after a change by an owner |
-- | handed_on    | an object whose uppermost version has gone to a parent |
-- | passed_from, passed | the same, if that version was a given owner's |
-- | without_top  | some versions without the uppermost one, if that is an owner's |
-- | dropped      | an object without its uppermost version, if that is an owner's |
-- | update_of    | an update of an object, if there is one |
-- | update       | a store's update |
-- | inherit      | a store's inherit |
-- | discard      | a store's discard |
use Rattle.std.specs.Prelude.{ℕ, suc, ◌+◌, cond, List, [], ◌∷◌, map, Some, None, Ok, Err, Option, Result, ◌==◌}
use Rattle.std.specs.List.{slice_get}
use Rattle.kinds.specs.Outcomes.{Answer}
use Rattle.kinds.specs.declared.answer.Outcome.{Outcome}
use Rattle.kinds.specs.declared.operation.Operation.{Operation}
use Rattle.model.specs.declared.fault.StoreFault.{StoreFault}
use Rattle.model.specs.declared.fault.StoreFault.TheVariants.{Full}
use Rattle.model.specs.Numbers.{at}

-- a state that is not yet committed, with its owner and how many changes it holds
pub record Version (S : Type 0) : Type 0 where
  pub owner : ℕ
  pub state : S
  pub count : ℕ

-- a committed state, and the versions above it, the uppermost first
pub record Object (S : Type 0) : Type 0 where
  pub committed : S
  pub versions : List (Version S)

-- an object from its two parts
abbrev pub object : {S : Type 0} → S → List (Version S) → Object S
object c vs = record { committed = c; versions = vs }

-- a version from its three parts
abbrev pub version : {S : Type 0} → ℕ → S → ℕ → Version S
version t s n = record { owner = t; state = s; count = n }

-- the uppermost version's state, or c where there is none
abbrev pub top_of : {S : Type 0} → S → List (Version S) → S
top_of c [] = c
top_of c (v ∷ vs) = v.state

-- the state that the next operation acts on
abbrev pub top : {S : Type 0} → Object S → S
top ob = top_of ob.committed ob.versions

-- the change counts of some versions, added
abbrev pub weight : {S : Type 0} → List (Version S) → ℕ
weight [] = 0
weight (v ∷ vs) = v.count + weight vs

-- the change counts of one owner's versions, added
abbrev pub owned : {S : Type 0} → ℕ → List (Version S) → ℕ
owned t [] = 0
owned t (v ∷ vs) = cond (v.owner == t) v.count 0 + owned t vs

-- the same over all objects
abbrev pub change_count : {S : Type 0} → ℕ → List (Object S) → ℕ
change_count t [] = 0
change_count t (ob ∷ obs) = owned t ob.versions + change_count t obs

-- an object with its initial state as the committed one, and no versions
abbrev pub made : {S : Type 0} → S → Object S
made s = object s []

-- the owner's uppermost version takes the state and counts one more; else a new version goes on top
abbrev pub stacked : {S : Type 0} → ℕ → S → List (Version S) → List (Version S)
stacked t s [] = version t s 1 ∷ []
stacked t s (v ∷ vs) = cond (v.owner == t) (version t s (suc v.count) ∷ vs) (version t s 1 ∷ (v ∷ vs))

-- an object after a change by t that leads to the state s
abbrev pub changed : {S : Type 0} → ℕ → S → Object S → Object S
changed t s ob = object ob.committed (stacked t s ob.versions)

-- the uppermost version v goes to the parent p: into p's version just beneath it, or to the committed state where nothing is beneath and p is 0
abbrev pub handed_on : {S : Type 0} → ℕ → S → Version S → List (Version S) → Object S
handed_on p c v [] = cond (p == 0) (object v.state []) (object c (version p v.state v.count ∷ []))
handed_on p c v (w ∷ vs) =
    cond (w.owner == p) (object c (version p v.state (v.count + w.count) ∷ vs))
    (object c (version p v.state v.count ∷ (w ∷ vs)))

-- an object whose uppermost version goes from t to the parent p, if it is t's
abbrev pub passed_from : {S : Type 0} → ℕ → ℕ → S → List (Version S) → Object S
passed_from t p c [] = object c []
passed_from t p c (v ∷ vs) = cond (v.owner == t) (handed_on p c v vs) (object c (v ∷ vs))

-- the same, of a whole object
abbrev pub passed : {S : Type 0} → ℕ → ℕ → Object S → Object S
passed t p ob = passed_from t p ob.committed ob.versions

-- the versions without the uppermost one, if that is t's
abbrev pub without_top : {S : Type 0} → ℕ → List (Version S) → List (Version S)
without_top t [] = []
without_top t (v ∷ vs) = cond (v.owner == t) vs (v ∷ vs)

-- an object without its uppermost version, if that is t's
abbrev pub dropped : {S : Type 0} → ℕ → Object S → Object S
dropped t ob = object ob.committed (without_top t ob.versions)

-- an update of an object: refused exactly where its weight is the capacity; else the operation acts on the top state. Of no object: nothing
abbrev pub update_of : {S : Type 0} → (S → Operation → Outcome S) → ℕ → ℕ → ℕ → Operation → List (Object S) → Option (Object S) → Result Answer StoreFault × List (Object S)
update_of acts capacity t x o obs None = (Ok None, obs)
update_of acts capacity t x o obs (Some ob) =
    cond (weight ob.versions == capacity) (Err Full, obs) (Ok (acts (top ob) o).answer, at x (changed t (acts (top ob) o).next) obs)

-- update (owner t, object x, write operation o)
abbrev pub update : {S : Type 0} → (S → Operation → Outcome S) → ℕ → ℕ → ℕ → Operation → List (Object S) → Result Answer StoreFault × List (Object S)
update acts capacity t x o obs = update_of acts capacity t x o obs (slice_get obs x)

-- inherit (owner t, parent p)
abbrev pub inherit : {S : Type 0} → ℕ → ℕ → List (Object S) → List (Object S)
inherit t p obs = map (passed t p) obs

-- discard (owner t)
abbrev pub discard : {S : Type 0} → ℕ → List (Object S) → List (Object S)
discard t obs = map (dropped t) obs
