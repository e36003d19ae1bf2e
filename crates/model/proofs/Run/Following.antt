-- Every call keeps what holds after every list of calls, and the account goes with the state.
use Rattle.std.proofs.Common.{◌≡◌, ℕ, Bool, true, false, cond, ◌||◌, eqb, List, [], ◌∷◌, Some, None, Ok, Err, Option, sym, refl, ap, ◌∙◌, subst}
use Rattle.std.specs.List.{slice_get}
use Rattle.kinds.specs.declared.answer.Class.{Class}
use Rattle.kinds.specs.declared.answer.Class.TheVariants as classes
use Rattle.kinds.specs.declared.operation.Operation.{Operation}
use Rattle.model.specs.declared.call.Call.{Call}
use Rattle.model.specs.declared.call.Call.TheVariants.{Begin, Step, Commit, Abort, BreakDeadlock}
use Rattle.model.specs.declared.fault.EngineFault.{EngineFault}
use Rattle.model.specs.declared.fault.EngineFault.TheVariants.{NoObject}
use Rattle.model.specs.declared.fault.StoreFault.TheVariants.{Full}
use Rattle.model.specs.declared.lock.Mode.TheVariants.{Read, Write}
use Rattle.model.specs.declared.reply.Reply.TheVariants.{Accepted, Answered, Waits}
use Rattle.model.specs.Deadlocks.{in_conflict}
use Rattle.model.specs.Histories.{Account, History, Asked, noted, account, class_at, class_in, stepped_by, rolled_back, Follows}
use Rattle.model.specs.Checks.{begin_fault, absent_fault, commit_fault, numbered, has_child}
use Rattle.model.specs.Model.{Response, Setting, State, state, respond, unless, step_at, step_by, step_written, committed, aborted, deadlock_broken, victim}
use Rattle.model.specs.Numbers.{at}
use Rattle.model.specs.Stores.{Object, top, weight, update_of, changed}
use Rattle.model.specs.Tables.{closing_order, Tables, is_open, opened, granted, delayed}
use Rattle.model.proofs.Run.Endings.{aborted_tables, ended_objects}
use Rattle.model.proofs.Object.Invariant.{SoundObject, Alike}
use Rattle.model.proofs.General.Places.{matched_there}
use Rattle.model.proofs.Run.Calls.{initially_sound, began_sound, delayed_sound, joined_sound, rolled_back_sound}
use Rattle.model.proofs.Run.Steps.{read_sound, written_sound, top_alike}
use Rattle.model.proofs.Run.Invariant.{Lawful, Sound}

-- a test that was passed, where a failure is refused
pub passed_so : (b : Bool) (x : Option EngineFault) (f : EngineFault) → cond b x (Some f) ≡ None → (b ≡ true) × (x ≡ None)
passed_so true x f e = (refl, e)
passed_so false x f e = absurd cc

pub passed_not : (b : Bool) (x : Option EngineFault) (f : EngineFault) → cond b (Some f) x ≡ None → (b ≡ false) × (x ≡ None)
passed_not false x f e = (refl, e)
passed_not true x f e = absurd cc

pub begin_free : (limit : ℕ) (T : Tables) (t p : ℕ) → begin_fault limit T t p ≡ None → (numbered limit t ≡ true) × (is_open T t ≡ false) × ((eqb p 0 || is_open T p) ≡ true)
begin_free limit T t p e =
    let a = passed_so (numbered limit t) _ _ e in
    let b = passed_not (is_open T t) _ _ a.1 in let c = passed_so (eqb p 0 || is_open T p) _ _ b.1 in (a.0, b.0, c.0)

pub absent_free : (limit : ℕ) (T : Tables) (t : ℕ) → absent_fault limit T t ≡ None → is_open T t ≡ true
absent_free limit T t e = let a = passed_so (numbered limit t) _ _ e in (passed_so (is_open T t) _ _ a.1).0

pub commit_free : (limit : ℕ) (T : Tables) (t : ℕ) → commit_fault limit T t ≡ None → (is_open T t ≡ true) × (has_child limit T t ≡ false)
commit_free limit T t e =
    let a = passed_so (numbered limit t) _ _ e in
    let b = passed_so (is_open T t) _ _ a.1 in let c = passed_not (has_child limit T t) _ _ b.1 in (b.0, c.0)

module _ {S : Type 0} (m : Setting S) (lawful : Lawful m) (initial : List S) where
  -- after a reply the account has the tables of the state, and all holds
  abbrev pub Kept : Account → Call → Response × State S → Type 0
  Kept A c r =
      (r.1.tables ≡ (noted m.class initial A c r.0).tables) × Sound m initial (noted m.class initial A c r.0) r.1.objects

  module _ (A : Account) (obs : List (Object S)) (sound : Sound m initial A obs) where
    abbrev T : Tables
    T = A.tables

    abbrev s : State S
    s = state T obs

    begin_keeps : (t p : ℕ) (f : Option EngineFault) → begin_fault m.limit T t p ≡ f → Kept A (Begin t p) (unless f s (Ok Accepted, state (opened t p T) obs))
    begin_keeps t p None e = let k = begin_free m.limit T t p e in (refl, began_sound m initial A obs sound t p k.0 k.1 k.2)
    begin_keeps t p (Some f) e = (refl, sound)

    commit_keeps : (t : ℕ) (f : Option EngineFault) → commit_fault m.limit T t ≡ f → Kept A (Commit t) (unless f s (Ok Accepted, committed t s))
    commit_keeps t None e = let k = commit_free m.limit T t e in (refl, joined_sound m initial A obs sound t k.0 k.1)
    commit_keeps t (Some f) e = (refl, sound)

    -- an abort of t, by whatever call
    abort_keeps : (t : ℕ) → ((aborted m.limit t s).tables ≡ (rolled_back t A).tables) × Sound m initial (rolled_back t A) (aborted m.limit t s).objects
    abort_keeps t = (
      aborted_tables m.limit T obs sound.tree t,
      subst (λ (l : List (Object S)). Sound m initial (rolled_back t A) l) (sym (ended_objects (closing_order m.limit T t) s))
          (rolled_back_sound m initial A obs sound t),
    )

    aborts : (t : ℕ) (f : Option EngineFault) → absent_fault m.limit T t ≡ f → Kept A (Abort t) (unless f s (Ok Accepted, aborted m.limit t s))
    aborts t None e = abort_keeps t
    aborts t (Some f) e = (refl, sound)

    breaks : (v : Option ℕ) → Kept A BreakDeadlock (deadlock_broken m.limit s v)
    breaks None = (refl, sound)
    breaks (Some t) = abort_keeps t

    module _ (t x : ℕ) (op : Operation) where
      abbrev q : Asked
      q = record { object = x; operation = op }

      -- a step by what its operation is, to the account and to the object
      abbrev KeptBy : Class → Response × State S → Type 0
      KeptBy k r = (r.1.tables ≡ (stepped_by k t q r.0 A).tables) × Sound m initial (stepped_by k t q r.0 A) r.1.objects

      -- a refused step leaves the account
      refused : (k : Class) (f : EngineFault) → KeptBy k (Err f, s)
      refused classes.Unknown f = (refl, sound)
      refused classes.Read f = (refl, sound)
      refused classes.Write f = (refl, sound)

      module _ (o : is_open T t ≡ true) (a : S) (ob : Object S) (there : slice_get initial x ≡ Some a) (here : slice_get obs x ≡ Some ob) (object_sound : SoundObject m T A.items (A.changes x) x a ob) where
        -- the operation is to the object what it was to its initial state
        same_class : m.class (top ob) op ≡ class_at m.class initial x op
        same_class =
            top_alike (Alike m a) ob.committed ob.versions object_sound.alike_committed object_sound.alike op
            ∙ sym (ap (class_in m.class op) there)

        reads : (b : Bool) → in_conflict m.limit T t x Read ≡ b → m.class (top ob) op ≡ classes.Read → KeptBy classes.Read (cond b (Ok Waits, state (delayed Read t x T) obs) (Ok (Answered (m.acts (top ob) op).answer), state (granted Read t x T) obs))
        reads true e k = (refl, delayed_sound m initial A obs sound Read t q o (sym same_class ∙ k))
        reads false e k = (refl, read_sound m lawful initial A obs sound t o q a ob there here object_sound e k)

        updates : (b : Bool) → in_conflict m.limit T t x Write ≡ false → KeptBy classes.Write (step_written s t x (cond b (Err Full, obs) (Ok (m.acts (top ob) op).answer, at x (changed t (m.acts (top ob) op).next) obs)))
        updates true e = (refl, sound)
        updates false e = (refl, written_sound m lawful initial A obs sound t o q a ob there here object_sound e)

        writes : (b : Bool) → in_conflict m.limit T t x Write ≡ b → m.class (top ob) op ≡ classes.Write → KeptBy classes.Write (cond b (Ok Waits, state (delayed Write t x T) obs) (step_written s t x (update_of m.acts m.capacity t x op obs (Some ob))))
        writes true e k = (refl, delayed_sound m initial A obs sound Write t q o (sym same_class ∙ k))
        writes false e k = updates (eqb (weight ob.versions) m.capacity) e

        by_class : (k : Class) → m.class (top ob) op ≡ k → KeptBy k (step_by m s t x op ob k)
        by_class classes.Unknown e = (refl, sound)
        by_class classes.Read e = reads (in_conflict m.limit T t x Read) refl e
        by_class classes.Write e =
            subst
            (λ (b : Option (Object S)).
            KeptBy classes.Write
            (cond (in_conflict m.limit T t x Write) (Ok Waits, state (delayed Write t x T) obs)
            (step_written s t x (update_of m.acts m.capacity t x op obs b)))) (sym here)
            (writes (in_conflict m.limit T t x Write) refl e)

        on_object : Kept A (Step t x op) (step_by m s t x op ob (m.class (top ob) op))
        on_object =
            subst (λ (k : Class). KeptBy k (step_by m s t x op ob (m.class (top ob) op))) same_class
            (by_class (m.class (top ob) op) refl)

      steps_at : is_open T t ≡ true → (b : Option (Object S)) → slice_get obs x ≡ b → Kept A (Step t x op) (step_at m s t x op b)
      steps_at o None e = refused (class_at m.class initial x op) NoObject
      steps_at o (Some ob) e =
          let k = matched_there (SoundObject m T A.items (A.changes x) x) (slice_get initial x) ob (slice_get obs x) e (sound.each x) in
          on_object o k.0 ob k.1 e k.2

      steps : (f : Option EngineFault) → absent_fault m.limit T t ≡ f → Kept A (Step t x op) (unless f s (step_at m s t x op (slice_get obs x)))
      steps None e = steps_at (absent_free m.limit T t e) (slice_get obs x) refl
      steps (Some f) e = refused (class_at m.class initial x op) f

    -- every call keeps what holds
    pub respond_keeps : (c : Call) → Kept A c (respond m s c)
    unfolding respond
    respond_keeps (Begin t p) = begin_keeps t p (begin_fault m.limit T t p) refl
    respond_keeps (Step t x op) = steps t x op (absent_fault m.limit T t) refl
    respond_keeps (Commit t) = commit_keeps t (commit_fault m.limit T t) refl
    respond_keeps (Abort t) = aborts t (absent_fault m.limit T t) refl
    respond_keeps BreakDeadlock = breaks (victim m s)

  -- after every list of calls
  pub follows_sound : (h : History) (s : State S) → Follows m initial h s → (s.tables ≡ (account m.class initial h).tables) × Sound m initial (account m.class initial h) s.objects
  unfolding account
  follows_sound [] s e = (
    ap (λ (r : State S). r.tables) e,
    subst (λ (r : State S). Sound m initial (account m.class initial []) r.objects) (sym e) (initially_sound m initial),
  )
  follows_sound (e ∷ h) s f =
      let ih = follows_sound h f.0 f.1 in
      let A : Account = account m.class initial h in
      let same : f.0 ≡ state A.tables f.0.objects = λ i. record { tables = ih.0 i; objects = f.0.objects } in
      let reply : respond m (state A.tables f.0.objects) e.call ≡ (e.reply, s) =
      ap (λ (r : State S). respond m r e.call) (sym same) ∙ sym f.2 in
      subst (λ (r : Response × State S). Kept A e.call r) reply (respond_keeps A f.0.objects ih.1 e.call)
