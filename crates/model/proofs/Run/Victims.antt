-- A deadlock break names the right one, after every list of calls.
use Rattle.std.proofs.Common.{◌≡◌, ℕ, true, List, Some, None, Ok, Option, sym, refl, ap, ◌∙◌, subst, filter}
use Rattle.std.proofs.lemmas.Bool.{and_parts, and_from, both_ways}
use Rattle.model.specs.declared.call.Call.TheVariants.{Abort, BreakDeadlock}
use Rattle.model.specs.declared.reply.Reply.TheVariants.{Accepted, Victim}
use Rattle.model.specs.Deadlocks.{Deadlocked, deadlocked, waiting}
use Rattle.model.specs.Histories.{History, account, Follows}
use Rattle.model.specs.Model.{Response, Setting, State, respond, aborted, deadlock_broken, victim, facts}
use Rattle.model.specs.Numbers.{numbers}
use Rattle.model.specs.Policies.{Order}
use Rattle.model.specs.Promises.{facts_told, FreeOfDeadlock, Names, RightVictim}
use Rattle.model.specs.Tables.{Tables, is_open, waits}
use Rattle.model.proofs.Deadlock.Branches.{deadlocked_decides, deadlocked_waits}
use Rattle.model.proofs.General.Finite.{has_filter, has}
use Rattle.model.proofs.Deadlock.Foremost.{foremost_none_has, foremost_some}
use Rattle.model.proofs.Tree.Invariants.{Tree, Locks}
use Rattle.model.proofs.Tree.Lines.{open_number}
use Rattle.model.proofs.Run.Promised.{tables_told, sound, facts_are_told}
use Rattle.model.proofs.Run.Invariant.{Lawful}

module _ (limit : ℕ) (T : Tables) (tree : Tree limit T) (locks : Locks T) where
  abbrev pub deadlocked_ones : List ℕ
  deadlocked_ones = filter (deadlocked limit T) (waiting limit T)

  -- the candidates are those that are deadlocked
  pub among_deadlocked : (t : ℕ) → has t deadlocked_ones ≡ true → Deadlocked T t
  among_deadlocked t e =
      (deadlocked_decides limit T tree locks t).0 (and_parts _ _ (sym (has_filter (deadlocked limit T) (waiting limit T) t) ∙ e)).1

  pub deadlocked_open : (t : ℕ) → Deadlocked T t → is_open T t ≡ true
  deadlocked_open t d = locks.waiter_open t (deadlocked_waits T t d)

  pub deadlocked_among : (t : ℕ) → Deadlocked T t → has t deadlocked_ones ≡ true
  deadlocked_among t d =
      has_filter (deadlocked limit T) (waiting limit T) t
      ∙ and_from _ _
      (has_filter (waits T) (numbers limit) t ∙ and_from _ _ (open_number limit T tree t (deadlocked_open t d)) (deadlocked_waits T t d))
      ((deadlocked_decides limit T tree locks t).1 d)

module _ {S : Type 0} (m : Setting S) (lawful : Lawful m) (order : Order m.before) (initial : List S) (h : History) (s : State S) (follows : Follows m initial h s) where
  abbrev T : Tables
  T = s.tables

  abbrev told : T ≡ (account m.class initial h).tables
  told = tables_told m lawful initial h s follows

  tree : Tree m.limit T
  tree = subst (λ (k : Tables). Tree m.limit k) (sym told) (sound m lawful initial h s follows).tree

  locks : Locks T
  locks = subst (λ (k : Tables). Locks k) (sym told) (sound m lawful initial h s follows).locks

  -- by the state, and by the history
  here : (t : ℕ) → Deadlocked (account m.class initial h).tables t → Deadlocked T t
  here t d = subst (λ (k : Tables). Deadlocked k t) (sym told) d

  there : (t : ℕ) → Deadlocked T t → Deadlocked (account m.class initial h).tables t
  there t d = subst (λ (k : Tables). Deadlocked k t) told d

  -- an open transaction can be aborted
  abort_result : (v : ℕ) → is_open T v ≡ true → respond m s (Abort v) ≡ (Ok Accepted, aborted m.limit v s)
  unfolding respond
  abort_result v o = rw (tree.in_range v o, o)

  break_result : (v : Option ℕ) → victim m s ≡ v → respond m s BreakDeadlock ≡ deadlock_broken m.limit s v
  unfolding respond
  break_result v e = ap (deadlock_broken m.limit s) e

  names : (v : ℕ) → victim m s ≡ Some v → Names m initial h s v
  names v e =
      let k = foremost_some m.before order (facts s) (λ t. refl) (deadlocked_ones m.limit T tree locks) v e in
      let d = among_deadlocked m.limit T tree locks v k.0 in
      let o = deadlocked_open m.limit T tree locks v d in
      let a = abort_result v o in
      record {
        deadlocked = there v d;
        first = first v o k.1;
        abort_accepted = ap (λ (r : Response × State S). r.0) a;
        reply = break_result (Some v) e ∙ ap (λ (r : Response × State S). (Ok (Victim (Some v)), r.1)) (sym a);
      }
    where
      first : (v : ℕ) → is_open T v ≡ true → ((u : ℕ) → has u (deadlocked_ones m.limit T tree locks) ≡ true → (u ≡ v → ⊥) → m.before (facts s v) (facts s u) ≡ true) → (u : ℕ) → Deadlocked (account m.class initial h).tables u → (u ≡ v → ⊥) → m.before (facts_told m initial h v) (facts_told m initial h u) ≡ true
      first v o before u d ne =
          let du = here u d in
          let ev = facts_are_told m lawful initial h s follows v o in
          let eu = facts_are_told m lawful initial h s follows u (deadlocked_open m.limit T tree locks u du) in
          subst (λ f. m.before f (facts_told m initial h u) ≡ true) ev
          (subst (λ f. m.before (facts s v) f ≡ true) eu (before u (deadlocked_among m.limit T tree locks u du) ne))

  -- nobody is named where nobody is deadlocked, and only there
  none_where_free : (v : Option ℕ) → victim m s ≡ v → FreeOfDeadlock (account m.class initial h).tables → respond m s BreakDeadlock ≡ (Ok (Victim None), s)
  none_where_free None e free = break_result None e
  none_where_free (Some v) e free = absurd (free v (names v e).deadlocked)

  named_where_not : (v : Option ℕ) → victim m s ≡ v → (t : ℕ) → Deadlocked (account m.class initial h).tables t → (w : ℕ) × Names m initial h s w
  named_where_not None e t d =
      absurd
      (both_ways _ (foremost_none_has (λ a b. m.before (facts s a) (facts s b)) (deadlocked_ones m.limit T tree locks) e t)
      (deadlocked_among m.limit T tree locks t (here t d)))
  named_where_not (Some v) e t d = (v, names v e)

  pub right_victim : RightVictim m initial h s
  right_victim = record { none_exactly = (none_means_free, none_where_free (victim m s) refl); named = named_where_not (victim m s) refl }
    where
      none_means_free : respond m s BreakDeadlock ≡ (Ok (Victim None), s) → FreeOfDeadlock (account m.class initial h).tables
      none_means_free e t d =
          let n = named_where_not (victim m s) refl t d in
          cc (ap (λ (r : Response × State S). r.0) (sym n.1.reply ∙ e))
