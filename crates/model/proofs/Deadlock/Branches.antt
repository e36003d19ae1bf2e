-- The branch of a holder exists, and the tests of waits and of deadlock decide what they stand for.
use Rattle.std.proofs.Common.{◌≡◌, ℕ, zero, suc, ◌<◌, Bool, true, false, not, ◌&&◌, eqb, List, Some, None, Decides, Option, sym, ◌∙◌, subst, inl, inr, arith, filter}
use Rattle.std.specs.List.{list_any}
use Rattle.std.proofs.lemmas.Bool.{cases_Bool, both_ways, false≢true, not-true, not_from_false, and_parts, and_from, or_cases, eqb-true}
use Rattle.model.specs.declared.lock.Mode.{Mode}
use Rattle.model.specs.declared.lock.Wait.{Wait}
use Rattle.model.specs.Deadlocks.{Branch, WaitsFor, Leads, Deadlocked, against, conflicts, blocks, blocks_for, meets, waits_for, waiting, deadlocked}
use Rattle.model.specs.Numbers.{numbers}
use Rattle.model.specs.Tables.{Tables, is_open, waits}
use Rattle.model.proofs.General.Finite.{any_from, any_some, has_filter, has}
use Rattle.model.proofs.Tree.Granting.{against_holds}
use Rattle.model.proofs.Tree.Invariants.{Tree, Locks}
use Rattle.model.proofs.Tree.Lines.{open_number, parent_is_open, parent_on_line, parent_earlier}
use Rattle.model.proofs.Deadlock.Reaching.{reaches_decides}

module _ (limit : ℕ) (T : Tables) (tree : Tree limit T) where
  -- b is the branch if what is above it is on t's line
  branch_from : (t h b : ℕ) → T.line h b ≡ true → T.line t b ≡ false → ((c : ℕ) → T.line (T.parent b) c ≡ true → T.line t c ≡ true) → Branch T t h b
  branch_from t h b hb tb above = record { on_line = hb; outside = tb; highest = highest }
    where
      bb : is_open T b ≡ true
      bb = tree.upper_open h b hb

      below : (c : ℕ) → T.line t c ≡ false → T.line b c ≡ true → T.line c b ≡ true
      below c tc bc =
          elim (or_cases (eqb c b) (T.line (T.parent b) c) (sym (tree.by_parent b c bb) ∙ bc)) [
            | inl e ↦ subst (λ (x : ℕ). T.line x b ≡ true) (sym (eqb-true c b e)) bb
            | inr e ↦ absurd (both_ways (T.line t c) tc (above c e))
          ]

      highest : (c : ℕ) → T.line h c ≡ true → T.line t c ≡ false → T.line c b ≡ true
      highest c hc tc = elim (or_cases (T.line c b) (T.line b c) (tree.comparable h c b hc hb)) [ inl e ↦ e | inr e ↦ below c tc e ]

  -- from b upward to the branch; n bounds the ordinals on the way
  climb : (n t h b : ℕ) → T.ordinal b < n → T.line h b ≡ true → T.line t b ≡ false → (c : ℕ) × Branch T t h c
  climb zero t h b bound hb tb = absurd (omega arith)
  climb (suc n) t h b bound hb tb =
      elim (cases_Bool (eqb p 0)) [
        | inl top ↦ (
          b,
          branch_from t h b hb tb
              (λ c e. absurd (both_ways (T.line 0 c) (tree.root c) (subst (λ (x : ℕ). T.line x c ≡ true) (eqb-true p 0 top) e))),
        )
        | inr nonzero ↦
            let up : is_open T p ≡ true = parent_is_open limit T tree b bb nonzero in
            elim (cases_Bool (T.line t p)) [
              | inl tp ↦ (b, branch_from t h b hb tb (λ c e. tree.along t p c tp e))
              | inr tp ↦
                  climb n t h p (let rise = parent_earlier limit T tree b bb up in omega arith)
                  (tree.along h b p hb (parent_on_line limit T tree b bb up)) tp
            ]
      ]
    where
      p : ℕ
      p = T.parent b

      bb : is_open T b ≡ true
      bb = tree.upper_open h b hb

  pub branch_exists : (t h : ℕ) → T.line h h ≡ true → T.line t h ≡ false → (b : ℕ) × Branch T t h b
  branch_exists t h hh th = climb (suc (T.ordinal h)) t h h (omega arith) hh th

  -- where the lines of u and h meet outside that of t, the branch of h is on the line of u
  branch_above : (t u h c : ℕ) → T.line u c ≡ true → T.line h c ≡ true → T.line t c ≡ false → (b : ℕ) × Branch T t h b × (T.line u b ≡ true)
  branch_above t u h c uc hc tc =
      elim (cases_Bool (T.line t h)) [
        | inl th ↦ absurd (both_ways (T.line t c) tc (tree.along t h c th hc))
        | inr th ↦
            let (b, branch) = branch_exists t h (tree.lower_open h c hc) th in
            (b, branch, tree.along u c b uc (branch.highest c hc tc))
      ]

  -- the lines of u and h meet outside that of t exactly where the branch of h is on the line of u
  pub meets_decides : (t u h : ℕ) → Decides (meets limit T t u h) ((b : ℕ) × Branch T t h b × (T.line u b ≡ true))
  meets_decides t u h = (to_branch, from_branch)
    where
      apart : ℕ → Bool
      apart c = (T.line u c && T.line h c) && not (T.line t c)

      to_branch : meets limit T t u h ≡ true → (b : ℕ) × Branch T t h b × (T.line u b ≡ true)
      to_branch e =
          let (c, m, q) = any_some apart (numbers limit) e in
          let (both, tc) = and_parts (T.line u c && T.line h c) (not (T.line t c)) q in
          let (uc, hc) = and_parts (T.line u c) (T.line h c) both in
          branch_above t u h c uc hc (not-true (T.line t c) tc)

      from_branch : (b : ℕ) × Branch T t h b × (T.line u b ≡ true) → meets limit T t u h ≡ true
      from_branch (b, branch, ub) =
          any_from apart (numbers limit) b (open_number limit T tree b (tree.upper_open u b ub))
          (and_from (T.line u b && T.line h b) (not (T.line t b)) (and_from (T.line u b) (T.line h b) ub branch.on_line)
          (not_from_false (T.line t b) branch.outside))

  -- an open one that passes is among those kept
  kept : (p : ℕ → Bool) (u : ℕ) → is_open T u ≡ true → p u ≡ true → has u (filter p (numbers limit)) ≡ true
  kept p u o e = has_filter p (numbers limit) u ∙ and_from (has u (numbers limit)) (p u) (open_number limit T tree u o) e

  module _ (locks : Locks T) where
    pub conflicts_open : (t x : ℕ) (mode : Mode) (h : ℕ) → conflicts T t x mode h ≡ true → is_open T h ≡ true
    conflicts_open t x mode h e =
        locks.holder_open x h
        (against_holds mode (T.readers x h) (T.writers x h)
        (and_parts (against mode (T.readers x h) (T.writers x h)) (not (T.line t h)) e).0)

    -- a holder that blocks is open
    pub blocks_open : (t h : ℕ) → blocks T t h ≡ true → is_open T h ≡ true
    blocks_open t h = go (T.wait t)
      where
        go : (w : Option Wait) → blocks_for T t w h ≡ true → is_open T h ≡ true
        go None e = absurd (false≢true e)
        go (Some w) e = conflicts_open t w.object w.mode h e

    pub waits_for_decides : (t u : ℕ) → Decides (waits_for limit T t u) (WaitsFor T t u)
    waits_for_decides t u = (to_wait, from_wait)
      where
        blockers : List ℕ
        blockers = filter (blocks T t) (numbers limit)

        to_wait : waits_for limit T t u ≡ true → WaitsFor T t u
        to_wait e =
            let (too, some) = and_parts (waits T u) (list_any (meets limit T t u) blockers) e in
            let (h, m, q) = any_some (meets limit T t u) blockers some in
            let (b, branch, ub) = (meets_decides t u h).0 q in
            let blocked = (and_parts (has h (numbers limit)) (blocks T t h) (sym (has_filter (blocks T t) (numbers limit) h) ∙ m)).1 in
            record { holder = h; branch = b; blocked = blocked; the_branch = branch; at_or_below = ub; waits_too = too }

        from_wait : WaitsFor T t u → waits_for limit T t u ≡ true
        from_wait w =
            let h = w.holder in
            and_from (waits T u) (list_any (meets limit T t u) blockers) w.waits_too
            (any_from (meets limit T t u) blockers h (kept (blocks T t) h (blocks_open t h w.blocked) w.blocked)
            ((meets_decides t u h).1 (w.branch, w.the_branch, w.at_or_below)))

    pub deadlocked_decides : (t : ℕ) → Decides (deadlocked limit T t) (Deadlocked T t)
    deadlocked_decides t =
        reaches_decides (waits_for limit T) (WaitsFor T) waits_for_decides (waiting limit T)
        (λ a b w. kept (waits T) b (locks.waiter_open b w.waits_too) w.waits_too) t t

-- whoever a chain of waits leads to waits
leads_waits : (T : Tables) {t u : ℕ} → Leads (WaitsFor T) t u → waits T u ≡ true
leads_waits T (Leads.step w) = w.waits_too
leads_waits T (Leads.then w p) = leads_waits T p

pub deadlocked_waits : (T : Tables) (t : ℕ) → Deadlocked T t → waits T t ≡ true
deadlocked_waits T t chain = leads_waits T chain
