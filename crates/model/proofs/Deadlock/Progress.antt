-- Where something is open and nothing is deadlocked, some open transaction can go on.
use Rattle.std.proofs.Common.{◌≡◌, ℕ, suc, ◌<◌, true, false, not, ◌&&◌, eqb, leb, ◌⊎◌, is_some, Some, None, Option, sym, refl, ap, subst, inl, inr, arith}
use Rattle.std.proofs.lemmas.Bool.{cases_Bool, not-true, and_parts, eqb-true, leb-true}
use Rattle.model.specs.declared.lock.Wait.{Wait}
use Rattle.model.specs.Deadlocks.{Branch, WaitsFor, Leads, Deadlocked, against, conflicts, in_conflict, blocks}
use Rattle.model.specs.Checks.{has_child}
use Rattle.model.specs.Numbers.{numbers}
use Rattle.model.specs.Tables.{Tables, is_open, waits}
use Rattle.model.proofs.Deadlock.Branches.{branch_exists, conflicts_open}
use Rattle.model.proofs.General.Finite.{any_some}
use Rattle.model.proofs.Tree.Invariants.{Tree, Locks}
use Rattle.model.proofs.Tree.Lines.{parent_on_line, parent_earlier}
use Rattle.model.proofs.Deadlock.Reaching.{leads_on}
use Rattle.model.proofs.General.Walks.{walk}

-- u has neither an open child nor a wait, or its waiting step conflicts with no lock
abbrev pub Unblocked : ℕ → Tables → ℕ → Type 0
Unblocked limit T u =
    ((has_child limit T u ≡ false) × (waits T u ≡ false)) ⊎
    ((w : Wait) × (T.wait u ≡ Some w) × (in_conflict limit T u w.object w.mode ≡ false))

-- u's waiting step conflicts with a lock
record HeldUp (limit : ℕ) (T : Tables) (u : ℕ) : Type 0 where
  opened : is_open T u ≡ true
  wanted : Wait
  waiting : T.wait u ≡ Some wanted
  conflict : in_conflict limit T u wanted.object wanted.mode ≡ true

module _ (limit : ℕ) (T : Tables) (tree : Tree limit T) where
  open_below : (u : ℕ) → is_open T u ≡ true → u < suc limit
  open_below u e = omega (arith, leb-true u limit (and_parts (leb 1 u) (leb u limit) (tree.in_range u e)).1)

  -- a child of x is below it, and began later
  child_below : (x : ℕ) → is_open T x ≡ true → has_child limit T x ≡ true → (y : ℕ) × (T.line y x ≡ true) × (T.ordinal x < T.ordinal y)
  child_below x e some =
      let (y, m, q) = any_some (λ u. is_open T u && eqb (T.parent u) x) (numbers limit) some in
      let (open_y, child) = and_parts (is_open T y) (eqb (T.parent y) x) q in
      let same : T.parent y ≡ x = eqb-true (T.parent y) x child in
      let up : is_open T (T.parent y) ≡ true = subst (λ (z : ℕ). is_open T z ≡ true) (sym same) e in (
        y,
        subst (λ (z : ℕ). T.line y z ≡ true) same (parent_on_line limit T tree y open_y up),
        subst (λ (z : ℕ). T.ordinal z < T.ordinal y) same (parent_earlier limit T tree y open_y up),
      )

  -- t, or a descendant of it, has no open child
  pub leaf_below : (t : ℕ) → is_open T t ≡ true → (u : ℕ) × (T.line u t ≡ true) × (has_child limit T u ≡ false)
  leaf_below t e =
      walk Leaf (λ x y. T.ordinal x < T.ordinal y) (λ x y z p q. omega arith) (suc limit) (λ x. T.line x t ≡ true)
      (λ x p. open_below x (tree.lower_open x t p)) down (λ x p r. absurd (omega arith)) t e
    where
      Leaf : Type 0
      Leaf = (u : ℕ) × (T.line u t ≡ true) × (has_child limit T u ≡ false)

      down : (x : ℕ) → T.line x t ≡ true → Leaf ⊎ ((y : ℕ) × (T.line y t ≡ true) × (T.ordinal x < T.ordinal y))
      down x p =
          elim (cases_Bool (has_child limit T x)) [
            | inl some ↦
                let (y, yx, later) = child_below x (tree.lower_open x t p) some in
                inr (y, tree.along y x t yx p, later)
            | inr leaf ↦ inl (x, p, leaf)
          ]

  -- a leaf can go on, or is held up
  leaf_goes_on : (u : ℕ) → is_open T u ≡ true → has_child limit T u ≡ false → Unblocked limit T u ⊎ HeldUp limit T u
  leaf_goes_on u e leaf = go (T.wait u) refl
    where
      go : (o : Option Wait) → T.wait u ≡ o → Unblocked limit T u ⊎ HeldUp limit T u
      go None none_waits = inl (inl (leaf, ap is_some none_waits))
      go (Some w) so =
          elim (cases_Bool (in_conflict limit T u w.object w.mode)) [
            | inl c ↦ inr (record { opened = e; wanted = w; waiting = so; conflict = c })
            | inr c ↦ inl (inr (w, so, c))
          ]

  abbrev SomeoneGoesOn : Type 0
  SomeoneGoesOn = (u : ℕ) × (is_open T u ≡ true) × Unblocked limit T u

  -- a leaf below the branch of a holder that blocks x goes on, or x waits for it
  leaf_or_wait : (x h b u : ℕ) → blocks T x h ≡ true → Branch T x h b → T.line u b ≡ true → has_child limit T u ≡ false → SomeoneGoesOn ⊎ ((y : ℕ) × HeldUp limit T y × Leads (WaitsFor T) x y)
  leaf_or_wait x h b u blocked branch ub leaf =
      let open_u = tree.lower_open u b ub in
      elim (leaf_goes_on u open_u leaf) [
        | inl goes ↦ inl (u, open_u, goes)
        | inr held ↦
            inr (
              u,
              held,
              Leads.step
                  (record {
                    holder = h;
                    branch = b;
                    blocked = blocked;
                    the_branch = branch;
                    at_or_below = ub;
                    waits_too = ap is_some held.waiting;
                  }),
            )
      ]

  module _ (locks : Locks T) where
    -- whoever is held up waits for someone who is held up, unless someone goes on
    held_up_waits : (x : ℕ) → HeldUp limit T x → SomeoneGoesOn ⊎ ((y : ℕ) × HeldUp limit T y × Leads (WaitsFor T) x y)
    held_up_waits x held =
        let w = held.wanted in
        let (h, m, c) = any_some (conflicts T x w.object w.mode) (numbers limit) held.conflict in
        let outside = (and_parts (against w.mode (T.readers w.object h) (T.writers w.object h)) (not (T.line x h)) c).1 in
        let (b, branch) =
        branch_exists limit T tree x h (conflicts_open limit T tree locks x w.object w.mode h c) (not-true (T.line x h) outside) in
        let (u, ub, leaf) = leaf_below b (tree.upper_open h b branch.on_line) in
        leaf_or_wait x h b u (rw held.waiting c) branch ub leaf

    -- from the leaf below t along waits, each for a leaf: such a walk ends, for one that comes round is a deadlock
    pub progress_at : (t : ℕ) → is_open T t ≡ true → ((u : ℕ) → Deadlocked T u → ⊥) → (u : ℕ) × (is_open T u ≡ true) × Unblocked limit T u
    progress_at t e free =
        let (u, ut, leaf) = leaf_below t e in
        let open_u = tree.lower_open u t ut in
        elim (leaf_goes_on u open_u leaf) [
          | inl goes ↦ (u, open_u, goes)
          | inr held ↦
              walk SomeoneGoesOn (Leads (WaitsFor T)) (λ x y z p q. leads_on p q) (suc limit) (HeldUp limit T)
              (λ x p. open_below x p.opened) held_up_waits (λ x p chain. absurd (free x chain)) u held
        ]
