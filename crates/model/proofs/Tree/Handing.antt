-- A commit keeps the tree and the locks: a transaction without open children ends, and its locks go to its parent.
use Rattle.std.proofs.Common.{◌≡◌, ℕ, zero, suc, ◌<◌, Bool, true, false, ◌&&◌, ◌||◌, eqb, ltb, ◌⊎◌, sym, ◌∙◌, subst, inl, inr, arith}
use Rattle.std.proofs.Math.Bool.{or_comm}
use Rattle.std.proofs.lemmas.Bool.{cases_Bool, both_ways, or_cases, or_left, or_right, and_parts, and_cases, eqb-true, eqb-false, eq-eqb, ltb-true, cases_eq}
use Rattle.model.specs.Checks.{has_child}
use Rattle.model.specs.Numbers.{numbers}
use Rattle.model.specs.Tables.{Tables, is_open, holds, waits, gained, handed}
use Rattle.model.proofs.General.Finite.{any_none}
use Rattle.model.proofs.Tree.Granting.{same_tree}
use Rattle.model.proofs.Tree.Invariants.{Tree, Locks}
use Rattle.model.proofs.Tree.Lines.{open_number, through_parent, parent_earlier}
use Rattle.model.proofs.Tree.Removals.{left_true, removed_tree, Downward}

module _ (limit : ℕ) (T : Tables) (tree : Tree limit T) (locks : Locks T) (t : ℕ) (o : is_open T t ≡ true) (leaf : has_child limit T t ≡ false) where
  -- no open transaction has t for its parent
  pub not_a_parent : (u : ℕ) → is_open T u ≡ true → eqb (T.parent u) t ≡ false
  not_a_parent u p =
      elim (and_cases _ _ (any_none (λ v. is_open T v && eqb (T.parent v) t) (numbers limit) u leaf (open_number limit T tree u p))) [
        | inl e ↦ absurd (both_ways _ e p)
        | inr e ↦ e
      ]

  -- nobody else has t on its line
  pub alone_below : (u : ℕ) → T.line u t ≡ true → u ≡ t
  alone_below u l = below (suc (T.ordinal u)) u l (omega arith)
    where
      below : (n u : ℕ) → T.line u t ≡ true → T.ordinal u < n → u ≡ t
      below zero u l h = absurd (omega arith)
      below (suc n) u l h = elim (cases_eq u t) [ inl e ↦ e | inr ne ↦ further ne (below n) ]
        where
          further : (u ≡ t → ⊥) → ((u : ℕ) → T.line u t ≡ true → T.ordinal u < n → u ≡ t) → u ≡ t
          further ne ih =
              let k = through_parent limit T tree u t l ne in
              let p = tree.lower_open u t l in
              let lower = parent_earlier limit T tree u p (tree.lower_open (T.parent u) t k) in
              absurd (eqb-false _ t (not_a_parent u p) (ih (T.parent u) k (omega arith)))

  alone : Downward (λ u. eqb u t) T
  alone u v l e = eq-eqb u t (alone_below u (subst (λ (k : ℕ). T.line u k ≡ true) (eqb-true v t e) l))

  pub handed_tree : Tree limit (handed t T)
  handed_tree = removed_tree limit _ (same_tree limit T T.wait _ _ tree) (λ u. eqb u t) alone

  -- who has a lock after the parent has gained t's
  gained_from : (f : ℕ → Bool) (u : ℕ) → gained (T.parent t) t f u ≡ true → (f u ≡ true) ⊎ ((u ≡ T.parent t) × (is_open T u ≡ true) × (f t ≡ true))
  gained_from f u e = elim (or_cases _ _ e) [ inl a ↦ inl a | inr a ↦ inr (new a) ]
    where
      new : ((eqb u (T.parent t) && ltb 0 (T.parent t)) && f t) ≡ true → (u ≡ T.parent t) × (is_open T u ≡ true) × (f t ≡ true)
      new a =
          let p = and_parts _ _ a in
          let q = and_parts _ _ p.0 in
          let same = eqb-true u (T.parent t) q.0 in (
            same,
            subst (λ (k : ℕ). is_open T k ≡ true) (sym same)
                (elim (or_cases _ _ (tree.parent_open t o)) [
                  | inl z ↦ absurd (let z0 = eqb-true (T.parent t) 0 z in let lt = ltb-true 0 (T.parent t) q.1 in omega arith)
                  | inr g ↦ g
                ]),
            p.1,
          )

  -- a lock after a commit
  holder_was : (x u : ℕ) → holds (handed t T) x u ≡ true → (eqb u t ≡ false) × ((holds T x u ≡ true) ⊎ ((u ≡ T.parent t) × (is_open T u ≡ true) × (holds T x t ≡ true)))
  holder_was x u h =
      elim (or_cases _ _ h) [
        | inl r ↦ let w = left_true (eqb u t) _ r in (w.0, reads (gained_from (T.readers x) u w.1))
        | inr r ↦ let w = left_true (eqb u t) _ r in (w.0, writes (gained_from (T.writers x) u w.1))
      ]
    where
      reads : (T.readers x u ≡ true) ⊎ ((u ≡ T.parent t) × (is_open T u ≡ true) × (T.readers x t ≡ true)) → (holds T x u ≡ true) ⊎ ((u ≡ T.parent t) × (is_open T u ≡ true) × (holds T x t ≡ true))
      reads (inl a) = inl (or_left _ _ a)
      reads (inr a) = inr (a.0, a.1, or_left _ _ a.2)

      writes : (T.writers x u ≡ true) ⊎ ((u ≡ T.parent t) × (is_open T u ≡ true) × (T.writers x t ≡ true)) → (holds T x u ≡ true) ⊎ ((u ≡ T.parent t) × (is_open T u ≡ true) × (holds T x t ≡ true))
      writes (inl a) = inl (or_right (T.readers x u) _ a)
      writes (inr a) = inr (a.0, a.1, or_right (T.readers x t) _ a.2)

  -- kin of t, other than t, is on the parent's line
  kin_above : (u : ℕ) → eqb u t ≡ false → (T.line t u || T.line u t) ≡ true → T.line (T.parent t) u ≡ true
  kin_above u ne k =
      elim (or_cases _ _ k) [
        | inl l ↦ through_parent limit T tree t u l (λ e. eqb-false u t ne (sym e))
        | inr l ↦ absurd (eqb-false u t ne (alone_below u l))
      ]

  kin_after : (x w u : ℕ) → eqb w t ≡ false → eqb u t ≡ false → (T.writers x w ≡ true) ⊎ ((w ≡ T.parent t) × (is_open T w ≡ true) × (T.writers x t ≡ true)) → (holds T x u ≡ true) ⊎ ((u ≡ T.parent t) × (is_open T u ≡ true) × (holds T x t ≡ true)) → (T.line w u || T.line u w) ≡ true
  kin_after x w u nw nu (inl a) (inl h) = locks.kin_only x w u a h
  kin_after x w u nw nu (inl a) (inr h) =
      or_right _ _
      (subst (λ (k : ℕ). T.line k w ≡ true) (sym h.0)
      (kin_above w nw (or_comm (T.line t w) (T.line w t) ∙ locks.kin_only x w t a h.2)))
  kin_after x w u nw nu (inr a) (inl h) =
      or_left _ _ (subst (λ (k : ℕ). T.line k u ≡ true) (sym a.0) (kin_above u nu (locks.kin_only x t u a.2 h)))
  kin_after x w u nw nu (inr a) (inr h) = or_left _ _ (subst (λ (k : ℕ). T.line w k ≡ true) (a.0 ∙ sym h.0) a.1)

  pub handed_locks : Locks (handed t T)
  handed_locks = record { holder_open = holder_open; waiter_open = waiter_open; kin_only = kin_only }
    where
      line_stays : (u v : ℕ) → eqb u t ≡ false → (handed t T).line u v ≡ T.line u v
      line_stays u v e = rw e

      holder_open : (x u : ℕ) → holds (handed t T) x u ≡ true → (handed t T).line u u ≡ true
      holder_open x u h =
          let w = holder_was x u h in line_stays u u w.0 ∙ elim w.1 [ inl a ↦ locks.holder_open x u a | inr a ↦ a.1 ]

      waiter_open : (u : ℕ) → waits (handed t T) u ≡ true → (handed t T).line u u ≡ true
      waiter_open u e =
          elim (cases_Bool (eqb u t)) [
            | inl g ↦ absurd (both_ways (waits (handed t T) u) (rw g) e)
            | inr g ↦ line_stays u u g ∙ locks.waiter_open u (rw g at e)
          ]

      kin_only : (x w u : ℕ) → (handed t T).writers x w ≡ true → holds (handed t T) x u ≡ true → ((handed t T).line w u || (handed t T).line u w) ≡ true
      kin_only x w u a h =
          let p = left_true (eqb w t) _ a in
          let q = holder_was x u h in
          let e = line_stays w u p.0 in
          let f = line_stays u w q.0 in
          rw (e, f) (kin_after x w u p.0 q.0 (gained_from (T.writers x) w p.1) q.1)
