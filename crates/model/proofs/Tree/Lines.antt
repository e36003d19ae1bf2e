-- What a tree of transactions says of lines and parents.
use Rattle.std.proofs.Common.{◌≡◌, ℕ, ◌<◌, true, false, eqb, sym, ◌∙◌, subst, inl, inr}
use Rattle.std.proofs.lemmas.Bool.{both_ways, or_cases, or_parts, or_right, eqb-true, ne_eqb}
use Rattle.model.specs.Numbers.{numbers}
use Rattle.model.specs.Tables.{Tables, is_open}
use Rattle.model.proofs.General.Finite.{has_numbers, has}
use Rattle.model.proofs.Tree.Invariants.{Tree}

module _ (limit : ℕ) (T : Tables) (tree : Tree limit T) where
  -- 0 is not open
  pub open_some : (t : ℕ) → is_open T t ≡ true → eqb 0 t ≡ false
  open_some t o = ne_eqb 0 t (λ e. both_ways _ (tree.root t) (subst (λ (k : ℕ). T.line k t ≡ true) (sym e) o))

  pub open_number : (u : ℕ) → is_open T u ≡ true → has u (numbers limit) ≡ true
  open_number u o = has_numbers limit u ∙ tree.in_range u o

  -- a parent other than 0 is open
  pub parent_is_open : (u : ℕ) → is_open T u ≡ true → eqb (T.parent u) 0 ≡ false → is_open T (T.parent u) ≡ true
  parent_is_open u o z =
      elim (or_cases (eqb (T.parent u) 0) (is_open T (T.parent u)) (tree.parent_open u o)) [
        | inl e ↦ absurd (both_ways (eqb (T.parent u) 0) z e)
        | inr e ↦ e
      ]

  -- an open parent is on the line
  pub parent_on_line : (u : ℕ) → is_open T u ≡ true → is_open T (T.parent u) ≡ true → T.line u (T.parent u) ≡ true
  parent_on_line u o p = tree.by_parent u (T.parent u) o ∙ or_right (eqb (T.parent u) u) (T.line (T.parent u) (T.parent u)) p

  -- and has a lower ordinal
  pub parent_earlier : (u : ℕ) → is_open T u ≡ true → is_open T (T.parent u) ≡ true → T.ordinal (T.parent u) < T.ordinal u
  parent_earlier u o p =
      tree.rising u (T.parent u) (parent_on_line u o p)
      (λ e. both_ways (T.line (T.parent u) u) (tree.parent_apart u o) (subst (λ (k : ℕ). T.line k u ≡ true) e o))

  -- an ancestor other than u is on the parent's line
  pub through_parent : (u v : ℕ) → T.line u v ≡ true → (u ≡ v → ⊥) → T.line (T.parent u) v ≡ true
  through_parent u v l ne =
      elim (or_cases _ _ (sym (tree.by_parent u v (tree.lower_open u v l)) ∙ l)) [
        | inl e ↦ absurd (ne (sym (eqb-true v u e)))
        | inr e ↦ e
      ]

  -- one who is not on u's line is not on the parent's
  pub off_parent : (u v : ℕ) → is_open T u ≡ true → T.line u v ≡ false → T.line (T.parent u) v ≡ false
  off_parent u v o l = (or_parts (eqb v u) (T.line (T.parent u) v) (sym (tree.by_parent u v o) ∙ l)).1
