-- A set of transactions that holds every descendant of its members can be taken out of the tables, and the tree stays a tree.
use Rattle.std.proofs.Common.{◌≡◌, ℕ, ◌<◌, ◌≤◌, Bool, true, false, cond, ◌||◌, eqb, None, sym, refl, ap, ◌∙◌, inl, inr}
use Rattle.std.proofs.lemmas.Bool.{cases_Bool, both_ways, or_cases, or_left, or_right, eqb-true}
use Rattle.model.specs.Checks.{numbered}
use Rattle.model.specs.Tables.{Tables, is_open, holds, waits}
use Rattle.model.proofs.Tree.Invariants.{Tree, Locks}
use Rattle.model.proofs.Tree.Lines.{parent_on_line}

-- the tables without those that are gone
abbrev pub removed : (ℕ → Bool) → Tables → Tables
removed gone T =
    record {
      parent = λ u. cond (gone u) 0 (T.parent u);
      line = λ u. cond (gone u) (λ v. false) (T.line u);
      ordinal = λ u. cond (gone u) 0 (T.ordinal u);
      wait = λ u. cond (gone u) None (T.wait u);
      readers = λ x u. cond (gone u) false (T.readers x u);
      writers = λ x u. cond (gone u) false (T.writers x u);
      begins = T.begins;
    }

-- a test that holds of what is left held before, and of one that is not gone
pub left_true : (b x : Bool) → cond b false x ≡ true → (b ≡ false) × (x ≡ true)
left_true true x e = absurd (both_ways false refl e)
left_true false x e = (refl, e)

-- its line is what it was, where it is not gone
pub line_left : (gone : ℕ → Bool) (T : Tables) (u v : ℕ) → gone u ≡ false → (removed gone T).line u v ≡ T.line u v
line_left gone T u v e = rw e

-- whoever is left on a line is not gone, nor was the line made for this
pub line_was : (gone : ℕ → Bool) (T : Tables) (u v : ℕ) → (removed gone T).line u v ≡ true → (gone u ≡ false) × (T.line u v ≡ true)
line_was gone T u v e =
    elim (cases_Bool (gone u)) [
      | inl g ↦ absurd (both_ways ((removed gone T).line u v) (rw g) e)
      | inr g ↦ (g, sym (line_left gone T u v g) ∙ e)
    ]

-- each descendant of one that is gone is gone too
abbrev pub Downward : (ℕ → Bool) → Tables → Type 0
Downward gone T = (u v : ℕ) → T.line u v ≡ true → gone v ≡ true → gone u ≡ true

module _ (limit : ℕ) (T : Tables) (tree : Tree limit T) (gone : ℕ → Bool) (down : Downward gone T) where
  -- the ancestors of one that is left are left
  pub upper_left : (u v : ℕ) → gone u ≡ false → T.line u v ≡ true → gone v ≡ false
  upper_left u v g l = elim (cases_Bool (gone v)) [ inl e ↦ absurd (both_ways (gone u) g (down u v l e)) | inr e ↦ e ]

  -- the line of a parent stays, where the child is left
  pub parent_line_left : (u v : ℕ) → is_open T u ≡ true → gone u ≡ false → (removed gone T).line (T.parent u) v ≡ T.line (T.parent u) v
  parent_line_left u v o g =
      elim (or_cases _ _ (tree.parent_open u o)) [
        | inl z ↦ at_root (eqb-true _ 0 z)
        | inr p ↦ line_left gone T (T.parent u) v (upper_left u (T.parent u) g (parent_on_line limit T tree u o p))
      ]
    where
      none_at_root : (removed gone T).line 0 v ≡ false
      none_at_root = elim (cases_Bool (gone 0)) [ inl e ↦ rw e | inr e ↦ line_left gone T 0 v e ∙ tree.root v ]

      at_root : T.parent u ≡ 0 → (removed gone T).line (T.parent u) v ≡ T.line (T.parent u) v
      at_root e = rw e (none_at_root ∙ sym (tree.root v))

  pub removed_tree : Tree limit (removed gone T)
  removed_tree =
      record {
        root = root;
        lower_open = lower_open;
        upper_open = upper_open;
        along = along;
        one_way = one_way;
        comparable = comparable;
        by_parent = by_parent;
        parent_open = parent_open;
        parent_apart = parent_apart;
        in_range = in_range;
        rising = rising;
        counted = counted;
      }
    where
      R : Tables
      R = removed gone T

      was : (u v : ℕ) → R.line u v ≡ true → (gone u ≡ false) × (T.line u v ≡ true)
      was = line_was gone T

      here : (u v : ℕ) → gone u ≡ false → T.line u v ≡ true → R.line u v ≡ true
      here u v g l = line_left gone T u v g ∙ l

      root : (v : ℕ) → R.line 0 v ≡ false
      root v = elim (cases_Bool (gone 0)) [ inl e ↦ rw e | inr e ↦ line_left gone T 0 v e ∙ tree.root v ]

      lower_open : (u v : ℕ) → R.line u v ≡ true → R.line u u ≡ true
      lower_open u v a = let w = was u v a in here u u w.0 (tree.lower_open u v w.1)

      upper_open : (u v : ℕ) → R.line u v ≡ true → R.line v v ≡ true
      upper_open u v a = let w = was u v a in here v v (upper_left u v w.0 w.1) (tree.upper_open u v w.1)

      along : (u v w : ℕ) → R.line u v ≡ true → R.line v w ≡ true → R.line u w ≡ true
      along u v w a b = let p = was u v a in here u w p.0 (tree.along u v w p.1 (was v w b).1)

      one_way : (u v : ℕ) → R.line u v ≡ true → R.line v u ≡ true → u ≡ v
      one_way u v a b = tree.one_way u v (was u v a).1 (was v u b).1

      comparable : (u v w : ℕ) → R.line u v ≡ true → R.line u w ≡ true → (R.line v w || R.line w v) ≡ true
      comparable u v w a b =
          let p = was u v a in
          let q = was u w b in
          ap₂_or (line_left gone T v w (upper_left u v p.0 p.1)) (line_left gone T w v (upper_left u w q.0 q.1))
          ∙ tree.comparable u v w p.1 q.1
        where
          ap₂_or : {a b c d : Bool} → a ≡ b → c ≡ d → (a || c) ≡ (b || d)
          ap₂_or e f = cc

      by_parent : (u v : ℕ) → R.line u u ≡ true → R.line u v ≡ (eqb v u || R.line (R.parent u) v)
      by_parent u v a =
          let w = was u u a in
          let g = w.0 in rw g (tree.by_parent u v w.1 ∙ ap (λ b. eqb v u || b) (sym (parent_line_left u v w.1 g)))

      parent_open : (u : ℕ) → R.line u u ≡ true → (eqb (R.parent u) 0 || R.line (R.parent u) (R.parent u)) ≡ true
      parent_open u a =
          let w = was u u a in
          let g = w.0 in rw g (ap (λ b. eqb (T.parent u) 0 || b) (parent_line_left u (T.parent u) w.1 g) ∙ tree.parent_open u w.1)

      parent_apart : (u : ℕ) → R.line u u ≡ true → R.line (R.parent u) u ≡ false
      parent_apart u a = let w = was u u a in let g = w.0 in rw g (parent_line_left u u w.1 g ∙ tree.parent_apart u w.1)

      in_range : (u : ℕ) → R.line u u ≡ true → numbered limit u ≡ true
      in_range u a = tree.in_range u (was u u a).1

      rising : (u v : ℕ) → R.line u v ≡ true → (u ≡ v → ⊥) → R.ordinal v < R.ordinal u
      rising u v a ne = let w = was u v a in let g = w.0 in let h = upper_left u v g w.1 in rw (g, h) (tree.rising u v w.1 ne)

      counted : (u : ℕ) → R.line u u ≡ true → R.ordinal u ≤ R.begins
      counted u a = let w = was u u a in let g = w.0 in rw g (tree.counted u w.1)

  -- whoever holds a lock or waits after a removal did so before
  pub holds_was : (x u : ℕ) → holds (removed gone T) x u ≡ true → (gone u ≡ false) × (holds T x u ≡ true)
  holds_was x u h =
      elim (or_cases _ _ h) [
        | inl r ↦ let w = left_true (gone u) (T.readers x u) r in (w.0, or_left _ _ w.1)
        | inr r ↦ let w = left_true (gone u) (T.writers x u) r in (w.0, or_right _ _ w.1)
      ]

  pub removed_locks : Locks T → Locks (removed gone T)
  removed_locks locks = record { holder_open = holder_open; waiter_open = waiter_open; kin_only = kin_only }
    where
      R : Tables
      R = removed gone T

      holder_open : (x u : ℕ) → holds R x u ≡ true → R.line u u ≡ true
      holder_open x u h = let w = holds_was x u h in line_left gone T u u w.0 ∙ locks.holder_open x u w.1

      waiter_open : (u : ℕ) → waits R u ≡ true → R.line u u ≡ true
      waiter_open u e =
          elim (cases_Bool (gone u)) [
            | inl g ↦ absurd (both_ways (waits R u) (rw g) e)
            | inr g ↦ line_left gone T u u g ∙ locks.waiter_open u (rw g at e)
          ]

      kin_only : (x w u : ℕ) → R.writers x w ≡ true → holds R x u ≡ true → (R.line w u || R.line u w) ≡ true
      kin_only x w u a h =
          let p = left_true (gone w) (T.writers x w) a in
          let q = holds_was x u h in
          let e = line_left gone T w u p.0 in
          let f = line_left gone T u w q.0 in
          rw (e, f) (locks.kin_only x w u p.1 q.1)
