-- A begin keeps the tree and the locks.
use Rattle.std.proofs.Common.{◌≡◌, ℕ, ◌<◌, ◌≤◌, true, false, ◌||◌, eqb, sym, refl, ◌∙◌, subst, inl, inr, arith}
use Rattle.std.proofs.lemmas.Bool.{cases_Bool, both_ways, or_cases, or_left, or_right, eqb-true, eqb-false, eq-eqb, ne_eqb}
use Rattle.model.specs.Checks.{numbered}
use Rattle.model.specs.Tables.{Tables, is_open, holds, waits, opened}
use Rattle.model.proofs.Tree.Invariants.{Tree, Locks}

-- one that is not open is on no line, and has none
module _ (limit : ℕ) (T : Tables) (tree : Tree limit T) (t : ℕ) (shut : is_open T t ≡ false) where
  pub shut_on_no_line : (u : ℕ) → T.line u t ≡ false
  shut_on_no_line u = elim (cases_Bool (T.line u t)) [ inl e ↦ absurd (both_ways _ shut (tree.upper_open u t e)) | inr e ↦ e ]

  pub open_is_other : (u : ℕ) → is_open T u ≡ true → eqb u t ≡ false
  open_is_other u o = ne_eqb u t (λ e. both_ways _ shut (subst (λ (k : ℕ). is_open T k ≡ true) e o))

module _ (limit : ℕ) (T : Tables) (tree : Tree limit T) (t p : ℕ) (ranged : numbered limit t ≡ true) (some : eqb 0 t ≡ false) (shut : is_open T t ≡ false) (under : (eqb p 0 || is_open T p) ≡ true) where
  -- the parent is another
  pub parent_is_other : (q : ℕ) → (eqb q 0 || is_open T q) ≡ true → eqb q t ≡ false
  parent_is_other q e =
      elim (or_cases _ _ e) [
        | inl z ↦ subst (λ (k : ℕ). eqb k t ≡ false) (sym (eqb-true q 0 z)) some
        | inr o ↦ open_is_other limit T tree t shut q o
      ]

  -- what is on a line after a begin
  data View (u v : ℕ) : Type 0 where
    itself : u ≡ t → v ≡ t → View u v
    above : u ≡ t → eqb v t ≡ false → T.line p v ≡ true → View u v
    as_before : eqb u t ≡ false → eqb v t ≡ false → T.line u v ≡ true → View u v

  line_new : (v : ℕ) → (opened t p T).line t v ≡ (eqb v t || T.line p v)
  line_new v = rw (eq-eqb t t refl)

  line_old : (u v : ℕ) → eqb u t ≡ false → (opened t p T).line u v ≡ T.line u v
  line_old u v e = rw e

  other_on_line : (u v : ℕ) → T.line u v ≡ true → eqb v t ≡ false
  other_on_line u v l = open_is_other limit T tree t shut v (tree.upper_open u v l)

  view : (u v : ℕ) → (opened t p T).line u v ≡ true → View u v
  view u v l =
      elim (cases_Bool (eqb u t)) [
        | inl e ↦ new (eqb-true u t e)
        | inr e ↦ let k = sym (line_old u v e) ∙ l in as_before e (other_on_line u v k) k
      ]
    where
      new : u ≡ t → View u v
      new e =
          let k : (opened t p T).line t v ≡ true = subst (λ (a : ℕ). (opened t p T).line a v ≡ true) e l in
          elim (or_cases _ _ (sym (line_new v) ∙ k)) [ inl f ↦ itself e (eqb-true v t f) | inr f ↦ above e (other_on_line p v f) f ]

  self_line : (opened t p T).line t t ≡ true
  self_line = line_new t ∙ or_left _ _ (eq-eqb t t refl)

  at_new : (u v : ℕ) → u ≡ t → (opened t p T).line t v ≡ true → (opened t p T).line u v ≡ true
  at_new u v e l = subst (λ (a : ℕ). (opened t p T).line a v ≡ true) (sym e) l

  up_line : (v : ℕ) → T.line p v ≡ true → (opened t p T).line t v ≡ true
  up_line v l = line_new v ∙ or_right _ _ l

  old_line : (u v : ℕ) → eqb u t ≡ false → T.line u v ≡ true → (opened t p T).line u v ≡ true
  old_line u v e l = line_old u v e ∙ l

  clash : {X : Type 0} (u : ℕ) → u ≡ t → eqb u t ≡ false → X
  clash u e f = absurd (eqb-false u t f e)

  pub opened_tree : Tree limit (opened t p T)
  opened_tree =
      record {
        root = root;
        lower_open = λ u v l. lower u v (view u v l);
        upper_open = λ u v l. upper u v (view u v l);
        along = λ u v w a b. along u v w (view u v a) b;
        one_way = λ u v a b. one_way u v (view u v a) (view v u b);
        comparable = λ u v w a b. comparable u v w (view u v a) (view u w b) a b;
        by_parent = by_parent;
        parent_open = parent_open;
        parent_apart = parent_apart;
        in_range = in_range;
        rising = λ u v a. rising u v (view u v a);
        counted = counted;
      }
    where
      N : Tables
      N = opened t p T

      root : (v : ℕ) → N.line 0 v ≡ false
      root v = line_old 0 v some ∙ tree.root v

      lower : (u v : ℕ) → View u v → N.line u u ≡ true
      lower u v (itself e f) = subst (λ (a : ℕ). N.line a a ≡ true) (sym e) self_line
      lower u v (above e f l) = subst (λ (a : ℕ). N.line a a ≡ true) (sym e) self_line
      lower u v (as_before e f l) = old_line u u e (tree.lower_open u v l)

      upper : (u v : ℕ) → View u v → N.line v v ≡ true
      upper u v (itself e f) = subst (λ (a : ℕ). N.line a a ≡ true) (sym f) self_line
      upper u v (above e f l) = old_line v v f (tree.upper_open p v l)
      upper u v (as_before e f l) = old_line v v f (tree.upper_open u v l)

      along : (u v w : ℕ) → View u v → N.line v w ≡ true → N.line u w ≡ true
      along u v w (itself e f) b = subst (λ (a : ℕ). N.line a w ≡ true) (f ∙ sym e) b
      along u v w (above e f l) b = at_new u w e (up_line w (tree.along p v w l (sym (line_old v w f) ∙ b)))
      along u v w (as_before e f l) b = old_line u w e (tree.along u v w l (sym (line_old v w f) ∙ b))

      one_way : (u v : ℕ) → View u v → View v u → u ≡ v
      one_way u v (itself e f) k = e ∙ sym f
      one_way u v (above e f l) (itself g h) = clash v g f
      one_way u v (above e f l) (above g h k) = clash v g f
      one_way u v (above e f l) (as_before g h k) = clash u e h
      one_way u v (as_before e f l) (itself g h) = clash v g f
      one_way u v (as_before e f l) (above g h k) = clash v g f
      one_way u v (as_before e f l) (as_before g h k) = tree.one_way u v l k

      both_old : (v w : ℕ) → eqb v t ≡ false → eqb w t ≡ false → (T.line v w || T.line w v) ≡ true → (N.line v w || N.line w v) ≡ true
      both_old v w e f h = let a = line_old v w e in let b = line_old w v f in rw (a, b) h

      comparable : (u v w : ℕ) → View u v → View u w → N.line u v ≡ true → N.line u w ≡ true → (N.line v w || N.line w v) ≡ true
      comparable u v w (itself e f) k a b = or_left _ _ (subst (λ (c : ℕ). N.line c w ≡ true) (e ∙ sym f) b)
      comparable u v w (above e f l) (itself g h) a b = or_right _ _ (subst (λ (c : ℕ). N.line c v ≡ true) (g ∙ sym h) a)
      comparable u v w (above e f l) (above g h k) a b = both_old v w f h (tree.comparable p v w l k)
      comparable u v w (above e f l) (as_before g h k) a b = clash u e g
      comparable u v w (as_before e f l) (itself g h) a b = clash u g e
      comparable u v w (as_before e f l) (above g h k) a b = clash u g e
      comparable u v w (as_before e f l) (as_before g h k) a b = both_old v w f h (tree.comparable u v w l k)

      under_is_other : eqb p t ≡ false
      under_is_other = parent_is_other p under

      was_open : (u : ℕ) → eqb u t ≡ false → N.line u u ≡ true → is_open T u ≡ true
      was_open u e o = sym (line_old u u e) ∙ o

      above_is_other : (u : ℕ) → eqb u t ≡ false → N.line u u ≡ true → eqb (T.parent u) t ≡ false
      above_is_other u e o = parent_is_other (T.parent u) (tree.parent_open u (was_open u e o))

      by_parent : (u v : ℕ) → N.line u u ≡ true → N.line u v ≡ (eqb v u || N.line (N.parent u) v)
      by_parent u v o =
          elim (cases_Bool (eqb u t)) [
            | inl e ↦ new (eqb-true u t e)
            | inr e ↦ let g = above_is_other u e o in rw (e, g) (tree.by_parent u v (was_open u e o))
          ]
        where
          new : u ≡ t → N.line u v ≡ (eqb v u || N.line (N.parent u) v)
          new e = rw e (rw (eq-eqb t t refl, under_is_other))

      parent_open : (u : ℕ) → N.line u u ≡ true → (eqb (N.parent u) 0 || N.line (N.parent u) (N.parent u)) ≡ true
      parent_open u o =
          elim (cases_Bool (eqb u t)) [
            | inl e ↦ rw (e, under_is_other) under
            | inr e ↦ let g = above_is_other u e o in rw (e, g) (tree.parent_open u (was_open u e o))
          ]

      parent_apart : (u : ℕ) → N.line u u ≡ true → N.line (N.parent u) u ≡ false
      parent_apart u o =
          elim (cases_Bool (eqb u t)) [
            | inl e ↦
                rw (e, under_is_other)
                (subst (λ (k : ℕ). T.line p k ≡ false) (sym (eqb-true u t e)) (shut_on_no_line limit T tree t shut p))
            | inr e ↦ let g = above_is_other u e o in rw (e, g) (tree.parent_apart u (was_open u e o))
          ]

      in_range : (u : ℕ) → N.line u u ≡ true → numbered limit u ≡ true
      in_range u o =
          elim (cases_Bool (eqb u t)) [
            | inl e ↦ subst (λ (k : ℕ). numbered limit k ≡ true) (sym (eqb-true u t e)) ranged
            | inr e ↦ tree.in_range u (was_open u e o)
          ]

      rising : (u v : ℕ) → View u v → (u ≡ v → ⊥) → N.ordinal v < N.ordinal u
      rising u v (itself e f) ne = absurd (ne (e ∙ sym f))
      rising u v (above e f l) ne = let g = eq-eqb u t e in let c = tree.counted v (tree.upper_open p v l) in rw (f, g) (omega arith)
      rising u v (as_before e f l) ne = rw (e, f) (tree.rising u v l ne)

      counted : (u : ℕ) → N.line u u ≡ true → N.ordinal u ≤ N.begins
      counted u o =
          elim (cases_Bool (eqb u t)) [
            | inl e ↦ rw e (omega arith)
            | inr e ↦ let c = tree.counted u (was_open u e o) in rw e (omega arith)
          ]

  pub opened_locks : Locks T → Locks (opened t p T)
  opened_locks locks = record { holder_open = holder_open; waiter_open = waiter_open; kin_only = kin_only }
    where
      other : (x u : ℕ) → holds T x u ≡ true → eqb u t ≡ false
      other x u h = open_is_other limit T tree t shut u (locks.holder_open x u h)

      holder_open : (x u : ℕ) → holds T x u ≡ true → (opened t p T).line u u ≡ true
      holder_open x u h = old_line u u (other x u h) (locks.holder_open x u h)

      waiter_open : (u : ℕ) → waits (opened t p T) u ≡ true → (opened t p T).line u u ≡ true
      waiter_open u e =
          elim (cases_Bool (eqb u t)) [
            | inl g ↦ absurd (both_ways (waits (opened t p T) u) (rw g) e)
            | inr g ↦ old_line u u g (locks.waiter_open u (rw g at e))
          ]

      kin_only : (x w u : ℕ) → T.writers x w ≡ true → holds T x u ≡ true → ((opened t p T).line w u || (opened t p T).line u w) ≡ true
      kin_only x w u a h =
          let e = line_old w u (other x w (or_right (T.readers x w) _ a)) in
          let f = line_old u w (other x u h) in
          rw (e, f) (locks.kin_only x w u a h)
