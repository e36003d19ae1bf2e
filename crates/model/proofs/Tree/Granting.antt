-- A granted lock and a recorded wait keep the tree and the locks.
use Rattle.std.proofs.Common.{◌≡◌, ℕ, Bool, true, false, ◌||◌, eqb, ◌⊎◌, is_some, None, Option, sym, subst, inl, inr}
use Rattle.std.proofs.lemmas.Bool.{cases_Bool, both_ways, or_cases, or_left, or_right, eqb-true, not-false, and_cases}
use Rattle.model.specs.declared.lock.Mode.{Mode}
use Rattle.model.specs.declared.lock.Mode.TheVariants.{Read, Write}
use Rattle.model.specs.declared.lock.Wait.{Wait}
use Rattle.model.specs.Deadlocks.{against, conflicts, in_conflict}
use Rattle.model.specs.Numbers.{numbers, put}
use Rattle.model.specs.Tables.{Tables, is_open, holds, waits, relocked, with_holder, granted, delayed}
use Rattle.model.proofs.General.Finite.{any_none}
use Rattle.model.proofs.Tree.Invariants.{Tree, Locks}
use Rattle.model.proofs.Tree.Lines.{open_number}

-- a lock that may conflict is a lock
pub against_holds : (mode : Mode) (r w : Bool) → against mode r w ≡ true → (r || w) ≡ true
against_holds Read r w e = or_right r w e
against_holds Write r w e = e

-- u's entry for y is new, or was there before
pub put_was : (x t : ℕ) (f : ℕ → ℕ → Bool) (y u : ℕ) → with_holder x t f y u ≡ true → ((y ≡ x) × (u ≡ t)) ⊎ (f y u ≡ true)
put_was x t f y u e =
    elim (cases_Bool (eqb y x)) [
      | inl g ↦
          elim (cases_Bool (eqb u t)) [
            | inl h ↦ inl (eqb-true y x g, eqb-true u t h)
            | inr h ↦ inr (subst (λ (k : ℕ). f k u ≡ true) (sym (eqb-true y x g)) (rw (g, h) at e))
          ]
      | inr g ↦ inr (rw g at e)
    ]

-- the tree does not see locks and waits
pub same_tree : (limit : ℕ) (T : Tables) (w : ℕ → Option Wait) (r s : ℕ → ℕ → Bool) → Tree limit T → Tree limit (relocked T w r s)
same_tree limit T w r s tree =
    record {
      root = tree.root;
      lower_open = tree.lower_open;
      upper_open = tree.upper_open;
      along = tree.along;
      one_way = tree.one_way;
      comparable = tree.comparable;
      by_parent = tree.by_parent;
      parent_open = tree.parent_open;
      parent_apart = tree.parent_apart;
      in_range = tree.in_range;
      rising = tree.rising;
      counted = tree.counted;
    }

module _ (limit : ℕ) (T : Tables) (tree : Tree limit T) (locks : Locks T) where
  -- where a step has no conflict, whoever holds a lock against it is on the line
  pub free_on_line : (t x : ℕ) (mode : Mode) (h : ℕ) → in_conflict limit T t x mode ≡ false → against mode (T.readers x h) (T.writers x h) ≡ true → T.line t h ≡ true
  free_on_line t x mode h e a =
      let o = locks.holder_open x h (against_holds mode _ _ a) in
      let n = any_none (conflicts T t x mode) (numbers limit) h e (open_number limit T tree h o) in
      elim (and_cases _ _ n) [ inl f ↦ absurd (both_ways _ f a) | inr f ↦ not-false _ f ]

  -- whoever still waits after t's wait has ended is open
  others_wait : (t u : ℕ) → is_some (put t None T.wait u) ≡ true → is_open T u ≡ true
  others_wait t u e =
      elim (cases_Bool (eqb u t)) [
        | inl g ↦ absurd (both_ways (is_some (put t None T.wait u)) (rw g) e)
        | inr g ↦ locks.waiter_open u (rw g at e)
      ]

  -- t's lock on x is new, every writer of x is on its line, and every holder of x if t writes
  module _ (t x : ℕ) (o : is_open T t ≡ true) (r s : ℕ → ℕ → Bool) (reader : (y u : ℕ) → r y u ≡ true → ((y ≡ x) × (u ≡ t)) ⊎ (T.readers y u ≡ true)) (writer : (y u : ℕ) → s y u ≡ true → (((y ≡ x) × (u ≡ t)) × ((v : ℕ) → holds T x v ≡ true → T.line t v ≡ true)) ⊎ (T.writers y u ≡ true)) (above : (v : ℕ) → T.writers x v ≡ true → T.line t v ≡ true) where
    holder : (y u : ℕ) → (r y u || s y u) ≡ true → ((y ≡ x) × (u ≡ t)) ⊎ (holds T y u ≡ true)
    holder y u h =
        elim (or_cases (r y u) (s y u) h) [
          | inl a ↦ elim (reader y u a) [ inl e ↦ inl e | inr e ↦ inr (or_left (T.readers y u) (T.writers y u) e) ]
          | inr a ↦ elim (writer y u a) [ inl e ↦ inl e.0 | inr e ↦ inr (or_right (T.readers y u) (T.writers y u) e) ]
        ]

    kin_only : (y w u : ℕ) → s y w ≡ true → (r y u || s y u) ≡ true → (T.line w u || T.line u w) ≡ true
    kin_only y w u a h =
        elim (writer y w a) [
          | inl e ↦
              or_left (T.line w u) (T.line u w)
              (subst (λ (k : ℕ). T.line k u ≡ true) (sym e.0.1)
              (elim (holder y u h) [
                | inl f ↦ subst (λ (k : ℕ). T.line t k ≡ true) (sym f.1) o
                | inr f ↦ e.1 u (subst (λ (k : ℕ). holds T k u ≡ true) e.0.0 f)
              ]))
          | inr e ↦
              elim (holder y u h) [
                | inl f ↦
                    or_right (T.line w u) (T.line u w)
                    (subst (λ (k : ℕ). T.line k w ≡ true) (sym f.1) (above w (subst (λ (k : ℕ). T.writers k w ≡ true) f.0 e)))
                | inr f ↦ locks.kin_only y w u e f
              ]
        ]

    one_more_lock : Locks (relocked T (put t None T.wait) r s)
    one_more_lock =
        record {
          holder_open =
              λ y u h.
              elim (holder y u h) [ inl e ↦ subst (λ (k : ℕ). T.line k k ≡ true) (sym e.1) o | inr e ↦ locks.holder_open y u e ];
          waiter_open = others_wait t;
          kin_only = kin_only;
        }

  pub granted_read_locks : (t x : ℕ) → is_open T t ≡ true → in_conflict limit T t x Read ≡ false → Locks (granted Read t x T)
  granted_read_locks t x o free =
      one_more_lock t x o (with_holder x t T.readers) T.writers (put_was x t T.readers) (λ y u e. inr e)
      (λ v e. free_on_line t x Read v free e)

  pub granted_write_locks : (t x : ℕ) → is_open T t ≡ true → in_conflict limit T t x Write ≡ false → Locks (granted Write t x T)
  granted_write_locks t x o free =
      one_more_lock t x o T.readers (with_holder x t T.writers) (λ y u e. inr e)
      (λ y u e. elim (put_was x t T.writers y u e) [ inl f ↦ inl (f, on_line) | inr f ↦ inr f ])
      (λ v e. on_line v (or_right (T.readers x v) (T.writers x v) e))
    where
      on_line : (v : ℕ) → holds T x v ≡ true → T.line t v ≡ true
      on_line v h = free_on_line t x Write v free h

  pub delayed_locks : (mode : Mode) (t x : ℕ) → is_open T t ≡ true → Locks (delayed mode t x T)
  delayed_locks mode t x o = record { holder_open = locks.holder_open; waiter_open = waiter_open; kin_only = locks.kin_only }
    where
      waiter_open : (u : ℕ) → waits (delayed mode t x T) u ≡ true → T.line u u ≡ true
      waiter_open u e =
          elim (cases_Bool (eqb u t)) [
            | inl g ↦ subst (λ (k : ℕ). T.line k k ≡ true) (sym (eqb-true u t g)) o
            | inr g ↦ locks.waiter_open u (rw g at e)
          ]
