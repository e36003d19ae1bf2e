-- An answered step keeps what holds of an object.
use Rattle.std.proofs.Common.{◌≡◌, ℕ, Bool, true, false, eqb, [], ◌∷◌, ◌++◌, Option, sym, refl, ◌∙◌, subst, inl, inr}
use Rattle.std.proofs.lemmas.Bool.{cases_Bool, both_ways, or_cases, or_left, or_right, eqb-true}
use Rattle.model.specs.declared.lock.Wait.{Wait}
use Rattle.model.specs.Histories.{Done, Items, in_order, did}
use Rattle.model.specs.Model.{Setting}
use Rattle.model.specs.Numbers.{put}
use Rattle.model.specs.Stores.{Object, top}
use Rattle.model.specs.Tables.{Tables, is_open, holds, relocked}
use Rattle.model.proofs.Tree.Invariants.{Tree}
use Rattle.model.proofs.Tree.Lines.{open_some}
use Rattle.model.proofs.Object.Invariant.{SoundObject, stack_carried, each_owner}
use Rattle.model.proofs.Object.Runs.{Runs, on, runs_on, runs_elsewhere, runs_step, touches, touches_append}
use Rattle.model.proofs.Object.Seeing.{seen}

module _ {S : Type 0} (m : Setting S) (T : Tables) (items : ℕ → Items) (changes : ℕ → ℕ) (x : ℕ) (initial : S) (ob : Object S) (sound : SoundObject m T items changes x initial ob) where
  -- more locks and other waits do no harm
  pub object_relocked : (w : ℕ → Option Wait) (r s : ℕ → ℕ → Bool) → ((u : ℕ) → T.readers x u ≡ true → r x u ≡ true) → ((u : ℕ) → T.writers x u ≡ true → s x u ≡ true) → SoundObject m (relocked T w r s) items changes x initial ob
  object_relocked w r s more_r more_s =
      record {
        stack =
            stack_carried T (relocked T w r s) x (λ u. T.writers x u ≡ true) (λ u _ e. more_s u e) (λ u v _ l. l) ob.versions
            (each_owner T x (λ u. T.writers x u ≡ true) (λ u e. e) ob.versions sound.stack) sound.stack;
        alike = sound.alike;
        alike_committed = sound.alike_committed;
        values = sound.values;
        whole = sound.whole;
        locked = locked;
        counts = sound.counts;
      }
    where
      locked : (u : ℕ) → is_open T u ≡ true → touches x (in_order (items u)) ≡ true → holds (relocked T w r s) x u ≡ true
      locked u o h = elim (or_cases _ _ (sound.locked u o h)) [ inl e ↦ or_left _ _ (more_r u e) | inr e ↦ or_right _ _ (more_s u e) ]

  module _ (tree : Tree m.limit T) (t : ℕ) (o : is_open T t ≡ true) (d : Done) where
    -- one more step of t that leads from what t sees to what t sees
    noted : Runs m.acts x (d ∷ []) (seen (T.line t) ob.committed ob.versions) (seen (T.line t) ob.committed ob.versions) → (on x d ≡ true → holds T x t ≡ true) → SoundObject m T (put t (did (items t) d) items) changes x initial ob
    noted run lock =
        record {
          stack = sound.stack;
          alike = sound.alike;
          alike_committed = sound.alike_committed;
          values = values;
          whole = whole;
          locked = locked;
          counts = sound.counts;
        }
      where
        values : (u : ℕ) → is_open T u ≡ true → Runs m.acts x (in_order (put t (did (items t) d) items u)) (seen (T.line (T.parent u)) ob.committed ob.versions) (seen (T.line u) ob.committed ob.versions)
        values u p =
            elim (cases_Bool (eqb u t)) [
              | inl e ↦
                  rw e
                  (subst
                  (λ (k : ℕ).
                  Runs m.acts x (in_order (items t) ++ (d ∷ [])) (seen (T.line (T.parent k)) ob.committed ob.versions)
                  (seen (T.line k) ob.committed ob.versions)) (sym (eqb-true u t e))
                  (runs_on m.acts x (in_order (items t)) (d ∷ []) _ _ _ (sound.values t o) run))
              | inr e ↦ rw e (sound.values u p)
            ]

        whole : Runs m.acts x (in_order (put t (did (items t) d) items 0)) initial ob.committed
        whole = let e = open_some m.limit T tree t o in rw e sound.whole

        locked : (u : ℕ) → is_open T u ≡ true → touches x (in_order (put t (did (items t) d) items u)) ≡ true → holds T x u ≡ true
        locked u p =
            elim (cases_Bool (eqb u t)) [
              | inl e ↦ rw e (λ h. subst (λ (k : ℕ). holds T x k ≡ true) (sym (eqb-true u t e)) (mine h))
              | inr e ↦ rw e (sound.locked u p)
            ]
          where
            mine : touches x (in_order (items t) ++ (d ∷ [])) ≡ true → holds T x t ≡ true
            mine h =
                elim (or_cases _ _ (sym (touches_append x (in_order (items t)) (d ∷ [])) ∙ h)) [
                  | inl e ↦ sound.locked t o e
                  | inr e ↦ elim (or_cases (on x d) false e) [ inl f ↦ lock f | inr f ↦ absurd (both_ways false refl f) ]
                ]

    -- a step on another object
    pub object_elsewhere : on x d ≡ false → SoundObject m T (put t (did (items t) d) items) changes x initial ob
    object_elsewhere e = noted (runs_elsewhere m.acts x d _ e) (λ f. absurd (both_ways (on x d) e f))

    -- a read, answered from the top state
    pub object_read : on x d ≡ true → holds T x t ≡ true → top ob ≡ seen (T.line t) ob.committed ob.versions → (m.acts (top ob) d.asked.operation).answer ≡ d.answer → (m.acts (top ob) d.asked.operation).next ≡ top ob → SoundObject m T (put t (did (items t) d) items) changes x initial ob
    object_read h lock sees answer stays =
        noted
        (subst (λ (s : S). Runs m.acts x (d ∷ []) s s) sees
        (subst (λ (s : S). Runs m.acts x (d ∷ []) (top ob) s) stays (runs_step m.acts x d (top ob) h answer))) (λ _. lock)
