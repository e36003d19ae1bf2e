-- What a commit leaves of the locks and lines that an object's versions rest on.
use Rattle.std.proofs.Common.{◌≡◌, ℕ, Bool, true, false, cond, ◌&&◌, eqb, ltb, List, [], ◌∷◌, sym, refl, ◌∙◌, subst, inl, inr, arith}
use Rattle.std.proofs.lemmas.Bool.{cases_Bool, both_ways, or_cases, or_left, or_right, eqb-true, eqb-false, eq-eqb, ne_eqb}
use Rattle.std.proofs.lemmas.Bool.Decides.{nat_tests}
use Rattle.model.specs.Checks.{has_child}
use Rattle.model.specs.Stores.{Version, handed_on}
use Rattle.model.specs.Tables.{Tables, is_open, holds, handed, gained}
use Rattle.model.proofs.Tree.Handing.{alone_below}
use Rattle.model.proofs.Tree.Invariants.{Tree, Locks}
use Rattle.model.proofs.Tree.Lines.{through_parent}
use Rattle.model.proofs.Object.Invariant.{Stack, Beneath, stack_carried}
use Rattle.model.proofs.Object.Seeing.{Each, each_map, each_both}

module _ (limit : ℕ) (T : Tables) (tree : Tree limit T) (locks : Locks T) (t : ℕ) (o : is_open T t ≡ true) (leaf : has_child limit T t ≡ false) (x : ℕ) where
  abbrev p : ℕ
  p = T.parent t

  abbrev N : Tables
  N = handed t T

  pub not_self : eqb p t ≡ false
  not_self = ne_eqb p t (λ e. both_ways _ (tree.parent_apart t o) (subst (λ (k : ℕ). T.line k t ≡ true) (sym e) o))

  -- whoever is open after the commit is another that was open before
  pub was : (u : ℕ) → N.line u u ≡ true → (eqb u t ≡ false) × (is_open T u ≡ true)
  was u q = elim (cases_Bool (eqb u t)) [ inl e ↦ absurd (both_ways (N.line u u) (rw e) q) | inr e ↦ (e, rw e at q) ]

  -- a lock of another stays
  pub stays : (f : ℕ → Bool) (u : ℕ) → eqb u t ≡ false → f u ≡ true → cond (eqb u t) false (gained p t f u) ≡ true
  stays f u e h = rw e (or_left (f u) ((eqb u p && ltb 0 p) && f t) h)

  -- the parent gains a lock
  pub gains : (f : ℕ → Bool) → eqb p 0 ≡ false → f t ≡ true → cond (eqb p t) false (gained p t f p) ≡ true
  gains f z e =
      let ne = eqb-false p 0 z in
      let some : ltb 0 p ≡ true = grind (arith, nat_tests) in rw (not_self, eq-eqb p p refl, e, some) (or_right (f p) true refl)

  pub lock_stays : (u : ℕ) → eqb u t ≡ false → holds T x u ≡ true → holds N x u ≡ true
  lock_stays u e h =
      elim (or_cases (T.readers x u) (T.writers x u) h) [
        | inl r ↦ or_left (N.readers x u) (N.writers x u) (stays (T.readers x) u e r)
        | inr w ↦ or_right (N.readers x u) (N.writers x u) (stays (T.writers x) u e w)
      ]

  pub lock_gained : eqb p 0 ≡ false → holds T x t ≡ true → holds N x p ≡ true
  lock_gained z h =
      elim (or_cases (T.readers x t) (T.writers x t) h) [
        | inl r ↦ or_left (N.readers x p) (N.writers x p) (gains (T.readers x) z r)
        | inr w ↦ or_right (N.readers x p) (N.writers x p) (gains (T.writers x) z w)
      ]

  -- the line of another, and of its parent
  pub line_stays : (u v : ℕ) → eqb u t ≡ false → N.line u v ≡ T.line u v
  line_stays u v e = rw e

  -- owners other than t keep their locks and lines
  pub stack_stays : {S : Type 0} (vs : List (Version S)) → Each (λ v. eqb v.owner t ≡ false) vs → Stack T x vs → Stack N x vs
  stack_stays vs others k =
      stack_carried T N x (λ u. eqb u t ≡ false) (λ u e w. stays (T.writers x) u e w) (λ u v e l. line_stays u v e ∙ l) vs others k

  -- where a lock is beside t's write lock, its holder is an ancestor of t
  pub kin_is_above : (u : ℕ) → eqb u t ≡ false → T.writers x t ≡ true → holds T x u ≡ true → T.line p u ≡ true
  kin_is_above u e w h =
      elim (or_cases _ _ (locks.kin_only x t u w h)) [
        | inl l ↦ through_parent limit T tree t u l (λ k. eqb-false u t e (sym k))
        | inr l ↦ absurd (eqb-false u t e (alone_below limit T tree locks t o leaf u l))
      ]

  -- nobody else has t on its line
  pub off_line : (u : ℕ) → eqb u t ≡ false → T.line u t ≡ false
  off_line u e =
      elim (cases_Bool (T.line u t)) [ inl l ↦ absurd (eqb-false u t e (alone_below limit T tree locks t o leaf u l)) | inr l ↦ l ]

  -- owners beneath t's version are ancestors of its parent
  pub beneath_others : {S : Type 0} (v : Version S) (ws : List (Version S)) → v.owner ≡ t → Each (Beneath T v) ws → Each (λ w. (eqb w.owner t ≡ false) × (T.line p w.owner ≡ true)) ws
  beneath_others v ws e each =
      each_map (Beneath T v) (λ w. (eqb w.owner t ≡ false) × (T.line p w.owner ≡ true))
      (λ w b. (
        ne_eqb w.owner t (λ f. b.1 (e ∙ sym f)),
        through_parent limit T tree t w.owner (subst (λ (k : ℕ). T.line k w.owner ≡ true) e b.0) (λ f. b.1 (e ∙ f)),
      )) ws each

  -- where the uppermost version is another's, t owns none
  pub others_only : {S : Type 0} (v : Version S) (ws : List (Version S)) → eqb v.owner t ≡ false → Each (Beneath T v) ws → Each (λ w. eqb w.owner t ≡ false) ws
  others_only v ws e each =
      each_map (Beneath T v) (λ w. eqb w.owner t ≡ false)
      (λ w b. ne_eqb w.owner t (λ f. both_ways _ (off_line v.owner e) (subst (λ (k : ℕ). T.line v.owner k ≡ true) f b.0))) ws
      each

  -- the passed version lies on ancestors of its new owner
  pub stack_passed : {S : Type 0} (c : S) (v : Version S) → T.writers x t ≡ true → eqb p 0 ≡ false → (us : List (Version S)) → Each (λ w. eqb w.owner t ≡ false) us → Each (λ w. T.line p w.owner ≡ true) us → Stack T x us → Stack N x (handed_on p c v us).versions
  stack_passed {S} c v writes z [] far above k = rw z (gains (T.writers x) z writes, tt, tt)
  stack_passed {S} c v writes z (w ∷ us) far above k =
      elim (cases_Bool (eqb w.owner p)) [
        | inl g ↦ rw g (gains (T.writers x) z writes, merged (eqb-true w.owner p g), stack_stays us far.1 k.2)
        | inr g ↦
            rw g (
              gains (T.writers x) z writes,
              (
                (line_stays p w.owner not_self ∙ above.0, (λ e. eqb-false w.owner p g (sym e))),
                each_both (Beneath T w) (λ q. T.line p q.owner ≡ true) (λ q. (N.line p q.owner ≡ true) × (p ≡ q.owner → ⊥))
                    (λ q a b. (
                      line_stays p q.owner not_self ∙ b,
                      (λ e.
                          eqb-false w.owner p g
                          (tree.one_way w.owner p (subst (λ (j : ℕ). T.line w.owner j ≡ true) (sym e) a.0) above.0)),
                    )) us k.1 above.1,
              ),
              stack_stays (w ∷ us) far k,
            )
      ]
    where
      merged : w.owner ≡ p → Each (λ q. (N.line p q.owner ≡ true) × (p ≡ q.owner → ⊥)) us
      merged e =
          each_map (Beneath T w) (λ q. (N.line p q.owner ≡ true) × (p ≡ q.owner → ⊥))
          (λ q b. (line_stays p q.owner not_self ∙ subst (λ (j : ℕ). T.line j q.owner ≡ true) e b.0, (λ f. b.1 (e ∙ f)))) us
          k.1
