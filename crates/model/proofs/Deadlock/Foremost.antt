-- The foremost of some transactions, under an order on their facts, is one of them and goes before each other one.
use Rattle.std.proofs.Common.{◌≡◌, ℕ, Bool, true, false, cond, not, eqb, ◌⊎◌, List, [], ◌∷◌, Some, None, sym, refl, ap, ◌∙◌, subst, inl, inr, arith}
use Rattle.std.specs.List.{best_of}
use Rattle.model.proofs.General.Finite.{has}
use Rattle.std.proofs.lemmas.Bool.{cases_eq, cond_both, false≢true, not_from_false, or_cases, or_left, or_right, eqb-true, eq-eqb}
use Rattle.model.specs.declared.facts.Facts.{Facts}
use Rattle.model.specs.Policies.{Order, foremost}

-- a total order on numbers, as a test
record Ranks (first : ℕ → ℕ → Bool) : Type 0 where
  apart : (a b : ℕ) → (a ≡ b → ⊥) → first a b ≡ not (first b a)
  on : (a b c : ℕ) → first a b ≡ true → first b c ≡ true → first a c ≡ true

-- a is b, or goes before it
abbrev AtOrBefore : (ℕ → ℕ → Bool) → ℕ → ℕ → Type 0
AtOrBefore first a b = (a ≡ b) ⊎ (first a b ≡ true)

module _ (first : ℕ → ℕ → Bool) where
  -- the one of two that the search goes on with
  abbrev ahead : ℕ → ℕ → ℕ
  ahead t u = cond (first u t) u t

  has_best : (t : ℕ) (us : List ℕ) → has (best_of first t us) (t ∷ us) ≡ true
  has_best t [] = or_left (eqb t t) false (eq-eqb t t refl)
  has_best t (u ∷ us) =
      let v = best_of first (ahead t u) us in
      elim (or_cases (eqb v (ahead t u)) (has v us) (has_best (ahead t u) us)) [
        | inl e ↦
            cond_both (first u t) u t (λ x. v ≡ x → has v (t ∷ u ∷ us) ≡ true)
            (λ c same. or_right (eqb v t) (has v (u ∷ us)) (or_left (eqb v u) (has v us) (eq-eqb v u same)))
            (λ c same. or_left (eqb v t) (has v (u ∷ us)) (eq-eqb v t same))
            (eqb-true v (ahead t u) e)
        | inr e ↦ or_right (eqb v t) (has v (u ∷ us)) (or_right (eqb v u) (has v us) e)
      ]

  module _ (ranks : Ranks first) where
    at_or_before_on : (a b c : ℕ) → AtOrBefore first a b → AtOrBefore first b c → AtOrBefore first a c
    at_or_before_on a b c (inl p) q = subst (λ (x : ℕ). AtOrBefore first x c) (sym p) q
    at_or_before_on a b c (inr p) (inl q) = inr (subst (λ (x : ℕ). first a x ≡ true) q p)
    at_or_before_on a b c (inr p) (inr q) = inr (ranks.on a b c p q)

    ahead_old : (t u : ℕ) → AtOrBefore first (ahead t u) t
    ahead_old t u = cond_both (first u t) u t (λ x. AtOrBefore first x t) (λ e. inr e) (λ e. inl refl)

    ahead_new : (t u : ℕ) → AtOrBefore first (ahead t u) u
    ahead_new t u =
        cond_both (first u t) u t (λ x. AtOrBefore first x u) (λ e. inl refl)
        (λ e. elim (cases_eq t u) [ inl same ↦ inl same | inr apart ↦ inr (ranks.apart t u apart ∙ not_from_false (first u t) e) ])

    best_old : (t : ℕ) (us : List ℕ) → AtOrBefore first (best_of first t us) t
    best_old t [] = inl refl
    best_old t (u ∷ us) = at_or_before_on (best_of first (ahead t u) us) (ahead t u) t (best_old (ahead t u) us) (ahead_old t u)

    best_each : (t : ℕ) (us : List ℕ) (x : ℕ) → has x us ≡ true → AtOrBefore first (best_of first t us) x
    best_each t [] x m = absurd (false≢true m)
    best_each t (u ∷ us) x m =
        elim (or_cases (eqb x u) (has x us) m) [
          | inl e ↦
              at_or_before_on (best_of first (ahead t u) us) (ahead t u) x (best_old (ahead t u) us)
              (subst (λ (y : ℕ). AtOrBefore first (ahead t u) y) (sym (eqb-true x u e)) (ahead_new t u))
          | inr e ↦ best_each (ahead t u) us x e
        ]

    best_before : (t : ℕ) (us : List ℕ) (x : ℕ) → has x (t ∷ us) ≡ true → AtOrBefore first (best_of first t us) x
    best_before t us x m =
        elim (or_cases (eqb x t) (has x us) m) [
          | inl e ↦ subst (λ (y : ℕ). AtOrBefore first (best_of first t us) y) (sym (eqb-true x t e)) (best_old t us)
          | inr e ↦ best_each t us x e
        ]

-- there is no foremost one only of none
pub foremost_none : (first : ℕ → ℕ → Bool) (ts : List ℕ) → foremost first ts ≡ None → ts ≡ []
foremost_none first [] e = refl
foremost_none first (t ∷ ts) e = absurd (grind arith)

pub foremost_none_has : (first : ℕ → ℕ → Bool) (ts : List ℕ) → foremost first ts ≡ None → (u : ℕ) → has u ts ≡ false
foremost_none_has first ts e u = ap (has u) (foremost_none first ts e)

module _ (before : Facts → Facts → Bool) (order : Order before) (f : ℕ → Facts) (numbered : (t : ℕ) → (f t).number ≡ t) where
  abbrev by_facts : ℕ → ℕ → Bool
  by_facts t u = before (f t) (f u)

  -- different numbers have different facts
  ranks_by_facts : Ranks by_facts
  ranks_by_facts =
      record {
        apart =
            λ a b differ. order.decided (f a) (f b) (λ same. differ (sym (numbered a) ∙ ap (λ (g : Facts). g.number) same ∙ numbered b));
        on = λ a b c. order.chained (f a) (f b) (f c);
      }

  pub foremost_some : (ts : List ℕ) (v : ℕ) → foremost (λ t u. before (f t) (f u)) ts ≡ Some v → (has v ts ≡ true) × ((u : ℕ) → has u ts ≡ true → (u ≡ v → ⊥) → before (f v) (f u) ≡ true)
  foremost_some [] v e = absurd (grind arith)
  foremost_some (t ∷ ts) v e =
      let same : best_of by_facts t ts ≡ v = cc in (
        subst (λ (x : ℕ). has x (t ∷ ts) ≡ true) same (has_best by_facts t ts),
        λ u m differ.
            elim (subst (λ (x : ℕ). AtOrBefore by_facts x u) same (best_before by_facts ranks_by_facts t ts u m)) [
              | inl p ↦ absurd (differ (sym p))
              | inr p ↦ p
            ],
      )
