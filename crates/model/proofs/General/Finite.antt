-- What is among a list of numbers: what some item passes, what is kept, and what lies in 1 to n.
use Rattle.std.proofs.Common.{◌≡◌, ℕ, zero, suc, ◌+◌, Bool, true, false, cond, ◌&&◌, ◌||◌, eqb, ltb, leb, List, [], ◌∷◌, ◌++◌, sym, refl, ◌∙◌, subst, ap₂, inl, inr, arith, filter}
use Rattle.std.specs.List.{list_any, range_with_len}
use Rattle.std.proofs.lemmas.List.Folds.{list_any-append}
use mathlib.Core.Bool.{and-true, and-false, and-or_distrib_right}
use Rattle.std.proofs.lemmas.Bool.{cases_Bool, both_ways, false≢true, or_cases, or_left, or_right, eqb-true, eq-eqb}
use Rattle.std.proofs.lemmas.Bool.Decides.{nat_tests}
use Rattle.model.specs.Numbers.{numbers}
use Rattle.model.specs.Checks.{numbered}

-- u is among some numbers
abbrev pub has : ℕ → List ℕ → Bool
has u us = list_any (eqb u) us

-- an item that passes makes some item pass
pub any_from : (p : ℕ → Bool) (us : List ℕ) (u : ℕ) → has u us ≡ true → p u ≡ true → list_any p us ≡ true
any_from p [] u m h = absurd (false≢true m)
any_from p (x ∷ xs) u m h =
    elim (or_cases (eqb u x) (has u xs) m) [
      | inl e ↦ or_left (p x) (list_any p xs) (subst (λ y. p y ≡ true) (eqb-true u x e) h)
      | inr e ↦ or_right (p x) (list_any p xs) (any_from p xs u e h)
    ]

-- where some item passes, there is one
pub any_some : (p : ℕ → Bool) (us : List ℕ) → list_any p us ≡ true → (u : ℕ) × (has u us ≡ true) × (p u ≡ true)
any_some p [] h = absurd (false≢true h)
any_some p (x ∷ xs) h =
    elim (or_cases (p x) (list_any p xs) h) [
      | inl e ↦ (x, or_left (eqb x x) (has x xs) (eq-eqb x x refl), e)
      | inr e ↦ let (u, m, q) = any_some p xs e in (u, or_right (eqb u x) (has u xs) m, q)
    ]

-- where no item passes, a given one does not
pub any_none : (p : ℕ → Bool) (us : List ℕ) (u : ℕ) → list_any p us ≡ false → has u us ≡ true → p u ≡ false
any_none p us u h m =
    elim (cases_Bool (p u)) [
      | inl e ↦ absurd (both_ways (list_any p us) h (any_from p us u m e))
      | inr e ↦ e
    ]

has_chosen : (b : Bool) (x : ℕ) (xs : List ℕ) (u : ℕ) → has u (cond b (x ∷ xs) xs) ≡ (eqb u x && b || has u xs)
has_chosen true x xs u = rw (and-true (eqb u x)) refl
has_chosen false x xs u = rw (and-false (eqb u x)) refl

-- a test of equal numbers, beside a test that they are equal
eqb_and : (p : ℕ → Bool) (u x : ℕ) → (eqb u x && p x) ≡ (eqb u x && p u)
eqb_and p u x = elim (cases_Bool (eqb u x)) [ inl e ↦ rw (eqb-true u x e) refl | inr e ↦ rw e refl ]

-- what is kept is what was there and passes
pub has_filter : (p : ℕ → Bool) (us : List ℕ) (u : ℕ) → has u (filter p us) ≡ (has u us && p u)
has_filter p [] u = refl
has_filter p (x ∷ xs) u =
    has_chosen (p x) x (filter p xs) u
    ∙ ap₂ ◌||◌ (eqb_and p u x) (has_filter p xs u)
    ∙ sym (and-or_distrib_right (eqb u x) (has u xs) (p u))

pub has_append : (u : ℕ) (us vs : List ℕ) → has u (us ++ vs) ≡ (has u us || has u vs)
has_append u = list_any-append (eqb u)

-- among n numbers from k on are those from k to below k + n
has_range : (n k u : ℕ) → has u (range_with_len k n) ≡ (leb k u && ltb u (k + n))
has_range zero k u = grind (arith, nat_tests)
has_range (suc n) k u = rw (has_range n (k + 1) u) (grind (arith, nat_tests))

pub has_numbers : (n u : ℕ) → has u (numbers n) ≡ numbered n u
has_numbers n u = rw (has_range n 1 u) (grind (arith, nat_tests))
