-- What a version's passing from a transaction to its parent does to one object.
use Rattle.std.proofs.Common.{◌≡◌, ℕ, ◌+◌, Bool, true, false, cond, eqb, List, [], ◌∷◌, sym, subst, inl, inr, arith}
use Rattle.std.proofs.lemmas.Bool.{cases_Bool, eqb-true}
use Rattle.std.proofs.lemmas.Bool.Decides.{nat_tests}
use Rattle.model.specs.Stores.{Version, owned, handed_on}
use Rattle.model.proofs.Object.Seeing.{Each, seen}

module _ {S : Type 0} (t p : ℕ) where
  -- a set with neither in it sees what it saw, unless a state was committed
  pub seen_unpassed : (l : ℕ → Bool) (c : S) (v : Version S) (vs : List (Version S)) → l v.owner ≡ false → l p ≡ false → eqb p 0 ≡ false → seen l (handed_on p c v vs).committed (handed_on p c v vs).versions ≡ seen l c (v ∷ vs)
  seen_unpassed l c v [] e f z = rw (z, f, e)
  seen_unpassed l c v (w ∷ vs) e f z =
      elim (cases_Bool (eqb w.owner p)) [
        | inl g ↦ let k = subst (λ (u : ℕ). l u ≡ false) (sym (eqb-true w.owner p g)) f in rw (g, f, e, k)
        | inr g ↦ rw (g, f, e)
      ]

  -- a set with the parent in it sees the passed state
  pub seen_passed : (l : ℕ → Bool) (c : S) (v : Version S) (vs : List (Version S)) → l p ≡ true → eqb p 0 ≡ false → seen l (handed_on p c v vs).committed (handed_on p c v vs).versions ≡ v.state
  seen_passed l c v [] f z = rw (z, f)
  seen_passed l c v (w ∷ vs) f z = elim (cases_Bool (eqb w.owner p)) [ inl g ↦ rw (g, f) | inr g ↦ rw (g, f) ]

  -- nothing is committed to a parent other than 0
  pub committed_stays : (c : S) (v : Version S) (vs : List (Version S)) → eqb p 0 ≡ false → (handed_on p c v vs).committed ≡ c
  committed_stays c v [] z = rw z
  committed_stays c v (w ∷ vs) z = elim (cases_Bool (eqb w.owner p)) [ inl g ↦ rw g | inr g ↦ rw g ]

  -- changes go from the one to the other
  pub owned_passed : (u : ℕ) (c : S) (v : Version S) (vs : List (Version S)) → eqb p 0 ≡ false → owned u (handed_on p c v vs).versions ≡ cond (eqb u p) v.count 0 + owned u vs
  owned_passed u c v [] z = rw z (grind (arith, nat_tests))
  owned_passed u c v (w ∷ vs) z =
      elim (cases_Bool (eqb w.owner p)) [
        | inl g ↦ rw (g, eqb-true w.owner p g) (grind (arith, nat_tests))
        | inr g ↦ rw g (grind (arith, nat_tests))
      ]

  -- each state stays among the states
  pub each_passed : (P : S → Type 0) (c : S) (v : Version S) (vs : List (Version S)) → P c → P v.state → Each (λ w. P w.state) vs → P (handed_on p c v vs).committed × Each (λ w. P w.state) (handed_on p c v vs).versions
  each_passed P c v [] k n e = elim (cases_Bool (eqb p 0)) [ inl z ↦ rw z (n, tt) | inr z ↦ rw z (k, (n, tt)) ]
  each_passed P c v (w ∷ vs) k n e = elim (cases_Bool (eqb w.owner p)) [ inl g ↦ rw g (k, (n, e.1)) | inr g ↦ rw g (k, (n, e)) ]
