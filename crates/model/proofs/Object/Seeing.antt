-- The state of an object that a set of transactions sees: that of the uppermost version with an owner in the set.
use Rattle.std.proofs.Common.{◌≡◌, ℕ, Bool, true, cond, List, [], ◌∷◌, refl, ap}
use Rattle.model.specs.Stores.{Version}

module _ {S : Type 0} where
  -- a property of each version
  abbrev pub Each : (Version S → Type 0) → List (Version S) → Type 0
  Each P [] = Unit {0}
  Each P (v ∷ vs) = P v × Each P vs

  pub each_map : (P Q : Version S → Type 0) → ((v : Version S) → P v → Q v) → (vs : List (Version S)) → Each P vs → Each Q vs
  each_map P Q f [] e = tt
  each_map P Q f (v ∷ vs) e = (f v e.0, each_map P Q f vs e.1)

  pub each_both : (P Q R : Version S → Type 0) → ((v : Version S) → P v → Q v → R v) → (vs : List (Version S)) → Each P vs → Each Q vs → Each R vs
  each_both P Q R f [] a b = tt
  each_both P Q R f (v ∷ vs) a b = (f v a.0 b.0, each_both P Q R f vs a.1 b.1)

  -- what a set sees
  abbrev pub seen : (ℕ → Bool) → S → List (Version S) → S
  seen l c [] = c
  seen l c (v ∷ vs) = cond (l v.owner) v.state (seen l c vs)

  -- sets that agree on the owners see the same
  pub seen_alike : (l k : ℕ → Bool) (c : S) (vs : List (Version S)) → Each (λ v. l v.owner ≡ k v.owner) vs → seen l c vs ≡ seen k c vs
  seen_alike l k c [] e = refl
  seen_alike l k c (v ∷ vs) e = rw e.0 (ap (λ (s : S). cond (k v.owner) v.state s) (seen_alike l k c vs e.1))

  pub seen_here : (l : ℕ → Bool) (c : S) (v : Version S) (vs : List (Version S)) → l v.owner ≡ true → seen l c (v ∷ vs) ≡ v.state
  seen_here l c v vs e = rw e
