-- A walk over numbers below a bound ends at its goal, if to come round is the goal too.
use Rattle.std.proofs.Common.{◌≡◌, ℕ, zero, suc, ◌<◌, ◌⊎◌, sym, ◌∙◌, subst, inl, inr, arith}
use Rattle.std.proofs.lemmas.Bool.{cases_eq}

-- the places of P without n
abbrev Except : ℕ → (ℕ → Type 0) → ℕ → Type 0
Except n P x = P x × (x ≡ n → ⊥)

module _ (G : Type 0) (R : ℕ → ℕ → Type 0) (on : (x y z : ℕ) → R x y → R y z → R x z) where
  -- the goal, or a next place of P
  abbrev Next : (ℕ → Type 0) → ℕ → Type 0
  Next P x = G ⊎ ((y : ℕ) × P y × R x y)

  -- whoever leads to n leads on to where n leads
  pass_over : (n : ℕ) (P : ℕ → Type 0) → ((x : ℕ) → P x → Next P x) → ((x : ℕ) → P x → R x x → G) → (x : ℕ) → P x → Next (Except n P) x
  pass_over n P next loop x p =
      elim (next x p) [
        | inl g ↦ inl g
        | inr (y, q, r) ↦ elim (cases_eq y n) [ inl at ↦ beyond y q r at | inr away ↦ inr (y, (q, away), r) ]
      ]
    where
      beyond : (y : ℕ) → P y → R x y → y ≡ n → Next (Except n P) x
      beyond y q r at =
          elim (next y q) [
            | inl g ↦ inl g
            | inr (z, s, t) ↦
                elim (cases_eq z n) [
                  | inl back ↦ inl (loop y q (subst (λ (w : ℕ). R y w) (back ∙ sym at) t))
                  | inr away ↦ inr (z, (s, away), on x y z r t)
                ]
          ]

  -- n bounds the places, `next` leads on from each, and `loop` turns a way back to one into the goal
  pub walk : (n : ℕ) (P : ℕ → Type 0) → ((x : ℕ) → P x → x < n) → ((x : ℕ) → P x → G ⊎ ((y : ℕ) × P y × R x y)) → ((x : ℕ) → P x → R x x → G) → (x : ℕ) → P x → G
  walk zero P below next loop x p = absurd (let h = below x p in omega arith)
  walk (suc n) P below next loop x p =
      elim (pass_over n P next loop x p) [
        | inl g ↦ g
        | inr (y, q, r) ↦
            walk n (Except n P) (λ z (s, away). let h = below z s in omega arith) (λ z (s, away). pass_over n P next loop z s)
            (λ z (s, away). loop z s) y q
      ]
