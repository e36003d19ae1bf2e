-- The closure test decides whether a chain of steps leads from one number to another.
use Rattle.std.proofs.Common.{◌≡◌, ℕ, Bool, true, ◌&&◌, eqb, List, [], ◌∷◌, Decides, subst, inl, inr}
use Rattle.model.proofs.General.Finite.{has}
use Rattle.std.proofs.lemmas.Bool.{false≢true, and_parts, and_from, or_cases, or_left, or_right, eqb-true}
use Rattle.model.specs.Deadlocks.{Leads, reaches}

-- two chains make one
pub leads_on : {R : ℕ → ℕ → Type 0} {a b c : ℕ} → Leads R a b → Leads R b c → Leads R a c
leads_on (Leads.step r) q = Leads.then r q
leads_on (Leads.then r p) q = Leads.then r (leads_on p q)

module _ (E : ℕ → ℕ → Bool) where
  -- a chain through the rest of some numbers
  reaches_more : (k : ℕ) (ks : List ℕ) (a b : ℕ) → reaches E ks a b ≡ true → reaches E (k ∷ ks) a b ≡ true
  reaches_more k ks a b p = or_left (reaches E ks a b) (reaches E ks a k && reaches E ks k b) p

  -- one step is a chain, whatever lies in between
  reaches_step : (ks : List ℕ) (a b : ℕ) → E a b ≡ true → reaches E ks a b ≡ true
  reaches_step [] a b e = e
  reaches_step (k ∷ ks) a b e = reaches_more k ks a b (reaches_step ks a b e)

  -- a chain to the first of some numbers and one from it
  reaches_through : (k : ℕ) (ks : List ℕ) (a b : ℕ) → reaches E ks a k ≡ true → reaches E ks k b ≡ true → reaches E (k ∷ ks) a b ≡ true
  reaches_through k ks a b p q =
      or_right (reaches E ks a b) (reaches E ks a k && reaches E ks k b) (and_from (reaches E ks a k) (reaches E ks k b) p q)

  -- a chain to the first number needs to pass it only at its end, and a chain from it only at its start
  reaches_to_first : (k : ℕ) (ks : List ℕ) (a : ℕ) → reaches E (k ∷ ks) a k ≡ true → reaches E ks a k ≡ true
  reaches_to_first k ks a p =
      elim (or_cases (reaches E ks a k) (reaches E ks a k && reaches E ks k k) p) [
        | inl e ↦ e
        | inr e ↦ (and_parts (reaches E ks a k) (reaches E ks k k) e).0
      ]

  reaches_from_first : (k : ℕ) (ks : List ℕ) (b : ℕ) → reaches E (k ∷ ks) k b ≡ true → reaches E ks k b ≡ true
  reaches_from_first k ks b p =
      elim (or_cases (reaches E ks k b) (reaches E ks k k && reaches E ks k b) p) [
        | inl e ↦ e
        | inr e ↦ (and_parts (reaches E ks k k) (reaches E ks k b) e).1
      ]

  -- where chains through the rest join at m, so do chains through the first number too
  reaches_on_more : (k : ℕ) (ks : List ℕ) (a m b : ℕ) → ((x y : ℕ) → reaches E ks x m ≡ true → reaches E ks m y ≡ true → reaches E ks x y ≡ true) → reaches E (k ∷ ks) a m ≡ true → reaches E (k ∷ ks) m b ≡ true → reaches E (k ∷ ks) a b ≡ true
  reaches_on_more k ks a m b join p q =
      elim (or_cases (reaches E ks a m) (reaches E ks a k && reaches E ks k m) p) [
        | inl am ↦
            elim (or_cases (reaches E ks m b) (reaches E ks m k && reaches E ks k b) q) [
              | inl mb ↦ reaches_more k ks a b (join a b am mb)
              | inr mkb ↦
                  let (mk, kb) = and_parts (reaches E ks m k) (reaches E ks k b) mkb in
                  reaches_through k ks a b (join a k am mk) kb
            ]
        | inr akm ↦
            let (ak, km) = and_parts (reaches E ks a k) (reaches E ks k m) akm in
            elim (or_cases (reaches E ks m b) (reaches E ks m k && reaches E ks k b) q) [
              | inl mb ↦ reaches_through k ks a b ak (join k b km mb)
              | inr mkb ↦ reaches_through k ks a b ak (and_parts (reaches E ks m k) (reaches E ks k b) mkb).1
            ]
      ]

  -- chains join at each of the numbers
  reaches_on : (ks : List ℕ) (a m b : ℕ) → has m ks ≡ true → reaches E ks a m ≡ true → reaches E ks m b ≡ true → reaches E ks a b ≡ true
  reaches_on [] a m b h p q = absurd (false≢true h)
  reaches_on (k ∷ ks) a m b h p q =
      elim (or_cases (eqb m k) (has m ks) h) [
        | inl e ↦
            let same : m ≡ k = eqb-true m k e in
            reaches_through k ks a b
            (reaches_to_first k ks a (subst (λ (x : ℕ). reaches E (k ∷ ks) a x ≡ true) same p))
            (reaches_from_first k ks b (subst (λ (x : ℕ). reaches E (k ∷ ks) x b ≡ true) same q))
        | inr e ↦ reaches_on_more k ks a m b (λ x y. reaches_on ks x m y e) p q
      ]

module _ (E : ℕ → ℕ → Bool) (R : ℕ → ℕ → Type 0) (decides : (a b : ℕ) → Decides (E a b) (R a b)) where
  reaches_leads : (ks : List ℕ) (a b : ℕ) → reaches E ks a b ≡ true → Leads R a b
  reaches_leads [] a b e = Leads.step ((decides a b).0 e)
  reaches_leads (k ∷ ks) a b e =
      elim (or_cases (reaches E ks a b) (reaches E ks a k && reaches E ks k b) e) [
        | inl p ↦ reaches_leads ks a b p
        | inr p ↦
            let (ak, kb) = and_parts (reaches E ks a k) (reaches E ks k b) p in
            leads_on (reaches_leads ks a k ak) (reaches_leads ks k b kb)
      ]

  -- the numbers must hold every target of a step
  module _ (ks : List ℕ) (targets : (a b : ℕ) → R a b → has b ks ≡ true) where
    leads_reaches : {a b : ℕ} → Leads R a b → reaches E ks a b ≡ true
    leads_reaches (Leads.step {a = a} {b = b} r) = reaches_step E ks a b ((decides a b).1 r)
    leads_reaches (Leads.then {a = a} {b = b} {c = c} r p) =
        reaches_on E ks a b c (targets a b r) (reaches_step E ks a b ((decides a b).1 r)) (leads_reaches p)

    pub reaches_decides : (a b : ℕ) → Decides (reaches E ks a b) (Leads R a b)
    reaches_decides a b = (reaches_leads ks a b, λ p. leads_reaches p)
