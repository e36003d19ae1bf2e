-- What a checked making says.
use Rattle.std.specs.Prelude.{◌≡◌, Bool, true, false, Some, None, Option}
use Rattle.std.proofs.Math.Path.{refl}
use Rattle.std.proofs.Common.{ap, sym, ◌∙◌}
use Rattle.std.proofs.Math.Bool.{Bool-set}
use Rattle.std.proofs.lemmas.Bool.{both_ways}
use Rattle.kinds.specs.Rows.{passing, checked}

module _ {R S : Type 0} (test : R → Bool) (make : (r : R) → test r ≡ true → S) where
  passing_passes : (r : R) (b : Bool) (e : test r ≡ b) (k : test r ≡ true) → passing test make r b e ≡ Some (make r k)
  passing_passes r true e k = ap (λ (p : test r ≡ true). Some (make r p)) (Bool-set (test r) true e k)
  passing_passes r false e k = absurd (both_ways (test r) e k)

  -- what passes is made
  pub checked_passes : (r : R) (k : test r ≡ true) → checked test make r ≡ Some (make r k)
  unfolding checked
  checked_passes r k = passing_passes r (test r) refl k

  passing_fails : (r : R) (b : Bool) (e : test r ≡ b) → b ≡ false → passing test make r b e ≡ None
  passing_fails r true e k = absurd (both_ways true k refl)
  passing_fails r false e k = refl

  -- what fails is not made
  pub checked_fails : (r : R) → test r ≡ false → checked test make r ≡ None
  unfolding checked
  checked_fails r k = passing_fails r (test r) refl k

  passing_made : (r : R) (s : S) (b : Bool) (e : test r ≡ b) → passing test make r b e ≡ Some s → (k : test r ≡ true) × (make r k ≡ s)
  passing_made r s true e m = (e, cc)
  passing_made r s false e m = cc

  -- what is made has passed
  pub checked_made : (r : R) (s : S) → checked test make r ≡ Some s → (k : test r ≡ true) × (make r k ≡ s)
  unfolding checked
  checked_made r s m = passing_made r s (test r) refl m

-- rows that read back as their states tell states apart
pub rows_tell : {S R : Type 0} (row : S → R) (reads : R → Option S) → ((s : S) → reads (row s) ≡ Some s) → (s t : S) → row s ≡ row t → s ≡ t
rows_tell row reads own s t e = let both : Some s ≡ Some t = sym (own s) ∙ ap reads e ∙ own t in cc
