-- Numbers by their values.
use Rattle.std.specs.Prelude.{◌≡◌, ℕ, true, false, Some, None, Option, nat_le, nat_lt}
use Rattle.std.specs.Option.{option_zip}
use Rattle.std.proofs.Common.{ap, sym, ◌∙◌, ⊎_elim}
use Rattle.std.proofs.lemmas.Bool.{and_parts, cases_Bool}
use Rattle.kinds.specs.declared.number.value.Number.{Number}
use Rattle.kinds.specs.declared.operation.Operation.{Operation}
use Rattle.kinds.specs.Operations.{limit, ranged, fits}
use Rattle.kinds.specs.Numbers.{number_at, numbers}
use Rattle.kinds.specs.Laws.Checks.{checked_passes, checked_fails, checked_made}

-- a number is the one made of its value
pub number_own : (n : Number) → number_at n.value ≡ Some n
number_own n = checked_passes ranged (λ v e. record { value = v; in_range = e }) n.value n.in_range

-- the number made of a value has that value
pub number_value : (n : Number) (v : ℕ) → number_at v ≡ Some n → n.value ≡ v
number_value n v m =
    ap (λ (k : Number). k.value) (sym (checked_made ranged (λ v e. record { value = v; in_range = e }) v n m).1)

-- no number is made of a value above the largest
pub above_largest : (v : ℕ) → ranged v ≡ false → number_at v ≡ None
above_largest v e = checked_fails ranged (λ v e. record { value = v; in_range = e }) v e

-- where none is made, the value is above the largest
pub no_number : (v : ℕ) → None ≡ number_at v → ranged v ≡ true → ⊥
no_number v e h =
    let both : ◌≡◌ {A = Option Number} None (Some (record { value = v; in_range = h })) = e ∙ checked_passes ranged (λ v e. record { value = v; in_range = e }) v h in
    cc

pub unranged : (v : ℕ) → None ≡ number_at v → ranged v ≡ false
unranged v e = ⊎_elim (λ t. absurd (no_number v e t)) (λ f. f) (cases_Bool (ranged v))

-- numbers that fit an operation are its two numbers
pub numbers_fit : (count : ℕ) (o : Operation) (first : ranged o.first ≡ true) (second : ranged o.second ≡ true) → fits count o ≡ true → numbers count o ≡ Some (record { value = o.first; in_range = first }, record { value = o.second; in_range = second })
numbers_fit count o first second e =
    let both = ap (λ (p : Option Number). option_zip p (number_at o.second)) (number_own (record { value = o.first; in_range = first })) in
    let pair = ap (λ (q : Option Number). option_zip (Some (record { value = o.first; in_range = first })) q) (number_own (record { value = o.second; in_range = second })) in
    rw e (both ∙ pair)

-- each number that fits is at most its limit: the largest, or 0 where it is unused
module _ (count : ℕ) (o : Operation) (e : fits count o ≡ true) where
  pub fits_first : nat_le o.first (limit (nat_lt 0 count)) ≡ true
  fits_first = (and_parts _ _ e).0

  pub fits_second : nat_le o.second (limit (nat_lt 1 count)) ≡ true
  fits_second = (and_parts _ _ e).1
