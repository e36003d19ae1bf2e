-- A key stands where the first entry does that is not smaller.
use Rattle.std.proofs.Common.{◌≡◌, ℕ, ◌<◌, ◌≤◌, true, List, length, get_or, Ok, Err, Option, MatchOption, refl, sym, ap, ◌∙◌, arith}
use Rattle.std.specs.Option.{unwrap_or}
use Rattle.std.specs.List.{AllWithin, HoldsAt}
use Rattle.std.proofs.lemmas.Iterator.{index_from_first}
use Rattle.std.proofs.lemmas.Bool.{lt-ltb, le-ltb}
use Rattle.kinds.specs.declared.roll.entry.Entry.{Entry}
use Rattle.kinds.specs.RollRows.{rising}
use Rattle.kinds.specs.RollPlaces.{smaller, place_of}
use Rattle.kinds.specs.Rolls.{entry}
use Rattle.kinds.specs.Laws.Rising.{key_found, absent_at}

-- the key at a place
abbrev pub key_at : List Entry → ℕ → ℕ
key_at es i = (get_or es i (entry 0 0)).key

-- the first entry whose key is not smaller than k, or else the end, is k's place
pub first_not_smaller : (k : ℕ) (es : List Entry) (r : Option ℕ) → MatchOption r (AllWithin (λ (e : Entry). e.key < k) es 0 (length es)) (λ i. (i < length es) × HoldsAt (λ (e : Entry). k ≤ e.key) es i × AllWithin (λ (e : Entry). e.key < k) es 0 i) → unwrap_or r (length es) ≡ smaller k es
first_not_smaller k es r first =
    sym (index_from_first (smaller k) (λ (e : Entry). k ≤ e.key) (λ (e : Entry). e.key < k) refl (λ e es h. rw (le-ltb e.key k h) refl) (λ e es h. rw (lt-ltb e.key k h) (omega arith)) es r first)

module _ (es : List Entry) (rises : rising 0 es ≡ true) (k at : ℕ) (place : at ≡ smaller k es) where
  -- k stands at its place where that has its key
  pub stands : (e : Entry) → at < length es → e ≡ get_or es at e → e.key ≡ k → Ok at ≡ place_of k es
  stands e within here same =
      let some = key_found 0 k es e rises (omega (arith, place)) (ap (λ (i : ℕ). (get_or es i e).key) (sym place) ∙ sym (ap (λ (x : Entry). x.key) here) ∙ same) in
      rw some (ap (λ i. Ok i) place)

  -- and nowhere where it has another key, or is the end
  pub stands_nowhere : (at < length es → key_at es at ≡ k → ⊥) → Err at ≡ place_of k es
  stands_nowhere other =
      let none = absent_at 0 k es (entry 0 0) rises (λ lt same. other (omega (arith, place)) (ap (key_at es) place ∙ same)) in
      rw none (ap (λ i. Err i) place)
