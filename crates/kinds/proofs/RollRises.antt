-- Keys rise where each entry leads to the next.
use Rattle.std.proofs.Common.{◌≡◌, ℕ, zero, suc, ◌+◌, ◌<◌, Bool, true, false, ◌&&◌, List, [], ◌∷◌, length, get_or, slice_get, Some, refl, sym, ap, subst, ◌∙◌, arith, Bor}
use Rattle.std.specs.Fn.{Called, ComputesOnPairs}
use Rattle.std.specs.List.{AllAdjacentBelow, IsAllAdjacentAnswer}
use Rattle.std.proofs.Math.Bool.{and-true, and-false}
use Rattle.std.proofs.lemmas.List.Sorted.{answers_always}
use denote.Param.Members.{Mut}
use Rattle.kinds.specs.declared.roll.entry.Entry.{Entry}
use Rattle.kinds.specs.RollRows.{suits, rising}
use Rattle.kinds.specs.Rolls.{entry}

-- where each entry leads to the next, the first decides
climbing : (low : ℕ) (e : Entry) (es : List Entry) → AllAdjacentBelow (λ x y. true ≡ suits (x.key + 1) y) (e ∷ es) (length (e ∷ es)) → rising low (e ∷ es) ≡ suits low e
climbing low e [] up = and-true (suits low e)
climbing low e (f ∷ es) up =
    let moved : (i : ℕ) → suc i + 1 ≡ suc (i + 1) = λ i. omega arith in
    let next = climbing (e.key + 1) f es (λ i d h. subst (λ (j : ℕ). true ≡ suits ((get_or (f ∷ es) i d).key + 1) (get_or (e ∷ f ∷ es) j d)) (moved i) (up (suc i) d (omega arith))) in
    let here : true ≡ suits (e.key + 1) f = up 0 (entry 0 0) (omega arith) in
    ap (λ (b : Bool). suits low e && b) (next ∙ sym here) ∙ and-true (suits low e)

-- where one does not, they do not rise
falling : (low : ℕ) (es : List Entry) (i : ℕ) → suc i < length es → suits ((get_or es i (entry 0 0)).key + 1) (get_or es (suc i) (entry 0 0)) ≡ false → rising low es ≡ false
falling low [] i h down = absurd (omega arith)
falling low (e ∷ []) i h down = absurd (omega arith)
falling low (e ∷ f ∷ es) zero h down = ap (λ (b : Bool). suits low e && (b && rising (f.key + 1) es)) down ∙ and-false (suits low e)
falling low (e ∷ f ∷ es) (suc i) h down = ap (λ (b : Bool). suits low e && b) (falling (e.key + 1) (f ∷ es) i (omega arith) down) ∙ and-false (suits low e)

-- what the test of neighbours tells, where the first entry is in range
climbs_or_not : (es : List Entry) (r : Bool) → ((e : Entry) → slice_get es 0 ≡ Some e → suits 0 e ≡ true) → IsAllAdjacentAnswer (λ x y b. b ≡ suits (x.key + 1) y) es r → r ≡ rising 0 es
climbs_or_not [] true first up = refl
climbs_or_not (e ∷ es) true first up = sym (climbing 0 e es up ∙ first e refl)
climbs_or_not es false first (i, h, down) =
    let moved : i + 1 ≡ suc i = omega arith in
    sym (falling 0 es i (omega arith) (sym (subst (λ (j : ℕ). false ≡ suits ((get_or es i (entry 0 0)).key + 1) (get_or es j (entry 0 0))) moved (down (entry 0 0)))))

-- the same by the clause of `is_sorted_by`, where each call tests two entries
pub rising_by : {F : Type 0} {g : Mut F (Bor Entry × (Bor Entry × Unit {0})) Bool} {f : F} (es : List Entry) (r : Bool) → ((e : Entry) → slice_get es 0 ≡ Some e → suits 0 e ≡ true) → ((e : Entry → Entry → Bool) → ComputesOnPairs g e f → IsAllAdjacentAnswer (λ x y b. b ≡ e x y) es r) → ((f : F) (a : Bor Entry × (Bor Entry × Unit {0})) (b : Bool) (f' : F) → Called g f a b f' → b ≡ suits (a.0.now.key + 1) a.1.0.now) → r ≡ rising 0 es
rising_by es r first clause leads = climbs_or_not es r first (clause (λ x y. suits (x.key + 1) y) (answers_always _ _ _ leads))
