-- Entries with rising keys: where a key stands, and what putting it in, setting it and taking it out leave.
use Rattle.std.specs.Prelude.{◌≡◌, ℕ, ◌+◌, ◌<◌, ◌≤◌, true, false, cond, ◌&&◌, ltb, List, [], ◌∷◌, length, get_or, Some, None, ◌==◌, ◌≢◌, nat_eq, nat_le, nat_lt, slice_index_or, slice_set, refl}
use Rattle.std.proofs.Common.{ap, sym, ⊎_elim, arith}
use Rattle.std.specs.List.{insert, remove}
use Rattle.std.proofs.lemmas.Bool.{cases_order, lt-ltb, le-ltb, le-leb, leb-true, eq-eqb, ne_eqb, and_parts, and_from}
use Rattle.std.proofs.lemmas.Bool.Decides.{nat_tests}
use Rattle.kinds.specs.declared.roll.entry.Entry.{Entry}
use Rattle.kinds.specs.Operations.{ranged}
use Rattle.kinds.specs.RollRows.{suits, rising}
use Rattle.kinds.specs.RollPlaces.{smaller}
use Rattle.kinds.specs.Rolls.{entry, found, marked, without}

-- two numbers by their tests
by_order : {P : Type 0} (a b : ℕ) → (a < b → nat_lt a b ≡ true → (a == b) ≡ false → P) → (a ≡ b → nat_lt a b ≡ false → (a == b) ≡ true → P) → (b < a → nat_lt a b ≡ false → (a == b) ≡ false → P) → P
by_order a b lt eq gt =
    ⊎_elim (λ e. eq e (le-ltb a b (omega arith)) (eq-eqb a b e))
    (⊎_elim (λ h. lt h (lt-ltb a b h) (ne_eqb a b (omega arith))) (λ h. gt h (le-ltb a b (omega arith)) (ne_eqb a b (omega arith))))
    (cases_order a b)

-- what rising says of the first entry and the rest
pub rising_parts : (low : ℕ) (e : Entry) (es : List Entry) → rising low (e ∷ es) ≡ true → (low ≤ e.key) × (ranged e.key ≡ true) × (ranged e.number ≡ true) × (rising (e.key + 1) es ≡ true)
rising_parts low e es h =
    let both = and_parts (suits low e) (rising (e.key + 1) es) h in
    let suit = and_parts (nat_le low e.key) (ranged e.key && ranged e.number) both.0 in
    let range = and_parts (ranged e.key) (ranged e.number) suit.1 in
    (leb-true low e.key suit.0, range.0, range.1, both.1)

rising_from : (low : ℕ) (e : Entry) (es : List Entry) → low ≤ e.key → ranged e.key ≡ true → ranged e.number ≡ true → rising (e.key + 1) es ≡ true → rising low (e ∷ es) ≡ true
rising_from low e es h k n r =
    and_from (suits low e) _ (and_from (nat_le low e.key) _ (le-leb low e.key h) (and_from (ranged e.key) _ k n)) r

-- keys that rise from `high` on rise from any lower number on
rising_lower : (low high : ℕ) (es : List Entry) → low ≤ high → rising high es ≡ true → rising low es ≡ true
rising_lower low high [] h r = refl
rising_lower low high (e ∷ es) h r =
    let p = rising_parts high e es r in
    rising_from low e es (omega (arith, p.0)) p.1 p.2 p.3

-- a key below those of a roll is absent, and its place is the first
absent_below : (low k : ℕ) (es : List Entry) → rising low es ≡ true → k < low → found k es ≡ None
absent_below low k [] r h = refl
absent_below low k (e ∷ es) r h =
    let p = rising_parts low e es r in
    rw (ne_eqb e.key k (omega (arith, p.0))) (absent_below (e.key + 1) k es p.3 (omega (arith, p.0)))

-- a place is within the entries or at their end
pub smaller_within : (k : ℕ) (es : List Entry) → smaller k es ≤ length es
smaller_within k [] = omega arith
smaller_within k (e ∷ es) =
    let h = smaller_within k es in
    by_order e.key k (λ _ l _. rw l (omega arith)) (λ _ l _. rw l (omega arith)) (λ _ l _. rw l (omega arith))

-- a present key stands at its place
pub found_at : (low k v : ℕ) (es : List Entry) (d : Entry) → rising low es ≡ true → found k es ≡ Some v → (smaller k es < length es) × (slice_index_or es (smaller k es) d ≡ entry k v)
found_at low k v [] d r f = cc
found_at low k v (e ∷ es) d r f =
    let p = rising_parts low e es r in
    by_order e.key k
    (λ h l q. let ih = found_at (e.key + 1) k v es d p.3 (rw q at f) in rw l (omega (arith, ih.0), ih.1))
    (λ h l q. let w : Some e.number ≡ Some v = rw q at f in let n : e.number ≡ v = cc in rw l (omega arith, λ i. record { key = h i; number = n i }))
    (λ h l q. let none = absent_below (e.key + 1) k es p.3 (omega arith) in absurd (let w : found k es ≡ Some v = rw q at f in cc))

-- a key that stands at its place is present
pub key_found : (low k : ℕ) (es : List Entry) (d : Entry) → rising low es ≡ true → smaller k es < length es → (get_or es (smaller k es) d).key ≡ k → found k es ≡ Some (get_or es (smaller k es) d).number
key_found low k [] d r w a = absurd (omega arith)
key_found low k (e ∷ es) d r w a =
    let p = rising_parts low e es r in
    by_order e.key k
    (λ h l q. rw (l, q) (key_found (e.key + 1) k es d p.3 (omega (arith, rw l at w)) (rw l at a)))
    (λ h l q. rw (l, q))
    (λ h l q. absurd (omega (arith, rw l at a)))

-- a key that does not stand at its place is absent
pub absent_at : (low k : ℕ) (es : List Entry) (d : Entry) → rising low es ≡ true → (smaller k es < length es → (get_or es (smaller k es) d).key ≢ k) → found k es ≡ None
absent_at low k [] d r a = refl
absent_at low k (e ∷ es) d r a =
    let p = rising_parts low e es r in
    by_order e.key k
    (λ h l q. rw q (absent_at (e.key + 1) k es d p.3 (λ n m. (rw l at a) (omega arith) m)))
    (λ h l q. absurd ((rw l at a) (omega arith) h))
    (λ h l q. rw q (absent_below (e.key + 1) k es p.3 (omega arith)))

-- a present key: setting its number changes the entry at its place
pub marked_present : (low k v old : ℕ) (es : List Entry) → rising low es ≡ true → found k es ≡ Some old → marked k v es ≡ slice_set es (smaller k es) (entry k v)
marked_present low k v old [] r f = cc
marked_present low k v old (e ∷ es) r f =
    let p = rising_parts low e es r in
    by_order e.key k
    (λ h l q. rw l (ap (λ (xs : List Entry). e ∷ xs) (marked_present (e.key + 1) k v old es p.3 (rw q at f))))
    (λ h l q. rw (l, q))
    (λ h l q. let none = absent_below (e.key + 1) k es p.3 (omega arith) in absurd (let w : found k es ≡ Some old = rw q at f in cc))

-- an absent key is put in at its place
pub marked_absent : (k v : ℕ) (es : List Entry) → found k es ≡ None → marked k v es ≡ insert es (smaller k es) (entry k v)
marked_absent k v [] f = refl
marked_absent k v (e ∷ es) f =
    by_order e.key k
    (λ h l q. rw l (ap (λ (xs : List Entry). e ∷ xs) (marked_absent k v es (rw q at f))))
    (λ h l q. absurd (let w : Some e.number ≡ None = rw q at f in cc))
    (λ h l q. rw (l, q))

-- a present key is taken out at its place
pub without_present : (low k old : ℕ) (es : List Entry) → rising low es ≡ true → found k es ≡ Some old → without k es ≡ remove es (smaller k es)
without_present low k old [] r f = cc
without_present low k old (e ∷ es) r f =
    let p = rising_parts low e es r in
    by_order e.key k
    (λ h l q. rw (l, q) (ap (λ (xs : List Entry). e ∷ xs) (without_present (e.key + 1) k old es p.3 (rw q at f))))
    (λ h l q. rw (l, q))
    (λ h l q. let none = absent_below (e.key + 1) k es p.3 (omega arith) in absurd (let w : found k es ≡ Some old = rw q at f in cc))

-- taking out an absent key changes nothing
pub without_absent : (k : ℕ) (es : List Entry) → found k es ≡ None → without k es ≡ es
without_absent k [] f = refl
without_absent k (e ∷ es) f =
    by_order e.key k
    (λ h l q. rw q (ap (λ (xs : List Entry). e ∷ xs) (without_absent k es (rw q at f))))
    (λ h l q. absurd (let w : Some e.number ≡ None = rw q at f in cc))
    (λ h l q. rw q (ap (λ (xs : List Entry). e ∷ xs) (without_absent k es (rw q at f))))

-- the number of each key once one is set
pub found_marked : (j k v : ℕ) (es : List Entry) → found j (marked k v es) ≡ cond (k == j) (Some v) (found j es)
found_marked j k v [] = refl
found_marked j k v (e ∷ es) =
    by_order e.key k
    (λ h l q. rw (l, found_marked j k v es) (grind (arith, nat_tests)))
    (λ h l q. rw (l, q) (grind (arith, nat_tests)))
    (λ h l q. rw (l, q) (grind (arith, nat_tests)))

-- keys still rise once a number is set, and once a key is taken out
pub marked_rises : (low k v : ℕ) (es : List Entry) → low ≤ k → ranged k ≡ true → ranged v ≡ true → rising low es ≡ true → rising low (marked k v es) ≡ true
marked_rises low k v [] h rk rv r = rising_from low (entry k v) [] h rk rv refl
marked_rises low k v (e ∷ es) h rk rv r =
    let p = rising_parts low e es r in
    by_order e.key k
    (λ m l q. rw l (rising_from low e (marked k v es) p.0 p.1 p.2 (marked_rises (e.key + 1) k v es (omega arith) rk rv p.3)))
    (λ m l q. rw (l, q) (rising_from low (entry k v) es h rk rv (rising_lower (k + 1) (e.key + 1) es (omega arith) p.3)))
    (λ m l q. rw (l, q) (rising_from low (entry k v) (e ∷ es) h rk rv (rising_from (k + 1) e es (omega arith) p.1 p.2 p.3)))

-- a number that is set is in range if the keys rise
pub marked_ranged : (low k v : ℕ) (es : List Entry) → rising low (marked k v es) ≡ true → (ranged k ≡ true) × (ranged v ≡ true)
marked_ranged low k v [] r = let p = rising_parts low (entry k v) [] r in (p.1, p.2)
marked_ranged low k v (e ∷ es) r =
    by_order e.key k
    (λ h l q. marked_ranged (e.key + 1) k v es (rising_parts low e (marked k v es) (rw l at r)).3)
    (λ h l q. let p = rising_parts low (entry k v) es (rw (l, q) at r) in (p.1, p.2))
    (λ h l q. let p = rising_parts low (entry k v) (e ∷ es) (rw (l, q) at r) in (p.1, p.2))

pub without_rises : (low k : ℕ) (es : List Entry) → rising low es ≡ true → rising low (without k es) ≡ true
without_rises low k [] r = refl
without_rises low k (e ∷ es) r =
    let p = rising_parts low e es r in
    let kept : rising low (e ∷ without k es) ≡ true = rising_from low e (without k es) p.0 p.1 p.2 (without_rises (e.key + 1) k es p.3) in
    by_order e.key k (λ m l q. rw q kept) (λ m l q. rw q (rising_lower low (e.key + 1) es (omega (arith, p.0)) p.3)) (λ m l q. rw q kept)

-- setting a number and then the former one changes nothing
pub marked_back : (low k v old : ℕ) (es : List Entry) → rising low es ≡ true → found k es ≡ Some old → marked k old (marked k v es) ≡ es
marked_back low k v old [] r f = cc
marked_back low k v old (e ∷ es) r f =
    let p = rising_parts low e es r in
    let l' : ltb k k ≡ false = le-ltb k k (omega arith) in
    let q' : nat_eq k k ≡ true = eq-eqb k k refl in
    by_order e.key k
    (λ h l q. rw (l, l) (ap (λ (xs : List Entry). e ∷ xs) (marked_back (e.key + 1) k v old es p.3 (rw q at f))))
    (λ h l q. let w : Some e.number ≡ Some old = rw q at f in let n : e.number ≡ old = cc in rw (l, q, l', q') (λ i. record { key = sym h i; number = sym n i } ∷ es))
    (λ h l q. let none = absent_below (e.key + 1) k es p.3 (omega arith) in absurd (let w : found k es ≡ Some old = rw q at f in cc))

-- putting a key in and then taking it out changes nothing
pub without_back : (k v : ℕ) (es : List Entry) → found k es ≡ None → without k (marked k v es) ≡ es
without_back k v [] f = rw (eq-eqb k k refl)
without_back k v (e ∷ es) f =
    by_order e.key k
    (λ h l q. rw (l, q) (ap (λ (xs : List Entry). e ∷ xs) (without_back k v es (rw q at f))))
    (λ h l q. absurd (let w : Some e.number ≡ None = rw q at f in cc))
    (λ h l q. rw (l, q, eq-eqb k k refl))
