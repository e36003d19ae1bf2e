-- Short lists: what putting an item in and taking one out leave.
use Rattle.std.specs.Prelude.{◌≡◌, ℕ, zero, suc, ◌+◌, ◌-◌, ◌<◌, ◌≤◌, Bool, true, ◌&&◌, List, [], ◌∷◌, ◌++◌, length, take, drop, ◌==◌, nat_le, slice_set, refl}
use Rattle.std.proofs.Common.{sym, ap, ◌∙◌, arith, length-set}
use Rattle.std.specs.List.{insert, remove, list_all}
use Rattle.std.proofs.lemmas.List.{length-take-le}
use Rattle.std.proofs.lemmas.Bool.{le-leb, eq-eqb, leb-true, eqb-true, and_parts, and_from}
use Rattle.std.proofs.lemmas.List.Edits.{length-insert, length-remove}
use Rattle.kinds.specs.declared.short_list.ShortList.{ShortList}
use Rattle.kinds.specs.ShortLists.{room, items, padded, packed, packs, holds, pushed, pulled}

module _ {T : Type 0} (b : T) where
  -- without its last place
  take_padded : (n : ℕ) (xs : List T) → take n (padded (suc n) b xs) ≡ padded n b xs
  take_padded zero xs = refl
  take_padded (suc n) [] = ap (λ (ys : List T). b ∷ ys) (take_padded n [])
  take_padded (suc n) (x ∷ xs) = ap (λ (ys : List T). x ∷ ys) (take_padded n xs)

  -- with one place more
  padded_more : (n : ℕ) (xs : List T) → length xs ≤ n → padded n b xs ++ b ∷ [] ≡ padded (suc n) b xs
  padded_more zero [] h = refl
  padded_more zero (x ∷ xs) h = absurd (omega arith)
  padded_more (suc n) [] h = ap (λ (ys : List T). b ∷ ys) (padded_more n [] (omega arith))
  padded_more (suc n) (x ∷ xs) h = ap (λ (ys : List T). x ∷ ys) (padded_more n xs (omega arith))

  pub length_padded : (n : ℕ) (xs : List T) → length (padded n b xs) ≡ n
  length_padded zero xs = refl
  length_padded (suc n) [] = ap suc (length_padded n [])
  length_padded (suc n) (x ∷ xs) = ap suc (length_padded n xs)

  -- the items come back
  pub take_all_padded : (n : ℕ) (xs : List T) → length xs ≤ n → take (length xs) (padded n b xs) ≡ xs
  take_all_padded n [] h = refl
  take_all_padded zero (x ∷ xs) h = absurd (omega arith)
  take_all_padded (suc n) (x ∷ xs) h = ap (λ (ys : List T). x ∷ ys) (take_all_padded n xs (omega arith))

  -- an item put in among the places is put in among the items
  padded_in : (at n : ℕ) (x : T) (xs : List T) → at ≤ length xs → at < n → take at (padded n b xs) ++ x ∷ take (n - 1 - at) (drop at (padded n b xs)) ≡ padded n b (insert xs at x)
  padded_in at zero x xs h k = absurd (omega arith)
  padded_in zero (suc n) x xs h k =
      let e : suc n - 1 - 0 ≡ n = omega arith in
      rw e (ap (λ (ys : List T). x ∷ ys) (take_padded n xs))
  padded_in (suc at) (suc n) x [] h k = absurd (omega arith)
  padded_in (suc at) (suc n) x (y ∷ xs) h k =
      let e : suc n - 1 - suc at ≡ n - 1 - at = omega arith in
      rw e (ap (λ (ys : List T). y ∷ ys) (padded_in at n x xs (omega arith) (omega arith)))

  -- an item taken out of the places is taken out of the items
  padded_out : (at n : ℕ) (xs : List T) → at < length xs → length xs ≤ n → pulled at b (padded n b xs) ≡ padded n b (remove xs at)
  padded_out at n [] h k = absurd (omega arith)
  padded_out at zero (y ∷ xs) h k = absurd (omega arith)
  padded_out zero (suc n) (y ∷ xs) h k = padded_more n xs (omega arith)
  padded_out (suc at) (suc n) (y ∷ xs) h k =
      let e : suc at + 1 ≡ suc (at + 1) = omega arith in
      rw e (ap (λ (ys : List T). y ∷ ys) (padded_out at n xs (omega arith) (omega arith)))

  -- an item in another's place
  padded_set : (at n : ℕ) (x : T) (xs : List T) → at < length xs → length xs ≤ n → slice_set (padded n b xs) at x ≡ padded n b (slice_set xs at x)
  padded_set at n x [] h k = absurd (omega arith)
  padded_set at zero x (y ∷ xs) h k = absurd (omega arith)
  padded_set zero (suc n) x (y ∷ xs) h k = refl
  padded_set (suc at) (suc n) x (y ∷ xs) h k = ap (λ (ys : List T). y ∷ ys) (padded_set at n x xs (omega arith) (omega arith))

  -- a short list of its items has as many of them as it counts
  pub counts : (l : ShortList T) → l ≡ packed b (items l) → length (items l) ≡ l.count
  counts l h = sym (ap (λ (m : ShortList T). m.count) h)

  -- an item put into a short list
  pub packed_in : (l m : ShortList T) (at : ℕ) (x : T) → l ≡ packed b (items l) → at ≤ l.count → l.count < room → m.count ≡ l.count + 1 → m.places ≡ pushed at x l.places → m ≡ packed b (insert (items l) at x)
  packed_in l m at x h within few n e =
      let k : length (items l) ≡ l.count = counts l h in
      let more : m.count ≡ length (insert (items l) at x) = omega (arith, n, length-insert (items l) at x (omega arith)) in
      let q : m.places ≡ padded room b (insert (items l) at x) =
      e ∙ ap (λ (o : ShortList T). pushed at x o.places) h ∙ ap (λ (j : ℕ). take at (padded room b (items l)) ++ x ∷ take (j - 1 - at) (drop at (padded room b (items l)))) (length_padded room (items l))
      ∙ padded_in at room x (items l) (omega arith) (omega arith) in
      λ i. record { count = more i; places = q i }

  -- an item taken out of a short list
  pub packed_out : (l m : ShortList T) (at : ℕ) → l ≡ packed b (items l) → at < l.count → l.count ≤ room → m.count ≡ l.count - 1 → m.places ≡ pulled at b l.places → m ≡ packed b (remove (items l) at)
  packed_out l m at h within few n e =
      let k : length (items l) ≡ l.count = counts l h in
      let fewer : m.count ≡ length (remove (items l) at) = omega (arith, n, length-remove (items l) at (omega arith)) in
      let q : m.places ≡ padded room b (remove (items l) at) =
      e ∙ ap (λ (o : ShortList T). pulled at b o.places) h ∙ padded_out at room (items l) (omega arith) (omega arith) in
      λ i. record { count = fewer i; places = q i }

  -- an item in another's place of a short list
  pub packed_set : (l m : ShortList T) (at : ℕ) (x : T) → l ≡ packed b (items l) → at < l.count → l.count ≤ room → m.count ≡ l.count → m.places ≡ slice_set l.places at x → m ≡ packed b (slice_set (items l) at x)
  packed_set l m at x h within few n e =
      let k : length (items l) ≡ l.count = counts l h in
      let same : m.count ≡ length (slice_set (items l) at x) = omega (arith, n, length-set (items l) at x) in
      let q : m.places ≡ padded room b (slice_set (items l) at x) =
      e ∙ ap (λ (o : ShortList T). slice_set o.places at x) h ∙ padded_set at room x (items l) (omega arith) (omega arith) in
      λ i. record { count = same i; places = q i }

module _ {T : Type 0} (blank : T → Bool) (b : T) (only : (x : T) → blank x ≡ true → x ≡ b) (is_b : blank b ≡ true) where
  -- blanks past the items are what padding puts there
  repadded : (n k : ℕ) (ps : List T) → length ps ≡ n → k ≤ n → list_all blank (drop k ps) ≡ true → ps ≡ padded n b (take k ps)
  repadded zero k [] n h e = refl
  repadded zero k (p ∷ ps) n h e = absurd (omega arith)
  repadded (suc m) k [] n h e = absurd (omega arith)
  repadded (suc m) zero (p ∷ ps) n h e =
      let parts = and_parts (blank p) (list_all blank ps) e in
      let rest : ps ≡ padded m b [] = repadded m zero ps (omega arith) (omega arith) parts.1 in
      λ i. only p parts.0 i ∷ rest i
  repadded (suc m) (suc k) (p ∷ ps) n h e = ap (λ (ys : List T). p ∷ ys) (repadded m k ps (omega arith) (omega arith) e)

  -- what padding puts past the items is blank
  blank_past : (n : ℕ) (xs : List T) → length xs ≤ n → list_all blank (drop (length xs) (padded n b xs)) ≡ true
  blank_past zero [] h = refl
  blank_past zero (x ∷ xs) h = absurd (omega arith)
  blank_past (suc n) [] h = and_from (blank b) (list_all blank (padded n b [])) is_b (blank_past n [] (omega arith))
  blank_past (suc n) (x ∷ xs) h = blank_past n xs (omega arith)

  -- a short list that packs is that of its items
  pub packed_own : (l : ShortList T) → packs blank l ≡ true → (l.count ≤ room) × (l ≡ packed b (items l))
  packed_own l e =
      let parts = and_parts (nat_le l.count room) (length l.places == room && list_all blank (drop l.count l.places)) e in
      let more = and_parts (length l.places == room) (list_all blank (drop l.count l.places)) parts.1 in
      let few = leb-true l.count room parts.0 in
      let whole = eqb-true (length l.places) room more.0 in
      let n : l.count ≡ length (items l) = sym (length-take-le l.count l.places (omega arith)) in
      let p = repadded room l.count l.places whole few more.1 in
      (few, λ i. record { count = n i; places = p i })

  -- up to twelve items pack
  pub packed_packs : (xs : List T) → length xs ≤ room → packs blank (packed b xs) ≡ true
  packed_packs xs h =
      and_from (nat_le (length xs) room) _ (le-leb (length xs) room h)
      (and_from (length (padded room b xs) == room) _ (eq-eqb (length (padded room b xs)) room (length_padded b room xs)) (blank_past room xs h))

  module _ (good : List T → Bool) where
    -- up to twelve items that pass the test make a row that does
    pub holds_packed : (xs : List T) → length xs ≤ room → good xs ≡ true → holds blank good (packed b xs) ≡ true
    holds_packed xs h e = and_from (packs blank (packed b xs)) _ (packed_packs xs h) (ap good (take_all_padded b room xs h) ∙ e)

    module _ (l : ShortList T) (e : holds blank good l ≡ true) where
      -- a row that holds is the short list of its items, which pass the test
      pub held : (l.count ≤ room) × (l ≡ packed b (items l)) × (good (items l) ≡ true)
      held =
          let parts = and_parts (packs blank l) (good (items l)) e in
          let own = packed_own l parts.0 in
          (own.0, own.1, parts.1)

      pub held_length : length (items l) ≡ l.count
      held_length = counts b l held.1

      -- a row of up to twelve items that pass the test
      remade : (m : ShortList T) (xs : List T) → m ≡ packed b xs → length xs ≤ room → good xs ≡ true → (holds blank good m ≡ true) × (items m ≡ xs)
      remade m xs p n g = (ap (holds blank good) p ∙ holds_packed xs n g, ap items p ∙ take_all_padded b room xs n)

      -- an item put in
      pub held_in : (m : ShortList T) (at : ℕ) (x : T) → at ≤ l.count → l.count < room → good (insert (items l) at x) ≡ true → m.count ≡ l.count + 1 → m.places ≡ pushed at x l.places → (holds blank good m ≡ true) × (items m ≡ insert (items l) at x)
      held_in m at x within few g n e =
          let k = held_length in
          remade m (insert (items l) at x) (packed_in b l m at x held.1 within few n e) (omega (arith, length-insert (items l) at x (omega arith))) g

      -- an item taken out
      pub held_out : (m : ShortList T) (at : ℕ) → at < l.count → good (remove (items l) at) ≡ true → m.count ≡ l.count - 1 → m.places ≡ pulled at b l.places → (holds blank good m ≡ true) × (items m ≡ remove (items l) at)
      held_out m at within g n e =
          let k = held_length in
          remade m (remove (items l) at) (packed_out b l m at held.1 within held.0 n e) (omega (arith, length-remove (items l) at (omega arith), held.0)) g

      -- an item in another's place
      pub held_set : (m : ShortList T) (at : ℕ) (x : T) → at < l.count → good (slice_set (items l) at x) ≡ true → m.count ≡ l.count → m.places ≡ slice_set l.places at x → (holds blank good m ≡ true) × (items m ≡ slice_set (items l) at x)
      held_set m at x within g n e =
          let k = held_length in
          remade m (slice_set (items l) at x) (packed_set b l m at x held.1 within held.0 n e) (omega (arith, length-set (items l) at x, held.0)) g
