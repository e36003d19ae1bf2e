-- The closing order holds a transaction and its descendants, each before its proper ancestors.
use Rattle.std.proofs.Common.{◌≡◌, ℕ, zero, suc, ◌<◌, ◌≤◌, Bool, true, false, eqb, List, [], ◌∷◌, ◌++◌, length, sym, refl, ◌∙◌, subst, inl, inr, arith, filter}
use Rattle.std.proofs.lemmas.List.FromFn.{length-range_with_len}
use Rattle.std.proofs.lemmas.List.Sums.{count_by-le-length, length-filter}
use Rattle.std.proofs.lemmas.Bool.{cases_Bool, both_ways, or_cases, or_left, or_right, and_parts, and_from, eqb-true, eq-eqb, cases_eq}
use Rattle.model.specs.Numbers.{numbers, size}
use Rattle.model.specs.Tables.{by_depth, closing_order, Tables}
use Rattle.model.proofs.General.Finite.{has_filter, has_append, has}
use Rattle.model.proofs.Tree.Invariants.{Tree}
use Rattle.model.proofs.Tree.Lines.{open_number}

-- fewer pass a narrower test
filter_fewer : (p q : ℕ → Bool) (us : List ℕ) → ((u : ℕ) → p u ≡ true → q u ≡ true) → length (filter p us) ≤ length (filter q us)
filter_fewer p q [] sub = omega arith
filter_fewer p q (u ∷ us) sub =
    let ih = filter_fewer p q us sub in
    elim (cases_Bool (p u)) [
      | inl e ↦ rw (e, sub u e) (omega arith)
      | inr e ↦ elim (cases_Bool (q u)) [ inl f ↦ rw (e, f) (omega arith) | inr f ↦ rw (e, f) ih ]
    ]

-- and strictly fewer where it leaves one out
filter_less : (p q : ℕ → Bool) (us : List ℕ) → ((u : ℕ) → p u ≡ true → q u ≡ true) → (w : ℕ) → has w us ≡ true → p w ≡ false → q w ≡ true → length (filter p us) < length (filter q us)
filter_less p q [] sub w h a b = absurd (both_ways false refl h)
filter_less p q (u ∷ us) sub w h a b =
    elim (cases_Bool (eqb w u)) [
      | inl e ↦ here (eqb-true w u e)
      | inr e ↦
          there (elim (or_cases (eqb w u) (has w us) h) [ inl f ↦ absurd (both_ways (eqb w u) e f) | inr f ↦ f ]) (filter_less p q us sub w)
    ]
  where
    here : w ≡ u → length (filter p (u ∷ us)) < length (filter q (u ∷ us))
    here e =
        let f = subst (λ (k : ℕ). p k ≡ false) e a in
        let g = subst (λ (k : ℕ). q k ≡ true) e b in
        let le = filter_fewer p q us sub in
        rw (f, g) (omega arith)

    there : has w us ≡ true → (has w us ≡ true → p w ≡ false → q w ≡ true → length (filter p us) < length (filter q us)) → length (filter p (u ∷ us)) < length (filter q (u ∷ us))
    there k ih =
        let lt = ih k a b in
        elim (cases_Bool (p u)) [
          | inl e ↦ rw (e, sub u e) (omega arith)
          | inr e ↦ elim (cases_Bool (q u)) [ inl f ↦ rw (e, f) (omega arith) | inr f ↦ rw (e, f) lt ]
        ]

-- there are no more than were tried
filter_bounded : (n : ℕ) (p : ℕ → Bool) → size n p ≤ n
filter_bounded n p = rw length-filter (omega (arith, count_by-le-length p (numbers n), length-range_with_len 1 n))

-- one that passes is counted
filter_some : (p : ℕ → Bool) (us : List ℕ) (w : ℕ) → has w us ≡ true → p w ≡ true → 0 < length (filter p us)
filter_some p [] w h a = absurd (both_ways false refl h)
filter_some p (u ∷ us) w h a =
    elim (cases_Bool (p u)) [
      | inl e ↦ rw e (omega arith)
      | inr e ↦
          rw e
          (filter_some p us w
          (elim (or_cases (eqb w u) (has w us) h) [
            | inl f ↦ absurd (both_ways (p u) e (subst (λ (k : ℕ). p k ≡ true) (eqb-true w u f) a))
            | inr f ↦ f
          ]) a)
    ]

-- each comes before its proper ancestors
abbrev pub DescendantsFirst : Tables → List ℕ → Type 0
DescendantsFirst T [] = Unit {0}
DescendantsFirst T (u ∷ us) = ((w : ℕ) → has w us ≡ true → T.line w u ≡ true → w ≡ u) × DescendantsFirst T us

module _ (limit : ℕ) (T : Tables) where
  abbrev depth : ℕ → ℕ
  depth u = size limit (T.line u)

  -- who is in the order was in the list, and has a depth within the bound
  by_depth_was : (n : ℕ) (us : List ℕ) (u : ℕ) → has u (by_depth limit T n us) ≡ true → (has u us ≡ true) × (depth u ≤ n)
  by_depth_was zero us u h = absurd (both_ways false refl h)
  by_depth_was (suc n) us u h =
      elim (or_cases _ _ (sym (has_append u (filter (λ v. eqb (depth v) (suc n)) us) (by_depth limit T n us)) ∙ h)) [
        | inl e ↦ level (and_parts _ _ (sym (has_filter (λ v. eqb (depth v) (suc n)) us u) ∙ e))
        | inr e ↦ deeper (by_depth_was n us u e)
      ]
    where
      level : (has u us ≡ true) × (eqb (depth u) (suc n) ≡ true) → (has u us ≡ true) × (depth u ≤ suc n)
      level k = let e = eqb-true (depth u) (suc n) k.1 in (k.0, omega arith)

      deeper : (has u us ≡ true) × (depth u ≤ n) → (has u us ≡ true) × (depth u ≤ suc n)
      deeper k = let le = k.1 in (k.0, omega arith)

  -- and the other way round
  by_depth_has : (n : ℕ) (us : List ℕ) (u : ℕ) → has u us ≡ true → 0 < depth u → depth u ≤ n → has u (by_depth limit T n us) ≡ true
  by_depth_has zero us u h a b = absurd (omega arith)
  by_depth_has (suc n) us u h a b =
      has_append u (filter (λ v. eqb (depth v) (suc n)) us) (by_depth limit T n us) ∙ elim (cases_eq (depth u) (suc n)) [
        | inl e ↦
            or_left _ (has u (by_depth limit T n us))
            (has_filter (λ v. eqb (depth v) (suc n)) us u ∙ and_from _ _ h (eq-eqb (depth u) (suc n) e))
        | inr ne ↦ or_right (has u (filter (λ v. eqb (depth v) (suc n)) us)) _ (by_depth_has n us u h a (omega arith))
      ]

  module _ (tree : Tree limit T) where
    -- a proper descendant is deeper
    pub deeper_below : (w u : ℕ) → T.line w u ≡ true → (w ≡ u → ⊥) → depth u < depth w
    deeper_below w u l ne =
        filter_less (T.line u) (T.line w) (numbers limit) (λ c k. tree.along w u c l k) w
        (open_number limit T tree w (tree.lower_open w u l)) off (tree.lower_open w u l)
      where
        off : T.line u w ≡ false
        off = elim (cases_Bool (T.line u w)) [ inl k ↦ absurd (ne (tree.one_way w u l k)) | inr k ↦ k ]

    -- a level before a list that is no deeper
    level_first : (k : ℕ) (us vs : List ℕ) → ((u : ℕ) → has u us ≡ true → depth u ≡ k) → ((u : ℕ) → has u vs ≡ true → depth u ≤ k) → DescendantsFirst T vs → DescendantsFirst T (us ++ vs)
    level_first k [] vs level low first = first
    level_first k (u ∷ us) vs level low first = (later, level_first k us vs (λ w h. level w (or_right (eqb w u) (has w us) h)) low first)
      where
        here : depth u ≡ k
        here = level u (or_left (eqb u u) (has u us) (eq-eqb u u refl))

        not_deeper : (w : ℕ) → has w (us ++ vs) ≡ true → depth w ≤ k
        not_deeper w h =
            elim (or_cases _ _ (sym (has_append w us vs) ∙ h)) [
              | inl e ↦ (let d = level w (or_right (eqb w u) (has w us) e) in omega arith)
              | inr e ↦ low w e
            ]

        later : (w : ℕ) → has w (us ++ vs) ≡ true → T.line w u ≡ true → w ≡ u
        later w h l =
            elim (cases_eq w u) [
              | inl e ↦ e
              | inr ne ↦ absurd (let lt = deeper_below w u l ne in let le = not_deeper w h in let e = here in omega arith)
            ]

    by_depth_first : (n : ℕ) (us : List ℕ) → DescendantsFirst T (by_depth limit T n us)
    by_depth_first zero us = tt
    by_depth_first (suc n) us =
        level_first (suc n) (filter (λ v. eqb (depth v) (suc n)) us) (by_depth limit T n us)
        (λ u h. eqb-true (depth u) (suc n) (and_parts _ _ (sym (has_filter (λ v. eqb (depth v) (suc n)) us u) ∙ h)).1)
        (λ u h. let le = (by_depth_was n us u h).1 in omega arith) (by_depth_first n us)

    pub closing_first : (t : ℕ) → DescendantsFirst T (closing_order limit T t)
    closing_first t = by_depth_first limit (filter (λ u. T.line u t) (numbers limit))

    -- the closing order holds t and its descendants, and nobody else
    pub has_closing : (t u : ℕ) → has u (closing_order limit T t) ≡ T.line u t
    has_closing t u = elim (cases_Bool (T.line u t)) [ inl l ↦ inside l ∙ sym l | inr l ↦ outside l ∙ sym l ]
      where
        inside : T.line u t ≡ true → has u (closing_order limit T t) ≡ true
        inside l =
            let o = tree.lower_open u t l in
            let n = open_number limit T tree u o in
            by_depth_has limit (filter (λ v. T.line v t) (numbers limit)) u
            (has_filter (λ v. T.line v t) (numbers limit) u ∙ and_from _ _ n l) (filter_some (T.line u) (numbers limit) u n o)
            (filter_bounded limit (T.line u))

        outside : T.line u t ≡ false → has u (closing_order limit T t) ≡ false
        outside l =
            elim (cases_Bool (has u (closing_order limit T t))) [
              | inl h ↦
                  absurd
                  (both_ways _ l
                  (and_parts _ _
                  (sym (has_filter (λ v. T.line v t) (numbers limit) u)
                  ∙ (by_depth_was limit (filter (λ v. T.line v t) (numbers limit)) u h).0)).1)
              | inr h ↦ h
            ]
