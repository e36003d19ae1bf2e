-- What taking away the versions of a transaction and its descendants does to one object.
use Rattle.std.proofs.Common.{◌≡◌, ℕ, Bool, true, false, not, eqb, List, [], ◌∷◌, sym, refl, ap, ◌∙◌, subst, inl, inr, zero-add, filter}
use Rattle.model.proofs.General.Finite.{has}
use Rattle.std.proofs.lemmas.Bool.{cases_Bool, both_ways, or_cases, or_left, or_right, eqb-true, eqb-false, eq-eqb, ne_eqb}
use Rattle.model.specs.Stores.{Version, owned, without_top}
use Rattle.model.specs.Tables.{Tables}
use Rattle.model.proofs.Tree.Depths.{DescendantsFirst}
use Rattle.model.proofs.Object.Invariant.{Stack, Beneath}
use Rattle.model.proofs.Tree.Removals.{removed, Downward, line_left}
use Rattle.model.proofs.Object.Seeing.{Each, each_map, each_both, seen}

module _ {S : Type 0} (gone : ℕ → Bool) where
  -- the versions of those that are left
  abbrev pub left : List (Version S) → List (Version S)
  left vs = filter (λ v. not (gone v.owner)) vs

  pub each_left : (P : Version S → Type 0) (vs : List (Version S)) → Each P vs → Each P (left vs)
  each_left P [] e = tt
  each_left P (v ∷ vs) e =
      elim (cases_Bool (gone v.owner)) [ inl g ↦ rw g (each_left P vs e.1) | inr g ↦ rw g (e.0, each_left P vs e.1) ]

  -- a set with nobody in it that is gone sees what it saw
  pub seen_left : (l : ℕ → Bool) → ((u : ℕ) → l u ≡ true → gone u ≡ false) → (c : S) (vs : List (Version S)) → seen l c (left vs) ≡ seen l c vs
  seen_left l there c [] = refl
  seen_left l there c (v ∷ vs) =
      elim (cases_Bool (l v.owner)) [
        | inl e ↦ let g = there v.owner e in rw (g, e)
        | inr e ↦
            elim (cases_Bool (gone v.owner)) [ inl g ↦ rw (g, e) (seen_left l there c vs) | inr g ↦ rw (g, e) (seen_left l there c vs) ]
      ]

  pub owned_left : (u : ℕ) → gone u ≡ false → (vs : List (Version S)) → owned u (left vs) ≡ owned u vs
  owned_left u g [] = refl
  owned_left u g (v ∷ vs) =
      elim (cases_Bool (gone v.owner)) [
        | inl e ↦
            let f = ne_eqb v.owner u (λ k. both_ways (gone u) g (subst (λ (j : ℕ). gone j ≡ true) k e)) in
            let ih = owned_left u g vs in rw (e, f, ih) (sym (zero-add (owned u vs)))
        | inr e ↦ let ih = owned_left u g vs in rw (e, ih)
      ]

  pub stack_left : (T : Tables) (x : ℕ) (vs : List (Version S)) → Stack T x vs → Stack (removed gone T) x (left vs)
  stack_left T x [] k = tt
  stack_left T x (v ∷ vs) k =
      elim (cases_Bool (gone v.owner)) [
        | inl g ↦ rw g (stack_left T x vs k.2)
        | inr g ↦
            rw g (
              rw g k.0,
              each_left (Beneath (removed gone T) v) vs
                  (each_map (Beneath T v) (Beneath (removed gone T) v) (λ w b. (line_left gone T v.owner w.owner g ∙ b.0, b.1)) vs
                  k.1),
              stack_left T x vs k.2,
            )
      ]

-- versions taken off one after the other
abbrev pub stripped : {S : Type 0} → List ℕ → List (Version S) → List (Version S)
stripped [] vs = vs
stripped (u ∷ us) vs = stripped us (without_top u vs)

module _ {S : Type 0} (T : Tables) (x : ℕ) (gone : ℕ → Bool) (down : Downward gone T) where
  -- taken off with descendants first, all of them go and no others
  pub stripped_left : (us : List ℕ) (vs : List (Version S)) → DescendantsFirst T us → ((u : ℕ) → has u us ≡ true → gone u ≡ true) → Each (λ v. gone v.owner ≡ true → has v.owner us ≡ true) vs → Stack T x vs → stripped us vs ≡ left gone vs
  stripped_left [] vs first all covered k = sym (nobody vs covered)
    where
      nobody : (ws : List (Version S)) → Each (λ v. gone v.owner ≡ true → has v.owner [] ≡ true) ws → left gone ws ≡ ws
      nobody [] c = refl
      nobody (w ∷ ws) c =
          elim (cases_Bool (gone w.owner)) [
            | inl g ↦ absurd (both_ways false refl (c.0 g))
            | inr g ↦ rw g (ap (λ (qs : List (Version S)). w ∷ qs) (nobody ws c.1))
          ]
  stripped_left (u ∷ us) [] first all covered k = stripped_left us [] first.1 (λ w h. all w (or_right (eqb w u) (has w us) h)) tt tt
  stripped_left (u ∷ us) (v ∷ vs) first all covered k =
      elim (cases_Bool (eqb v.owner u)) [
        | inl e ↦ popped e (stripped_left us vs first.1 all_later)
        | inr e ↦
            rw e
            (stripped_left us (v ∷ vs) first.1 all_later (
              head e,
              each_both (λ w. gone w.owner ≡ true → has w.owner (u ∷ us) ≡ true) (Beneath T v)
                  (λ w. gone w.owner ≡ true → has w.owner us ≡ true)
                  (λ w c b g.
                  elim (or_cases _ _ (c g)) [
                    | inl f ↦
                        absurd
                        (eqb-false v.owner u e
                        (buried e (subst (λ (j : ℕ). T.line v.owner j ≡ true) (eqb-true w.owner u f) b.0)))
                    | inr f ↦ f
                  ]) vs covered.1 k.1,
            ) k)
      ]
    where
      all_later : (w : ℕ) → has w us ≡ true → gone w ≡ true
      all_later w h = all w (or_right (eqb w u) (has w us) h)

      u_gone : gone u ≡ true
      u_gone = all u (or_left (eqb u u) (has u us) (eq-eqb u u refl))

      head : eqb v.owner u ≡ false → gone v.owner ≡ true → has v.owner us ≡ true
      head e g = elim (or_cases _ _ (covered.0 g)) [ inl f ↦ absurd (both_ways _ e f) | inr f ↦ f ]

      -- the owner above one that is next to go would have gone before
      buried : eqb v.owner u ≡ false → T.line v.owner u ≡ true → v.owner ≡ u
      buried e l = first.0 v.owner (head e (down v.owner u l u_gone)) l

      popped : eqb v.owner u ≡ true → (Each (λ w. gone w.owner ≡ true → has w.owner us ≡ true) vs → Stack T x vs → stripped us vs ≡ left gone vs) → stripped us (without_top u (v ∷ vs)) ≡ left gone (v ∷ vs)
      popped e ih =
          let g = subst (λ (j : ℕ). gone j ≡ true) (sym (eqb-true v.owner u e)) u_gone in
          rw (e, g)
          (ih
          (each_both (λ w. gone w.owner ≡ true → has w.owner (u ∷ us) ≡ true) (Beneath T v)
          (λ w. gone w.owner ≡ true → has w.owner us ≡ true)
          (λ w c b q.
          elim (or_cases _ _ (c q)) [
            | inl f ↦ absurd (b.1 (eqb-true v.owner u e ∙ sym (eqb-true w.owner u f)))
            | inr f ↦ f
          ]) vs covered.1 k.1) k.2)
