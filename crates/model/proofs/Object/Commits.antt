-- A commit keeps what holds of an object: the versions and the steps of a transaction go to its parent.
use Rattle.std.proofs.Common.{◌≡◌, ℕ, ◌+◌, Bool, true, false, eqb, List, [], ◌∷◌, ◌++◌, sym, refl, ap, ◌∙◌, subst, inl, inr, arith}
use Rattle.std.proofs.lemmas.Bool.{cases_Bool, both_ways, or_cases, eqb-true, eqb-false, eq-eqb, ne_eqb}
use Rattle.model.specs.Histories.{Items, in_order, child}
use Rattle.model.specs.Checks.{has_child}
use Rattle.model.specs.Model.{Setting}
use Rattle.model.specs.Numbers.{put}
use Rattle.model.specs.Stores.{Version, Object, object, owned, passed, passed_from, handed_on}
use Rattle.model.specs.Tables.{Tables, is_open, holds, handed}
use Rattle.model.proofs.Object.CommitLocks.{not_self, was, lock_stays, lock_gained, stack_stays, kin_is_above, off_line, beneath_others, others_only, stack_passed}
use Rattle.model.proofs.Tree.Handing.{not_a_parent}
use Rattle.model.proofs.Tree.Invariants.{Tree, Locks}
use Rattle.model.proofs.Tree.Lines.{through_parent, off_parent}
use Rattle.model.proofs.Object.Invariant.{Alike, SoundObject, owned_none}
use Rattle.model.proofs.Object.Passing.{seen_unpassed, seen_passed, committed_stays, owned_passed, each_passed}
use Rattle.model.proofs.Object.Runs.{Runs, runs_on, runs_at, runs_untouched, touches, touches_append}
use Rattle.model.proofs.Object.Seeing.{Each, each_map, seen, seen_alike, seen_here}

-- a set that nobody is in sees the committed state
pub seen_nobody : {S : Type 0} (l : ℕ → Bool) (c : S) (vs : List (Version S)) → ((u : ℕ) → l u ≡ false) → seen l c vs ≡ c
seen_nobody l c [] e = refl
seen_nobody l c (v ∷ vs) e = rw (e v.owner) (seen_nobody l c vs e)

module _ {S : Type 0} (m : Setting S) (T : Tables) (tree : Tree m.limit T) (locks : Locks T) (t : ℕ) (o : is_open T t ≡ true) (leaf : has_child m.limit T t ≡ false) (items : ℕ → Items) (changes : ℕ → ℕ) (x : ℕ) (initial : S) where
  abbrev p : ℕ
  p = T.parent t

  abbrev N : Tables
  N = handed t T

  -- the items and the changes after the commit
  abbrev moved : ℕ → Items
  moved = put p (child (items p) t (items t)) items

  abbrev added : ℕ → ℕ
  added = put p (changes p + changes t) changes

  moved_there : (u : ℕ) → eqb u p ≡ true → moved u ≡ child (items p) t (items t)
  moved_there u e = rw e

  moved_other : (u : ℕ) → eqb u p ≡ false → moved u ≡ items u
  moved_other u e = rw e

  module _ (c : S) (vs : List (Version S)) (sound : SoundObject m T items changes x initial (object c vs)) where
    locked_after : (u : ℕ) → N.line u u ≡ true → touches x (in_order (moved u)) ≡ true → holds N x u ≡ true
    locked_after u q h =
        elim (cases_Bool (eqb u p)) [
          | inl e ↦
              subst (λ (k : ℕ). holds N x k ≡ true) (sym (eqb-true u p e)) (mine (eqb-true u p e) (sym (touched (moved_there u e)) ∙ h))
          | inr e ↦ lock_stays m.limit T tree locks t o leaf x u (was m.limit T tree locks t o leaf x u q).0 (sound.locked u (was m.limit T tree locks t o leaf x u q).1 (sym (touched (moved_other u e)) ∙ h))
        ]
      where
        touched : {i j : Items} → i ≡ j → touches x (in_order i) ≡ touches x (in_order j)
        touched e = ap (λ (k : Items). touches x (in_order k)) e

        mine : u ≡ p → touches x (in_order (items p) ++ in_order (items t)) ≡ true → holds N x p ≡ true
        mine e h =
            let q' = subst (λ (k : ℕ). is_open T k ≡ true) e (was m.limit T tree locks t o leaf x u q).1 in
            elim (or_cases _ _ (sym (touches_append x (in_order (items p)) (in_order (items t))) ∙ h)) [
              | inl a ↦ lock_stays m.limit T tree locks t o leaf x p (not_self m.limit T tree locks t o leaf x) (sound.locked p q' a)
              | inr a ↦
                  lock_gained m.limit T tree locks t o leaf x (ne_eqb p 0 (λ z. both_ways _ (tree.root 0) (subst (λ (k : ℕ). is_open T k ≡ true) z q')))
                  (sound.locked t o a)
            ]

    -- t's steps after its parent's
    joined_run : (a : S) → Runs m.acts x (in_order (items p)) a (seen (T.line p) c vs) → Runs m.acts x (in_order (items p) ++ in_order (items t)) a (seen (T.line t) c vs)
    joined_run a r = runs_on m.acts x (in_order (items p)) (in_order (items t)) a _ _ r (sound.values t o)

    -- the kept steps, where t is a top transaction
    whole_joined : p ≡ 0 → Runs m.acts x (in_order (items 0) ++ in_order (items t)) initial (seen (T.line t) c vs)
    whole_joined z =
        subst (λ (k : ℕ). Runs m.acts x (in_order (items k) ++ in_order (items t)) initial (seen (T.line t) c vs)) z
        (joined_run initial
        (subst (λ (k : ℕ). Runs m.acts x (in_order (items k)) initial (seen (T.line k) c vs)) (sym z)
        (subst (λ (b : S). Runs m.acts x (in_order (items 0)) initial b) (sym (seen_nobody (T.line 0) c vs tree.root))
        sound.whole)))

    whole_after : (b : S) → (p ≡ 0 → seen (T.line t) c vs ≡ b) → (eqb p 0 ≡ false → c ≡ b) → Runs m.acts x (in_order (moved 0)) initial b
    whole_after b top lower =
        elim (cases_Bool (eqb p 0)) [
          | inl z ↦
              let e = eqb-true p 0 z in
              rw (eq-eqb 0 p (sym e))
              (subst (λ (k : ℕ). Runs m.acts x (in_order (items k) ++ in_order (items t)) initial b) (sym e)
              (subst (λ (k : S). Runs m.acts x (in_order (items 0) ++ in_order (items t)) initial k) (top e) (whole_joined e)))
          | inr z ↦
              rw (ne_eqb 0 p (λ e. eqb-false p 0 z (sym e)))
              (subst (λ (k : S). Runs m.acts x (in_order (items 0)) initial k) (lower z) sound.whole)
        ]

    -- the values of one who sees the same before and after
    same_values : (d : S) (ws : List (Version S)) (u : ℕ) → is_open T u ≡ true → eqb u t ≡ false → seen (T.line (T.parent u)) d ws ≡ seen (T.line (T.parent u)) c vs → seen (T.line u) d ws ≡ seen (T.line u) c vs → Runs m.acts x (in_order (items u)) (seen (N.line (N.parent u)) d ws) (seen (N.line u) d ws)
    same_values d ws u q e f g =
        let n = not_a_parent m.limit T tree locks t o leaf u q in
        rw (e, n) (runs_at m.acts x (in_order (items u)) _ _ _ _ (sym f) (sym g) (sound.values u q))

    -- the values of one who has done nothing with x
    idle_values : (d : S) (ws : List (Version S)) (u : ℕ) → is_open T u ≡ true → eqb u t ≡ false → touches x (in_order (items u)) ≡ false → (s : S) → seen (T.line (T.parent u)) d ws ≡ s → seen (T.line u) d ws ≡ s → Runs m.acts x (in_order (items u)) (seen (N.line (N.parent u)) d ws) (seen (N.line u) d ws)
    idle_values d ws u q e idle s f g =
        let n = not_a_parent m.limit T tree locks t o leaf u q in
        rw (e, n)
        (runs_at m.acts x (in_order (items u)) s s _ _ (sym f) (sym g) (runs_untouched m.acts x (in_order (items u)) s idle))

    -- the values of the parent
    parent_values : (d : S) (ws : List (Version S)) → is_open T p ≡ true → seen (T.line (T.parent p)) d ws ≡ seen (T.line (T.parent p)) c vs → seen (T.line p) d ws ≡ seen (T.line t) c vs → Runs m.acts x (in_order (items p) ++ in_order (items t)) (seen (N.line (N.parent p)) d ws) (seen (N.line p) d ws)
    parent_values d ws q f g =
        let n = not_a_parent m.limit T tree locks t o leaf p q in
        rw ((not_self m.limit T tree locks t o leaf x), n)
        (runs_at m.acts x (in_order (items p) ++ in_order (items t)) _ _ _ _ (sym f) (sym g) (joined_run _ (sound.values p q)))

    -- the values of all, from those of the parent and of others
    all_values : (d : S) (ws : List (Version S)) → (is_open T p ≡ true → seen (T.line (T.parent p)) d ws ≡ seen (T.line (T.parent p)) c vs) → (is_open T p ≡ true → seen (T.line p) d ws ≡ seen (T.line t) c vs) → ((u : ℕ) → is_open T u ≡ true → eqb u t ≡ false → eqb u p ≡ false → Runs m.acts x (in_order (items u)) (seen (N.line (N.parent u)) d ws) (seen (N.line u) d ws)) → (u : ℕ) → N.line u u ≡ true → Runs m.acts x (in_order (moved u)) (seen (N.line (N.parent u)) d ws) (seen (N.line u) d ws)
    all_values d ws f g others u q =
        elim (cases_Bool (eqb u p)) [
          | inl e ↦
              subst (λ (i : Items). Runs m.acts x (in_order i) (seen (N.line (N.parent u)) d ws) (seen (N.line u) d ws))
              (sym (moved_there u e)) (at_parent (eqb-true u p e))
          | inr e ↦
              subst (λ (i : Items). Runs m.acts x (in_order i) (seen (N.line (N.parent u)) d ws) (seen (N.line u) d ws))
              (sym (moved_other u e)) (others u (was m.limit T tree locks t o leaf x u q).1 (was m.limit T tree locks t o leaf x u q).0 e)
        ]
      where
        at_parent : u ≡ p → Runs m.acts x (in_order (items p) ++ in_order (items t)) (seen (N.line (N.parent u)) d ws) (seen (N.line u) d ws)
        at_parent e =
            let open_p = subst (λ (k : ℕ). is_open T k ≡ true) e (was m.limit T tree locks t o leaf x u q).1 in
            subst
            (λ (k : ℕ).
            Runs m.acts x (in_order (items p) ++ in_order (items t)) (seen (N.line (N.parent k)) d ws) (seen (N.line k) d ws))
            (sym e) (parent_values d ws open_p (f open_p) (g open_p))

    -- the changes of all
    all_counts : (ws : List (Version S)) → (is_open T p ≡ true → owned p vs + owned t vs ≡ owned p ws) → ((u : ℕ) → is_open T u ≡ true → eqb u t ≡ false → eqb u p ≡ false → owned u vs ≡ owned u ws) → (u : ℕ) → N.line u u ≡ true → added u ≡ owned u ws
    all_counts ws f others u q =
        elim (cases_Bool (eqb u p)) [
          | inl e ↦ rw e (at_parent (eqb-true u p e))
          | inr e ↦ rw e (sound.counts u (was m.limit T tree locks t o leaf x u q).1 ∙ others u (was m.limit T tree locks t o leaf x u q).1 (was m.limit T tree locks t o leaf x u q).0 e)
        ]
      where
        at_parent : u ≡ p → changes p + changes t ≡ owned u ws
        at_parent e =
            let open_p = subst (λ (k : ℕ). is_open T k ≡ true) e (was m.limit T tree locks t o leaf x u q).1 in
            let a = sound.counts p open_p in
            let b = sound.counts t o in rw (a, b) (f open_p ∙ subst (λ (k : ℕ). owned p ws ≡ owned k ws) (sym e) refl)

  -- t owns no version
  unowned : (c : S) (vs : List (Version S)) → SoundObject m T items changes x initial (object c vs) → Each (λ v. eqb v.owner t ≡ false) vs → SoundObject m N moved added x initial (object c vs)
  unowned c vs sound none_owned =
      record {
        stack = stack_stays m.limit T tree locks t o leaf x vs none_owned sound.stack;
        alike = sound.alike;
        alike_committed = sound.alike_committed;
        values = all_values c vs sound c vs (λ _. refl) (λ _. sees) (λ u q e _. same_values c vs sound c vs u q e refl refl);
        whole = whole_after c vs sound c (λ z. sym sees ∙ nobody z) (λ _. refl);
        locked = locked_after c vs sound;
        counts = all_counts c vs sound vs parent_counts (λ u q e f. refl);
      }
    where
      sees_owner : (u : ℕ) → eqb u t ≡ false → T.line p u ≡ T.line t u
      sees_owner u e = sym (tree.by_parent t u o ∙ rw e)

      sees : seen (T.line p) c vs ≡ seen (T.line t) c vs
      sees =
          seen_alike (T.line p) (T.line t) c vs
          (each_map (λ v. eqb v.owner t ≡ false) (λ v. T.line p v.owner ≡ T.line t v.owner) (λ v e. sees_owner v.owner e) vs
          none_owned)

      nobody : p ≡ 0 → seen (T.line p) c vs ≡ c
      nobody z = seen_nobody (T.line p) c vs (λ u. subst (λ (k : ℕ). T.line k u ≡ false) (sym z) (tree.root u))

      parent_counts : is_open T p ≡ true → owned p vs + owned t vs ≡ owned p vs
      parent_counts q = let e = owned_none t vs none_owned in omega arith

  module _ (c : S) (v : Version S) (ws : List (Version S)) (sound : SoundObject m T items changes x initial (object c (v ∷ ws))) (mine : v.owner ≡ t) where
    writes : T.writers x t ≡ true
    writes = subst (λ (k : ℕ). T.writers x k ≡ true) mine sound.stack.0

    beneath : Each (λ w. (eqb w.owner t ≡ false) × (T.line p w.owner ≡ true)) ws
    beneath = beneath_others m.limit T tree locks t o leaf x v ws mine sound.stack.1

    others : Each (λ w. eqb w.owner t ≡ false) ws
    others =
        each_map (λ w. (eqb w.owner t ≡ false) × (T.line p w.owner ≡ true)) (λ w. eqb w.owner t ≡ false) (λ w b. b.0) ws beneath

    owner_off : (l : ℕ → Bool) → l t ≡ false → l v.owner ≡ false
    owner_off l e = subst (λ (k : ℕ). l k ≡ false) (sym mine) e

    sees_own : seen (T.line t) c (v ∷ ws) ≡ v.state
    sees_own = seen_here (T.line t) c v ws (subst (λ (k : ℕ). T.line t k ≡ true) (sym mine) o)

    owned_else : (u : ℕ) → eqb u t ≡ false → owned u (v ∷ ws) ≡ owned u ws
    owned_else u e = let f : eqb v.owner u ≡ false = ne_eqb v.owner u (λ k. eqb-false u t e (sym k ∙ mine)) in rw f (omega arith)

    owned_mine : owned t (v ∷ ws) ≡ v.count
    owned_mine = let e = owned_none t ws others in rw (eq-eqb v.owner t mine, e) (omega arith)

    -- t's version goes to an open parent
    lower : eqb p 0 ≡ false → SoundObject m N moved added x initial (handed_on p c v ws)
    lower z =
        record {
          stack =
              stack_passed m.limit T tree locks t o leaf x c v writes z ws others
              (each_map (λ w. (eqb w.owner t ≡ false) × (T.line p w.owner ≡ true)) (λ w. T.line p w.owner ≡ true) (λ w b. b.1)
              ws beneath) sound.stack.2;
          alike = states.1;
          alike_committed = states.0;
          values = all_values c (v ∷ ws) sound d us parent_sees (λ q. seen_passed t p (T.line p) c v ws q z ∙ sym sees_own) rest;
          whole = whole_after c (v ∷ ws) sound d (λ e. absurd (eqb-false p 0 z e)) (λ _. sym (committed_stays t p c v ws z));
          locked = locked_after c (v ∷ ws) sound;
          counts =
              all_counts c (v ∷ ws) sound us parent_counts
              (λ u q e f. owned_else u e ∙ sym (owned_passed t p u c v ws z ∙ rw f (omega arith)));
        }
      where
        d : S
        d = (handed_on p c v ws).committed

        us : List (Version S)
        us = (handed_on p c v ws).versions

        states : Alike m initial (handed_on p c v ws).committed × Each (λ w. Alike m initial w.state) (handed_on p c v ws).versions
        states = each_passed t p (Alike m initial) c v ws sound.alike_committed sound.alike.0 sound.alike.1

        unpassed : (l : ℕ → Bool) → l t ≡ false → l p ≡ false → seen l d us ≡ seen l c (v ∷ ws)
        unpassed l e f = seen_unpassed t p l c v ws (owner_off l e) f z

        parent_sees : is_open T p ≡ true → seen (T.line (T.parent p)) d us ≡ seen (T.line (T.parent p)) c (v ∷ ws)
        parent_sees q =
            unpassed (T.line (T.parent p)) (off_line m.limit T tree locks t o leaf x (T.parent p) (not_a_parent m.limit T tree locks t o leaf p q))
            (tree.parent_apart p q)

        idle : (u : ℕ) → is_open T u ≡ true → eqb u t ≡ false → eqb u p ≡ false → T.line u p ≡ true → touches x (in_order (items u)) ≡ false
        idle u q e f l =
            elim (cases_Bool (touches x (in_order (items u)))) [
              | inl h ↦ absurd (eqb-false u p f (tree.one_way u p l (kin_is_above m.limit T tree locks t o leaf x u e writes (sound.locked u q h))))
              | inr h ↦ h
            ]

        rest : (u : ℕ) → is_open T u ≡ true → eqb u t ≡ false → eqb u p ≡ false → Runs m.acts x (in_order (items u)) (seen (N.line (N.parent u)) d us) (seen (N.line u) d us)
        rest u q e f =
            elim (cases_Bool (T.line u p)) [
              | inl l ↦
                  idle_values c (v ∷ ws) sound d us u q e (idle u q e f l) v.state
                  (seen_passed t p (T.line (T.parent u)) c v ws (through_parent m.limit T tree u p l (eqb-false u p f)) z)
                  (seen_passed t p (T.line u) c v ws l z)
              | inr l ↦
                  same_values c (v ∷ ws) sound d us u q e
                  (unpassed (T.line (T.parent u)) (off_parent m.limit T tree u t q (off_line m.limit T tree locks t o leaf x u e))
                  (off_parent m.limit T tree u p q l)) (unpassed (T.line u) (off_line m.limit T tree locks t o leaf x u e) l)
            ]

        parent_counts : is_open T p ≡ true → owned p (v ∷ ws) + owned t (v ∷ ws) ≡ owned p us
        parent_counts q =
            let a = owned_else p (not_self m.limit T tree locks t o leaf x) in
            let b = owned_mine in
            let e : owned p us ≡ v.count + owned p ws = owned_passed t p p c v ws z ∙ rw (eq-eqb p p refl) in omega arith

  -- t's version becomes the committed state
  topmost : (c : S) (v : Version S) (ws : List (Version S)) → SoundObject m T items changes x initial (object c (v ∷ ws)) → v.owner ≡ t → p ≡ 0 → SoundObject m N moved added x initial (handed_on p c v ws)
  topmost c v (w ∷ ws) sound mine z =
      absurd
      (both_ways _ (tree.root w.owner) (subst (λ (k : ℕ). T.line k w.owner ≡ true) z (beneath c v (w ∷ ws) sound mine).0.1))
  topmost c v [] sound mine z =
      rw (eq-eqb p 0 z)
      (record {
        stack = tt;
        alike = tt;
        alike_committed = sound.alike.0;
        values = all_values c (v ∷ []) sound v.state [] (λ q. absurd (shut q)) (λ _. sym (sees_own c v [] sound mine)) rest;
        whole = whole_after c (v ∷ []) sound v.state (λ _. sees_own c v [] sound mine) (λ f. absurd (eqb-false p 0 f z));
        locked = locked_after c (v ∷ []) sound;
        counts = all_counts c (v ∷ []) sound [] (λ q. absurd (shut q)) (λ u q e f. owned_else c v [] sound mine u e);
      })
    where
      shut : is_open T p ≡ true → ⊥
      shut q = both_ways _ (tree.root p) (subst (λ (k : ℕ). T.line k p ≡ true) z q)

      rest : (u : ℕ) → is_open T u ≡ true → eqb u t ≡ false → eqb u p ≡ false → Runs m.acts x (in_order (items u)) (seen (N.line (N.parent u)) v.state []) (seen (N.line u) v.state [])
      rest u q e f = idle_values c (v ∷ []) sound v.state [] u q e idle v.state refl refl
        where
          idle : touches x (in_order (items u)) ≡ false
          idle =
              elim (cases_Bool (touches x (in_order (items u)))) [
                | inl h ↦
                    absurd
                    (both_ways _ (tree.root u)
                    (subst (λ (k : ℕ). T.line k u ≡ true) z (kin_is_above m.limit T tree locks t o leaf x u e (writes c v [] sound mine) (sound.locked u q h))))
                | inr h ↦ h
              ]

  committed_from : (c : S) (vs : List (Version S)) → SoundObject m T items changes x initial (object c vs) → SoundObject m N moved added x initial (passed_from t p c vs)
  committed_from c [] sound = unowned c [] sound tt
  committed_from c (v ∷ ws) sound =
      elim (cases_Bool (eqb v.owner t)) [
        | inl e ↦
            rw e
            (elim (cases_Bool (eqb p 0)) [
              | inl z ↦ topmost c v ws sound (eqb-true v.owner t e) (eqb-true p 0 z)
              | inr z ↦ lower c v ws sound (eqb-true v.owner t e) z
            ])
        | inr e ↦ rw e (unowned c (v ∷ ws) sound (e, others_only m.limit T tree locks t o leaf x v ws e sound.stack.1))
      ]

  pub object_committed : (ob : Object S) → SoundObject m T items changes x initial ob → SoundObject m (handed t T) (put (T.parent t) (child (items (T.parent t)) t (items t)) items) (put (T.parent t) (changes (T.parent t) + changes t) changes) x initial (passed t (T.parent t) ob)
  object_committed ob sound = committed_from ob.committed ob.versions sound
