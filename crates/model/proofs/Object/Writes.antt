-- An answered write keeps what holds of its object.
use Rattle.std.proofs.Common.{◌≡◌, ℕ, suc, ◌+◌, Bool, true, false, cond, eqb, List, [], ◌∷◌, ◌++◌, sym, refl, ap, ◌∙◌, subst, inl, inr, arith}
use Rattle.std.proofs.lemmas.Bool.{cases_Bool, or_right, eqb-true, eqb-false, eq-eqb}
use Rattle.std.proofs.lemmas.Bool.Decides.{nat_tests}
use Rattle.model.specs.Histories.{Done, Items, in_order, did}
use Rattle.model.specs.Model.{Setting}
use Rattle.model.specs.Numbers.{put}
use Rattle.model.specs.Stores.{Version, Object, top, owned, stacked, changed}
use Rattle.model.specs.Tables.{Tables, is_open, holds}
use Rattle.model.proofs.Tree.Invariants.{Tree}
use Rattle.model.proofs.Tree.Lines.{open_some, through_parent, off_parent}
use Rattle.model.proofs.Object.Invariant.{Stack, Beneath, Alike, SoundObject}
use Rattle.model.proofs.Object.Runs.{Runs, on, runs_on, runs_at, runs_step, runs_untouched, touches}
use Rattle.model.proofs.Object.Seeing.{Each, each_map, seen}

module _ {S : Type 0} (t : ℕ) (s : S) where
  -- a set with the writer in it sees the new state
  pub seen_written : (l : ℕ → Bool) (c : S) (vs : List (Version S)) → l t ≡ true → seen l c (stacked t s vs) ≡ s
  seen_written l c [] e = rw e
  seen_written l c (v ∷ vs) e = elim (cases_Bool (eqb v.owner t)) [ inl f ↦ rw (f, e) | inr f ↦ rw (f, e) ]

  -- a set without the writer sees what it saw
  pub seen_unwritten : (l : ℕ → Bool) (c : S) (vs : List (Version S)) → l t ≡ false → seen l c (stacked t s vs) ≡ seen l c vs
  seen_unwritten l c [] e = rw e
  seen_unwritten l c (v ∷ vs) e =
      elim (cases_Bool (eqb v.owner t)) [
        | inl f ↦ let k = subst (λ (u : ℕ). l u ≡ false) (sym (eqb-true v.owner t f)) e in rw (f, e, k)
        | inr f ↦ rw (f, e)
      ]

  -- the writer has one change more
  pub owned_written : (u : ℕ) (vs : List (Version S)) → owned u (stacked t s vs) ≡ cond (eqb u t) (suc (owned u vs)) (owned u vs)
  owned_written u [] = grind (arith, nat_tests)
  owned_written u (v ∷ vs) =
      elim (cases_Bool (eqb v.owner t)) [ inl f ↦ rw f (joined (eqb-true v.owner t f)) | inr f ↦ rw f (grind (arith, nat_tests)) ]
    where
      joined : v.owner ≡ t → cond (eqb t u) (suc v.count) 0 + owned u vs ≡ cond (eqb u t) (suc (cond (eqb v.owner u) v.count 0 + owned u vs)) (cond (eqb v.owner u) v.count 0 + owned u vs)
      joined e = rw e (grind (arith, nat_tests))

  -- the stack grows by a descendant of all owners, or its uppermost owner stays
  pub stack_written : (limit : ℕ) (T : Tables) → Tree limit T → (x : ℕ) → T.writers x t ≡ true → ((u : ℕ) → T.writers x u ≡ true → T.line t u ≡ true) → (vs : List (Version S)) → Stack T x vs → Stack T x (stacked t s vs)
  stack_written limit T tree x w on_line [] k = (w, tt, tt)
  stack_written limit T tree x w on_line (v ∷ vs) k =
      elim (cases_Bool (eqb v.owner t)) [
        | inl f ↦
            rw f
            (w, subst (λ (u : ℕ). Each (λ q. (T.line u q.owner ≡ true) × (u ≡ q.owner → ⊥)) vs) (eqb-true v.owner t f) k.1, k.2)
        | inr f ↦ rw f (w, ((on_line v.owner k.0, (λ e. eqb-false v.owner t f (sym e))), deeper f vs k.1), k)
      ]
    where
      deeper : eqb v.owner t ≡ false → (ws : List (Version S)) → Each (Beneath T v) ws → Each (λ q. (T.line t q.owner ≡ true) × (t ≡ q.owner → ⊥)) ws
      deeper f ws each =
          each_map (Beneath T v) (λ q. (T.line t q.owner ≡ true) × (t ≡ q.owner → ⊥))
          (λ q b. (
            tree.along t v.owner q.owner (on_line v.owner k.0) b.0,
            (λ e.
                eqb-false v.owner t f
                (tree.one_way v.owner t (subst (λ (u : ℕ). T.line v.owner u ≡ true) (sym e) b.0)
                (on_line v.owner k.0))),
          )) ws each

  -- what held of every state holds of every state
  pub each_written : (P : S → Type 0) → P s → (vs : List (Version S)) → Each (λ v. P v.state) vs → Each (λ v. P v.state) (stacked t s vs)
  each_written P new [] e = (new, tt)
  each_written P new (v ∷ vs) e = elim (cases_Bool (eqb v.owner t)) [ inl f ↦ rw f (new, e.1) | inr f ↦ rw f (new, e) ]

module _ {S : Type 0} (m : Setting S) (T : Tables) (tree : Tree m.limit T) (items : ℕ → Items) (changes : ℕ → ℕ) (x : ℕ) (initial : S) (ob : Object S) (sound : SoundObject m T items changes x initial ob) (t : ℕ) (o : is_open T t ≡ true) (d : Done) (h : on x d ≡ true) where
  abbrev s : S
  s = (m.acts (top ob) d.asked.operation).next

  -- every holder is on the writer's line, and the writer has the lock
  pub object_written : T.writers x t ≡ true → ((u : ℕ) → holds T x u ≡ true → T.line t u ≡ true) → top ob ≡ seen (T.line t) ob.committed ob.versions → Alike m initial (m.acts (top ob) d.asked.operation).next → (m.acts (top ob) d.asked.operation).answer ≡ d.answer → SoundObject m T (put t (did (items t) d) items) (put t (suc (changes t)) changes) x initial (changed t (m.acts (top ob) d.asked.operation).next ob)
  object_written w on_line sees alike answer =
      record {
        stack = stack_written t s m.limit T tree x w (λ u e. on_line u (or_right _ _ e)) vs sound.stack;
        alike = each_written t s (Alike m initial) alike vs sound.alike;
        alike_committed = sound.alike_committed;
        values = values;
        whole = whole;
        locked = locked;
        counts = counts;
      }
    where
      c : S
      c = ob.committed

      vs : List (Version S)
      vs = ob.versions

      ws : List (Version S)
      ws = stacked t s vs

      grown : ℕ → Items
      grown = put t (did (items t) d) items

      Values : ℕ → Type 0
      Values u = Runs m.acts x (in_order (grown u)) (seen (T.line (T.parent u)) c ws) (seen (T.line u) c ws)

      grown_new : grown t ≡ did (items t) d
      grown_new = rw (eq-eqb t t refl)

      new : Values t
      new =
          subst (λ (i : Items). Runs m.acts x (in_order i) (seen (T.line (T.parent t)) c ws) (seen (T.line t) c ws)) (sym grown_new)
          (runs_at m.acts x (in_order (items t) ++ (d ∷ [])) _ _ _ _
          (sym (seen_unwritten t s (T.line (T.parent t)) c vs (tree.parent_apart t o))) (sym (seen_written t s (T.line t) c vs o))
          (runs_on m.acts x (in_order (items t)) (d ∷ []) _ _ _ (sound.values t o)
          (subst (λ (a : S). Runs m.acts x (d ∷ []) a s) sees (runs_step m.acts x d (top ob) h answer))))

      -- a descendant of the writer has done nothing with x
      below : (u : ℕ) → is_open T u ≡ true → (u ≡ t → ⊥) → T.line u t ≡ true → touches x (in_order (items u)) ≡ false
      below u p ne l =
          elim (cases_Bool (touches x (in_order (items u)))) [
            | inl e ↦ absurd (ne (tree.one_way u t l (on_line u (sound.locked u p e))))
            | inr e ↦ e
          ]

      old : (u : ℕ) → is_open T u ≡ true → (u ≡ t → ⊥) → Runs m.acts x (in_order (items u)) (seen (T.line (T.parent u)) c ws) (seen (T.line u) c ws)
      old u p ne =
          elim (cases_Bool (T.line u t)) [
            | inl l ↦
                runs_at m.acts x (in_order (items u)) s s _ _
                (sym (seen_written t s (T.line (T.parent u)) c vs (through_parent m.limit T tree u t l ne)))
                (sym (seen_written t s (T.line u) c vs l)) (runs_untouched m.acts x (in_order (items u)) s (below u p ne l))
            | inr l ↦
                runs_at m.acts x (in_order (items u)) _ _ _ _
                (sym (seen_unwritten t s (T.line (T.parent u)) c vs (off_parent m.limit T tree u t p l)))
                (sym (seen_unwritten t s (T.line u) c vs l)) (sound.values u p)
          ]

      values : (u : ℕ) → is_open T u ≡ true → Values u
      values u p =
          elim (cases_Bool (eqb u t)) [ inl e ↦ subst Values (sym (eqb-true u t e)) new | inr e ↦ rw e (old u p (eqb-false u t e)) ]

      whole : Runs m.acts x (in_order (grown 0)) initial c
      whole = let e = open_some m.limit T tree t o in rw e sound.whole

      locked : (u : ℕ) → is_open T u ≡ true → touches x (in_order (grown u)) ≡ true → holds T x u ≡ true
      locked u p =
          elim (cases_Bool (eqb u t)) [
            | inl e ↦ (λ _. subst (λ (k : ℕ). holds T x k ≡ true) (sym (eqb-true u t e)) (or_right (T.readers x t) _ w))
            | inr e ↦ rw e (sound.locked u p)
          ]

      counts : (u : ℕ) → is_open T u ≡ true → put t (suc (changes t)) changes u ≡ owned u ws
      counts u p =
          elim (cases_Bool (eqb u t)) [
            | inl e ↦
                rw e
                (ap suc (sound.counts t o ∙ subst (λ (k : ℕ). owned t vs ≡ owned k vs) (sym (eqb-true u t e)) refl)
                ∙ sym (owned_written t s u vs ∙ rw e))
            | inr e ↦ rw e (sound.counts u p ∙ sym (owned_written t s u vs ∙ rw e))
          ]
