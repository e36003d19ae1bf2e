-- Answered steps keep what holds after every list of calls.
use Rattle.std.proofs.Common.{◌≡◌, ℕ, suc, Bool, true, false, eqb, List, [], ◌∷◌, Some, None, Option, sym, refl, ap, ◌∙◌, subst, inl, inr}
use Rattle.std.specs.List.{slice_get}
use Rattle.std.proofs.lemmas.Bool.{cases_Bool, eqb-true, eqb-false, eq-eqb, ne_eqb, or_left, or_right, or_from}
use Rattle.kinds.specs.declared.answer.Class.TheVariants as classes
use Rattle.model.specs.declared.lock.Mode.TheVariants.{Read, Write}
use Rattle.model.specs.Deadlocks.{in_conflict}
use Rattle.model.specs.Histories.{Account, Asked, Done, Items, in_order, did, counted, answered}
use Rattle.model.specs.Model.{Setting}
use Rattle.model.specs.Numbers.{put, at}
use Rattle.model.specs.Stores.{Version, Object, top, top_of, changed}
use Rattle.model.specs.Tables.{Tables, is_open, holds, granted, relocked, with_holder}
use Rattle.model.proofs.Tree.Granting.{free_on_line, granted_read_locks, granted_write_locks, same_tree}
use Rattle.model.proofs.Tree.Invariants.{Tree}
use Rattle.model.proofs.Object.Steps.{object_relocked, object_elsewhere, object_read}
use Rattle.model.proofs.Object.Writes.{object_written}
use Rattle.model.proofs.Object.Invariant.{Stack, Alike, SoundObject}
use Rattle.model.proofs.General.Places.{Matched, matched_same, by_place, nth_at}
use Rattle.model.proofs.Object.Runs.{touches, touches_append}
use Rattle.model.proofs.Object.Seeing.{Each, seen, seen_here}
use Rattle.model.proofs.Run.Calls.{asks_without}
use Rattle.model.proofs.Run.Invariant.{Lawful, Sound}

-- one value more that is true
pub put_more : (x t : ℕ) (f : ℕ → ℕ → Bool) (y u : ℕ) → f y u ≡ true → with_holder x t f y u ≡ true
put_more x t f y u e =
    elim (cases_Bool (eqb y x)) [
      | inl g ↦ rw g (elim (cases_Bool (eqb u t)) [ inl h ↦ rw h | inr h ↦ rw h (subst (λ (k : ℕ). f k u ≡ true) (eqb-true y x g) e) ])
      | inr g ↦ rw g e
    ]

pub put_there : (x t : ℕ) (f : ℕ → ℕ → Bool) → with_holder x t f x t ≡ true
put_there x t f = rw (eq-eqb x x refl, eq-eqb t t refl)

-- where every owner is on the line, the top state is what the line sees
pub top_is_seen : {S : Type 0} (T : Tables) (x : ℕ) (l : ℕ → Bool) → ((u : ℕ) → T.writers x u ≡ true → l u ≡ true) → (c : S) (vs : List (Version S)) → Stack T x vs → top_of c vs ≡ seen l c vs
top_is_seen T x l on c [] k = refl
top_is_seen T x l on c (v ∷ vs) k = sym (seen_here l c v vs (on v.owner k.0))

-- the top state is one of the states
pub top_alike : {S : Type 0} (P : S → Type 0) (c : S) (vs : List (Version S)) → P c → Each (λ v. P v.state) vs → P (top_of c vs)
top_alike P c [] k e = k
top_alike P c (v ∷ vs) k e = e.0

module _ {S : Type 0} (m : Setting S) (lawful : Lawful m) (initial : List S) (A : Account) (obs : List (Object S)) (sound : Sound m initial A obs) (t : ℕ) (o : is_open A.tables t ≡ true) (q : Asked) (s : S) (ob : Object S) (there : slice_get initial q.object ≡ Some s) (here : slice_get obs q.object ≡ Some ob) (object_sound : SoundObject m A.tables A.items (A.changes q.object) q.object s ob) where
  abbrev T : Tables
  T = A.tables

  abbrev x : ℕ
  x = q.object

  -- the tables once a lock was granted
  abbrev R : Tables
  R = granted Read t x T

  abbrev W : Tables
  W = granted Write t x T

  -- the step
  abbrev d : Done
  d = record { asked = q; answer = (m.acts (top ob) q.operation).answer }

  -- the objects that the step is not on, whatever locks there are besides
  other_object : (r w : ℕ → ℕ → Bool) → ((y u : ℕ) → T.readers y u ≡ true → r y u ≡ true) → ((y u : ℕ) → T.writers y u ≡ true → w y u ≡ true) → (y : ℕ) → eqb x y ≡ false → (a : S) (b : Object S) → SoundObject m T A.items (A.changes y) y a b → SoundObject m (relocked T (put t None T.wait) r w) (put t (did (A.items t) d) A.items) (A.changes y) y a b
  other_object r w more_r more_w y e a b h =
      object_elsewhere m (relocked T (put t None T.wait) r w) A.items (A.changes y) y a b
      (object_relocked m T A.items (A.changes y) y a b h (put t None T.wait) r w (more_r y) (more_w y))
      (same_tree m.limit T (put t None T.wait) r w sound.tree) t o d e

  known : (y : ℕ) → slice_get initial y ≡ None → (u : ℕ) → touches y (in_order (put t (did (A.items t) d) A.items u)) ≡ false
  known y e u =
      elim (cases_Bool (eqb u t)) [
        | inl g ↦ rw g (touches_append y (in_order (A.items t)) (d ∷ []) ∙ or_from _ _ (sound.known y e t) (or_from _ _ elsewhere refl))
        | inr g ↦ rw g (sound.known y e u)
      ]
    where
      elsewhere : eqb x y ≡ false
      elsewhere =
          ne_eqb x y
          (λ k.
          let gone : None ≡ Some s = sym e ∙ (ap (λ (j : ℕ). slice_get initial j) (sym k) ∙ there) in
          cc)

  pub read_sound : in_conflict m.limit T t x Read ≡ false → m.class (top ob) q.operation ≡ classes.Read → Sound m initial (answered Read t q (m.acts (top ob) q.operation).answer A) obs
  read_sound free class =
      record {
        tree = tree;
        locks = granted_read_locks m.limit T sound.tree sound.locks t x o free;
        each =
            by_place (λ y. Matched (SoundObject m R items (A.changes y) y) (slice_get initial y) (slice_get obs y)) x mine
            (λ y e.
            matched_same _ _ (other_object R.readers R.writers (put_more x t T.readers) (λ _ _ k. k) y e) (slice_get initial y)
            (slice_get obs y) (sound.each y));
        known = known;
        asks = asks_without m initial A obs sound t;
      }
    where
      items : ℕ → Items
      items = put t (did (A.items t) d) A.items

      tree : Tree m.limit R
      tree = same_tree m.limit T R.wait R.readers R.writers sound.tree

      on_line : (u : ℕ) → T.writers x u ≡ true → T.line t u ≡ true
      on_line u e = free_on_line m.limit T sound.tree sound.locks t x Read u free e

      relocked_sound : SoundObject m R A.items (A.changes x) x s ob
      relocked_sound =
          object_relocked m T A.items (A.changes x) x s ob object_sound R.wait R.readers R.writers
          (λ u k. put_more x t T.readers x u k) (λ u k. k)

      read : SoundObject m R items (A.changes x) x s ob
      read =
          object_read m R A.items (A.changes x) x s ob relocked_sound tree t o d (eq-eqb x x refl)
          (or_left _ (R.writers x t) (put_there x t T.readers))
          (top_is_seen T x (T.line t) on_line ob.committed ob.versions object_sound.stack) refl
          (lawful.read_stays (top ob) q.operation class)

      mine : Matched (SoundObject m R items (A.changes x) x) (slice_get initial x) (slice_get obs x)
      mine = rw (there, here) read

  pub written_sound : in_conflict m.limit T t x Write ≡ false → Sound m initial (answered Write t q (m.acts (top ob) q.operation).answer A) (at x (changed t (m.acts (top ob) q.operation).next) obs)
  written_sound free =
      record {
        tree = tree;
        locks = granted_write_locks m.limit T sound.tree sound.locks t x o free;
        each =
            by_place (λ y. Matched (SoundObject m W items (counted Write t x A.changes y) y) (slice_get initial y) (slice_get (at x act obs) y)) x
            mine other;
        known = known;
        asks = asks_without m initial A obs sound t;
      }
    where
      act : Object S → Object S
      act = changed t (m.acts (top ob) q.operation).next

      items : ℕ → Items
      items = put t (did (A.items t) d) A.items

      tree : Tree m.limit W
      tree = same_tree m.limit T W.wait W.readers W.writers sound.tree

      was_on_line : (u : ℕ) → holds T x u ≡ true → T.line t u ≡ true
      was_on_line u e = free_on_line m.limit T sound.tree sound.locks t x Write u free e

      on_line : (u : ℕ) → holds W x u ≡ true → T.line t u ≡ true
      on_line u h =
          elim (cases_Bool (eqb u t)) [
            | inl e ↦ subst (λ (k : ℕ). T.line t k ≡ true) (sym (eqb-true u t e)) o
            | inr e ↦ was_on_line u (rw (eq-eqb x x refl, e) at h)
          ]

      relocked_sound : SoundObject m W A.items (A.changes x) x s ob
      relocked_sound =
          object_relocked m T A.items (A.changes x) x s ob object_sound W.wait W.readers W.writers (λ u k. k)
          (λ u k. put_more x t T.writers x u k)

      alike : Alike m s (m.acts (top ob) q.operation).next
      alike p =
          lawful.class_stays (top ob) p q.operation
          ∙ top_alike (Alike m s) ob.committed ob.versions object_sound.alike_committed object_sound.alike p

      written : SoundObject m W items (put t (suc (A.changes x t)) (A.changes x)) x s (act ob)
      written =
          object_written m W tree A.items (A.changes x) x s ob relocked_sound t o d (eq-eqb x x refl) (put_there x t T.writers)
          on_line
          (top_is_seen T x (T.line t) (λ u e. was_on_line u (or_right (T.readers x u) (T.writers x u) e)) ob.committed ob.versions
          object_sound.stack) alike refl

      counts_here : counted Write t x A.changes x ≡ put t (suc (A.changes x t)) (A.changes x)
      counts_here = rw (eq-eqb x x refl)

      there_now : slice_get (at x act obs) x ≡ Some (act ob)
      there_now = nth_at x act obs x ∙ rw (eq-eqb x x refl, here)

      mine : Matched (SoundObject m W items (counted Write t x A.changes x) x) (slice_get initial x) (slice_get (at x act obs) x)
      mine =
          subst (λ (b : Option (Object S)). Matched (SoundObject m W items (counted Write t x A.changes x) x) (slice_get initial x) b)
          (sym there_now)
          (subst (λ (a : Option S). Matched (SoundObject m W items (counted Write t x A.changes x) x) a (Some (act ob))) (sym there)
          (subst (λ (c : ℕ → ℕ). SoundObject m W items c x s (act ob)) (sym counts_here) written))

      other : (y : ℕ) → eqb x y ≡ false → Matched (SoundObject m W items (counted Write t x A.changes y) y) (slice_get initial y) (slice_get (at x act obs) y)
      other y e =
          subst (λ (b : Option (Object S)). Matched (SoundObject m W items (counted Write t x A.changes y) y) (slice_get initial y) b)
          (sym (nth_at x act obs y ∙ rw e))
          (subst (λ (c : ℕ → ℕ). Matched (SoundObject m W items c y) (slice_get initial y) (slice_get obs y)) (sym counts_there)
          (matched_same _ _ (other_object W.readers W.writers (λ _ _ k. k) (put_more x t T.writers) y e) (slice_get initial y)
          (slice_get obs y) (sound.each y)))
        where
          counts_there : counted Write t x A.changes y ≡ A.changes y
          counts_there = let f = ne_eqb y x (λ k. eqb-false x y e (sym k)) in rw f
