-- Begins, waits, commits and aborts keep what holds after every list of calls.
use Rattle.std.proofs.Common.{◌≡◌, ℕ, true, false, ◌||◌, eqb, List, map, Some, None, Option, sym, refl, ap, ◌∙◌, subst, inl, inr, arith}
use Rattle.std.specs.Option.{option_map}
use Rattle.std.specs.List.{slice_get}
use Rattle.std.proofs.lemmas.Option.{slice_get-map}
use Rattle.std.proofs.lemmas.Bool.{cases_Bool, ne_eqb, and_parts, leb-true, false≢true, or_from}
use Rattle.model.specs.declared.lock.Mode.{Mode}
use Rattle.model.specs.declared.lock.Wait.{Wait}
use Rattle.model.specs.Histories.{Account, Asked, in_order, nothing, child, class_at, blank, began, kept_waiting, joined, rolled_back, class_of}
use Rattle.model.specs.Checks.{numbered, has_child}
use Rattle.model.specs.Model.{Setting}
use Rattle.model.specs.Numbers.{put}
use Rattle.model.specs.Stores.{Object, object, made, passed, inherit}
use Rattle.model.specs.Tables.{closing_order, Tables, is_open, vacant, delayed}
use Rattle.model.proofs.Object.Cutting.{stripped}
use Rattle.model.proofs.Tree.Granting.{delayed_locks, same_tree}
use Rattle.model.proofs.Tree.Handing.{handed_tree, handed_locks}
use Rattle.model.proofs.Tree.Invariants.{Tree, Locks}
use Rattle.model.proofs.Object.Aborts.{cut_tree, cut_locks, discarded_at_once, object_cut}
use Rattle.model.proofs.Object.Begins.{object_began}
use Rattle.model.proofs.Object.Commits.{object_committed}
use Rattle.model.proofs.Object.Steps.{object_relocked}
use Rattle.model.proofs.Object.Invariant.{SoundObject}
use Rattle.model.proofs.Tree.Openings.{opened_tree, opened_locks}
use Rattle.model.proofs.General.Places.{Matched, matched_map, matched_same}
use Rattle.model.proofs.Object.Runs.{runs_nothing, touches, touches_append}
use Rattle.model.proofs.Run.Invariant.{Sound, WaitsWith}

-- nobody waits for what is not there
none_some : {A X : Type 0} (a : A) → None ≡ Some a → X
none_some a e = absurd cc

-- where nothing is open, everything holds
vacant_tree : (limit : ℕ) → Tree limit vacant
vacant_tree limit =
    record {
      root = λ v. refl;
      lower_open = λ u v e. e;
      upper_open = λ u v e. e;
      along = λ u v w e f. e;
      one_way = λ u v e f. absurd (false≢true e);
      comparable = λ u v w e f. e;
      by_parent = λ u v e. absurd (false≢true e);
      parent_open = λ u e. absurd (false≢true e);
      parent_apart = λ u e. refl;
      in_range = λ u e. absurd (false≢true e);
      rising = λ u v e ne. absurd (false≢true e);
      counted = λ u e. absurd (false≢true e);
    }

vacant_locks : Locks vacant
vacant_locks = record { holder_open = λ x u e. e; waiter_open = λ u e. e; kin_only = λ x w u e f. absurd (false≢true e) }

module _ {S : Type 0} (m : Setting S) (initial : List S) where
  pub initially_sound : Sound m initial blank (map made initial)
  initially_sound =
      record {
        tree = vacant_tree m.limit;
        locks = vacant_locks;
        each =
            λ x.
            subst (λ (b : Option (Object S)). Matched (SoundObject m vacant blank.items (blank.changes x) x) (slice_get initial x) b)
            (sym (slice_get-map made initial x)) (new x (slice_get initial x));
        known = λ x e u. refl;
        asks = λ u w e. none_some w e;
      }
    where
      new : (x : ℕ) (a : Option S) → Matched (SoundObject m vacant blank.items (blank.changes x) x) a (option_map made a)
      new x None = tt
      new x (Some s) =
          record {
            stack = tt;
            alike = tt;
            alike_committed = λ o. refl;
            values = λ u e. absurd (false≢true e);
            whole = runs_nothing m.acts x s;
            locked = λ u e h. absurd (false≢true e);
            counts = λ u e. refl;
          }

  module _ (A : Account) (obs : List (Object S)) (sound : Sound m initial A obs) where
    abbrev T : Tables
    T = A.tables

    -- where t's wait ended, whoever waits still waits
    pub asks_without : (t : ℕ) → (u : ℕ) (w : Wait) → put t None T.wait u ≡ Some w → WaitsWith m initial (put t None A.waiting_step) u w
    asks_without t u w e =
        elim (cases_Bool (eqb u t)) [
          | inl g ↦ none_some w (rw g at e)
          | inr g ↦ let k = sound.asks u w (rw g at e) in (k.0, rw g k.1, k.2, k.3)
        ]

    pub began_sound : (t p : ℕ) → numbered m.limit t ≡ true → is_open T t ≡ false → (eqb p 0 || is_open T p) ≡ true → Sound m initial (began t p A) obs
    began_sound t p ranged shut under =
        record {
          tree = opened_tree m.limit T sound.tree t p ranged some shut under;
          locks = opened_locks m.limit T sound.tree t p ranged some shut under sound.locks;
          each =
              λ x.
              matched_same _ _
              (λ s ob h. object_began m T sound.tree sound.locks t p ranged some shut under A.items (A.changes x) x s ob h)
              (slice_get initial x) (slice_get obs x) (sound.each x);
          known = known;
          asks = asks_without t;
        }
      where
        known : (x : ℕ) → slice_get initial x ≡ None → (u : ℕ) → touches x (in_order (put t nothing A.items u)) ≡ false
        known x e u = elim (cases_Bool (eqb u t)) [ inl g ↦ rw g | inr g ↦ rw g (sound.known x e u) ]

        some : eqb 0 t ≡ false
        some = let le = leb-true 1 t (and_parts _ _ ranged).0 in ne_eqb 0 t (λ e. omega arith)

    pub delayed_sound : (mode : Mode) (t : ℕ) (q : Asked) → is_open T t ≡ true → class_at m.class initial q.object q.operation ≡ class_of mode → Sound m initial (kept_waiting mode t q A) obs
    delayed_sound mode t q o e =
        record {
          tree = same_tree m.limit T _ T.readers T.writers sound.tree;
          locks = delayed_locks m.limit T sound.tree sound.locks mode t q.object o;
          each =
              λ x.
              matched_same _ _
              (λ s ob h.
              object_relocked m T A.items (A.changes x) x s ob h (delayed mode t q.object T).wait T.readers T.writers
              (λ u k. k) (λ u k. k)) (slice_get initial x) (slice_get obs x) (sound.each x);
          known = sound.known;
          asks = asks;
        }
      where
        asks : (u : ℕ) (w : Wait) → (delayed mode t q.object T).wait u ≡ Some w → WaitsWith m initial (put t (Some q) A.waiting_step) u w
        asks u w k =
            elim (cases_Bool (eqb u t)) [
              | inl g ↦ new g (rw g at k)
              | inr g ↦ let j = sound.asks u w (rw g at k) in (j.0, rw g j.1, j.2, j.3)
            ]
          where
            new : eqb u t ≡ true → Some (record { object = q.object; mode = mode }) ≡ Some w → WaitsWith m initial (put t (Some q) A.waiting_step) u w
            new g f =
                let there : record { object = q.object; mode = mode } ≡ w = cc in
                (q, rw g, ap (λ (a : Wait). a.object) there, e ∙ ap (λ (a : Wait). class_of a.mode) there)

    pub joined_sound : (t : ℕ) → is_open T t ≡ true → has_child m.limit T t ≡ false → Sound m initial (joined t (T.parent t) A) (inherit t (T.parent t) obs)
    joined_sound t o leaf =
        record {
          tree = handed_tree m.limit T sound.tree sound.locks t o leaf;
          locks = handed_locks m.limit T sound.tree sound.locks t o leaf;
          each =
              λ x.
              subst
              (λ (b : Option (Object S)).
              Matched (SoundObject m (N) (joined t (T.parent t) A).items ((joined t (T.parent t) A).changes x) x)
              (slice_get initial x) b) (sym (slice_get-map (passed t (T.parent t)) obs x))
              (matched_map _ _ (passed t (T.parent t))
              (λ s ob h. object_committed m T sound.tree sound.locks t o leaf A.items (A.changes x) x s ob h) (slice_get initial x)
              (slice_get obs x) (sound.each x));
          known = known;
          asks = asks;
        }
      where
        p : ℕ
        p = T.parent t

        known : (x : ℕ) → slice_get initial x ≡ None → (u : ℕ) → touches x (in_order (put p (child (A.items p) t (A.items t)) A.items u)) ≡ false
        known x e u =
            elim (cases_Bool (eqb u p)) [
              | inl g ↦
                  rw g
                  (touches_append x (in_order (A.items p)) (in_order (A.items t)) ∙ or_from _ _ (sound.known x e p) (sound.known x e t))
              | inr g ↦ rw g (sound.known x e u)
            ]

        N : Tables
        N = (joined t (T.parent t) A).tables

        asks : (u : ℕ) (w : Wait) → put t None T.wait u ≡ Some w → WaitsWith m initial A.waiting_step u w
        asks u w e = elim (cases_Bool (eqb u t)) [ inl g ↦ none_some w (rw g at e) | inr g ↦ sound.asks u w (rw g at e) ]

    -- an object after the store has discarded t's subtree
    abbrev pub cut_off : ℕ → Object S → Object S
    cut_off t ob = object ob.committed (stripped (closing_order m.limit T t) ob.versions)

    pub rolled_back_sound : (t : ℕ) → Sound m initial (rolled_back t A) (map (cut_off t) obs)
    rolled_back_sound t =
        record {
          tree = cut_tree m.limit T sound.tree t;
          locks = cut_locks m.limit T sound.tree t sound.locks;
          each =
              λ x.
              subst
              (λ (b : Option (Object S)).
              Matched (SoundObject m (rolled_back t A).tables A.items (A.changes x) x) (slice_get initial x) b)
              (sym (slice_get-map (cut_off t) obs x))
              (matched_map _ _ (cut_off t)
              (λ s ob h.
              subst
              (λ (vs : List _). SoundObject m (rolled_back t A).tables A.items (A.changes x) x s (object ob.committed vs))
              (sym (discarded_at_once m T sound.tree t A.items (A.changes x) x s ob h))
              (object_cut m T sound.tree t A.items (A.changes x) x s ob h)) (slice_get initial x) (slice_get obs x) (sound.each x));
          known = sound.known;
          asks = asks;
        }
      where
        asks : (u : ℕ) (w : Wait) → (rolled_back t A).tables.wait u ≡ Some w → WaitsWith m initial A.waiting_step u w
        asks u w e = elim (cases_Bool (T.line u t)) [ inl g ↦ none_some w (rw g at e) | inr g ↦ sound.asks u w (rw g at e) ]
