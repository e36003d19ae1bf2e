-- An abort keeps what holds of an object.
use Rattle.std.proofs.Common.{◌≡◌, ℕ, Bool, true, false, eqb, List, sym, ap, ◌∙◌}
use Rattle.model.proofs.General.Finite.{has}
use mathlib.Core.Path.{fun_ext}
use Rattle.std.proofs.lemmas.Bool.{or_right}
use Rattle.model.specs.Histories.{Items, in_order}
use Rattle.model.specs.Model.{Setting}
use Rattle.model.specs.Stores.{Version, Object, object, owned}
use Rattle.model.specs.Tables.{closing_order, Tables, is_open, holds, cut}
use Rattle.model.proofs.Object.Cutting.{left, each_left, seen_left, owned_left, stack_left, stripped, stripped_left}
use Rattle.model.proofs.Tree.Depths.{closing_first, has_closing}
use Rattle.model.proofs.Tree.Invariants.{Tree, Locks}
use Rattle.model.proofs.Object.Invariant.{SoundObject, each_owner}
use Rattle.model.proofs.Tree.Removals.{removed, Downward, line_left, line_was, upper_left, parent_line_left, removed_tree, removed_locks}
use Rattle.model.proofs.Object.Runs.{Runs, runs_at, touches}
use Rattle.model.proofs.Object.Seeing.{seen}

module _ (limit : ℕ) (T : Tables) (tree : Tree limit T) (t : ℕ) where
  -- t and its descendants
  abbrev pub falls : ℕ → Bool
  falls u = T.line u t

  pub falls_down : Downward falls T
  falls_down u v l e = tree.along u v t l e

  pub cut_tree : Tree limit (cut t T)
  cut_tree = removed_tree limit T tree falls falls_down

  pub cut_locks : Locks T → Locks (cut t T)
  cut_locks locks = removed_locks limit T tree falls falls_down locks

module _ {S : Type 0} (m : Setting S) (T : Tables) (tree : Tree m.limit T) (t : ℕ) (items : ℕ → Items) (changes : ℕ → ℕ) (x : ℕ) (initial : S) (ob : Object S) (sound : SoundObject m T items changes x initial ob) where
  abbrev gone : ℕ → Bool
  gone = falls m.limit T tree t

  abbrev down : Downward gone T
  down = falls_down m.limit T tree t

  -- descendants first, one after the other, is all at once
  pub discarded_at_once : stripped (closing_order m.limit T t) ob.versions ≡ left gone ob.versions
  discarded_at_once =
      stripped_left T x gone down (closing_order m.limit T t) ob.versions (closing_first m.limit T tree t)
      (λ u h. sym (has_closing m.limit T tree t u) ∙ h)
      (each_owner T x (λ u. gone u ≡ true → has u (closing_order m.limit T t) ≡ true) (λ u _ g. has_closing m.limit T tree t u ∙ g)
      ob.versions sound.stack) sound.stack

  pub object_cut : SoundObject m (cut t T) items changes x initial (object ob.committed (left gone ob.versions))
  object_cut =
      record {
        stack = stack_left gone T x ob.versions sound.stack;
        alike = each_left gone _ ob.versions sound.alike;
        alike_committed = sound.alike_committed;
        values = values;
        whole = sound.whole;
        locked = locked;
        counts = counts;
      }
    where
      N : Tables
      N = removed gone T

      c : S
      c = ob.committed

      vs : List (Version S)
      vs = ob.versions

      was : (u : ℕ) → N.line u u ≡ true → (gone u ≡ false) × (T.line u u ≡ true)
      was u q = line_was gone T u u q

      sees : (u : ℕ) → gone u ≡ false → seen (N.line u) c (left gone vs) ≡ seen (T.line u) c vs
      sees u g =
          ap (λ (l : ℕ → Bool). seen l c (left gone vs)) (fun_ext (λ v. line_left gone T u v g))
          ∙ seen_left gone (T.line u) (λ v l. upper_left m.limit T tree gone down u v g l) c vs

      parent_stays : (u : ℕ) → gone u ≡ false → N.parent u ≡ T.parent u
      parent_stays u g = rw g

      sees_above : (u : ℕ) → gone u ≡ false → is_open T u ≡ true → seen (N.line (N.parent u)) c (left gone vs) ≡ seen (T.line (T.parent u)) c vs
      sees_above u g q =
          ap (λ (p : ℕ). seen (N.line p) c (left gone vs)) (parent_stays u g)
          ∙ (ap (λ (l : ℕ → Bool). seen l c (left gone vs)) (fun_ext (λ v. parent_line_left m.limit T tree gone down u v q g))
          ∙ seen_left gone (T.line (T.parent u))
          (λ v l.
          upper_left m.limit T tree gone down u v g
          (tree.by_parent u v q ∙ or_right (eqb v u) (T.line (T.parent u) v) l)) c vs)

      values : (u : ℕ) → N.line u u ≡ true → Runs m.acts x (in_order (items u)) (seen (N.line (N.parent u)) c (left gone vs)) (seen (N.line u) c (left gone vs))
      values u q =
          let w = was u q in
          runs_at m.acts x (in_order (items u)) _ _ _ _ (sym (sees_above u w.0 w.1)) (sym (sees u w.0)) (sound.values u w.1)

      locked : (u : ℕ) → N.line u u ≡ true → touches x (in_order (items u)) ≡ true → holds N x u ≡ true
      locked u q h = let w = was u q in let g = w.0 in rw g (sound.locked u w.1 h)

      counts : (u : ℕ) → N.line u u ≡ true → changes u ≡ owned u (left gone vs)
      counts u q = let w = was u q in sound.counts u w.1 ∙ sym (owned_left gone u w.0 vs)
