-- A begin keeps what holds of an object.
use Rattle.std.proofs.Common.{◌≡◌, ℕ, true, false, ◌||◌, eqb, List, [], sym, refl, subst, inl, inr}
use Rattle.std.proofs.lemmas.Bool.{cases_Bool, eqb-true, eq-eqb, false≢true}
use Rattle.model.specs.Histories.{Items, in_order, nothing}
use Rattle.model.specs.Checks.{numbered}
use Rattle.model.specs.Model.{Setting}
use Rattle.model.specs.Numbers.{put}
use Rattle.model.specs.Stores.{Version, Object, owned}
use Rattle.model.specs.Tables.{Tables, is_open, holds, opened}
use Rattle.model.proofs.Tree.Invariants.{Tree, Locks}
use Rattle.model.proofs.Object.Invariant.{SoundObject, stack_carried, each_owner, writer_open, owned_none}
use Rattle.model.proofs.Tree.Openings.{open_is_other, parent_is_other}
use Rattle.model.proofs.Object.Runs.{Runs, runs_nothing, touches}
use Rattle.model.proofs.Object.Seeing.{seen, seen_alike}

module _ {S : Type 0} (m : Setting S) (T : Tables) (tree : Tree m.limit T) (locks : Locks T) (t p : ℕ) (ranged : numbered m.limit t ≡ true) (some : eqb 0 t ≡ false) (shut : is_open T t ≡ false) (under : (eqb p 0 || is_open T p) ≡ true) where
  pub object_began : (items : ℕ → Items) (changes : ℕ → ℕ) (x : ℕ) (initial : S) (ob : Object S) → SoundObject m T items changes x initial ob → SoundObject m (opened t p T) (put t nothing items) (put t 0 changes) x initial ob
  object_began items changes x initial ob sound =
      record {
        stack =
            stack_carried T N x (λ u. eqb u t ≡ false) (λ u _ e. e) (λ u v f l. rw f l) vs
            (each_owner T x (λ u. eqb u t ≡ false) owner_other vs sound.stack) sound.stack;
        alike = sound.alike;
        alike_committed = sound.alike_committed;
        values = values;
        whole = subst (λ (i : Items). Runs m.acts x (in_order i) initial c) (sym (old_items 0 some)) sound.whole;
        locked = locked;
        counts = counts;
      }
    where
      N : Tables
      N = opened t p T

      c : S
      c = ob.committed

      vs : List (Version S)
      vs = ob.versions

      old_items : (u : ℕ) → eqb u t ≡ false → put t nothing items u ≡ items u
      old_items u e = rw e

      owner_other : (u : ℕ) → T.writers x u ≡ true → eqb u t ≡ false
      owner_other u e = open_is_other m.limit T tree t shut u (writer_open T locks x u e)

      -- the new one sees what its parent sees
      sees_as_parent : seen (N.line p) c vs ≡ seen (N.line t) c vs
      sees_as_parent = seen_alike (N.line p) (N.line t) c vs (each_owner T x (λ u. N.line p u ≡ N.line t u) same vs sound.stack)
        where
          same : (u : ℕ) → T.writers x u ≡ true → N.line p u ≡ N.line t u
          same u e =
              let f = owner_other u e in
              let g = parent_is_other m.limit T tree t p ranged some shut under p under in rw (g, eq-eqb t t refl, f)

      open_before : (u : ℕ) → eqb u t ≡ false → N.line u u ≡ true → is_open T u ≡ true
      open_before u e o = rw e at o

      Values : ℕ → Type 0
      Values u = Runs m.acts x (in_order (put t nothing items u)) (seen (N.line (N.parent u)) c vs) (seen (N.line u) c vs)

      items_new : put t nothing items t ≡ nothing
      items_new = rw (eq-eqb t t refl)

      parent_new : N.parent t ≡ p
      parent_new = rw (eq-eqb t t refl)

      new : Values t
      new =
          subst (λ (i : Items). Runs m.acts x (in_order i) (seen (N.line (N.parent t)) c vs) (seen (N.line t) c vs)) (sym items_new)
          (subst (λ (q : ℕ). Runs m.acts x [] (seen (N.line q) c vs) (seen (N.line t) c vs)) (sym parent_new)
          (subst (λ (b : S). Runs m.acts x [] (seen (N.line p) c vs) b) sees_as_parent (runs_nothing m.acts x _)))

      old : (u : ℕ) → N.line u u ≡ true → eqb u t ≡ false → Values u
      old u o e =
          let q = open_before u e o in
          let g = parent_is_other m.limit T tree t p ranged some shut under (T.parent u) (tree.parent_open u q) in
          rw (e, g) (sound.values u q)

      values : (u : ℕ) → N.line u u ≡ true → Values u
      values u o = elim (cases_Bool (eqb u t)) [ inl e ↦ subst Values (sym (eqb-true u t e)) new | inr e ↦ old u o e ]

      locked : (u : ℕ) → N.line u u ≡ true → touches x (in_order (put t nothing items u)) ≡ true → holds T x u ≡ true
      locked u o =
          elim (cases_Bool (eqb u t)) [ inl e ↦ rw e (λ h. absurd (false≢true h)) | inr e ↦ rw e (sound.locked u (open_before u e o)) ]

      counts : (u : ℕ) → N.line u u ≡ true → put t 0 changes u ≡ owned u vs
      counts u o =
          elim (cases_Bool (eqb u t)) [
            | inl e ↦
                rw e
                (sym
                (subst (λ (k : ℕ). owned k vs ≡ 0) (sym (eqb-true u t e))
                (owned_none t vs (each_owner T x (λ v. eqb v t ≡ false) owner_other vs sound.stack))))
            | inr e ↦ rw e (sound.counts u (open_before u e o))
          ]
