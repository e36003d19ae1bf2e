-- Transactions that end one after the other end all at once.
use Rattle.std.proofs.Common.{◌≡◌, ℕ, Bool, true, false, cond, ◌||◌, eqb, List, [], ◌∷◌, map, None, sym, refl, ap, ◌∙◌}
use Rattle.model.proofs.General.Finite.{has}
use mathlib.Core.List.{map-map}
use mathlib.Core.Path.{fun_ext}
use Rattle.std.proofs.lemmas.List.{map-id}
use Rattle.model.specs.Model.{State, state, ended, aborted}
use Rattle.model.specs.Stores.{Object, object, dropped, discard}
use Rattle.model.specs.Tables.{closing_order, Tables, closed, cut}
use Rattle.model.proofs.Object.Cutting.{stripped}
use Rattle.model.proofs.Tree.Depths.{has_closing}
use Rattle.model.proofs.Tree.Invariants.{Tree}
use Rattle.model.proofs.Tree.Removals.{removed}

-- out by one test or by the other
cond_twice : {A : Type 0} (b c : Bool) (a x : A) → cond b a (cond c a x) ≡ cond (c || b) a x
cond_twice true true a x = refl
cond_twice true false a x = refl
cond_twice false true a x = refl
cond_twice false false a x = refl

removed_twice : (f g : ℕ → Bool) (T : Tables) → removed f (removed g T) ≡ removed (λ u. g u || f u) T
removed_twice f g T =
    λ i.
    record {
      parent = fun_ext (λ u. cond_twice (f u) (g u) 0 (T.parent u)) i;
      line = fun_ext (λ u. cond_twice (f u) (g u) (λ v. false) (T.line u)) i;
      ordinal = fun_ext (λ u. cond_twice (f u) (g u) 0 (T.ordinal u)) i;
      wait = fun_ext (λ u. cond_twice (f u) (g u) None (T.wait u)) i;
      readers = fun_ext (λ x. fun_ext (λ u. cond_twice (f u) (g u) false (T.readers x u))) i;
      writers = fun_ext (λ x. fun_ext (λ u. cond_twice (f u) (g u) false (T.writers x u))) i;
      begins = T.begins;
    }

module _ {S : Type 0} where
  -- an object without the versions of some, taken off one after the other
  abbrev pub strip : List ℕ → Object S → Object S
  strip us ob = object ob.committed (stripped us ob.versions)

  ended_tables : (us : List ℕ) (s : State S) → (ended us s).tables ≡ removed (λ u. has u us) s.tables
  ended_tables [] s = refl
  ended_tables (u ∷ us) s =
      ended_tables us (state (closed u s.tables) (discard u s.objects)) ∙ removed_twice (λ v. has v us) (λ v. eqb v u) s.tables

  pub ended_objects : (us : List ℕ) (s : State S) → (ended us s).objects ≡ map (strip us) s.objects
  ended_objects [] s = sym (map-id s.objects)
  ended_objects (u ∷ us) s =
      ended_objects us (state (closed u s.tables) (discard u s.objects)) ∙ map-map (strip us) (dropped u) s.objects

  -- an abort cuts the whole subtree
  pub aborted_tables : (limit : ℕ) (T : Tables) (obs : List (Object S)) → Tree limit T → (t : ℕ) → (aborted limit t (state T obs)).tables ≡ cut t T
  aborted_tables limit T obs tree t =
      ended_tables (closing_order limit T t) (state T obs) ∙ ap (λ (f : ℕ → Bool). removed f T) (fun_ext (has_closing limit T tree t))
