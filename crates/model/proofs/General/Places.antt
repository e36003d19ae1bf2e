-- What stands at a place of a list, and lists that match place by place.
use Rattle.std.proofs.Common.{◌≡◌, ℕ, zero, suc, false, cond, eqb, List, [], ◌∷◌, Some, None, Option, refl, subst, inl, inr}
use lib.Dec.{eqb-zero-suc, eqb-suc-zero, eqb-suc-suc}
use Rattle.std.specs.Option.{option_map}
use Rattle.std.specs.List.{slice_get}
use Rattle.std.proofs.lemmas.Bool.{cases_Bool, eqb-true}
use Rattle.model.specs.Numbers.{at}

pub nth_at : {A : Type 0} (y : ℕ) (f : A → A) (xs : List A) (i : ℕ) → slice_get (at y f xs) i ≡ cond (eqb y i) (option_map f (slice_get xs i)) (slice_get xs i)
nth_at y f [] i = elim (cases_Bool (eqb y i)) [ inl e ↦ rw e | inr e ↦ rw e ]
nth_at zero f (x ∷ xs) zero = refl
nth_at zero f (x ∷ xs) (suc i) = rw (eqb-zero-suc i)
nth_at (suc y) f (x ∷ xs) zero = rw (eqb-suc-zero y)
nth_at (suc y) f (x ∷ xs) (suc i) = rw (eqb-suc-suc y i) (nth_at y f xs i)

-- lists with the same at every place are the same
pub same_places : {A : Type 0} (xs ys : List A) → ((i : ℕ) → slice_get xs i ≡ slice_get ys i) → xs ≡ ys
same_places [] [] e = refl
same_places [] (y ∷ ys) e = cc (e 0)
same_places (x ∷ xs) [] e = cc (e 0)
same_places (x ∷ xs) (y ∷ ys) e = let first : x ≡ y = cc (e 0) in let rest = same_places xs ys (λ i. e (suc i)) in cc

-- both are there and match, or neither is
abbrev pub Matched : {A B : Type 0} → (A → B → Type 0) → Option A → Option B → Type 0
Matched P None None = Unit {0}
Matched P None (Some b) = ⊥
Matched P (Some a) None = ⊥
Matched P (Some a) (Some b) = P a b

pub matched_map : {A B C : Type 0} (P : A → B → Type 0) (Q : A → C → Type 0) (f : B → C) → ((a : A) (b : B) → P a b → Q a (f b)) → (a : Option A) (b : Option B) → Matched P a b → Matched Q a (option_map f b)
matched_map P Q f go None None h = tt
matched_map P Q f go None (Some b) h = absurd h
matched_map P Q f go (Some a) None h = absurd h
matched_map P Q f go (Some a) (Some b) h = go a b h

pub matched_same : {A B : Type 0} (P Q : A → B → Type 0) → ((a : A) (b : B) → P a b → Q a b) → (a : Option A) (b : Option B) → Matched P a b → Matched Q a b
matched_same P Q go None None h = tt
matched_same P Q go None (Some b) h = absurd h
matched_same P Q go (Some a) None h = absurd h
matched_same P Q go (Some a) (Some b) h = go a b h

-- what matches something that is there is there
pub matched_there : {A B : Type 0} (P : A → B → Type 0) (a : Option A) (b : B) (o : Option B) → o ≡ Some b → Matched P a o → (x : A) × (a ≡ Some x) × P x b
matched_there P a b o e h = there a (subst (λ (k : Option _). Matched P a k) e h)
  where
    there : (a : Option _) → Matched P a (Some b) → (x : _) × (a ≡ Some x) × P x b
    there None h = absurd h
    there (Some x) h = (x, refl, h)

-- at a given place, and at all others
pub by_place : (P : ℕ → Type 0) (x : ℕ) → P x → ((y : ℕ) → eqb x y ≡ false → P y) → (y : ℕ) → P y
by_place P x here else y = elim (cases_Bool (eqb x y)) [ inl e ↦ subst P (eqb-true x y e) here | inr e ↦ else y e ]
