-- Lists whose items all pass a test: one more item, and one less.
use Rattle.std.specs.Prelude.{◌≡◌, ℕ, zero, suc, Bool, true, List, [], ◌∷◌, refl}
use Rattle.std.proofs.lemmas.Bool.{and_parts, and_from}
use Rattle.std.specs.List.{insert, remove, list_all}

module _ {T : Type 0} (test : T → Bool) where
  -- one more that passes
  pub all_inserted : (xs : List T) (at : ℕ) (x : T) → list_all test xs ≡ true → test x ≡ true → list_all test (insert xs at x) ≡ true
  all_inserted xs zero x e f = and_from (test x) (list_all test xs) f e
  all_inserted [] (suc at) x e f = and_from (test x) true f refl
  all_inserted (y ∷ xs) (suc at) x e f =
      let parts = and_parts (test y) (list_all test xs) e in
      and_from (test y) (list_all test (insert xs at x)) parts.0 (all_inserted xs at x parts.1 f)

  -- one less
  pub all_removed : (xs : List T) (at : ℕ) → list_all test xs ≡ true → list_all test (remove xs at) ≡ true
  all_removed [] zero e = refl
  all_removed [] (suc at) e = refl
  all_removed (y ∷ xs) zero e = (and_parts (test y) (list_all test xs) e).1
  all_removed (y ∷ xs) (suc at) e =
      let parts = and_parts (test y) (list_all test xs) e in
      and_from (test y) (list_all test (remove xs at)) parts.0 (all_removed xs at parts.1)
