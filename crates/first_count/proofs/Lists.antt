-- A fact about lists that the library does not have.
use Rattle.std.specs.Prelude.{◌≡◌, ℕ, List, slice_get, slice_set, Some}
use Rattle.std.proofs.Common.{ap, sym, ◌∙◌}
use Rattle.std.proofs.lemmas.List.{set-get_or}
use Rattle.std.proofs.lemmas.Option.{get_or_from_slice_get}

-- an item, written back to its place, changes nothing
pub written_back : {K : Type 0} (ks : List K) (at : ℕ) (k : K) → slice_get ks at ≡ Some k → slice_set ks at k ≡ ks
written_back ks at k found = ap (λ x. slice_set ks at x) (sym (get_or_from_slice_get ks at k k found)) ∙ set-get_or ks at k
