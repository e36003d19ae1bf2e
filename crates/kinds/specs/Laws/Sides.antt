-- Rows of a join: one that reads back as an object of a side is a row of that side.
use Rattle.std.specs.Prelude.{◌≡◌, Some, None, Option}
use Rattle.std.specs.Option.{option_map}
use Rattle.either.specs.declared.Either.{Either}
use Rattle.either.specs.declared.Either.TheVariants.{Left, Right}

module _ {L R : Type 0} where
  pub left_some : (o : Option L) (l : L) → option_map {U = Either L R} Left o ≡ Some (Left l) → o ≡ Some l
  left_some None l e = cc
  left_some (Some x) l e = cc

  pub right_some : (o : Option R) (r : R) → option_map {U = Either L R} Right o ≡ Some (Right r) → o ≡ Some r
  right_some None r e = cc
  right_some (Some x) r e = cc

  pub left_not_right : (o : Option L) (r : R) → option_map {U = Either L R} Left o ≡ Some (Right r) → ⊥
  left_not_right None r e = cc
  left_not_right (Some x) r e = cc

  pub right_not_left : (o : Option R) (l : L) → option_map {U = Either L R} Right o ≡ Some (Left l) → ⊥
  right_not_left None l e = cc
  right_not_left (Some x) l e = cc
