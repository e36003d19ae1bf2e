-- The worked examples, by evaluation.
use Rattle.std.proofs.Common.{refl}
use Rattle.kinds.specs.Rows.{checked}
use Rattle.model.specs.Examples.{ExamplesHold}
use Rattle.model.specs.Model.{respond}

pub examples_hold : ExamplesHold
unfolding respond checked
examples_hold = refl
