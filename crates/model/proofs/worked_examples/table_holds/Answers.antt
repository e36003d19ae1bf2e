-- The worked examples hold by evaluation.
use Rattle.model.proofs.Run.Table.{examples_hold}
use Rattle.model.proofs.worked_examples.table_holds.Goals as goal

pub returns : goal.returns
returns c = examples_hold
