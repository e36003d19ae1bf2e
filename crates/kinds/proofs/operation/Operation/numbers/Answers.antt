use Rattle.std.proofs.Common.{sym}
use Rattle.kinds.specs.Laws.NumberLaws.{numbers_fit}
use Rattle.kinds.proofs.operation.Operation.numbers.Goals as goal

pub returns : goal.returns
returns c = sym (numbers_fit c.args.count c.args.self _ _ (sym c.if-not-fits.ensures))
