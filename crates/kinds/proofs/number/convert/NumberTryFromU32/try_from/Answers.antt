use Rattle.std.proofs.Common.{sym}
use Rattle.kinds.specs.Laws.NumberLaws.{number_own, above_largest}
use Rattle.kinds.proofs.number.convert.NumberTryFromU32.try_from.Goals as goal

pub returns-then-not-in_range : goal.returns-then-not-in_range
returns-then-not-in_range c = sym (above_largest c.args.value (sym c.if-not-in_range.ensures))

pub returns : goal.returns
returns c = sym (number_own _)
