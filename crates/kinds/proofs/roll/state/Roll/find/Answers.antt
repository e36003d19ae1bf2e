use Rattle.std.proofs.Common.{sym}
use Rattle.kinds.proofs.RollSteps.{find_answers}
use Rattle.kinds.proofs.roll.state.Roll.find.Goals as goal

pub returns : goal.returns
returns c = sym (find_answers c.args.self c.args.key.value c.number_of.result c.number_of.ensures)
