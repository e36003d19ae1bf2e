use Rattle.std.proofs.Common.{sym, refl, ◌∙◌}
use Rattle.kinds.specs.Laws.TallyLaws.{left_own}
use Rattle.kinds.proofs.tally.state.Tally.show.Goals as goal

pub returns : goal.returns
returns c = c.yes.ensures ∙ sym (left_own c.args.self c.args.self _ _ refl)
