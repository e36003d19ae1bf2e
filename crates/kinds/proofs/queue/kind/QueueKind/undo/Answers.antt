use Rattle.std.proofs.Common.{rules}
use Rattle.kinds.specs.Laws.QueueLaws.{turned_stays}
use Rattle.kinds.proofs.queue.kind.QueueKind.undo.Goals as goal

pub returns-in-Stayed : goal.returns-in-Stayed
returns-in-Stayed c = search (rules, turned_stays)
