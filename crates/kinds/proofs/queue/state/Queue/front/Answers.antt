use Rattle.std.proofs.Common.{sym}
use Rattle.kinds.specs.Laws.QueueLaws.{front_answers}
use Rattle.kinds.proofs.queue.state.Queue.front.Goals as goal

pub returns : goal.returns
returns c = sym (front_answers c.args.self c.front_entry.result c.front_entry.ensures.value)
