use Rattle.std.proofs.Common.{arith}
use Rattle.kinds.specs.Laws.QueueLaws.{entry_out, no_entries, back_none, back_some}
use Rattle.kinds.proofs.queue.state.Queue.without_back.Goals as goal

pub returns-in_default : goal.returns-in_default
returns-in_default c = back_none c.args.self (no_entries c.args.self (omega (arith, c.in_default.ensures)))

pub returns : goal.returns
returns c =
    let row = c.without_item-row in
    back_some c.args.self _ c.in-Some.last (omega (arith, c.in-Some.ensures)) (entry_out c.args.self row.result c.in-Some.last (omega (arith, c.in-Some.ensures)) row.ensures.count row.ensures.places).1
