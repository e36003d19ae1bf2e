use Rattle.std.proofs.Common.{sym, ◌∙◌}
use Rattle.kinds.specs.Queues.{entries}
use Rattle.kinds.specs.Laws.QueueLaws.{entry_out, front_some_is, front_none_is, next_none, next_some}
use Rattle.kinds.proofs.queue.state.Queue.next.Goals as goal

pub returns-in_default : goal.returns-in_default
returns-in_default c =
    c.no.ensures ∙ sym (next_none c.args.self (front_none_is (entries c.args.self) c.in_default.ensures.value))

pub returns : goal.returns
returns c =
    let q = c.args.self in
    let out = entry_out q c.without_item-row.result 0 c.in-Some.ensures.bound c.without_item-row.ensures.count c.without_item-row.ensures.places in
    c.yes.ensures ∙ sym (next_some q _ c.in-Some.entry _ (front_some_is (entries q) c.in-Some.entry c.in-Some.ensures.value) out.1)
