use Rattle.std.proofs.Common.{sym, ◌∙◌}
use Rattle.kinds.specs.Laws.QueueLaws.{put_in, put_none, put_some}
use Rattle.kinds.proofs.queue.state.Queue.put.Goals as goal

pub returns-then-is_full : goal.returns-then-is_full
returns-then-is_full c = c.no.ensures ∙ sym (put_none c.args.self c.args.n.value (sym c.if-is_full.ensures))

pub invariant_of-yes : goal.invariant_of-yes
invariant_of-yes c =
    let row = c.with_item-row in
    record { sound = (put_in c.args.self row.result c.args.n (sym c.if-is_full.ensures) row.ensures.count row.ensures.places).0 }

pub returns : goal.returns
returns c =
    let row = c.with_item-row in
    let full = sym c.if-is_full.ensures in
    c.yes.ensures ∙ sym (put_some c.args.self _ c.args.n.value _ full row.ensures.count (put_in c.args.self row.result c.args.n full row.ensures.count row.ensures.places).1)
