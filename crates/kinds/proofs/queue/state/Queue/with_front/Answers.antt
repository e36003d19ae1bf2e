use Rattle.std.proofs.Common.{ℕ, ◌∷◌, sym, ap, ◌∙◌}
use Rattle.kinds.specs.Queues.{entries}
use Rattle.kinds.specs.Laws.NumberLaws.{number_value, unranged}
use Rattle.kinds.specs.Laws.QueueLaws.{front_in, front_full, front_above, turned_into}
use Rattle.kinds.proofs.queue.state.Queue.with_front.Goals as goal

pub returns-then-is_full : goal.returns-then-is_full
returns-then-is_full c = front_full c.args.self c.args.n (sym c.if-is_full.ensures)

pub returns-in_default : goal.returns-in_default
returns-in_default c = front_above c.args.self c.args.n (sym c.if-is_full.ensures) (unranged c.args.n c.in_default.ensures)

pub invariant_of-result : goal.invariant_of-result
invariant_of-result c =
    let row = c.with_item-row in
    record { sound = (front_in c.args.self row.result c.in-Ok.number (sym c.if-is_full.ensures) row.ensures.count row.ensures.places).0 }

pub returns : goal.returns
returns c =
    let row = c.with_item-row in
    let number = c.in-Ok.number in
    let put = front_in c.args.self row.result number (sym c.if-is_full.ensures) row.ensures.count row.ensures.places in
    turned_into c.args.self _ _ (put.1 ∙ ap (λ (v : ℕ). v ∷ entries c.args.self) (number_value number c.args.n (sym c.in-Ok.ensures)))
