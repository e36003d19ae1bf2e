use Rattle.kinds.specs.Laws.RollLaws.{entry_out}
use Rattle.kinds.proofs.RollSteps.{out_rises, out_present, out_absent}
use Rattle.kinds.proofs.roll.state.Roll.without_mark.Goals as goal

pub invariant_of-result : goal.invariant_of-result
invariant_of-result c =
    let row = c.without_item-row in
    let rises = out_rises c.args.self c.args.key c.in-Ok.at c.in-Ok.ensures.value in
    record { sound = (entry_out c.args.self row.result c.in-Ok.at c.in-Ok.ensures.bound rises row.ensures.count row.ensures.places).0 }

pub returns : goal.returns
returns c =
    let row = c.without_item-row in
    let rises = out_rises c.args.self c.args.key c.in-Ok.at c.in-Ok.ensures.value in
    out_present c.args.self c.args.key c.in-Ok.at c.in-Ok.ensures.value _ (entry_out c.args.self row.result c.in-Ok.at c.in-Ok.ensures.bound rises row.ensures.count row.ensures.places).1

pub returns-in_default : goal.returns-in_default
returns-in_default c = out_absent c.args.self c.args.key c.in_default.field-0 c.in_default.ensures.value
