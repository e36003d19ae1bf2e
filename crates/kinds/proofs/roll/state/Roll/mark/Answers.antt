use Rattle.std.proofs.Common.{sym, ◌∙◌, arith}
use Rattle.std.proofs.lemmas.Bool.{leb-false}
use Rattle.kinds.specs.Rolls.{entry}
use Rattle.kinds.specs.Laws.RollLaws.{entry_in, entry_set}
use Rattle.kinds.proofs.RollSteps.{set_there, set_rises, mark_present, in_there, in_rises, mark_absent, mark_full, yes_finds, no_finds}
use Rattle.kinds.proofs.roll.state.Roll.mark.Goals as goal

pub invariant_of-yes : goal.invariant_of-yes
invariant_of-yes c =
    let row = c.with_other-row in
    let rises = set_rises c.args.self c.args.key.value c.args.number.value c.in-Ok.at c.in-Ok.ensures.value c.args.key.in_range c.args.number.in_range in
    record { sound = (entry_set c.args.self row.result c.in-Ok.at _ c.in-Ok.ensures.bound rises row.ensures.count row.ensures.places).0 }

pub returns-in-Ok : goal.returns-in-Ok
returns-in-Ok c =
    let r = c.args.self in
    let k = c.args.key in
    let v = c.args.number in
    let at = c.in-Ok.at in
    let here = c.in-Ok.ensures.value in
    let row = c.with_other-row in
    let set = (entry_set r row.result at _ c.in-Ok.ensures.bound (set_rises r k.value v.value at here k.in_range v.in_range) row.ensures.count row.ensures.places).1 in
    let e = c.yes.ensures ∙ sym (mark_present r k.value v.value at here _ _ (entry 0 0) c.in-Ok.ensures.bound c.number_at.ensures set) in
    record { outcome = e; finds = yes_finds r _ k.value v.value _ _ c.yes.ensures (set ∙ set_there r k.value v.value at here) }

pub returns-then-is_full : goal.returns-then-is_full
returns-then-is_full c =
    let e = c.no.ensures ∙ sym (mark_full c.args.self c.args.key.value c.args.number.value c.in-Err.at c.in-Err.ensures.value (sym c.if-is_full.ensures)) in
    record { outcome = e; finds = no_finds c.args.self c.args.key.value c.args.number.value _ c.no.ensures }

pub invariant_of-yes-in-Err : goal.invariant_of-yes-in-Err
invariant_of-yes-in-Err c =
    let row = c.with_item-row in
    let rises = in_rises c.args.self c.args.key.value c.args.number.value c.in-Err.at c.in-Err.ensures.value c.args.key.in_range c.args.number.in_range in
    record { sound = (entry_in c.args.self row.result c.in-Err.at _ c.in-Err.ensures.bound (omega (arith, leb-false _ _ (sym c.if-is_full.ensures))) rises row.ensures.count row.ensures.places).0 }

pub returns-else-is_full : goal.returns-else-is_full
returns-else-is_full c =
    let r = c.args.self in
    let k = c.args.key in
    let v = c.args.number in
    let at = c.in-Err.at in
    let here = c.in-Err.ensures.value in
    let row = c.with_item-row in
    let put = (entry_in r row.result at _ c.in-Err.ensures.bound (omega (arith, leb-false _ _ (sym c.if-is_full.ensures))) (in_rises r k.value v.value at here k.in_range v.in_range) row.ensures.count row.ensures.places).1 in
    let e = c.yes-in-Err.ensures ∙ sym (mark_absent r k.value v.value at here _ (sym c.if-is_full.ensures) put) in
    record { outcome = e; finds = yes_finds r _ k.value v.value 0 _ c.yes-in-Err.ensures (put ∙ in_there r k.value v.value at here) }
