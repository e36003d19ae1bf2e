use Rattle.std.proofs.Common.{ℕ, sym, ap, ◌∙◌}
use Rattle.kinds.specs.declared.answer.Outcome.{Outcome}
use Rattle.kinds.specs.declared.roll.state.Roll.{Roll}
use Rattle.kinds.specs.Outcomes.{turned}
use Rattle.kinds.specs.Rolls.{marks, marked, roll_of}
use Rattle.kinds.specs.Laws.NumberLaws.{number_value, no_number}
use Rattle.kinds.proofs.RollSteps.{mark_next, mark_above}
use Rattle.kinds.proofs.roll.state.Roll.with_mark.Goals as goal

pub returns : goal.returns
returns c =
    let r = c.args.self in
    let key = c.in-Ok.key in
    let number = c.in-Ok-try_from.number in
    ap (λ (o : Outcome Roll). o.next) c.mark.ensures.outcome ∙ mark_next r key.value number.value
    ∙ ap (λ (k : ℕ). turned roll_of r (marked k number.value (marks r))) (number_value key c.args.entry.key (sym c.in-Ok.ensures))
    ∙ ap (λ (v : ℕ). turned roll_of r (marked c.args.entry.key v (marks r))) (number_value number c.args.entry.number (sym c.in-Ok-try_from.ensures))

pub returns-in_default : goal.returns-in_default
returns-in_default c = mark_above c.args.self c.args.entry.key c.args.entry.number (λ rk rv. no_number c.args.entry.key c.in_default.ensures rk)

pub returns-in_default-try_from : goal.returns-in_default-try_from
returns-in_default-try_from c = mark_above c.args.self c.args.entry.key c.args.entry.number (λ rk rv. no_number c.args.entry.number c.in_default-try_from.ensures rv)
