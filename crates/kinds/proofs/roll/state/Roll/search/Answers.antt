use Rattle.std.proofs.Common.{◌<◌, List, length, get_or, sym, ap, ◌∙◌, subst, arith}
use Rattle.std.specs.Option.{is_some}
use Rattle.std.proofs.lemmas.Bool.{ltb-false}
use Rattle.kinds.specs.declared.roll.entry.Entry.{Entry}
use Rattle.kinds.specs.Rolls.{entry, marks}
use Rattle.kinds.specs.Laws.Rising.{smaller_within}
use Rattle.kinds.specs.Laws.RollLaws.{roll_held, marks_length}
use Rattle.kinds.proofs.RollSearch.{key_at, stands, stands_nowhere}
use Rattle.kinds.proofs.roll.state.Roll.search.Goals as goal

pub returns-in-Some-clause-value : goal.returns-in-Some-clause-value
returns-in-Some-clause-value c =
    let r = c.args.self.now in
    let at = c.place-at.result in
    let found = c.in-Some.entry.now in
    let lookup = c.in-Some.ensures.lookup in
    let within : at < length (marks r) = subst (λ (es : List Entry). at < length es) c.items.ensures lookup.3.0 in
    stands (marks r) (roll_held r).2 c.args.key at c.place-at.ensures found within (lookup.3.1 found ∙ ap (λ (es : List Entry). get_or es at found) c.items.ensures) c.if-entry-key.true

pub returns-in_default-clause-value : goal.returns-in_default-clause-value
returns-in_default-clause-value c =
    let r = c.args.self.now in
    let at = c.place-at.result in
    let here = c.in-Some.ensures.lookup.3.1 (entry 0 0) in
    stands_nowhere (marks r) (roll_held r).2 c.args.key at c.place-at.ensures (λ within same. c.if-entry-key.false (ap (λ (x : Entry). x.key) here ∙ ap (λ (es : List Entry). key_at es at) c.items.ensures ∙ same))

pub returns-in_default-2-clause-value : goal.returns-in_default-2-clause-value
returns-in_default-2-clause-value c =
    let r = c.args.self.now in
    let at = c.place-at.result in
    let past = ltb-false at (length c.items.result.now) (sym c.get.ensures.lookup.0 ∙ ap is_some c.in_default.is) in
    stands_nowhere (marks r) (roll_held r).2 c.args.key at c.place-at.ensures (λ within same. omega (arith, past, ap (λ (es : List Entry). length es) c.items.ensures))

pub returns-in_default-2-clause-bound : goal.returns-in_default-2-clause-bound
returns-in_default-2-clause-bound c =
    let r = c.args.self.now in
    omega (arith, c.place-at.ensures, marks_length r, smaller_within c.args.key (marks r))
