use Rattle.std.proofs.Common.{◌<◌, ◌≤◌, List, length, ap, ◌∙◌, rules, tests}
use Rattle.std.specs.Option.{unwrap_or}
use Rattle.std.proofs.lemmas.Iterator.{YieldsList-from_slice, IsFirst-from_position}
use Rattle.kinds.specs.declared.roll.entry.Entry.{Entry}
use Rattle.kinds.specs.Rolls.{marks}
use Rattle.kinds.proofs.RollSearch.{first_not_smaller}
use Rattle.kinds.proofs.roll.state.Roll.place.Goals as goal

-- the closure asks whether an entry's key is not smaller
pub returns : goal.returns
returns c =
    let k = c.args.key in
    let r = c.position-first.result in
    let first = IsFirst-from_position _ _ r (λ (e : Entry). k ≤ e.key) (λ (e : Entry). e.key < k) c.position-first.ensures.ran (YieldsList-from_slice (marks c.args.self.now) (c.iter.ensures.rest ∙ c.items-entries.ensures)) (λ x q called. search (rules, tests)) (λ x q called. search (rules, tests)) in
    c.unwrap_or.ensures ∙ ap (λ (es : List Entry). unwrap_or r (length es)) c.items-entries.ensures ∙ first_not_smaller k (marks c.args.self.now) r first
