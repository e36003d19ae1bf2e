use Rattle.std.proofs.Common.{sym, refl, ◌∙◌}
use Rattle.kinds.specs.Laws.TallyLaws.{refused, accepted, lessened_left}
use Rattle.kinds.proofs.tally.state.Tally.take.Goals as goal

pub returns-then-not-covers : goal.returns-then-not-covers
returns-then-not-covers c =
    let e = c.no.ensures ∙ sym (refused c.args.self _ _ _ (sym c.if-not-covers.ensures)) in
    record { outcome = e; after = lessened_left c.args.self c.args.n _ e }

pub returns : goal.returns
returns c =
    let e = c.yes.ensures ∙ sym (accepted c.args.self _ _ _ (sym c.if-not-covers.ensures) refl) in
    record { outcome = e; after = lessened_left c.args.self c.args.n _ e }
