use Rattle.std.proofs.Common.{sym, refl, ◌∙◌}
use Rattle.kinds.specs.Laws.TallyLaws.{refused, accepted, grown_left}
use Rattle.kinds.proofs.tally.state.Tally.add.Goals as goal

pub returns-then-not-has_room : goal.returns-then-not-has_room
returns-then-not-has_room c =
    let e = c.no.ensures ∙ sym (refused c.args.self _ _ _ (sym c.if-not-has_room.ensures)) in
    record { outcome = e; after = grown_left c.args.self c.args.n _ e }

pub returns : goal.returns
returns c =
    let e = c.yes.ensures ∙ sym (accepted c.args.self _ _ _ (sym c.if-not-has_room.ensures) refl) in
    record { outcome = e; after = grown_left c.args.self c.args.n _ e }
