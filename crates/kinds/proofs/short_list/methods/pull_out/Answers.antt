use Rattle.std.proofs.Common.{ap, ◌∙◌}
use Rattle.kinds.specs.ShortLists.{pulled}
use Rattle.kinds.proofs.Places.{rotated_out}
use Rattle.kinds.proofs.short_list.methods.pull_out.Goals as goal

pub returns : goal.returns
returns g c =
    let xs = c.args.places.now in
    let at = c.args.at in
    rotated_out xs _ at c.blank.result c.requires c.rotate_left.ensures.after ∙ ap (λ (b : _). pulled at b xs) c.blank.ensures
