use Rattle.kinds.proofs.Places.{rotated_in}
use Rattle.kinds.proofs.short_list.methods.push_in.Goals as goal

pub returns : goal.returns
returns g c = rotated_in c.args.places.now _ c.args.at c.args.item c.requires c.rotate_right.ensures.after
