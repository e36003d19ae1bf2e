use Rattle.std.proofs.Common.{sym}
use Rattle.kinds.specs.Laws.RollLaws.{read_own}
use Rattle.kinds.proofs.roll.kind.RollKind.from_row.Goals as goal

pub returns-then-is_sound : goal.returns-then-is_sound
returns-then-is_sound c = sym (read_own _)
