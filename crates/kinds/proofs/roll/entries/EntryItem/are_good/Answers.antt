use Rattle.std.proofs.Common.{rules}
use Rattle.kinds.proofs.RollRises.{rising_by}
use Rattle.kinds.proofs.roll.entries.EntryItem.are_good.Goals as goal

pub returns-then-is_none_or : goal.returns-then-is_none_or
returns-then-is_none_or c =
    rising_by c.args.entries.now _ (λ e here. search rules) c.is_sorted_by.ensures.cases (λ f a b g called. search rules)
