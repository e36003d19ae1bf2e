-- Faults in plain words. Assumes nothing.
--
-- | kind_text   | why a kind refuses |
-- | store_text  | why a store refuses |
-- | engine_text | why the engine refuses, or what it passes on |
use Rattle.std.specs.Prelude.{ℕ, List, codes}
use Rattle.model.specs.declared.fault.KindFault.{KindFault}
use Rattle.model.specs.declared.fault.KindFault.TheVariants as kind
use Rattle.model.specs.declared.fault.StoreFault.{StoreFault}
use Rattle.model.specs.declared.fault.StoreFault.TheVariants as store
use Rattle.model.specs.declared.fault.EngineFault.{EngineFault}
use Rattle.model.specs.declared.fault.EngineFault.TheVariants.{NumberOutOfRange, AlreadyOpen, ParentNotOpen, TooManyBegins, NotOpen, OpenChild, Waiting, NoObject, Kind, Store}

-- why a kind refuses
abbrev pub kind_text : KindFault → List ℕ
kind_text kind.Unknown = codes "the object does not know the operation"
kind_text kind.NotARead = codes "only a read may be asked"

-- why a store refuses
abbrev pub store_text : StoreFault → List ℕ
store_text store.Full = codes "the object's weight is at the capacity"

-- why the engine refuses, or what it passes on
abbrev pub engine_text : EngineFault → List ℕ
engine_text NumberOutOfRange = codes "no transaction can have the number"
engine_text AlreadyOpen = codes "the transaction is open already"
engine_text ParentNotOpen = codes "the parent is not open"
engine_text TooManyBegins = codes "too many transactions have begun"
engine_text NotOpen = codes "the transaction is not open"
engine_text OpenChild = codes "the transaction has an open child"
engine_text Waiting = codes "the transaction waits"
engine_text NoObject = codes "no object has the number"
engine_text (Kind f) = kind_text f
engine_text (Store f) = store_text f
