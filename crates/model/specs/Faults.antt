-- The number of each fault, and the word of the layer that refuses. Assumes nothing.
--
-- | kind_number   | the number of a kind's fault |
-- | store_number  | the number of a store's fault |
-- | engine_number | the number of an engine's fault |
-- | layer_word    | the word of the layer in which a fault arose |
use Rattle.std.specs.Prelude.{ℕ, List, codes}
use Rattle.model.specs.declared.fault.KindFault.{KindFault}
use Rattle.model.specs.declared.fault.KindFault.TheVariants as kind
use Rattle.model.specs.declared.fault.StoreFault.{StoreFault}
use Rattle.model.specs.declared.fault.StoreFault.TheVariants as store
use Rattle.model.specs.declared.fault.EngineFault.{EngineFault}
use Rattle.model.specs.declared.fault.EngineFault.TheVariants.{NumberOutOfRange, AlreadyOpen, ParentNotOpen, TooManyBegins, NotOpen, OpenChild, Waiting, NoObject, Kind, Store}

-- 9: the object does not know the operation, or a peek asks for a write
abbrev pub kind_number : KindFault → ℕ
kind_number kind.Unknown = 9
kind_number kind.NotARead = 9

-- 10: the object's weight is at the capacity
abbrev pub store_number : StoreFault → ℕ
store_number store.Full = 10

-- 1 to 8 are the engine's own; a fault of a layer below keeps its number
abbrev pub engine_number : EngineFault → ℕ
engine_number NumberOutOfRange = 1
engine_number AlreadyOpen = 2
engine_number ParentNotOpen = 3
engine_number TooManyBegins = 4
engine_number NotOpen = 5
engine_number OpenChild = 6
engine_number Waiting = 7
engine_number NoObject = 8
engine_number (Kind f) = kind_number f
engine_number (Store f) = store_number f

-- the layer in which a fault arose
abbrev pub layer_word : EngineFault → List ℕ
layer_word NumberOutOfRange = codes "ENGINE"
layer_word AlreadyOpen = codes "ENGINE"
layer_word ParentNotOpen = codes "ENGINE"
layer_word TooManyBegins = codes "ENGINE"
layer_word NotOpen = codes "ENGINE"
layer_word OpenChild = codes "ENGINE"
layer_word Waiting = codes "ENGINE"
layer_word NoObject = codes "ENGINE"
layer_word (Kind f) = codes "KIND"
layer_word (Store f) = codes "STORE"
