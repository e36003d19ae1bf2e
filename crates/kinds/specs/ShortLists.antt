-- Lists of up to twelve items in twelve places. Assumes nothing.
--
-- | room   | how many items there can be |
-- | items  | the items of a short list |
-- | padded | some items in so many places, and blanks past them |
-- | packed | the short list of some items |
-- | pushed | some places with an item put in at one |
-- | pulled | some places with the item at one taken out |
-- | packs  | a short list is that of its items |
-- | holds  | a short list's items pass a test |
use Rattle.std.specs.Prelude.{ℕ, zero, suc, ◌+◌, ◌-◌, Bool, ◌&&◌, List, [], ◌∷◌, ◌++◌, length, take, drop, ◌==◌, nat_le}
use Rattle.std.specs.List.{list_all}
use Rattle.kinds.specs.declared.short_list.ShortList.{ShortList}

-- how many items there can be
abbrev pub room : ℕ
room = 12

-- the items stand in the first places
abbrev pub items : {T : Type 0} → ShortList T → List T
items l = take l.count l.places

-- some items in so many places, and blanks past them
abbrev pub padded : {T : Type 0} → ℕ → T → List T → List T
padded zero blank xs = []
padded (suc n) blank [] = blank ∷ padded n blank []
padded (suc n) blank (x ∷ xs) = x ∷ padded n blank xs

-- the short list of some items
abbrev pub packed : {T : Type 0} → T → List T → ShortList T
packed blank xs = record { count = length xs; places = padded room blank xs }

-- x at a place; those from there on move up by one, and the last is lost
abbrev pub pushed : {T : Type 0} → ℕ → T → List T → List T
pushed at x ps = take at ps ++ x ∷ take (length ps - 1 - at) (drop at ps)

-- the item at a place taken out; those after it move down by one, and the last place gets b
abbrev pub pulled : {T : Type 0} → ℕ → T → List T → List T
pulled at b ps = take at ps ++ (drop (at + 1) ps ++ b ∷ [])

-- at most twelve items, and blanks in the places past them
abbrev pub packs : {T : Type 0} → (T → Bool) → ShortList T → Bool
packs blank l = nat_le l.count room && (length l.places == room && list_all blank (drop l.count l.places))

-- a short list whose items pass a test
abbrev pub holds : {T : Type 0} → (T → Bool) → (List T → Bool) → ShortList T → Bool
holds blank good l = packs blank l && good (items l)
