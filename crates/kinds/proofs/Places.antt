-- A slice turned by one place: an item put in, and one taken out.
use Rattle.std.proofs.Common.{◌≡◌, ℕ, ◌+◌, ◌-◌, ◌<◌, List, [], ◌∷◌, ◌++◌, length, take, drop, set, refl, ap, ◌∙◌, append-nil, arith}
use Rattle.std.proofs.lemmas.List.{drop_more, drop_all, drop-drop, take_rest, length-drop}
use borrow.Rule.Slice.PartMut.{put_mid}
use Rattle.kinds.specs.ShortLists.{pushed, pulled}

-- the last of some places moved to their front, and an item put there
turned_in : {T : Type 0} (ds : List T) (m : ℕ) (x : T) → length ds ≡ m + 1 → set (drop (length ds - 1) ds ++ take (length ds - 1) ds) 0 x ≡ x ∷ take m ds
turned_in ds m x n =
    let e : length ds - 1 ≡ m = omega arith in
    let last = drop_more ds m x (omega arith) in
    let past = drop_all (m + 1) ds (omega arith) in
    rw (e, last, past)

-- putting an item in at the start of a part that has been turned by one
pub rotated_in : {T : Type 0} (xs rr : List T) (at : ℕ) (x : T) → at < length xs → let rest = take (length xs - at) (drop at xs) in rr ≡ drop (length rest - 1) rest ++ take (length rest - 1) rest → put_mid at (length xs - at) xs (set rr 0 x) ≡ pushed at x xs
rotated_in {T} xs rr at x h f =
    let n = length-drop at xs in
    let past = drop_all (length xs - at) (drop at xs) (omega arith) in
    let turn : List T → List T = λ ds. set (drop (length ds - 1) ds ++ take (length ds - 1) ds) 0 x in
    let put : set rr 0 x ≡ x ∷ take (length xs - 1 - at) (drop at xs) =
    ap (λ (ds : List T). set ds 0 x) f ∙ ap turn (take_rest xs at) ∙ turned_in (drop at xs) (length xs - 1 - at) x (omega arith) in
    ap (λ (ds : List T). take at xs ++ ds) (ap (λ (ds : List T). set rr 0 x ++ ds) past ∙ append-nil (set rr 0 x) ∙ put)

-- the first of some places blanked and moved to their end
turned_out : {T : Type 0} (ds : List T) (b : T) → 0 < length ds → drop 1 (set ds 0 b) ++ take 1 (set ds 0 b) ≡ drop 1 ds ++ b ∷ []
turned_out [] b h = absurd (omega arith)
turned_out (d ∷ ds) b h = refl

-- turning a part by one whose start has been blanked
pub rotated_out : {T : Type 0} (xs rr : List T) (at : ℕ) (b : T) → at < length xs → let rest = set (take (length xs - at) (drop at xs)) 0 b in rr ≡ drop 1 rest ++ take 1 rest → put_mid at (length xs - at) xs rr ≡ pulled at b xs
rotated_out {T} xs rr at b h f =
    let n = length-drop at xs in
    let past = drop_all (length xs - at) (drop at xs) (omega arith) in
    let turn : List T → List T = λ ds. drop 1 (set ds 0 b) ++ take 1 (set ds 0 b) in
    let put : rr ≡ drop (at + 1) xs ++ b ∷ [] =
    f ∙ ap turn (take_rest xs at) ∙ turned_out (drop at xs) b (omega arith) ∙ ap (λ (ds : List T). ds ++ b ∷ []) (drop-drop 1 at xs) in
    ap (λ (ds : List T). take at xs ++ ds) (ap (λ (ds : List T). rr ++ ds) past ∙ append-nil rr ∙ put)
