-- What the methods of a roll leave, by its entries.
use Rattle.std.proofs.Common.{◌≡◌, ℕ, ◌<◌, true, false, ltb, leb, List, length, get_or, set, Some, None, Ok, Err, Option, sym, refl, ap, ◌∙◌, ⊎_elim, arith}
use Rattle.std.specs.List.{insert, remove}
use Rattle.std.proofs.lemmas.List.{get_or-take}
use Rattle.std.proofs.lemmas.Bool.{lt-ltb, le-ltb, ltb-false, leb-true, leb-false, cases_Bool}
use Rattle.std.proofs.lemmas.List.Edits.{length-insert}
use Rattle.kinds.specs.declared.answer.Outcome.{Outcome}
use Rattle.kinds.specs.declared.roll.entry.Entry.{Entry}
use Rattle.kinds.specs.declared.roll.state.Roll.{Roll}
use Rattle.kinds.specs.Operations.{ranged}
use Rattle.kinds.specs.Outcomes.{yes_to, no_to, turned, left_by}
use Rattle.kinds.specs.RollRows.{rising}
use Rattle.kinds.specs.RollPlaces.{smaller, placed, place_of}
use Rattle.kinds.specs.Rolls.{entry, marks, found, marked, without, find_after, mark_after, numbers_after, roll_of}
use Rattle.kinds.specs.ShortLists.{room}
use Rattle.kinds.specs.Laws.Rising
use Rattle.kinds.specs.Laws.RollLaws.{roll_held, marks_length, left_own, turned_into, unmade}

-- a place in the row is a place among the entries
pub mark_at : (r : Roll) (at : ℕ) (d : Entry) → at < r.row.count → get_or r.row.places at d ≡ get_or (marks r) at d
mark_at r at d h = sym (get_or-take r.row.count r.row.places at d h)

-- what a place says of its key
ok_some : (o : Option ℕ) (at n : ℕ) → Ok at ≡ placed o n → (v : ℕ) × (o ≡ Some v) × (at ≡ n)
ok_some None at n e = cc
ok_some (Some v) at n e = (v, refl, cc)

err_none : (o : Option ℕ) (at n : ℕ) → Err at ≡ placed o n → (o ≡ None) × (at ≡ n)
err_none None at n e = (refl, cc)
err_none (Some v) at n e = cc

-- the number at a key's place is the key's
pub number_at : (r : Roll) (k at : ℕ) (d : Entry) → at < r.row.count → Ok at ≡ place_of k (marks r) → Some (get_or r.row.places at d).number ≡ found k (marks r)
number_at r k at d h e =
    let p = ok_some (found k (marks r)) at (smaller k (marks r)) e in
    let there = Rising.found_at 0 k p.0 (marks r) d (roll_held r).2 p.1 in
    ap (λ (x : Entry). Some x.number) (mark_at r at d h ∙ ap (λ (i : ℕ). get_or (marks r) i d) p.2 ∙ there.1) ∙ sym p.1

-- FIND
pub find_answers : (r : Roll) (k : ℕ) (o : Option ℕ) → o ≡ found k (marks r) → left_by roll_of r (find_after (found k (marks r)) (marks r)) ≡ record { answer = o; next = r }
find_answers r k None e = ap (λ (o : Option ℕ). left_by roll_of r (find_after o (marks r))) (sym e) ∙ left_own r r None (marks r) refl
find_answers r k (Some v) e = ap (λ (o : Option ℕ). left_by roll_of r (find_after o (marks r))) (sym e) ∙ left_own r r (Some v) (marks r) refl

-- a present key
module _ (r : Roll) (k at : ℕ) (e : Ok at ≡ place_of k (marks r)) where
  present : (old : ℕ) × (found k (marks r) ≡ Some old) × (at ≡ smaller k (marks r))
  present = ok_some (found k (marks r)) at (smaller k (marks r)) e

  -- taking the key out
  out_there : remove (marks r) at ≡ without k (marks r)
  out_there =
      ap (λ (i : ℕ). remove (marks r) i) present.2 ∙ sym (Rising.without_present 0 k present.0 (marks r) (roll_held r).2 present.1)

  pub out_rises : rising 0 (remove (marks r) at) ≡ true
  out_rises = ap (rising 0) out_there ∙ Rising.without_rises 0 k (marks r) (roll_held r).2

  pub out_present : (q : Roll) → marks q ≡ remove (marks r) at → q ≡ turned roll_of r (without k (marks r))
  out_present q f = turned_into r q (without k (marks r)) (f ∙ out_there)

-- an absent key
module _ (r : Roll) (k at : ℕ) (e : Err at ≡ place_of k (marks r)) where
  absent : (found k (marks r) ≡ None) × (at ≡ smaller k (marks r))
  absent = err_none (found k (marks r)) at (smaller k (marks r)) e

  pub out_absent : r ≡ turned roll_of r (without k (marks r))
  out_absent = turned_into r r (without k (marks r)) (sym (Rising.without_absent k (marks r) absent.0))

-- MARK of a present key
module _ (r : Roll) (k v at : ℕ) (e : Ok at ≡ place_of k (marks r)) where
  pub set_there : set (marks r) at (entry k v) ≡ marked k v (marks r)
  set_there =
      let here = present r k at e in
      ap (λ (i : ℕ). set (marks r) i (entry k v)) here.2 ∙ sym (Rising.marked_present 0 k v here.0 (marks r) (roll_held r).2 here.1)

  pub set_rises : ranged k ≡ true → ranged v ≡ true → rising 0 (set (marks r) at (entry k v)) ≡ true
  set_rises rk rv = ap (rising 0) set_there ∙ Rising.marked_rises 0 k v (marks r) (omega arith) rk rv (roll_held r).2

  pub mark_present : (q : Roll) (n : ℕ) (d : Entry) → at < r.row.count → n ≡ (get_or r.row.places at d).number → marks q ≡ set (marks r) at (entry k v) → left_by roll_of r (mark_after (found k (marks r)) k v (marks r)) ≡ yes_to n q
  mark_present q n d h told f =
      ap (λ (o : Option ℕ). left_by roll_of r (mark_after o k v (marks r))) (sym (ap (λ (i : ℕ). Some i) told ∙ number_at r k at d h e)) ∙ left_own r q (Some n) (marked k v (marks r)) (f ∙ set_there)

-- MARK of an absent key
module _ (r : Roll) (k v at : ℕ) (e : Err at ≡ place_of k (marks r)) where
  pub in_there : insert (marks r) at (entry k v) ≡ marked k v (marks r)
  in_there =
      let gone = absent r k at e in
      ap (λ (i : ℕ). insert (marks r) i (entry k v)) gone.1 ∙ sym (Rising.marked_absent k v (marks r) gone.0)

  pub in_rises : ranged k ≡ true → ranged v ≡ true → rising 0 (insert (marks r) at (entry k v)) ≡ true
  in_rises rk rv = ap (rising 0) in_there ∙ Rising.marked_rises 0 k v (marks r) (omega arith) rk rv (roll_held r).2

  pub mark_absent : (q : Roll) → leb room r.row.count ≡ false → marks q ≡ insert (marks r) at (entry k v) → left_by roll_of r (mark_after (found k (marks r)) k v (marks r)) ≡ yes_to 0 q
  mark_absent q h f =
      ap (λ (o : Option ℕ). left_by roll_of r (mark_after o k v (marks r))) (absent r k at e).0 ∙ rw (lt-ltb (length (marks r)) room (omega (arith, marks_length r, leb-false room r.row.count h))) (left_own r q (Some 0) (marked k v (marks r)) (f ∙ in_there))

  pub mark_full : leb room r.row.count ≡ true → left_by roll_of r (mark_after (found k (marks r)) k v (marks r)) ≡ no_to r
  mark_full h =
      ap (λ (o : Option ℕ). left_by roll_of r (mark_after o k v (marks r))) (absent r k at e).0 ∙ rw (le-ltb (length (marks r)) room (omega (arith, marks_length r, leb-true room r.row.count h))) (left_own r r None (marks r) refl)

-- MARK leaves the roll of the entries with the number set, where there is one
mark_next_by : (r : Roll) (k v : ℕ) (o : Option ℕ) → found k (marks r) ≡ o → (left_by roll_of r (mark_after o k v (marks r))).next ≡ turned roll_of r (marked k v (marks r))
mark_next_by r k v (Some old) e = refl
mark_next_by r k v None e =
    ⊎_elim (λ t. rw t)
    (λ f. rw f (sym (turned_into r r (marks r) refl) ∙ unmade r (marked k v (marks r)) (λ few _. omega (arith, ltb-false (length (marks r)) room f, ap (λ (es : List Entry). length es) (Rising.marked_absent k v (marks r) e), length-insert (marks r) (smaller k (marks r)) (entry k v) (Rising.smaller_within k (marks r))))))
    (cases_Bool (ltb (length (marks r)) room))

pub mark_next : (r : Roll) (k v : ℕ) → (left_by roll_of r (mark_after (found k (marks r)) k v (marks r))).next ≡ turned roll_of r (marked k v (marks r))
mark_next r k v = mark_next_by r k v (found k (marks r)) refl

-- the number of each key after a MARK that was answered yes, and after one that was answered no
pub yes_finds : (r q : Roll) (k v n : ℕ) (x : Outcome Roll) → x ≡ yes_to n q → marks q ≡ marked k v (marks r) → (j : ℕ) → found j (marks x.next) ≡ numbers_after x.answer k v (marks r) j
yes_finds r q k v n x e f j =
    ap (λ (y : Outcome Roll). found j (marks y.next)) e ∙ ap (found j) f ∙ Rising.found_marked j k v (marks r) ∙ sym (ap (λ (y : Outcome Roll). numbers_after y.answer k v (marks r) j) e)

pub no_finds : (r : Roll) (k v : ℕ) (x : Outcome Roll) → x ≡ no_to r → (j : ℕ) → found j (marks x.next) ≡ numbers_after x.answer k v (marks r) j
no_finds r k v x e j =
    ap (λ (y : Outcome Roll). found j (marks y.next)) e ∙ sym (ap (λ (y : Outcome Roll). numbers_after y.answer k v (marks r) j) e)

-- no roll holds a number above the largest
pub mark_above : (r : Roll) (k v : ℕ) → (ranged k ≡ true → ranged v ≡ true → ⊥) → r ≡ turned roll_of r (marked k v (marks r))
mark_above r k v a = unmade r (marked k v (marks r)) (λ _ rises. let p = Rising.marked_ranged 0 k v (marks r) rises in a p.0 p.1)
