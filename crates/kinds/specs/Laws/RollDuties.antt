-- The laws that a roll owes, by its entries.
use Rattle.std.specs.Prelude.{◌≡◌, ℕ, ◌≤◌, true, List, length, Some, None, Option, nat_lt, refl}
use Rattle.std.proofs.Common.{ap, sym, ◌∙◌, ⊎_elim, arith, length-set}
use Rattle.std.proofs.lemmas.List.Edits.{length-insert}
use Rattle.std.proofs.lemmas.Bool.{cases_Bool, ltb-true}
use Rattle.std.proofs.lemmas.Bool.Decides.{nat_tests}
use Rattle.kinds.specs.declared.answer.Class.TheVariants.{Read, Write}
use Rattle.kinds.specs.declared.answer.Outcome.{Outcome}
use Rattle.kinds.specs.declared.number.value.Number.{Number}
use Rattle.kinds.specs.declared.roll.entry.Entry.{Entry}
use Rattle.kinds.specs.declared.roll.operation.RollOperation.{RollOperation}
use Rattle.kinds.specs.declared.roll.operation.RollOperation.TheVariants.{Find, Mark}
use Rattle.kinds.specs.declared.roll.state.Roll.{Roll}
use Rattle.kinds.specs.Operations.{ranged}
use Rattle.kinds.specs.Outcomes.{turned, left_by, content_after, by_table}
use Rattle.kinds.specs.RollRows.{rising}
use Rattle.kinds.specs.RollPlaces.{smaller}
use Rattle.kinds.specs.Rolls.{entry, marks, found, find_after, mark_after, marks_after, marks_before, put_back, former, roll_class, roll_of}
use Rattle.kinds.specs.ShortLists.{room}
use Rattle.kinds.specs.Laws.Rising
use Rattle.kinds.specs.Laws.RollLaws.{roll_own, roll_held, roll_made, marks_length}
use Rattle.kinds.specs.Laws.Tables as tables

-- a FIND changes no entries
find_keeps : (o : Option ℕ) (es : List Entry) → (find_after o es).1 ≡ es
find_keeps None es = refl
find_keeps (Some v) es = refl

-- and no roll, whatever the key
pub find_leaves : (r : Roll) (k : ℕ) → (left_by roll_of r (find_after (found k (marks r)) (marks r))).next ≡ r
find_leaves r k = tables.turned_own roll_of marks roll_own r r _ (sym (find_keeps (found k (marks r)) (marks r)))

pub find_left : (r : Roll) (k : ℕ) (x : Outcome Roll) → x ≡ left_by roll_of r (find_after (found k (marks r)) (marks r)) → marks x.next ≡ (find_after (found k (marks r)) (marks r)).1
find_left r k x e =
    ap (λ (y : Outcome Roll). marks y.next) e ∙ tables.left_content roll_of marks roll_own r r (find_after (found k (marks r)) (marks r)) (sym (find_keeps (found k (marks r)) (marks r)))

-- a no changes no entries
mark_keeps : (o : Option ℕ) (k v : ℕ) (es : List Entry) → (mark_after o k v es).0 ≡ None → (mark_after o k v es).1 ≡ es
mark_keeps None k v es e = grind (arith, nat_tests)
mark_keeps (Some old) k v es e = cc

-- and no roll, whatever the key and the number
pub mark_leaves : (r : Roll) (k v : ℕ) → (mark_after (found k (marks r)) k v (marks r)).0 ≡ None → (left_by roll_of r (mark_after (found k (marks r)) k v (marks r))).next ≡ r
mark_leaves r k v e = tables.turned_own roll_of marks roll_own r r _ (sym (mark_keeps (found k (marks r)) k v (marks r) e))

no_keeps : (es : List Entry) (p : RollOperation) → (marks_after es p).0 ≡ None → (marks_after es p).1 ≡ es
no_keeps es (Find k) e = find_keeps (found k.value es) es
no_keeps es (Mark k v) e = mark_keeps (found k.value es) k.value v.value es e

pub no_leaves_state : (r : Roll) (p : Option RollOperation) → (by_table roll_of (marks_after (marks r)) r p).answer ≡ None → (by_table roll_of (marks_after (marks r)) r p).next ≡ r
no_leaves_state r p e = tables.no_leaves roll_of marks roll_own (marks_after (marks r)) r p (no_keeps (marks r)) e

pub read_leaves_state : (r : Roll) (p : Option RollOperation) → roll_class p ≡ Read → (by_table roll_of (marks_after (marks r)) r p).next ≡ r
read_leaves_state r None e = refl
read_leaves_state r (Some (Find k)) e = find_leaves r k.value
read_leaves_state r (Some (Mark k v)) e = cc

-- a MARK leaves at most twelve entries
mark_few : (k v : ℕ) (es : List Entry) (o : Option ℕ) → found k es ≡ o → rising 0 es ≡ true → length es ≤ room → length (mark_after o k v es).1 ≤ room
mark_few k v es (Some old) f r h = omega (arith, ap (λ (xs : List Entry). length xs) (Rising.marked_present 0 k v old es r f), length-set es (smaller k es) (entry k v))
mark_few k v es None f r h =
    ⊎_elim
    (λ t. rw t (omega (arith, ltb-true (length es) room t, ap (λ (xs : List Entry). length xs) (Rising.marked_absent k v es f), length-insert es (smaller k es) (entry k v) (Rising.smaller_within k es))))
    (λ t. rw t h) (cases_Bool (nat_lt (length es) room))

-- and its keys rise
mark_rises : (k v : ℕ) (es : List Entry) (o : Option ℕ) → ranged k ≡ true → ranged v ≡ true → rising 0 es ≡ true → rising 0 (mark_after o k v es).1 ≡ true
mark_rises k v es (Some old) rk rv r = Rising.marked_rises 0 k v es (omega arith) rk rv r
mark_rises k v es None rk rv r =
    ⊎_elim (λ t. rw t (Rising.marked_rises 0 k v es (omega arith) rk rv r)) (λ t. rw t r) (cases_Bool (nat_lt (length es) room))

-- putting the former entry back restores the entries
mark_restored : (k v : ℕ) (es : List Entry) (o : Option ℕ) → found k es ≡ o → rising 0 es ≡ true → put_back o k (mark_after o k v es).1 ≡ es
mark_restored k v es (Some old) f r = Rising.marked_back 0 k v old es r f
mark_restored k v es None f r =
    ⊎_elim (λ t. rw t (Rising.without_back k v es f)) (λ t. rw t (Rising.without_absent k es f)) (cases_Bool (nat_lt (length es) room))

-- a MARK leaves the entries of a roll
mark_made : (r : Roll) (k v : Number) → (u : Roll) × (marks u ≡ (marks_after (marks r) (Mark k v)).1)
mark_made r k v =
    let es = marks r in
    let h = roll_held r in
    let old = found k.value es in
    roll_made (mark_after old k.value v.value es).1 (mark_few k.value v.value es old refl h.2 (omega (arith, marks_length r, h.0))) (mark_rises k.value v.value es old k.in_range v.in_range h.2)

pub undo_leads_back : (r : Roll) (p : Option RollOperation) → roll_class p ≡ Write → let u = (by_table roll_of (marks_after (marks r)) r p).next in turned roll_of u (marks_before (marks u) (former (marks r) p)) ≡ r
undo_leads_back r None e = cc
undo_leads_back r (Some (Find k)) e = cc
undo_leads_back r (Some (Mark k v)) e =
    let es = marks r in
    let made = mark_made r k v in
    tables.undo_returns roll_of marks roll_own marks_before r made.0 _ (former es (Some (Mark k v))) made.1 (mark_restored k.value v.value es (found k.value es) refl (roll_held r).2)

-- the entries after an operation are the table's
pub marks_left : (r : Roll) (p : Option RollOperation) (x : Outcome Roll) → x ≡ by_table roll_of (marks_after (marks r)) r p → marks x.next ≡ content_after marks_after (marks r) p
marks_left r None x e = ap (λ (y : Outcome Roll). marks y.next) e
marks_left r (Some (Find k)) x e = find_left r k.value x e
marks_left r (Some (Mark k v)) x e =
    let made = mark_made r k v in
    ap (λ (y : Outcome Roll). marks y.next) e ∙ tables.left_content roll_of marks roll_own r made.0 (marks_after (marks r) (Mark k v)) made.1
