-- Rolls by their entries.
use Rattle.std.specs.Prelude.{◌≡◌, ℕ, ◌+◌, ◌-◌, ◌<◌, ◌≤◌, true, false, List, length, Some, None, Option, ◌==◌, ◌≢◌, slice_set, refl}
use Rattle.std.proofs.Common.{ap, sym, ◌∙◌, ⊎_elim}
use Rattle.std.specs.Option.{unwrap_or}
use Rattle.std.specs.List.{insert, remove}
use Rattle.std.proofs.lemmas.Bool.{eqb-true, and_parts, cases_Bool}
use Rattle.kinds.specs.Outcomes.{Answer, turned, left_by}
use Rattle.kinds.specs.declared.roll.entry.Entry.{Entry}
use Rattle.kinds.specs.declared.roll.state.Roll.{Roll}
use Rattle.kinds.specs.declared.short_list.ShortList.{ShortList}
use Rattle.kinds.specs.RollRows.{blank_entry, rising, is_roll}
use Rattle.kinds.specs.Rolls.{entry, marks, read_roll, roll_of}
use Rattle.kinds.specs.ShortLists.{room, items, packed, pushed, pulled}
use Rattle.kinds.specs.Laws.Checks.{checked_passes, checked_fails, checked_made}
use Rattle.kinds.specs.Laws.Packing as packing
use Rattle.kinds.specs.Laws.Tables as tables

only_blank : (e : Entry) → blank_entry e ≡ true → e ≡ entry 0 0
only_blank e h =
    let parts = and_parts (e.key == 0) (e.number == 0) h in
    let p = eqb-true e.key 0 parts.0 in
    let q = eqb-true e.number 0 parts.1 in
    λ i. record { key = p i; number = q i }

-- a roll has at most twelve entries, its row is theirs, and their keys rise
pub roll_held : (r : Roll) → (r.row.count ≤ room) × (r.row ≡ packed (entry 0 0) (marks r)) × (rising 0 (marks r) ≡ true)
roll_held r = packing.held blank_entry (entry 0 0) only_blank refl (rising 0) r.row r.sound

-- as many entries as the row counts
pub marks_length : (r : Roll) → length (marks r) ≡ r.row.count
marks_length r = packing.held_length blank_entry (entry 0 0) only_blank refl (rising 0) r.row r.sound

-- up to twelve entries with rising keys are a roll's
pub roll_made : (es : List Entry) → length es ≤ room → rising 0 es ≡ true → (r : Roll) × (marks r ≡ es)
roll_made es h e =
    (record { row = packed (entry 0 0) es; sound = packing.holds_packed blank_entry (entry 0 0) only_blank refl (rising 0) es h e }, packing.take_all_padded (entry 0 0) room es h)

-- an entry put in
pub entry_in : (r : Roll) (m : ShortList Entry) (at : ℕ) (x : Entry) → at ≤ r.row.count → r.row.count < room → rising 0 (insert (marks r) at x) ≡ true → m.count ≡ r.row.count + 1 → m.places ≡ pushed at x r.row.places → (is_roll m ≡ true) × (items m ≡ insert (marks r) at x)
entry_in r m at x within few g k e = packing.held_in blank_entry (entry 0 0) only_blank refl (rising 0) r.row r.sound m at x within few g k e

-- an entry in another's place
pub entry_set : (r : Roll) (m : ShortList Entry) (at : ℕ) (x : Entry) → at < r.row.count → rising 0 (slice_set (marks r) at x) ≡ true → m.count ≡ r.row.count → m.places ≡ slice_set r.row.places at x → (is_roll m ≡ true) × (items m ≡ slice_set (marks r) at x)
entry_set r m at x within g k e = packing.held_set blank_entry (entry 0 0) only_blank refl (rising 0) r.row r.sound m at x within g k e

-- an entry taken out
pub entry_out : (r : Roll) (m : ShortList Entry) (at : ℕ) → at < r.row.count → rising 0 (remove (marks r) at) ≡ true → m.count ≡ r.row.count - 1 → m.places ≡ pulled at (entry 0 0) r.row.places → (is_roll m ≡ true) × (items m ≡ remove (marks r) at)
entry_out r m at within g k e = packing.held_out blank_entry (entry 0 0) only_blank refl (rising 0) r.row r.sound m at within g k e

-- a roll is the one of its row
pub read_own : (r : Roll) → read_roll r.row ≡ Some r
read_own r = checked_passes is_roll (λ l e. record { row = l; sound = e }) r.row r.sound

-- the roll of a row has that row
pub read_row : (r : Roll) (l : ShortList Entry) → read_roll l ≡ Some r → r.row ≡ l
read_row r l m = ap (λ (p : Roll). p.row) (sym (checked_made is_roll (λ l e. record { row = l; sound = e }) l r m).1)

-- no roll is made of a row that fails the check
pub unread : (l : ShortList Entry) → is_roll l ≡ false → read_roll l ≡ None
unread l e = checked_fails is_roll (λ l e. record { row = l; sound = e }) l e

-- a roll is the one of its entries
pub roll_own : (r : Roll) → roll_of (marks r) ≡ Some r
roll_own r = ap read_roll (sym (roll_held r).1) ∙ read_own r

-- an answer and the entries of a roll leave that roll
pub left_own : (r p : Roll) (a : Answer) (es : List Entry) → marks p ≡ es → left_by roll_of r (a, es) ≡ record { answer = a; next = p }
left_own = tables.left_own roll_of marks roll_own

-- a roll turned into the one of some entries
pub turned_into : (r p : Roll) (es : List Entry) → marks p ≡ es → p ≡ turned roll_of r es
turned_into r p es e = sym (tables.turned_own roll_of marks roll_own r p es e)

-- no roll is made of entries that are too many or do not rise
pub unmade : (r : Roll) (es : List Entry) → (length es ≤ room → rising 0 es ≢ true) → r ≡ turned roll_of r es
unmade r es no_roll =
    ⊎_elim
    (λ t. let h = packing.held blank_entry (entry 0 0) only_blank refl (rising 0) (packed (entry 0 0) es) t in
    absurd (no_roll h.0 (ap (rising 0) (sym (packing.take_all_padded (entry 0 0) room es h.0)) ∙ h.2)))
    (λ f. sym (ap (λ (o : Option Roll). unwrap_or o r) (unread (packed (entry 0 0) es) f)))
    (cases_Bool (is_roll (packed (entry 0 0) es)))
