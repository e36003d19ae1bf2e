-- Tallies by their values.
use Rattle.std.specs.Prelude.{◌≡◌, ℕ, ◌+◌, Bool, true, false, cond, ℤ, pos, neg_ℤ, Some, None, Option, nat_le, refl}
use Rattle.std.specs.Option.{option_map}
use Rattle.std.proofs.Common.{ap, sym, ◌∙◌, arith}
use Rattle.std.proofs.lemmas.Bool.Decides.{nat_tests}
use Rattle.kinds.specs.Outcomes.{Answer, turned, yes_to, no_to, left_by, content_after, by_table}
use Rattle.kinds.specs.declared.answer.Class.TheVariants.{Read, Write}
use Rattle.kinds.specs.declared.answer.Outcome.{Outcome}
use Rattle.kinds.specs.declared.number.value.Number.{Number}
use Rattle.kinds.specs.declared.tally.state.Tally.{Tally}
use Rattle.kinds.specs.declared.tally.operation.TallyOperation.{TallyOperation}
use Rattle.kinds.specs.declared.tally.operation.TallyOperation.TheVariants.{Show, Add, Take}
use Rattle.kinds.specs.Numbers.{number_at}
use Rattle.kinds.specs.Operations.{largest, ranged}
use Rattle.kinds.specs.Tallies.{tally_at, tally_class, value_of, grown, lessened, value_after, amount, value_undone}
use Rattle.kinds.specs.Laws.NumberLaws.{number_own, number_value, above_largest}
use Rattle.kinds.specs.Laws.Tables as tables

-- a tally is the one made of its value
pub tally_at_own : (t : Tally) → tally_at (value_of t) ≡ Some t
tally_at_own t = ap (λ (o : Option Number). option_map {U = Tally} (λ n. record { number = n }) o) (number_own t.number)

-- the tally made of a value has that value
made_value : (t : Tally) (v : ℕ) (o : Option Number) → number_at v ≡ o → option_map {U = Tally} (λ n. record { number = n }) o ≡ Some t → value_of t ≡ v
made_value t v None e m = cc
made_value t v (Some n) e m = let same : record { number = n } ≡ t = cc in ap value_of (sym same) ∙ number_value n v e

pub tally_at_value : (t : Tally) (v : ℕ) → tally_at v ≡ Some t → value_of t ≡ v
tally_at_value t v m = made_value t v (number_at v) refl m

-- no tally is made of a value above the largest number
pub out_of_range : (v : ℕ) → nat_le v largest ≡ false → tally_at v ≡ None
out_of_range v e = ap (λ (o : Option Number). option_map {U = Tally} (λ n. record { number = n }) o) (above_largest v e)

-- an answer and the value of a tally leave that tally
pub left_own : (t u : Tally) (a : Answer) (v : ℕ) → value_of u ≡ v → left_by tally_at t (a, v) ≡ record { answer = a; next = u }
left_own = tables.left_own tally_at value_of tally_at_own

-- a no changes no value, whatever the number
grown_keeps : (v n : ℕ) → (grown v n).0 ≡ None → (grown v n).1 ≡ v
grown_keeps v n e = grind (arith, nat_tests)

lessened_keeps : (v n : ℕ) → (lessened v n).0 ≡ None → (lessened v n).1 ≡ v
lessened_keeps v n e = grind (arith, nat_tests)

no_keeps_value : (v : ℕ) (p : TallyOperation) → (value_after v p).0 ≡ None → (value_after v p).1 ≡ v
no_keeps_value v Show e = refl
no_keeps_value v (Add n) e = grown_keeps v n.value e
no_keeps_value v (Take n) e = lessened_keeps v n.value e

-- a no changes no tally
pub no_leaves_state : (t : Tally) (p : Option TallyOperation) → (by_table tally_at (value_after (value_of t)) t p).answer ≡ None → (by_table tally_at (value_after (value_of t)) t p).next ≡ t
no_leaves_state t p e = tables.no_leaves tally_at value_of tally_at_own (value_after (value_of t)) t p (no_keeps_value (value_of t)) e

-- a read changes no tally
pub read_leaves_state : (t : Tally) (p : Option TallyOperation) → tally_class p ≡ Read → (by_table tally_at (value_after (value_of t)) t p).next ≡ t
read_leaves_state t None e = refl
read_leaves_state t (Some Show) e = tables.turned_own tally_at value_of tally_at_own t t (value_of t) refl
read_leaves_state t (Some (Add n)) e = cc
read_leaves_state t (Some (Take n)) e = cc

-- growing and falling leave a value in range
pub grown_ranged : (v n : ℕ) → ranged v ≡ true → ranged (grown v n).1 ≡ true
grown_ranged v n e = grind (arith, nat_tests)

pub lessened_ranged : (v n : ℕ) → ranged v ≡ true → ranged (lessened v n).1 ≡ true
lessened_ranged v n e = grind (arith, nat_tests)

-- and so does an operation
after_ranged : (v : ℕ) (p : TallyOperation) → ranged v ≡ true → ranged (value_after v p).1 ≡ true
after_ranged v Show e = e
after_ranged v (Add n) e = grown_ranged v n.value e
after_ranged v (Take n) e = lessened_ranged v n.value e

-- undoing by what was added or taken restores the value, whatever the number
grown_restored : (v n : ℕ) → ranged v ≡ true → value_undone (grown v n).1 (cond (nat_le (v + n) largest) (pos n) (pos 0)) ≡ v
grown_restored v n e = grind (arith, nat_tests)

lessened_restored : (v n : ℕ) → ranged v ≡ true → value_undone (lessened v n).1 (cond (nat_le n v) (neg_ℤ (pos n)) (pos 0)) ≡ v
lessened_restored v n e = grind (arith, nat_tests)

-- and so does undoing an operation's amount
value_restored : (v : ℕ) (p : TallyOperation) → ranged v ≡ true → value_undone (value_after v p).1 (amount v (Some p)) ≡ v
value_restored v Show e = grind (arith, nat_tests)
value_restored v (Add n) e = grown_restored v n.value e
value_restored v (Take n) e = lessened_restored v n.value e

-- the tally of a value in range
abbrev of_value : (v : ℕ) → ranged v ≡ true → Tally
of_value v e = record { number = record { value = v; in_range = e } }

-- a tally left beside an answer, by its value
module _ (t : Tally) (q : Answer × ℕ) (in_range : ranged q.1 ≡ true) where
  -- it has that value
  pub left_value : (r : Outcome Tally) → r ≡ left_by tally_at t q → value_of r.next ≡ q.1
  left_value r e = ap (λ (x : Outcome Tally). value_of x.next) e ∙ tables.left_content tally_at value_of tally_at_own t (of_value q.1 in_range) q refl

  -- where undoing restores the value, it restores the tally
  pub undo_returns : (d : ℤ) → value_undone q.1 d ≡ value_of t → let u = (left_by tally_at t q).next in turned tally_at u (value_undone (value_of u) d) ≡ t
  undo_returns d e = tables.undo_returns tally_at value_of tally_at_own value_undone t (of_value q.1 in_range) q.1 d refl e

-- adding and taking any number: the value after it, what a no leaves, and what undoing leaves
module _ (t : Tally) (n : ℕ) where
  pub grown_left : (r : Outcome Tally) → r ≡ left_by tally_at t (grown (value_of t) n) → value_of r.next ≡ (grown (value_of t) n).1
  grown_left = left_value t (grown (value_of t) n) (grown_ranged (value_of t) n t.number.in_range)

  pub lessened_left : (r : Outcome Tally) → r ≡ left_by tally_at t (lessened (value_of t) n) → value_of r.next ≡ (lessened (value_of t) n).1
  lessened_left = left_value t (lessened (value_of t) n) (lessened_ranged (value_of t) n t.number.in_range)

  pub grown_leaves : (grown (value_of t) n).0 ≡ None → (left_by tally_at t (grown (value_of t) n)).next ≡ t
  grown_leaves e = tables.turned_own tally_at value_of tally_at_own t t _ (sym (grown_keeps (value_of t) n e))

  pub lessened_leaves : (lessened (value_of t) n).0 ≡ None → (left_by tally_at t (lessened (value_of t) n)).next ≡ t
  lessened_leaves e = tables.turned_own tally_at value_of tally_at_own t t _ (sym (lessened_keeps (value_of t) n e))

  pub grown_undone : let u = (left_by tally_at t (grown (value_of t) n)).next in turned tally_at u (value_undone (value_of u) (cond (nat_le (value_of t + n) largest) (pos n) (pos 0))) ≡ t
  grown_undone = undo_returns t (grown (value_of t) n) (grown_ranged (value_of t) n t.number.in_range) (cond (nat_le (value_of t + n) largest) (pos n) (pos 0)) (grown_restored (value_of t) n t.number.in_range)

  pub lessened_undone : let u = (left_by tally_at t (lessened (value_of t) n)).next in turned tally_at u (value_undone (value_of u) (cond (nat_le n (value_of t)) (neg_ℤ (pos n)) (pos 0))) ≡ t
  lessened_undone = undo_returns t (lessened (value_of t) n) (lessened_ranged (value_of t) n t.number.in_range) (cond (nat_le n (value_of t)) (neg_ℤ (pos n)) (pos 0)) (lessened_restored (value_of t) n t.number.in_range)

-- undoing a write's amount restores the tally
pub undo_leads_back : (t : Tally) (p : Option TallyOperation) → tally_class p ≡ Write → let u = (by_table tally_at (value_after (value_of t)) t p).next in turned tally_at u (value_undone (value_of u) (amount (value_of t) p)) ≡ t
undo_leads_back t None e = cc
undo_leads_back t (Some p) e =
    let v = value_of t in
    undo_returns t (value_after v p) (after_ranged v p t.number.in_range) (amount v (Some p)) (value_restored v p t.number.in_range)

-- an operation that does not pass its test is answered no
pub refused : (t : Tally) (b : Bool) (n v : ℕ) → b ≡ false → left_by tally_at t (cond b (Some n, v) (None, value_of t)) ≡ no_to t
refused t b n v e = rw e (left_own t t None (value_of t) refl)

-- one that passes it is answered yes, and leaves the tally of the new value
pub accepted : (t u : Tally) (b : Bool) (v : ℕ) → b ≡ true → value_of u ≡ v → left_by tally_at t (cond b (Some v, v) (None, value_of t)) ≡ yes_to v u
accepted t u b v e f = rw e (left_own t u (Some v) v f)

-- the value after an operation is the table's
pub value_left : (t : Tally) (p : Option TallyOperation) (r : Outcome Tally) → r ≡ by_table tally_at (value_after (value_of t)) t p → value_of r.next ≡ content_after value_after (value_of t) p
value_left t None r e = ap (λ (x : Outcome Tally). value_of x.next) e
value_left t (Some p) r e = left_value t (value_after (value_of t) p) (after_ranged (value_of t) p t.number.in_range) r e
