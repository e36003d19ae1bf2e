-- Kinds whose operations go by a table over what a state holds, its content.
use Rattle.std.specs.Prelude.{◌≡◌, Some, None, Option, refl}
use Rattle.std.proofs.Common.{ap, sym, ◌∙◌}
use Rattle.std.specs.Option.{unwrap_or}
use Rattle.kinds.specs.Outcomes.{Answer, turned, left_by, by_table}

module _ {S C : Type 0} (make : C → Option S) (content : S → C) (own : (s : S) → make (content s) ≡ Some s) where
  -- the content of a state makes that state
  pub turned_own : (s t : S) (c : C) → content t ≡ c → turned make s c ≡ t
  turned_own s t c e = ap (λ (o : Option S). unwrap_or o s) (ap make (sym e) ∙ own t)

  -- an answer and the content of a state leave that state
  pub left_own : (s t : S) (a : Answer) (c : C) → content t ≡ c → left_by make s (a, c) ≡ record { answer = a; next = t }
  left_own s t a c e = ap (λ (u : S). record { answer = a; next = u }) (turned_own s t c e)

  -- where a state has the content after an answer, that is the content of the state that is left
  pub left_content : (s t : S) (q : Answer × C) → content t ≡ q.1 → content (left_by make s q).next ≡ q.1
  left_content s t q e = ap content (turned_own s t q.1 e) ∙ e

  -- where a no leaves the content, it leaves the state
  pub no_leaves : {P : Type 0} (table : P → Answer × C) (s : S) (p : Option P) → ((k : P) → (table k).0 ≡ None → (table k).1 ≡ content s) → (by_table make table s p).answer ≡ None → (by_table make table s p).next ≡ s
  no_leaves table s None h e = refl
  no_leaves table s (Some k) h e = turned_own s s (table k).1 (sym (h k e))

  -- undoing on contents is undoing on states
  pub undo_returns : {U : Type 0} (undo : C → U → C) (s t : S) (c : C) (u : U) → content t ≡ c → undo c u ≡ content s → turned make (turned make s c) (undo (content (turned make s c)) u) ≡ s
  undo_returns undo s t c u e f =
      let here : content (turned make s c) ≡ c = ap content (turned_own s t c e) ∙ e in
      turned_own (turned make s c) s _ (sym (ap (λ (x : C). undo x u) here ∙ f))
