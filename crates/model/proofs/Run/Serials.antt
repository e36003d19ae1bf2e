-- The serial run over all objects, from runs on each object.
use Rattle.std.proofs.Common.{◌≡◌, ℕ, false, cond, List, [], ◌∷◌, map, Some, None, Option, sym, refl, ap, ◌∙◌, subst, ap₂, inl, inr}
use Rattle.std.specs.Option.{option_map}
use Rattle.std.specs.List.{slice_get}
use Rattle.std.proofs.lemmas.Iterator.Adapters.{option_map_id}
use Rattle.std.proofs.lemmas.Bool.{cases_Bool, both_ways, or_parts, or_left, eq-eqb}
use Rattle.kinds.specs.declared.answer.Outcome.{Outcome}
use Rattle.kinds.specs.declared.operation.Operation.{Operation}
use Rattle.model.specs.Histories.{Done}
use Rattle.model.specs.Serial.{answer_of, states_after, serial_answers, serial_states}
use Rattle.model.proofs.General.Places.{nth_at}
use Rattle.model.proofs.Object.Runs.{on, touches, after, ends, Fits}

module _ {S : Type 0} (acts : S → Operation → Outcome S) where
  -- the steps fit the state at x, or nothing is there and no step is on it
  abbrev pub FitsAt : ℕ → List Done → Option S → Type 0
  FitsAt x ds None = touches x ds ≡ false
  FitsAt x ds (Some s) = Fits acts x ds s

  -- one step of the serial run does at each place what it does to one object
  nth_after : (d : Done) (states : List S) (x : ℕ) → slice_get (states_after acts d.asked states) x ≡ option_map (after acts x d) (slice_get states x)
  nth_after d states x = nth_at d.asked.object (λ s. (acts s d.asked.operation).next) states x ∙ by_test (slice_get states x)
    where
      by_test : (o : Option S) → cond (on x d) (option_map (λ s. (acts s d.asked.operation).next) o) o ≡ option_map (after acts x d) o
      by_test None = elim (cases_Bool (on x d)) [ inl e ↦ rw e | inr e ↦ rw e ]
      by_test (Some s) = elim (cases_Bool (on x d)) [ inl e ↦ rw e | inr e ↦ rw e ]

  fits_after : (x : ℕ) (d : Done) (ds : List Done) (o : Option S) → FitsAt x (d ∷ ds) o → FitsAt x ds (option_map (after acts x d) o)
  fits_after x d ds None f = (or_parts (on x d) (touches x ds) f).1
  fits_after x d ds (Some s) f = f.1

  fits_answer : (d : Done) (ds : List Done) (o : Option S) → FitsAt d.asked.object (d ∷ ds) o → answer_of acts d.asked.operation o ≡ d.answer
  fits_answer d ds None f =
      absurd (both_ways _ f (or_left _ (touches d.asked.object ds) (eq-eqb d.asked.object d.asked.object refl)))
  fits_answer d ds (Some s) f = f.0 (eq-eqb d.asked.object d.asked.object refl)

  -- steps that fit every object get their answers
  pub serial_answers_fit : (ds : List Done) (states : List S) → ((x : ℕ) → FitsAt x ds (slice_get states x)) → serial_answers acts states (map (λ d. d.asked) ds) ≡ map (λ d. d.answer) ds
  serial_answers_fit [] states f = refl
  serial_answers_fit (d ∷ ds) states f =
      ap₂ ◌∷◌ (fits_answer d ds (slice_get states d.asked.object) (f d.asked.object))
      (serial_answers_fit ds (states_after acts d.asked states)
      (λ x. subst (FitsAt x ds) (sym (nth_after d states x)) (fits_after x d ds (slice_get states x) (f x))))

  mapped_twice : (f g : S → S) (o : Option S) → option_map g (option_map f o) ≡ option_map (λ s. g (f s)) o
  mapped_twice f g None = refl
  mapped_twice f g (Some s) = refl

  -- and lead each object where they lead it alone
  pub serial_states_at : (ds : List Done) (states : List S) (x : ℕ) → slice_get (serial_states acts states (map (λ d. d.asked) ds)) x ≡ option_map (ends acts x ds) (slice_get states x)
  serial_states_at [] states x = sym (option_map_id (slice_get states x))
  serial_states_at (d ∷ ds) states x =
      serial_states_at ds (states_after acts d.asked states) x
      ∙ (ap (option_map (ends acts x ds)) (nth_after d states x) ∙ mapped_twice (after acts x d) (ends acts x ds) (slice_get states x))
