-- Steps on one object: where they lead from a state, and whether they get their recorded answers.
use Rattle.std.proofs.Common.{◌≡◌, ℕ, Bool, true, false, cond, ◌||◌, eqb, List, [], ◌∷◌, ◌++◌, sym, refl, ap, ◌∙◌, subst, inl, inr}
use Rattle.std.specs.List.{list_any}
use Rattle.std.proofs.lemmas.Bool.{cases_Bool, both_ways, or_parts}
use Rattle.kinds.specs.declared.answer.Outcome.{Outcome}
use Rattle.kinds.specs.declared.operation.Operation.{Operation}
use Rattle.model.specs.Histories.{Done}

-- the step is on x
abbrev pub on : ℕ → Done → Bool
on x d = eqb d.asked.object x

-- some step is on x
abbrev pub touches : ℕ → List Done → Bool
touches x ds = list_any (on x) ds

module _ {S : Type 0} (acts : S → Operation → Outcome S) where
  -- the state of x after a step
  abbrev pub after : ℕ → Done → S → S
  after x d s = cond (on x d) (acts s d.asked.operation).next s

  -- the state of x after some steps
  abbrev pub ends : ℕ → List Done → S → S
  ends x [] s = s
  ends x (d ∷ ds) s = ends x ds (after x d s)

  -- the steps on x get their recorded answers
  abbrev pub Fits : ℕ → List Done → S → Type 0
  Fits x [] s = Unit {0}
  Fits x (d ∷ ds) s = (on x d ≡ true → (acts s d.asked.operation).answer ≡ d.answer) × Fits x ds (after x d s)

  -- the steps on x lead from a to b, with their recorded answers
  pub record Runs (x : ℕ) (ds : List Done) (a b : S) : Type 0 where
    pub fits : Fits x ds a
    pub leads : ends x ds a ≡ b

  pub ends_append : (x : ℕ) (ds es : List Done) (s : S) → ends x (ds ++ es) s ≡ ends x es (ends x ds s)
  ends_append x [] es s = refl
  ends_append x (d ∷ ds) es s = ends_append x ds es (after x d s)

  fits_append : (x : ℕ) (ds es : List Done) (s : S) → Fits x ds s → Fits x es (ends x ds s) → Fits x (ds ++ es) s
  fits_append x [] es s f g = g
  fits_append x (d ∷ ds) es s f g = (f.0, fits_append x ds es (after x d s) f.1 g)

  -- one run after another
  pub runs_on : (x : ℕ) (ds es : List Done) (a b c : S) → Runs x ds a b → Runs x es b c → Runs x (ds ++ es) a c
  runs_on x ds es a b c r q =
      record {
        fits = fits_append x ds es a r.fits (subst (λ (k : S). Fits x es k) (sym r.leads) q.fits);
        leads = ends_append x ds es a ∙ (ap (ends x es) r.leads ∙ q.leads);
      }

  pub runs_nothing : (x : ℕ) (a : S) → Runs x [] a a
  runs_nothing x a = record { fits = tt; leads = refl }

  -- one step on x that gets its answer
  pub runs_step : (x : ℕ) (d : Done) (a : S) → on x d ≡ true → (acts a d.asked.operation).answer ≡ d.answer → Runs x (d ∷ []) a (acts a d.asked.operation).next
  runs_step x d a h e = record { fits = ((λ _. e), tt); leads = rw h }

  -- a step elsewhere
  pub runs_elsewhere : (x : ℕ) (d : Done) (a : S) → on x d ≡ false → Runs x (d ∷ []) a a
  runs_elsewhere x d a h = record { fits = ((λ e. absurd (both_ways (on x d) h e)), tt); leads = rw h }

  -- steps that do not touch x leave it
  pub runs_untouched : (x : ℕ) (ds : List Done) (a : S) → touches x ds ≡ false → Runs x ds a a
  runs_untouched x [] a h = runs_nothing x a
  runs_untouched x (d ∷ ds) a h =
      let p = or_parts _ _ h in runs_on x (d ∷ []) ds a a a (runs_elsewhere x d a p.0) (runs_untouched x ds a p.1)

  pub runs_at : (x : ℕ) (ds : List Done) (a b c d : S) → a ≡ c → b ≡ d → Runs x ds a b → Runs x ds c d
  runs_at x ds a b c d e f r = subst (λ (k : S). Runs x ds k d) e (subst (λ (k : S). Runs x ds a k) f r)

pub touches_append : (x : ℕ) (ds es : List Done) → touches x (ds ++ es) ≡ (touches x ds || touches x es)
touches_append x [] es = refl
touches_append x (d ∷ ds) es = elim (cases_Bool (on x d)) [ inl e ↦ rw e | inr e ↦ rw e (touches_append x ds es) ]
