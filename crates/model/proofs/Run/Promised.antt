-- What histories tell, the serial run, the questions, and that every list of calls has one end.
use Rattle.std.proofs.Common.{◌≡◌, ℕ, suc, ◌+◌, true, List, [], ◌∷◌, length, Some, None, Option, sym, refl, ap, ◌∙◌, subst, ap₂}
use Rattle.std.specs.Option.{option_map}
use Rattle.std.specs.List.{slice_get}
use Rattle.std.proofs.lemmas.Option.{slice_get-map}
use Rattle.model.specs.declared.call.Call.{Call}
use Rattle.model.specs.declared.lock.Wait.{Wait}
use Rattle.model.specs.Histories.{Account, Done, History, account, kept, Follows}
use Rattle.model.specs.Model.{Setting, State, respond, initially, facts}
use Rattle.model.specs.Promises.{total, facts_told, Told, Serial, Questions, Single, calls_of}
use Rattle.model.specs.Questions.{condition, peek, lock_counts}
use Rattle.model.specs.Stores.{Object, owned, change_count}
use Rattle.model.specs.Tables.{Tables, is_open}
use Rattle.model.proofs.Run.Following.{follows_sound}
use Rattle.model.proofs.Object.Invariant.{SoundObject}
use Rattle.model.proofs.General.Places.{Matched, matched_there, same_places}
use Rattle.model.proofs.Object.Runs.{ends}
use Rattle.model.proofs.Run.Serials.{FitsAt, serial_answers_fit, serial_states_at}
use Rattle.model.proofs.Run.Invariant.{Lawful, Sound, WaitsWith}

-- lists that match have one length
matched_length : {A B : Type 0} (P : ℕ → A → B → Type 0) (xs : List A) (ys : List B) → ((i : ℕ) → Matched (P i) (slice_get xs i) (slice_get ys i)) → length xs ≡ length ys
matched_length P [] [] h = refl
matched_length P [] (y ∷ ys) h = absurd (h 0)
matched_length P (x ∷ xs) [] h = absurd (h 0)
matched_length P (x ∷ xs) (y ∷ ys) h = ap suc (matched_length (λ i. P (suc i)) xs ys (λ i. h (suc i)))

-- changes that agree object by object agree in all
total_changes : {S : Type 0} (t : ℕ) (xs : List S) (obs : List (Object S)) (f : ℕ → ℕ) → ((i : ℕ) → Matched (λ (s : S) ob. f i ≡ owned t ob.versions) (slice_get xs i) (slice_get obs i)) → total (length xs) f ≡ change_count t obs
total_changes t [] [] f h = refl
total_changes t [] (ob ∷ obs) f h = absurd (h 0)
total_changes t (x ∷ xs) [] f h = absurd (h 0)
total_changes t (x ∷ xs) (ob ∷ obs) f h = ap₂ ◌+◌ (h 0) (total_changes t xs obs (λ i. f (suc i)) (λ i. h (suc i)))

module _ {S : Type 0} (m : Setting S) (lawful : Lawful m) (initial : List S) (h : History) (s : State S) (follows : Follows m initial h s) where
  abbrev A : Account
  A = account m.class initial h

  pub tables_told : s.tables ≡ A.tables
  tables_told = (follows_sound m lawful initial h s follows).0

  pub sound : Sound m initial A s.objects
  sound = (follows_sound m lawful initial h s follows).1

  was_open : (t : ℕ) → is_open s.tables t ≡ true → is_open A.tables t ≡ true
  was_open t o = subst (λ (T : Tables). is_open T t ≡ true) tables_told o

  pub told : Told m initial h s
  told = record { tables = tables_told; changes = changes; waiting_steps = waiting_steps }
    where
      changes : (x t : ℕ) (ob : Object S) → slice_get s.objects x ≡ Some ob → is_open s.tables t ≡ true → owned t ob.versions ≡ A.changes x t
      changes x t ob e o =
          let k =
          matched_there (SoundObject m A.tables A.items (A.changes x) x) (slice_get initial x) ob (slice_get s.objects x) e
          (sound.each x) in
          sym (k.2.counts t (was_open t o))

      waiting_steps : (t : ℕ) (w : Wait) → s.tables.wait t ≡ Some w → WaitsWith m initial A.waiting_step t w
      waiting_steps t w e = sound.asks t w (subst (λ (T : Tables). T.wait t ≡ Some w) tables_told e)

  -- the facts of an open transaction are told
  pub facts_are_told : (t : ℕ) → is_open s.tables t ≡ true → facts s t ≡ facts_told m initial h t
  facts_are_told t o = λ i. record { number = t; ordinal = (tables_told i).ordinal t; changes = counts i }
    where
      counted : (x : ℕ) (a : Option S) (b : Option (Object S)) → Matched (SoundObject m A.tables A.items (A.changes x) x) a b → Matched (λ (z : S) ob. A.changes x t ≡ owned t ob.versions) a b
      counted x None None k = tt
      counted x None (Some b) k = absurd k
      counted x (Some a) None k = absurd k
      counted x (Some a) (Some b) k = k.counts t (was_open t o)

      counts : change_count t s.objects ≡ total (length initial) (λ x. A.changes x t)
      counts =
          sym
          (total_changes t initial s.objects (λ x. A.changes x t) (λ x. counted x (slice_get initial x) (slice_get s.objects x) (sound.each x)))

  abbrev steps : List Done
  steps = kept m.class initial h

  pub serial : Serial m initial h s
  serial =
      record {
        answers = serial_answers_fit m.acts steps initial (λ x. fits x (slice_get initial x) refl (slice_get s.objects x) (sound.each x));
        states =
            same_places _ _
            (λ x.
            serial_states_at m.acts steps initial x
            ∙ (leads x (slice_get initial x) (slice_get s.objects x) (sound.each x) ∙ sym (slice_get-map (λ ob. ob.committed) s.objects x)));
      }
    where
      fits : (x : ℕ) (a : Option S) → slice_get initial x ≡ a → (b : Option (Object S)) → Matched (SoundObject m A.tables A.items (A.changes x) x) a b → FitsAt m.acts x steps a
      fits x None e b k = sound.known x e 0
      fits x (Some a) e None k = absurd k
      fits x (Some a) e (Some b) k = k.whole.fits

      leads : (x : ℕ) (a : Option S) (b : Option (Object S)) → Matched (SoundObject m A.tables A.items (A.changes x) x) a b → option_map (ends m.acts x steps) a ≡ option_map (λ ob. ob.committed) b
      leads x None None k = refl
      leads x None (Some b) k = absurd k
      leads x (Some a) None k = absurd k
      leads x (Some a) (Some b) k = ap Some k.whole.leads

  pub questions : Questions m initial h s
  questions =
      record {
        conditions = λ t. ap (λ (T : Tables). condition m.limit T t) tables_told;
        counts =
            λ x.
            ap₂ (λ (T : Tables) (n : ℕ). lock_counts m.limit T n x) tables_told
            (sym (matched_length (λ i. SoundObject m A.tables A.items (A.changes i) i) initial s.objects sound.each));
        peeks = λ x o. ap (λ (states : List S). peek m.class m.acts states x o) (sym serial.states);
      }

module _ {S : Type 0} (m : Setting S) (initial : List S) where
  some_end : (calls : List Call) → (h : History) × (s : State S) × Follows m initial h s × (calls_of h ≡ calls)
  some_end [] = ([], initially initial, refl, refl)
  some_end (c ∷ cs) =
      let k = some_end cs in
      let r = respond m k.1 c in
      (record { call = c; reply = r.0 } ∷ k.0, r.1, (k.1, k.2, refl), ap (λ (l : List Call). c ∷ l) k.3)

  one_end : (h k : History) (s r : State S) → Follows m initial h s → Follows m initial k r → calls_of h ≡ calls_of k → (h ≡ k) × (s ≡ r)
  one_end [] [] s r f g e = (refl, f ∙ sym g)
  one_end [] (b ∷ k) s r f g e = absurd cc
  one_end (a ∷ h) [] s r f g e = absurd cc
  one_end (a ∷ h) (b ∷ k) s r f g e = joined (one_end h k f.0 g.0 f.1 g.1 rest)
    where
      first : a.call ≡ b.call
      first = cc

      rest : calls_of h ≡ calls_of k
      rest = cc

      joined : (h ≡ k) × (f.0 ≡ g.0) → ((a ∷ h) ≡ (b ∷ k)) × (s ≡ r)
      joined p =
          let same : (a.reply, s) ≡ (b.reply, r) = f.2 ∙ (ap₂ (λ (z : State S) (c : Call). respond m z c) p.1 first ∙ sym g.2) in
          let event : a ≡ b = λ i. record { call = first i; reply = (same i).0 } in
          ((λ i. event i ∷ p.0 i), (λ i. (same i).1))

pub single : {S : Type 0} (m : Setting S) → Single m
single m = record { some_end = some_end m; one_end = one_end m }
