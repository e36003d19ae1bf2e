-- A state is plain data that passes a check. Assumes nothing.
--
-- | checked | the state made of what passes the check |
use Rattle.std.specs.Prelude.{◌≡◌, Bool, true, false, Some, None, Option, refl}

-- `checked` once the check's result is known to be `b`
abbrev pub passing : {R S : Type 0} (test : R → Bool) → ((r : R) → test r ≡ true → S) → (r : R) (b : Bool) → test r ≡ b → Option S
passing test make r true e = Some (make r e)
passing test make r false e = None

-- the state made of `r`, if `r` passes the check
unfoldable pub checked : {R S : Type 0} (test : R → Bool) → ((r : R) → test r ≡ true → S) → R → Option S
checked test make r = passing test make r (test r) refl
