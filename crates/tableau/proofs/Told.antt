-- Laws of what is answered by functions that refuse a number beyond ±M.
--   told_ok, told_err   what an answer says of the mark
--   refused_is          an answer that is some Err, where the mark is set
-- Assumes nothing.
use mathlib.Core.Path.{◌≡◌, refl}
use mathlib.Core.Bool.{Bool, true, false}
use Prim.Native.Nat.{ℕ}
use native.Mathlib.Omega.{arith}
use Rattle.std.specs.Prelude.{Result, Ok, Err, IsErr}
use Rattle.std.proofs.lemmas.Bool.{false≢true}
use Rattle.tableau.specs.RowSteps.{unless}
use Rattle.tableau.specs.declared.Beyond.{Beyond}

pub told_ok : {A : Type 0} (over : Bool) {a b : A} → Ok a ≡ unless over b → (over ≡ false) × (a ≡ b)
told_ok true e = let z : ◌≡◌ {A = ℕ} 0 1 = cc in absurd (omega arith)
told_ok false e = (refl, cc)

pub told_err : {A : Type 0} (over : Bool) {x : Beyond} (b : A) → Err x ≡ unless over b → over ≡ true
told_err true b e = refl
told_err false b e = let z : ◌≡◌ {A = ℕ} 0 1 = cc in absurd (omega arith)

pub refused_is : {A : Type 0} (over : Bool) (b : A) (r : Result A Beyond) → IsErr r → over ≡ true → r ≡ unless over b
refused_is over b (Ok a) h e = absurd (false≢true h)
refused_is over b (Err x) h e = rw e refl
