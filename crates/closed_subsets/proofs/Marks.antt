-- What a test of a mark answers. Assumes nothing.
use Rattle.std.proofs.Common.{◌≡◌, Bool, true, false, not, sym, refl}
use Rattle.std.proofs.lemmas.Bool.{false≢true}
use mathlib.Core.Bool.{beq}

-- `!=` on two tests
pub differ : (s t : Bool) → not (beq s t) ≡ true → s ≡ t → ⊥
differ true true e f = false≢true e
differ true false e f = false≢true (sym f)
differ false true e f = false≢true f
differ false false e f = false≢true e

pub alike : (s t : Bool) → not (beq s t) ≡ false → s ≡ t
alike true true e = refl
alike true false e = absurd (false≢true (sym e))
alike false true e = absurd (false≢true (sym e))
alike false false e = refl
