-- Laws of tests that the proofs on slots cite.
use Rattle.std.specs.Prelude.{Bool, true, false, ◌&&◌, ◌≡◌, refl}

-- one test that fails is enough, whatever those before it say
pub and-false : (a : Bool) → (a && false) ≡ false
and-false true = refl
and-false false = refl
