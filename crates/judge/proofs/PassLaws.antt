-- What passes a test, and what the test stops, by the number that is told.
use Rattle.std.specs.Prelude.{ℕ, Bool, true, false, ◌≡◌, refl}
use Rattle.std.proofs.Common.{sym, arith}
use Rattle.loops.specs.Loops.{pick}
use Rattle.vdisk.specs.declared.owner.Own.{Own}
use Rattle.vdisk.specs.declared.owner.Own.TheVariants.{Reserved, Fixed, Dyn, Free}
use Rattle.refusals.specs.Refusals.{number_of}
use Rattle.refusals.specs.declared.Refusal.{Refusal}
use Rattle.refusals.proofs.Numbers.{refused}
use Rattle.judge.specs.Classify.{data_number}

pub passes : (b : Bool) (n : ℕ) → (n ≡ 0 → ⊥) → 0 ≡ pick b 0 n → b ≡ true
passes true n h e = refl
passes false n h e = absurd (h (sym e))

pub stops : (b : Bool) (n : ℕ) (r : Refusal) → number_of r ≡ pick b 0 n → b ≡ false
stops true n r e = absurd (refused r e)
stops false n r e = refl

pub stopped-by : (b : Bool) (n : ℕ) (r : Refusal) → number_of r ≡ pick b 0 n → number_of r ≡ n
stopped-by true n r e = absurd (refused r e)
stopped-by false n r e = e

-- data that isn't a host cluster's has a number
pub data-refused : (o : Own) → data_number o ≡ 0 → ⊥
unfolding data_number
data-refused Reserved = λ e. omega arith
data-refused Fixed = λ e. omega arith
data-refused (Dyn j) = λ e. omega arith
data-refused Free = λ e. omega arith
