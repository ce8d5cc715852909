-- Laws of the marks of files that staged data names.
use Rattle.std.specs.Prelude.{ℕ, ◌/◌, ◌%◌, ◌^◌, Bool, true, false, not, ◌&&◌, List, ◌≡◌, refl}
use Rattle.std.proofs.Common.{sym, arith, eqb-true}
use Rattle.std.proofs.lemmas.Bool.{false≢true}
use Rattle.std.specs.Int.Bits.{or_add_and}
use Rattle.loops.specs.Loops.{pick}
use Rattle.bits.specs.Bit.{bit, set_bit}
use Rattle.bits.specs.Laws.{and-pow}
use Rattle.vdisk.specs.Ids.{turned}
use Rattle.slots.specs.Slots.{refers_to}

-- a mark that is set already stays
pub set-again : (m s : ℕ) → bit m s ≡ true → set_bit m s ≡ m
unfolding bit set_bit
set-again m s e =
    let q = eqb-true (m / 2 ^ s % 2) 1 e in
    let a = or_add_and m (2 ^ s) in
    let b = rw q at (and-pow m s) in
    omega arith

-- a file that isn't moved yet, turned or not, named or not
marked-as : (t m r : Bool) (id v : ℕ) → (t && not m && r) ≡ true → pick (t && r) v id ≡ v
marked-as true false true id v e = refl
marked-as true false false id v e = absurd (false≢true e)
marked-as true true r id v e = absurd (false≢true e)
marked-as false m r id v e = absurd (false≢true e)

left-as : (t m r : Bool) (id v : ℕ) → (m ≡ true → v ≡ id) → (t && not m && r) ≡ false → pick (t && r) v id ≡ id
left-as true true true id v k e = k refl
left-as true true false id v k e = refl
left-as true false false id v k e = refl
left-as true false true id v k e = absurd (false≢true (sym e))
left-as false m r id v k e = refl

module _ (id start size : ℕ) (written : List ℕ) where
  pub moved-set : (turned id && not (bit id 15) && refers_to written start size) ≡ true
      → pick (turned id && refers_to written start size) (set_bit id 15) id ≡ set_bit id 15
  moved-set e = marked-as (turned id) (bit id 15) (refers_to written start size) id (set_bit id 15) e

  pub moved-left : (turned id && not (bit id 15) && refers_to written start size) ≡ false
      → pick (turned id && refers_to written start size) (set_bit id 15) id ≡ id
  moved-left e = left-as (turned id) (bit id 15) (refers_to written start size) id (set_bit id 15) (set-again id 15) e
