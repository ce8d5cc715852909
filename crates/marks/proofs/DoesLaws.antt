-- Laws of what a call does to marks.
use Rattle.std.specs.Prelude.{ℕ, ◌<◌, Bool, true, false, ◌||◌, List, ◌≡◌, refl, eqb, Option, Some, None}
use Rattle.std.proofs.lemmas.Bool.{false≢true}
use Rattle.std.proofs.Common.{ap, eqb-true, eq-eqb}
use Rattle.loops.specs.Loops.{pick}
use Rattle.loops.specs.Choices.{and-no}
use Rattle.loops.specs.Marks.{is_at}
use Rattle.bits.specs.Bit.{bit, set_bit}
use Rattle.bits.specs.Laws.{bit-set-same, bit-set-below, bit-set-above}
use Rattle.marks.specs.Does.{Does}

-- a call that leaves the ids: it was refused, or holds nothing of the file
pub does-refused : (j number : ℕ) (ids : List ℕ) (turns zeroes moves : Bool) → eqb number 0 ≡ false → Does j number ids ids turns zeroes moves
does-refused j number ids turns zeroes moves e = record { turn = rw e; free = rw e; left = refl; move = rw e }

pub does-nothing : (j number : ℕ) (ids : List ℕ) (turns zeroes moves : Bool) → turns ≡ false → zeroes ≡ false → moves ≡ false → Does j number ids ids turns zeroes moves
does-nothing j number ids turns zeroes moves p q r =
    let n = eqb number 0 in
    record { turn = rw (and-no n turns p); free = rw (and-no n zeroes q); left = refl; move = rw (and-no n moves r) }

-- what a call does, by other tests that say the same
pub does-as : (j number : ℕ) (before after : List ℕ) (tu tu' ze ze' mo mo' : Bool) → tu ≡ tu' → ze ≡ ze' → mo ≡ mo'
    → Does j number before after tu' ze' mo' → Does j number before after tu ze mo
does-as j number before after tu tu' ze ze' mo mo' p q r d = rw (p, q, r) d

-- bits of a number where one is set if a test says so
pub same-bit : (b : Bool) (id k : ℕ) → bit (pick b (set_bit id k) id) k ≡ (b || bit id k)
same-bit true id k = bit-set-same id k
same-bit false id k = refl

pub lower-bit : (b : Bool) (id k i : ℕ) → i < k → bit (pick b (set_bit id k) id) i ≡ bit id i
lower-bit true id k i h = bit-set-below id k i h
lower-bit false id k i h = refl

pub upper-bit : (b : Bool) (id k i : ℕ) → k < i → bit (pick b (set_bit id k) id) i ≡ bit id i
upper-bit true id k i h = bit-set-above id k i h
upper-bit false id k i h = refl

-- a place picks row j exactly where it gives j
pub is_at-is : (j : ℕ) (f : Option ℕ) → is_at j f ≡ true → f ≡ Some j
unfolding is_at
is_at-is j (Some k) e = ap Some (eqb-true k j e)
is_at-is j None e = absurd (false≢true e)

pub is_at-of : (j : ℕ) (f : Option ℕ) → f ≡ Some j → is_at j f ≡ true
unfolding is_at
is_at-of j f e = rw e (eq-eqb j j refl)
