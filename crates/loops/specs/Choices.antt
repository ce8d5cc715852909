-- Laws of choices by a test, and of tests joined by "and" and "or".
use Rattle.std.specs.Prelude.{Bool, true, false, not, ◌&&◌, ◌||◌, ◌≡◌, refl}
use Rattle.std.proofs.Common.{true≢false, sym}
use Rattle.std.proofs.lemmas.Bool.{false≢true}
use Rattle.loops.specs.Loops.{pick}

-- a test holds or not
pub either : {R : Type 0} (b : Bool) → (b ≡ true → R) → (b ≡ false → R) → R
either true f g = f refl
either false f g = g refl

-- what both arms have, each given its test, a choice has
pub pick-by : {A : Type 0} (P : A → Type 0) (b : Bool) (x y : A) → (b ≡ true → P x) → (b ≡ false → P y) → P (pick b x y)
pick-by P true x y f g = f refl
pick-by P false x y f g = g refl

pub pick-has : {A : Type 0} (P : A → Type 0) (b : Bool) (x y : A) → P x → P y → P (pick b x y)
pick-has P true x y p q = p
pick-has P false x y p q = q

-- what a choice was made of
pub picked : {A R : Type 0} (b : Bool) (x y z : A) → pick b x y ≡ z → (b ≡ true → x ≡ z → R) → (b ≡ false → y ≡ z → R) → R
picked true x y z e f g = f refl e
picked false x y z e f g = g refl e

pub and-of : (a b : Bool) → a ≡ true → b ≡ true → (a && b) ≡ true
and-of a b p q = rw (p, q)

pub and-0 : (a b : Bool) → (a && b) ≡ true → a ≡ true
and-0 true b e = refl
and-0 false b e = e

pub and-1 : (a b : Bool) → (a && b) ≡ true → b ≡ true
and-1 true b e = e
and-1 false b e = absurd (false≢true e)

-- the right one of the two alone says no
pub and-no : (a b : Bool) → b ≡ false → (a && b) ≡ false
and-no true b e = e
and-no false b e = refl

pub or-by : {R : Type 0} (a b : Bool) → (a || b) ≡ true → (a ≡ true → R) → (b ≡ true → R) → R
or-by true b e f g = f refl
or-by false b e f g = g e

pub or-l : (a b : Bool) → a ≡ true → (a || b) ≡ true
or-l a b e = rw e

pub or-r : (a b : Bool) → b ≡ true → (a || b) ≡ true
or-r true b e = refl
or-r false b e = e

pub or-no : (a b : Bool) → (a || b) ≡ false → (a ≡ false) × (b ≡ false)
or-no true b e = absurd (true≢false e)
or-no false b e = (refl, e)

pub not-both : (a b : Bool) → not (a && b) ≡ true → a ≡ true → b ≡ true → ⊥
not-both a b e p q = let z : not (true && true) ≡ true = rw (p, q) at e in false≢true z

-- two tests that imply each other are one
pub same-if : (a b : Bool) → (a ≡ true → b ≡ true) → (b ≡ true → a ≡ true) → a ≡ b
same-if true b f g = sym (f refl)
same-if false true f g = g refl
same-if false false f g = refl
