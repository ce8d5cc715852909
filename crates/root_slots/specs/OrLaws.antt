-- A law of tests joined by "or".
use Rattle.std.specs.Prelude.{Bool, true, false, ◌||◌, ◌≡◌, refl}

-- the right one of the two alone says no
pub or-none : (a b : Bool) → b ≡ false → (a || b) ≡ a
or-none true b e = refl
or-none false b e = e
