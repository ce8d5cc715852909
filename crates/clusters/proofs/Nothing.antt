-- That nothing was found, as the library's `is_none` tells it.
use Rattle.std.specs.Prelude.{ℕ, Bool, true, false, not, ◌≡◌, refl, Option, Some, None, is_some}
use Rattle.clusters.specs.Clusters.{is_nothing}

not-true : (b : Bool) → true ≡ not b → b ≡ false
not-true true e = e
not-true false e = refl

not-false : (b : Bool) → false ≡ not b → b ≡ true
not-false true e = refl
not-false false e = e

pub nothing-of : (o : Option ℕ) (b : Bool) → is_some o ≡ not b → b ≡ is_nothing o
unfolding is_nothing
nothing-of (Some i) b e = not-true b e
nothing-of None b e = not-false b e
