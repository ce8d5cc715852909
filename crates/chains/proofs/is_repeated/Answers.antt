use Prim.Native.Nat.{ℕ, zero, suc, ◌+◌, ◌≤◌}
use mathlib.Core.Bool.{Bool, ◌||◌}
use mathlib.Core.Path.{◌≡◌, refl, ap, ◌∙◌}
use mathlib.Core.List.{List}
use lib.Dec.{eqb}
use lib.ListN.{length, get_or, take, drop}
use native.Mathlib.Omega.{arith}
use Rattle.std.specs.List.{list_any}
use Rattle.std.proofs.Common.{add-one, drop-cons}
use Rattle.loops.specs.Loops.{some}
use Rattle.chains.proofs.is_repeated.Goals as goal

-- an answer over a part of a list is one over the numbers of its places
any-some : (p : ℕ → Bool) (xs : List ℕ) (k i : ℕ) → i + k ≤ length xs → list_any p (take k (drop i xs)) ≡ some (λ j. p (get_or xs j 0)) k i
unfolding some
any-some p xs zero i h = refl
any-some p xs (suc k) i h =
    rw (drop-cons xs i 0 (omega arith), ← add-one i) (ap (λ (b : Bool). p (get_or xs i 0) || b) (any-some p xs k (i + 1) (omega arith)))

pub returns : goal.returns
returns c = c.contains.ensures.value ∙ any-some (λ y. eqb y c.args.i) c.args.slots c.args.k 0 (omega arith)
