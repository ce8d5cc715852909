-- One file in lists of calls, computed: when it is handed and when it isn't.
use Rattle.std.specs.Prelude.{true, false, [], ◌∷◌, ◌≡◌, refl}
use Rattle.demand3.specs.Step.{release, report}
use Rattle.demand3_examples.specs.Setting.{after, is-handed, outcome}
use Rattle.demand3_examples.proofs.SettingLaws.{bad-refused}
use Rattle.demand3_examples.specs.Calls.{none, turn, zero-it, bad-turn, bad-zero, bad-start}

-- both writes in either order; neither alone; not with a release in between; and still after one
pub by-writes : (is-handed (turn ∷ zero-it ∷ []) ≡ true) × (is-handed (zero-it ∷ turn ∷ []) ≡ true)
    × (is-handed (turn ∷ []) ≡ false) × (is-handed (zero-it ∷ []) ≡ false)
    × (is-handed (turn ∷ release none ∷ zero-it ∷ []) ≡ false) × (is-handed (turn ∷ zero-it ∷ release none ∷ []) ≡ true)
unfolding after
by-writes = (refl, refl, refl, refl, refl, refl)

-- a refused turn counts for nothing, nor does a refused zeroing
pub refused-writes : (is-handed (bad-turn ∷ zero-it ∷ []) ≡ false) × (is-handed (turn ∷ bad-zero ∷ []) ≡ false)
unfolding after
refused-writes = (refl, refl)

-- gone and released it is live again, and can be handed again
pub gone-again : (is-handed (turn ∷ zero-it ∷ report 0 ∷ []) ≡ false) × (is-handed (turn ∷ zero-it ∷ report 0 ∷ release none ∷ []) ≡ false)
    × (is-handed (turn ∷ zero-it ∷ report 0 ∷ release none ∷ turn ∷ zero-it ∷ []) ≡ true)
unfolding after
gone-again = (refl, refl, refl)

-- a start that is refused changes nothing
pub refused-start : ((outcome (turn ∷ []) (bad-start bad-refused)).number ≡ 10) × (after (turn ∷ bad-start bad-refused ∷ []) ≡ after (turn ∷ []))
    × (is-handed (turn ∷ bad-start bad-refused ∷ zero-it ∷ []) ≡ true)
unfolding after
refused-start = (refl, refl, refl)
