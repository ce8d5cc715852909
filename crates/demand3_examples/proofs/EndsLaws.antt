-- How a session ends, computed: at once, put off, by the clock, and by a bus reset.
use Rattle.std.specs.Prelude.{true, false, [], ◌∷◌, ◌≡◌, refl}
use Rattle.demand3.specs.Step.{poll, release, release_all, bus_reset, reset_mode}
use Rattle.demand3_examples.specs.Setting.{after, is-handed, outcome}
use Rattle.demand3_examples.specs.Calls.{none, turn, zero-it, update, staging}

-- the last write was at 1 ms: 60,000 ms after it the tick releases, and not before; what was handed stays so; a turn alone is forgotten
pub quiet : ((outcome (turn ∷ zero-it ∷ []) (poll 60001 false none)).released ≡ true) × ((outcome (turn ∷ zero-it ∷ []) (poll 60000 false none)).released ≡ false)
    × (is-handed (turn ∷ zero-it ∷ poll 60001 false none ∷ []) ≡ true) × (is-handed (turn ∷ poll 60001 false none ∷ zero-it ∷ []) ≡ false)
    × (is-handed (turn ∷ poll 60000 false none ∷ zero-it ∷ []) ≡ true)
unfolding after
quiet = (refl, refl, refl, refl, refl)

-- the update file is undecided, so a release is put off, and forgets no turn; one that can't be put off does
pub put-off : ((outcome (turn ∷ update ∷ staging ∷ []) (release none)).put_off ≡ true)
    × (is-handed (turn ∷ update ∷ staging ∷ release none ∷ zero-it ∷ []) ≡ true)
    × (is-handed (turn ∷ update ∷ staging ∷ release_all false none ∷ zero-it ∷ []) ≡ false)
unfolding after
put-off = (refl, refl, refl)

-- 1,500 ms after that, which was at 1 ms, the tick releases: the marks are settled then
pub held-back : ((outcome (turn ∷ update ∷ staging ∷ release none ∷ []) (poll 1501 false none)).released ≡ true)
    × (is-handed (turn ∷ update ∷ staging ∷ release none ∷ poll 1501 false none ∷ zero-it ∷ []) ≡ false)
    × (is-handed (turn ∷ update ∷ staging ∷ zero-it ∷ release none ∷ poll 1501 false none ∷ []) ≡ true)
    × (is-handed (turn ∷ update ∷ staging ∷ release none ∷ poll 1500 false none ∷ zero-it ∷ []) ≡ true)
unfolding after
held-back = (refl, refl, refl, refl)

-- a bus reset ends the session, so the zeroing after it, though it is taken, hands nothing; one of the mode doesn't
pub resets : ((outcome (turn ∷ []) (bus_reset none)).released ≡ true) × ((outcome (turn ∷ bus_reset none ∷ []) zero-it).number ≡ 0)
    × (is-handed (turn ∷ bus_reset none ∷ zero-it ∷ []) ≡ false) × (is-handed (turn ∷ zero-it ∷ bus_reset none ∷ []) ≡ true)
    × (is-handed (turn ∷ reset_mode ∷ zero-it ∷ []) ≡ true)
unfolding after
resets = (refl, refl, refl, refl, refl)
