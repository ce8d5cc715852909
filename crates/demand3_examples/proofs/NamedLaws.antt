-- A file moved to a trash, and out of it again, computed: a staged sector names it. Each call meets the medium as the writes before it left it, unless said
-- otherwise.
use Rattle.std.specs.Prelude.{true, false, [], ◌∷◌, ◌≡◌, refl}
use Rattle.demand3.specs.Step.{release}
use Rattle.demand3_examples.specs.Setting.{after, is-handed, area-left}
use Rattle.demand3_examples.specs.Calls.{none, turn-at, empty, holding, naming, other-length, other-start, move-by, move, bare, take-out}

pub moved-area : (area-left (turn-at empty ∷ []) naming empty ≡ (holding naming).area) × (area-left [] naming empty ≡ (holding naming).area)
unfolding after
moved-area = (refl, refl)

-- moved, and still named at the release; not before a release, nor where another medium is lent at it
pub by-move : (is-handed (turn-at empty ∷ move ∷ release (holding naming) ∷ []) ≡ true) × (is-handed (turn-at empty ∷ move ∷ []) ≡ false)
    × (is-handed (turn-at empty ∷ move ∷ release empty ∷ []) ≡ false) × (is-handed (turn-at empty ∷ move ∷ release none ∷ []) ≡ false)
unfolding after
by-move = (refl, refl, refl, refl)

-- a slot with another length names nothing, nor does one with another start
pub others-area : (area-left (turn-at empty ∷ []) other-length empty ≡ (holding other-length).area)
    × (area-left (turn-at empty ∷ []) other-start empty ≡ (holding other-start).area)
unfolding after
others-area = (refl, refl)

pub by-others : (is-handed (turn-at empty ∷ move-by other-length ∷ release (holding other-length) ∷ []) ≡ false)
    × (is-handed (turn-at empty ∷ move-by other-start ∷ release (holding other-start) ∷ []) ≡ false)
unfolding after
by-others = (refl, refl)

-- named already at the turn; but not where the turn meets another medium
pub moved-first : (is-handed (move ∷ turn-at (holding naming) ∷ release (holding naming) ∷ []) ≡ true)
    × (is-handed (move ∷ turn-at empty ∷ release (holding naming) ∷ []) ≡ false)
unfolding after
moved-first = (refl, refl)

-- taken out of the trash
pub rid-area : area-left (turn-at empty ∷ move ∷ []) bare (holding naming) ≡ (holding bare).area
unfolding after
rid-area = refl

pub taken-out : is-handed (turn-at empty ∷ move ∷ take-out ∷ release (holding bare) ∷ []) ≡ false
unfolding after
taken-out = refl
