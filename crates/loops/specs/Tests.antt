-- The set that answers a need whose goal goes by tests.
use Rattle.std.specs.Prelude.{ℕ, ◌<◌, false, ◌≡◌, eqb}
use Rattle.std.proofs.Common.{arith, rules, lt-ltb, le-ltb, le-leb, eq-eqb, ne_eqb}
use Rattle.std.proofs.lemmas.Bool.{lt-leb}

pub lt-eqb : (a b : ℕ) → a < b → eqb a b ≡ false
lt-eqb a b h = ne_eqb a b (λ e. omega arith)

pub gt-eqb : (a b : ℕ) → b < a → eqb a b ≡ false
gt-eqb a b h = ne_eqb a b (λ e. omega arith)

pub ruleset tests = (rules, lt-ltb, le-ltb, le-leb, lt-leb, eq-eqb, ne_eqb, lt-eqb, gt-eqb)
