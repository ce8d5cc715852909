use Prim.Native.Nat.{ℕ, ◌-◌, ◌≤◌, max}
use mathlib.Core.Path.{◌≡◌, refl}
use mathlib.Core.List.{List}
use lib.Dec.{leb}
use lib.ListN.{length}
use native.Mathlib.Omega.{arith}
use borrow.Author.Tests.{eq-eqb, ne_eqb, lt-ltb, le-ltb, leb-true, leb-false}
use Rattle.loops.specs.Choices.{either}
use Rattle.loops.specs.Loops.{first, first-go, first-stop, first-end}
use Rattle.medium.specs.Medium.{free_at, search_end, next_free}
use Rattle.medium.proofs.blocks.next_free.Goals as goal

-- a search that finds none ends past the last entry, or where it began
ended : (fat : List ℕ) (hint i : ℕ) → search_end fat hint ≡ first (free_at fat) (length fat - i) i
    → length fat ≤ i → (max hint 2 ≤ length fat → i ≤ length fat) → search_end fat hint ≡ max (max hint 2) (length fat)
unfolding search_end
ended fat hint i inv h b =
    either (leb (length fat) (max hint 2))
    (λ q. let k = leb-true (length fat) (max hint 2) q in
    let e = first-end (free_at fat) (length fat) (max hint 2) (search_end fat hint) refl k in
    omega (arith, e))
    (λ q. let k = leb-false (length fat) (max hint 2) q in
    let l = b (omega arith) in
    let e = first-end (free_at fat) (length fat) i (search_end fat hint) inv h in
    omega (arith, e))

pub loop-i-init : goal.loop-i-init
unfolding search_end
loop-i-init c = rw c.max-from.ensures

pub returns-then-fat-i-eq0 : goal.returns-then-fat-i-eq0
unfolding next_free
returns-then-fat-i-eq0 c =
    let e = first-stop _ _ _ _ c.loop-i.invariant c.loop-i-test.true (eq-eqb _ _ c.if-fat-i-eq0.true) in
    record { block = simp (← e, lt-ltb _ _ c.loop-i-test.true); hint = simp (← e, lt-ltb _ _ c.loop-i-test.true) }

pub loop-i-preserved : goal.loop-i-preserved
loop-i-preserved c = first-go _ _ _ _ c.loop-i.invariant c.loop-i-test.true (ne_eqb _ _ c.if-fat-i-eq0.false)

pub returns : goal.returns
unfolding next_free
returns c =
    let fat = c.args.fat.now in
    let m = c.max-from.ensures in
    let e = ended fat c.args.hint c.loop-i.i c.loop-i.invariant c.loop-i-test.false (λ q. c.loop-i.auto.i-end (omega arith)) in
    let t = le-ltb (search_end fat c.args.hint) (length fat) (omega (arith, e)) in
    let r : c.max.result ≡ search_end fat c.args.hint = omega (arith, e) in
    record { block = simp t; hint = simp t r }
