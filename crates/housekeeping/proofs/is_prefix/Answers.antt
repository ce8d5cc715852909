use Prim.Native.Nat.{ℕ}
use mathlib.Core.List.{List}
use mathlib.Core.Path.{◌≡◌, sym, ap, ◌∙◌}
use lib.ListN.{length, get_or}
use native.Mathlib.Omega.{arith}
use Rattle.housekeeping.specs.EndToEnd.{prefix_bytes}
use Rattle.housekeeping.proofs.PrefixLaws.{row-length}
use Rattle.housekeeping.proofs.ByteLaws.{prefix-short, prefix-start, prefix-go, prefix-stop, prefix-end}
use Rattle.housekeeping.proofs.is_prefix.Goals as goal

-- a byte of the lent row
read : {bytes : List ℕ} → bytes ≡ prefix_bytes → (i : ℕ) → get_or bytes i 0 ≡ get_or prefix_bytes i 0
read e i = ap (λ (bs : List ℕ). get_or bs i 0) e

pub returns-then-name-end : goal.returns-then-name-end
returns-then-name-end c = prefix-short _ _ c.args.name.now c.requires.part.0 c.requires.part.1 (omega arith)

pub loop-i-init : goal.loop-i-init
loop-i-init c = prefix-start _ _ _ c.requires.part.0 c.requires.part.1 (omega arith)

pub bounds-bytes-i : goal.bounds-bytes-i
bounds-bytes-i c = let n = ap length c.requires.row ∙ row-length in omega (arith, n)

pub returns-then-bytes-i : goal.returns-then-bytes-i
returns-then-bytes-i c = prefix-stop _ _ _ _ _ c.loop-i.invariant (omega arith) (omega arith) (λ e. c.if-bytes-i.true (read c.requires.row _ ∙ e))

pub loop-i-preserved : goal.loop-i-preserved
loop-i-preserved c = prefix-go _ _ _ _ _ c.loop-i.invariant (omega arith) (omega arith) (sym (read c.requires.row _) ∙ c.if-bytes-i.false)

pub returns : goal.returns
returns c = prefix-end _ _ _ _ _ c.loop-i.invariant (omega arith) (omega arith)
