-- What the mixer asks of the state.
use Rattle.std.specs.Prelude.{ℕ, ◌-◌, ◌%◌, Bool, not, ◌&&◌, ◌||◌, ltb, eqb}
use Rattle.loops.specs.Loops.{pick}
use Rattle.bits.specs.Bit.{bit}
use Rattle.state.specs.declared.w.W.{W}

-- the session ends after 60,000 ms without a write
abbrev pub quiet_ms : ℕ
quiet_ms = 60000

-- `boot_state`: the boot byte as written, 0 where none was
abbrev pub boot_of : W → ℕ
boot_of w = w.boot

-- `fat1`: FAT[1] as written, 65535 if unset
unfoldable pub fat1_of : W → ℕ
fat1_of w = pick (bit w.fat1 16) (w.fat1 % 65536) 65535

-- `frozen`: the layout must not change under the host. Writing is on, and it has the drive mounted, or an end is pending, or it never locked
-- the medium and has a session or wrote within the last 60,000 ms; waits use a subtraction that stops at 0.
unfoldable pub frozen_of : W → Bool → Bool
frozen_of w mounted =
    w.rw
    && (mounted
    || not (eqb w.end_at 0)
    || (not w.locks && (w.session || (not (eqb w.last 0) && ltb (w.now_ms - w.last) quiet_ms))))
