-- What the functions are lent of the data area.
use Rattle.std.specs.Prelude.{ℕ, List, ◌≡◌}
use Rattle.state.specs.declared.w.St.{St}
use Rattle.medium.specs.MediumLaws.{InArea}
use Rattle.staging.specs.Blocks.{held_for}

-- where the source of the bytes lies: nowhere, or inside
abbrev pub HeldIn : List ℕ → St → ℕ → Type 0
HeldIn area x s = (held_for x s ≡ 0 → ⊥) → InArea area (held_for x s)
