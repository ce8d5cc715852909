use Rattle.state_lines.proofs.mode.switch.Goals as goal

pub returns : goal.returns
returns c = rw (← c.set_read_only.ensures, ← c.mode_reset.ensures) c.with_state.ensures
