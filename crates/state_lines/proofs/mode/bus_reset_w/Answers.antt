use Rattle.state_lines.proofs.mode.bus_reset_w.Goals as goal

pub returns : goal.returns
returns c = rw (← c.mode_reset.ensures) c.with_state.ensures
