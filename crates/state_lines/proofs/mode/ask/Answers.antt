use Rattle.state_lines.proofs.mode.ask.Goals as goal

pub returns : goal.returns
returns c = rw (← c.set_read_only.ensures) c.with_state.ensures
