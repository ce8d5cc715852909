use Rattle.std.proofs.Common.{◌≡◌, ◌++◌, take, drop}
use Rattle.loops.specs.Rows.{rows}
use Rattle.decode.specs.Decode.{decoded_with}
use Rattle.decode.proofs.decode_bytes.Given as goal

abbrev pub invariant-loop-i : goal.invariant-loop-i
invariant-loop-i l = l.p ≡ take l.i (rows (decoded_with l.kp l.k l.a) l.initial.p) ++ drop l.i l.initial.p
