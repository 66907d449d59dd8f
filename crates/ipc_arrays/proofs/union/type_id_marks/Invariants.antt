use Rattle.std.proofs.Common.{◌≡◌, length, take}
use Rattle.ipc_arrays.proofs.Marks.{HasMarks}
use Rattle.ipc_arrays.proofs.union.type_id_marks.Given as goal

abbrev pub invariant-loop-i : goal.invariant-loop-i
invariant-loop-i l = (length l.marks ≡ 128) × HasMarks l.marks (take l.i l.ids)
