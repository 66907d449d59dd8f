use Rattle.std.proofs.Common.{◌≡◌, ◌++◌, take}
use Rattle.std.specs.List.{flat_map}
use Rattle.ipc_flatbuf.specs.PartBytes.{i32_bytes}
use Rattle.ipc_schema.proofs.type_writing.write_each_id.Given as goal

abbrev pub invariant-loop-id : goal.invariant-loop-id
invariant-loop-id l = l.out.items ≡ l.initial.out.items ++ flat_map i32_bytes (take l.id-index l.ids)
