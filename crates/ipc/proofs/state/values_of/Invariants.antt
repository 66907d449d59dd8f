use Rattle.std.proofs.Common.{◌≡◌, map}
use Rattle.std.specs.Prelude.{take}
use Rattle.ipc_arrays.specs.DictionaryKeys.{dictionary_of}
use Rattle.ipc.specs.Streams.{known_of, values_at}
use Rattle.ipc.proofs.state.values_of.Given as goal

abbrev pub invariant-loop-id : goal.invariant-loop-id
invariant-loop-id l = map dictionary_of l.values.items ≡ values_at (known_of l.known.entries) (take l.id-index l.ids)
