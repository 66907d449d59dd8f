use Rattle.std.proofs.Common.{map, sym}
use Rattle.ipc_arrays.specs.DictionaryKeyLaws.{blanked_none}
use Rattle.ipc_arrays.proofs.dictionary.zero_nulls.Goals as goal

pub returns-in-None-clause-zero : goal.returns-in-None-clause-zero
returns-in-None-clause-zero g c = rw c.in-None.is (sym (blanked_none (map g.T.NativeType.numbers c.args.values.items)))
