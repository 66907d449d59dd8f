use Rattle.nest_memory.specs.TypeOf.{type_of}
use Rattle.nest_array.specs.SeenKeys.{keys_layout}
use Rattle.ipc_arrays.specs.Decoding.{rest_of}
use Rattle.ipc_arrays.specs.DecodingLaws.{keys_of_type}
use Rattle.ipc_arrays.proofs.dictionary.read_dictionary.Goals as goal

pub dictionary_of_keys-requires : goal.dictionary_of_keys-requires
dictionary_of_keys-requires c = keys_of_type c.args.kind (type_of c.args.data_type.now) c.args.counts c.args.body.now (rest_of c.args.cursor) (keys_layout c.in-Ok.keys, rest_of c.in-Ok.cursor) c.requires c.in-Ok.ensures
