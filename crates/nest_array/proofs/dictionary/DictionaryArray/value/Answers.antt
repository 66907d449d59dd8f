use Rattle.std.proofs.Common.{ap, arith}
use Rattle.nest_model.specs.Accessors.{child_of, keys_of, key_at}
use Rattle.nest_model.specs.Meaning.{len}
use Rattle.nest_array.specs.Seen.{layout_of}
use Rattle.nest_array.proofs.Keyed.{names-place}
use Rattle.nest_array.proofs.KeyedScalars.{named-scalar, named-slot}
use Rattle.nest_array.proofs.dictionary.DictionaryArray.value.Goals as goal

pub new_scalar-requires : goal.new_scalar-requires
new_scalar-requires c =
    let a = c.args.self.now in
    let u = ap len c.values.ensures in
    omega (arith, u, c.place.ensures, names-place (key_at (keys_of a) c.args.i) (len (child_of a)) c.requires.in_range)

pub returns-clause-ok : goal.returns-clause-ok
returns-clause-ok c = named-scalar c.args.self.now (layout_of c.values.result.now) c.args.i _ _ c.values.ensures c.place.ensures c.new_scalar.ensures.ok

pub returns-clause-slot : goal.returns-clause-slot
returns-clause-slot c = named-slot c.args.self.now (layout_of c.values.result.now) c.args.i _ _ c.known.ensures.kind c.values.ensures c.place.ensures c.new_scalar.ensures.ok
