use Rattle.std.proofs.Common.{◌≡◌, Bool, true, false, ◌++◌, refl, append_assoc, to_z, of_z}
use Rattle.std.proofs.lemmas.Int.{to_z-of_z}
use Rattle.std.specs.Int.{w64, from_bool}
use Rattle.ipc_flatbuf.specs.PartBytes.{i64_bytes}
use Rattle.ipc_flatbuf.specs.DictionaryBytes.{delta_byte, dictionary_part_head}
use Rattle.ipc_flatbuf.proofs.batch.dictionary.write_head.Goals as goal

byte_is : (delta : Bool) → from_bool delta ≡ delta_byte delta
byte_is true = refl
byte_is false = refl

pub returns : goal.returns
unfolding dictionary_part_head
returns c =
    let same : to_z w64 (of_z w64 c.args.id) ≡ c.args.id = to_z-of_z w64 c.args.id c.ranges.id in
    let number : c.write_i64.new.out.items ≡ c.extend_from_slice.new.self.items ++ i64_bytes c.args.id = rw same at c.in_ok-write_i64.ensures in
    rw (number, c.in_ok-extend_from_slice.ensures.items, byte_is c.args.delta) (append_assoc c.args.out.now.items _ (i64_bytes c.args.id))
