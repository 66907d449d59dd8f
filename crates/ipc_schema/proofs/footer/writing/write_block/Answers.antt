use Rattle.std.proofs.Common.{◌≡◌, [], ◌∷◌, w32, w64, to_z, of_z, arith}
use Rattle.std.proofs.lemmas.Int.{to_z-of_z}
use Rattle.ipc_flatbuf.specs.PartBytes.{i32_bytes, i64_bytes}
use Rattle.ipc_schema.specs.FooterBytes.{block_struct_bytes}
use Rattle.ipc_schema.proofs.FooterLoops.{four_parts}
use Rattle.ipc_schema.proofs.footer.writing.write_block.Goals as goal

pub returns-clause-ok : goal.returns-clause-ok
unfolding block_struct_bytes
returns-clause-ok c =
    let b = c.args.block in
    let offset : to_z w64 (of_z w64 b.offset) ≡ b.offset = grind (arith, to_z-of_z) in
    let metadata : to_z w32 (of_z w32 b.metadata_length) ≡ b.metadata_length = grind (arith, to_z-of_z) in
    let body : to_z w64 (of_z w64 b.body_length) ≡ b.body_length = grind (arith, to_z-of_z) in
    rw (c.in_ok-write_i64-2.ensures, c.in_ok-extend_from_slice.ensures.items, c.in_ok-write_i32.ensures, c.in_ok-write_i64.ensures, offset, metadata, body)
    (four_parts c.args.out.now.items (i64_bytes b.offset) (i32_bytes b.metadata_length) (0 ∷ 0 ∷ 0 ∷ 0 ∷ []) (i64_bytes b.body_length))
