use Rattle.std.proofs.Common.{◌≡◌, ◌-◌, ◌^◌, ◌<◌, ◌∙◌, length, ℕ, w64, arith}
use Rattle.std.proofs.lemmas.Int.{to_z_pos}
use Rattle.ipc_arrays.specs.CompressedBuffers.{decompressed}
use Rattle.ipc_arrays.proofs.PlainBodies.{padded_is}
use Rattle.ipc_arrays.proofs.compression.body.append_padded.Goals as goal

pub returns : goal.returns
returns c =
    let offset : ℕ = c.len-offset.result in
    let size : ℕ = c.len.result - c.len-offset.result in
    let offset_is : offset ≡ length c.args.plain.now.items = c.len-offset.ensures ∙ c.args.plain.now.ok.0 in
    let size_is : size ≡ length c.decompress_buffer.new.out.items - offset = omega (arith, c.len.ensures, c.decompress_buffer.new.out.ok.0) in
    let offset_fits : offset < 2 ^ 63 = omega (arith, c.len-offset.ensures, c.args.plain.now.ok.1, c.args.plain.now.small) in
    let size_fits : size < 2 ^ 63 = omega (arith, c.len.ensures, c.decompress_buffer.new.out.ok.1, c.decompress_buffer.new.out.small) in
    rw (to_z_pos w64 offset offset_fits, to_z_pos w64 size size_fits)
    (padded_is (decompressed c.args.codec c.args.bytes.now) c.args.plain.now.items c.decompress_buffer.new.out.items c.write_zeros.new.out.items offset size c.in_ok-decompress_buffer.ensures.value offset_is size_is c.in_ok-write_zeros.ensures)
