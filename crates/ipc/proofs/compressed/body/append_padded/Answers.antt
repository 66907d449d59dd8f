use Rattle.std.proofs.Common.{◌≡◌, ◌-◌, ◌^◌, ◌<◌, ◌∙◌, length, ℕ, w64, arith}
use Rattle.std.proofs.lemmas.Int.{to_z_pos}
use Rattle.ipc.proofs.Bodies.{padded_is}
use Rattle.ipc.proofs.compressed.body.append_padded.Goals as goal

pub returns : goal.returns
returns c =
    let offset : ℕ = c.len-offset.result in
    let size : ℕ = c.len.result - c.len-offset.result in
    let offset_is : offset ≡ length c.args.out.now.items = c.len-offset.ensures ∙ c.args.out.now.ok.0 in
    let size_is : size ≡ length c.compress_buffer.new.out.items - offset = omega (arith, c.len.ensures, c.compress_buffer.new.out.ok.0) in
    let offset_fits : offset < 2 ^ 63 = omega (arith, c.len-offset.ensures, c.args.out.now.ok.1, c.args.out.now.small) in
    let size_fits : size < 2 ^ 63 = omega (arith, c.len.ensures, c.compress_buffer.new.out.ok.1, c.compress_buffer.new.out.small) in
    rw (to_z_pos w64 offset offset_fits, to_z_pos w64 size size_fits)
    (padded_is c.args.content.now c.args.out.now.items c.compress_buffer.new.out.items c.write_zeros.new.out.items offset size c.in_ok-compress_buffer.ensures.ok offset_is size_is c.in_ok-write_zeros.ensures)
