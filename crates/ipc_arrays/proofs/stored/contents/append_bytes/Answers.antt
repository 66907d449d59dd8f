use Rattle.std.proofs.lemmas.Result.{err_from_is_err_and}
use Rattle.ipc_arrays.specs.CompressedBuffers.{decompressed}
use Rattle.ipc_arrays.specs.Stored.{plain_content}
use Rattle.ipc_arrays.proofs.Converting.{decompression_fails}
use Rattle.ipc_arrays.proofs.stored.contents.append_bytes.Goals as goal

pub returns-in_err-decompress_buffer-in-Some : goal.returns-in_err-decompress_buffer-in-Some
unfolding plain_content
returns-in_err-decompress_buffer-in-Some c =
    let p = err_from_is_err_and c.from_residual-in_err-decompress_buffer-in-Some.result c.from_residual-in_err-decompress_buffer-in-Some.ensures.1 in
    rw (c.in-Some.is, p.1) (decompression_fails (decompressed c.in-Some.codec c.args.bytes.now) c.args.out.now.items c.in_err-decompress_buffer-in-Some.field-0.0 _ p.2 c.in_err-decompress_buffer-in-Some.ensures.value)
