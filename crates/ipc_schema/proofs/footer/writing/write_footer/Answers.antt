use Rattle.std.proofs.Common.{◌≡◌, ◌+◌, ◌*◌, ◌<◌, ◌^◌, ◌++◌, length, refl, ap, ◌∙◌, inr, append_assoc, arith}
use Rattle.std.proofs.lemmas.Result.{err_from_is_err_and}
use Rattle.ipc_flatbuf.specs.PartBytes.{u32_bytes}
use Rattle.ipc_schema.specs.WriteChecks.{check_fields, schema_error_of_whole}
use Rattle.ipc_schema.specs.SchemaLaws.{part_of}
use Rattle.ipc_schema.specs.Footers.{FooterModel, footer_with, magic}
use Rattle.ipc_schema.specs.FooterBytes.{footer_bytes, file_end}
use Rattle.ipc_schema.specs.FooterLaws.{footer_long, file_end_round_trips}
use Rattle.ipc_schema.proofs.footer.writing.write_footer.Goals as goal

pub returns-in_err-part-clause-err : goal.returns-in_err-part-clause-err
returns-in_err-part-clause-err c =
    let p = err_from_is_err_and c.from_residual.result c.from_residual.ensures.1 in
    let f : FooterModel = footer_with c.args.schema.now c.args.dictionaries.now c.args.batches.now in
    rw (p.1, p.2) (schema_error_of_whole (check_fields f.schema.fields) (length (part_of f.schema)) (length (footer_bytes f)) _ (omega (arith, footer_long f)) c.in_err-part.ensures.err)

pub returns-then-count-clause-err : goal.returns-then-count-clause-err
returns-then-count-clause-err c =
    let f : FooterModel = footer_with c.args.schema.now c.args.dictionaries.now c.args.batches.now in
    inr (inr (c.in_ok-part.ensures.fits.form, refl, omega (arith, footer_long f, c.if-count.true)))

pub returns-then-length-clause-err : goal.returns-then-length-clause-err
returns-then-length-clause-err c =
    let f : FooterModel = footer_with c.args.schema.now c.args.dictionaries.now c.args.batches.now in
    let part : length c.in_ok-part.part.items ≡ length (part_of f.schema) = ap length c.in_ok-part.ensures.bytes in
    inr (inr (c.in_ok-part.ensures.fits.form, refl, omega (arith, footer_long f, part, c.len.ensures, c.in_ok-part.part.ok, c.if-length.true)))

pub returns-clause-small : goal.returns-clause-small
returns-clause-small c =
    let f : FooterModel = footer_with c.args.schema.now c.args.dictionaries.now c.args.batches.now in
    let part : length c.in_ok-part.part.items ≡ length (part_of f.schema) = ap length c.in_ok-part.ensures.bytes in
    omega (arith, footer_long f, part, c.len.ensures, c.in_ok-part.part.ok, c.if-length.false)

pub returns-clause-bytes : goal.returns-clause-bytes
unfolding file_end
returns-clause-bytes c =
    let f : FooterModel = footer_with c.args.schema.now c.args.dictionaries.now c.args.batches.now in
    let part : length c.in_ok-part.part.items ≡ length (part_of f.schema) = ap length c.in_ok-part.ensures.bytes in
    let length-is : 48 + 24 * (length c.args.dictionaries.now + length c.args.batches.now) + c.len.result ≡ length (footer_bytes f) = omega (arith, footer_long f, part, c.len.ensures, c.in_ok-part.part.ok) in
    rw (c.in_ok-extend_from_slice.ensures.items, c.in_ok-write_u32.ensures, c.in_ok-write_footer_part.ensures.ok, c.deref.ensures.value, c.in_ok-part.ensures.bytes, length-is)
    (append_assoc (c.args.out.now.items ++ footer_bytes f) (u32_bytes (length (footer_bytes f))) magic ∙ append_assoc c.args.out.now.items (footer_bytes f) (u32_bytes (length (footer_bytes f)) ++ magic))

pub returns-clause-again : goal.returns-clause-again
returns-clause-again c = λ inner inside.
    let f : FooterModel = footer_with c.args.schema.now c.args.dictionaries.now c.args.batches.now in
    let part : length c.in_ok-part.part.items ≡ length (part_of f.schema) = ap length c.in_ok-part.ensures.bytes in
    let small : length (footer_bytes f) < 2 ^ 31 = omega (arith, footer_long f, part, c.len.ensures, c.in_ok-part.part.ok, c.if-length.false) in
    file_end_round_trips f inner (record { schema = c.in_ok-part.ensures.fits; dictionaries = c.in_ok-write_footer_part.ensures.fits.0; batches = c.in_ok-write_footer_part.ensures.fits.1 }) small inside
