use Rattle.std.proofs.Common.{◌≡◌, ℕ, length, drop, refl, sym, ap, ◌∙◌}
use Rattle.ipc_schema.specs.FooterParts.{footer_length_by_ends, last_bytes_of, footer_length_depends_on_ends}
use Rattle.ipc_schema.proofs.footer.reading.length_in_file.Goals as goal

pub returns-clause-value : goal.returns-clause-value
returns-clause-value c =
    let bytes = c.args.bytes.now in
    let tail : c.split_at.result.1.now ≡ last_bytes_of bytes = c.split_at.ensures.back ∙ ap (λ (n : ℕ). drop n bytes) c.saturating_sub.ensures in
    c.footer_length.ensures.value ∙ ap (footer_length_by_ends (length bytes) bytes) tail ∙ sym (footer_length_depends_on_ends bytes bytes refl)
