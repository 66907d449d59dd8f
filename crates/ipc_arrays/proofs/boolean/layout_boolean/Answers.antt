use Rattle.std.proofs.Common.{◌≡◌, [], ◌∷◌, length, map, ap, ◌∙◌}
use Rattle.std.specs.Int.{div_ceil}
use Rattle.ipc_arrays.specs.Encoding.{normalized_validity_bytes, flat_buffers}
use Rattle.ipc_arrays.proofs.Arrays.{on_ok, if_err, boolean_sizes}
use Rattle.ipc_arrays.proofs.boolean.layout_boolean.Goals as goal

sizes : (c : goal.After-layout_buffers) → map length (flat_buffers c.args.array.now) ≡ c.validity_size.result ∷ c.div_ceil-size.result ∷ []
sizes c =
    boolean_sizes c.args.array.now c.validity_size.result c.div_ceil-size.result c.known.ensures.kind (c.validity_size.ensures ∙ (λ w. length (normalized_validity_bytes (c.validity.ensures w))))
    (c.div_ceil-size.ensures ∙ (λ w. div_ceil ((c.len.ensures ∙ ap length c.values.ensures) w) 8))

pub returns-clause-ok : goal.returns-clause-ok
returns-clause-ok c = on_ok c.layout_buffers.result c.layout_buffers.ensures.ok (λ longer. longer (flat_buffers c.args.array.now) (sizes c))

pub returns-clause-err : goal.returns-clause-err
returns-clause-err c = if_err c.layout_buffers.result c.layout_buffers.ensures.err (λ error past. past (flat_buffers c.args.array.now) (sizes c))
