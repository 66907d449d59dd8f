use Rattle.std.proofs.Common.{◌≡◌, ◌<◌, ◌^◌, ◌++◌, ◌∷◌, [], ap, sym, ◌∙◌, arith}
use Rattle.std.specs.Prelude.{pos}
use Rattle.std.specs.Int.{w64, cast_signed}
use Rattle.std.proofs.lemmas.Int.{to_z_pos}
use Rattle.nest_model.specs.Meaning.{len}
use Rattle.nest_model.specs.Nullness.{null_count}
use Rattle.ipc_arrays.specs.NormalizedLaws.{normalized_len}
use Rattle.ipc_arrays.specs.Encoding.{normalized_window}
use Rattle.ipc_arrays.proofs.layout.layout_node.Goals as goal

pub returns-clause-ok : goal.returns-clause-ok
returns-clause-ok c =
    let v = c.args.window.now in
    let few : c.len-length.result < 2 ^ 63 = omega arith in
    let fewer : c.in_ok-nulls.nulls < 2 ^ 63 = omega (arith, c.in_ok-nulls.ensures.few, c.len-length.ensures) in
    let slots : cast_signed w64 c.len-length.result ≡ pos (len (normalized_window v)) = to_z_pos w64 c.len-length.result few ∙ ap pos (c.len-length.ensures ∙ sym (normalized_len v.array v.offset v.count c.known.ensures)) in
    let nulls : cast_signed w64 c.in_ok-nulls.nulls ≡ pos (null_count (normalized_window v)) = to_z_pos w64 c.in_ok-nulls.nulls fewer ∙ ap pos c.in_ok-nulls.ensures.ok in
    c.in_ok-push.ensures.items ∙ (λ w. c.args.layout.now.nodes.items ++ record { length = slots w; null_count = nulls w } ∷ [])
