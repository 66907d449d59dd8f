use Rattle.std.proofs.Common.{◌<◌, ◌^◌, ◌∙◌, ◌++◌, length, List, ℕ, ℤ, w64, to_z, sym, refl, ap, arith}
use Rattle.std.proofs.lemmas.Bool.{eqb-true}
use Rattle.std.proofs.lemmas.Int.{to_z_pos}
use Rattle.std.proofs.lemmas.List.{nil_from_length}
use Rattle.std.proofs.lemmas.Result.{on_ok_weaker}
use Rattle.ipc_arrays.specs.WrittenBuffers.{after_length}
use Rattle.ipc_arrays.proofs.WrittenBuffers.{empty_is, compressed_is, stored_is}
use Rattle.ipc_arrays.proofs.compression.compress.compress_buffer.Goals as goal

pub returns-then-is_empty-clause-ok : goal.returns-then-is_empty-clause-ok
returns-then-is_empty-clause-ok c = empty_is c.args.out.now.items c.args.out.now.items c.args.content.now (nil_from_length c.args.content.now (eqb-true (length c.args.content.now) 0 (sym c.is_empty.ensures ∙ c.if-is_empty.true))) refl

pub returns-then-content-clause-ok : goal.returns-then-content-clause-ok
returns-then-content-clause-ok c =
    let content : List ℕ = c.args.content.now in
    let out : List ℕ = c.args.out.now.items in
    let frame : List ℕ = c.in_ok-frame.frame.items in
    let shorter : length frame < length content = omega arith in
    let small : length content < 2 ^ 63 = omega arith in
    on_ok_weaker c.append_after_length.result
    (λ is. compressed_is out c.append_after_length.new.out.items content frame c.in_ok-frame.ensures.written c.in_ok-frame.ensures.round_trips shorter small
    (is ∙ ap (λ (bytes : List ℕ). out ++ after_length (to_z w64 (length content)) bytes) c.deref.ensures.value ∙ ap (λ (stated : ℤ). out ++ after_length stated frame) (to_z_pos w64 (length content) small)))
    c.append_after_length.ensures.ok

pub returns-clause-ok : goal.returns-clause-ok
returns-clause-ok c = on_ok_weaker c.append_after_length-else-len-content.result (λ is. stored_is c.args.out.now.items c.append_after_length-else-len-content.new.out.items c.args.content.now is) c.append_after_length-else-len-content.ensures.ok
