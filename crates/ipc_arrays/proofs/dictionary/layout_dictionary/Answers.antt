use Rattle.std.proofs.Common.{◌+◌, length, subst}
use Rattle.std.specs.Prelude.{OnOk, IfErr}
use Rattle.ipc_arrays.specs.BodyBuffers.{body_of}
use Rattle.ipc_arrays.specs.Encoding.{IsBufferError, AppendsBuffers}
use Rattle.ipc_arrays.proofs.Arrays.{dictionary_buffers}
use Rattle.ipc_arrays.proofs.dictionary.layout_dictionary.Goals as goal

pub returns-clause-ok : goal.returns-clause-ok
returns-clause-ok c =
    subst (λ b. OnOk c.layout_any_keys.result (AppendsBuffers c.args.layout.now c.layout_any_keys.new.layout b)) (dictionary_buffers c.args.array.now _ c.known.ensures.kind c.keys.ensures) c.layout_any_keys.ensures.ok

pub returns-clause-err : goal.returns-clause-err
returns-clause-err c =
    subst (λ b. IfErr c.layout_any_keys.result (λ error. IsBufferError error (c.args.layout.now.length + length (body_of b)))) (dictionary_buffers c.args.array.now _ c.known.ensures.kind c.keys.ensures) c.layout_any_keys.ensures.err
