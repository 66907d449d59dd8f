use Rattle.std.proofs.Common.{◌≡◌, ◌++◌, subst}
use Rattle.std.specs.Prelude.{OnOk}
use Rattle.ipc_arrays.specs.BodyBuffers.{body_of}
use Rattle.ipc_arrays.proofs.Arrays.{on_ok, dictionary_buffers, dictionary_writable}
use Rattle.ipc_arrays.proofs.dictionary.write_dictionary.Goals as goal

pub returns-clause-ok : goal.returns-clause-ok
returns-clause-ok c =
    subst (λ b. OnOk c.write_any_keys.result (c.write_any_keys.new.out.items ≡ c.args.out.now.items ++ body_of b)) (dictionary_buffers c.args.array.now _ c.known.ensures.kind c.keys.ensures) c.write_any_keys.ensures.ok

pub returns-clause-writable : goal.returns-clause-writable
returns-clause-writable c = on_ok c.write_any_keys.result c.write_any_keys.ensures.round_trips (λ round_trips. dictionary_writable c.args.array.now _ c.known.ensures.kind c.keys.ensures c.known.ensures.fits round_trips)
