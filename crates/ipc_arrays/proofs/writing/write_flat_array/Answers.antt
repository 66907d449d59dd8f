use Rattle.std.proofs.Common.{◌++◌, List, ℕ, ap, sym, ◌∙◌}
use Rattle.std.proofs.lemmas.List.{append-nil}
use Rattle.ipc_arrays.specs.BodyBufferLaws.{body_none}
use Rattle.ipc_arrays.specs.BodyBuffers.{body_of}
use Rattle.ipc_arrays.specs.Encoding.{flat_buffers}
use Rattle.ipc_arrays.proofs.writing.write_flat_array.Goals as goal

pub returns-in-Null-clause-ok : goal.returns-in-Null-clause-ok
returns-in-Null-clause-ok c =
    rw c.in-Null.is (sym (ap (λ (x : List ℕ). c.args.out.now.items ++ x) (ap (λ a. body_of (flat_buffers a)) c.known.ensures.kind ∙ body_none) ∙ append-nil c.args.out.now.items))
