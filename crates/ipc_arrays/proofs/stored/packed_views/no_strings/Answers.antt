use Rattle.std.proofs.Common.{◌++◌, ◌∙◌, ap, true}
use Rattle.nest_memory.specs.Native.{unsigned}
use Rattle.ipc_arrays.specs.FixedWidth.{offset_format}
use Rattle.ipc_arrays.proofs.PackedViews.{no_string}
use Rattle.ipc_arrays.proofs.stored.packed_views.no_strings.Goals as goal

pub returns : goal.returns
returns c = rw c.new.ensures.items (no_string c.put.new.out.items (c.in_ok-put.ensures.ok ∙ ap (λ x. x ++ (offset_format true).bytes (unsigned 0)) c.in_ok-offsets.ensures.items))
