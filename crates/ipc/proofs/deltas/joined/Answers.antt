use Rattle.std.proofs.Common.{sym, ap, ◌∙◌}
use Rattle.nest_array.specs.Seen.{layout_of}
use Rattle.ipc.proofs.DeltaParts.{joins, passes_dense, refused, refusal, never}
use Rattle.ipc.proofs.deltas.joined.Goals as goal

pub returns : goal.returns
returns c = joins (layout_of c.args.values) (layout_of c.args.more) (layout_of c.in-Ok.joined) (sym c.union_offsets_overflow.ensures ∙ c.if-union_offsets_overflow.false) (λ apart. never c.in-Ok.joined _ (c.in-Ok.ensures.types.1 apart)) c.in-Ok.ensures.room c.in-Ok.ensures.laid

pub returns-then-union_offsets_overflow : goal.returns-then-union_offsets_overflow
returns-then-union_offsets_overflow c = λ memory. passes_dense (layout_of c.args.values) (layout_of c.args.more) (sym c.union_offsets_overflow.ensures ∙ c.if-union_offsets_overflow.true)

pub returns-in-Err : goal.returns-in-Err
returns-in-Err c = refused c.in-Err.error c.join_error.result (layout_of c.args.values) (layout_of c.args.more) c.join_error.ensures c.in-Err.ensures.err (λ overflow. c.in-Err.ensures.past (ap refusal overflow))
