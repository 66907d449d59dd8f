use Rattle.std.proofs.Common.{sym, subst}
use Rattle.ipc_schema.specs.Projections.{projection_of}
use Rattle.ipc.specs.Streams.{StateTree}
use Rattle.ipc_io.specs.StreamReaders.{DecodesReader, with_left}
use Rattle.ipc_io.proofs.StreamResults.{first_spells, first_err}
use Rattle.ipc_io.proofs.stream_reader.StreamReader.with_projection.Goals as goal

pub returns-in-Ok : goal.returns-in-Ok
returns-in-Ok g c =
    let picks = projection_of c.args.columns in
    let remaining = g.R.Read.remaining in
    subst (λ (x : StateTree). DecodesReader picks (remaining c.args.reader) (with_left x (remaining c.read_first.new.reader))) (sym c.new-state.ensures) (first_spells picks (remaining c.args.reader) (remaining c.read_first.new.reader) c.in-Ok.picked c.in-Ok.ensures)

pub returns-in-Err : goal.returns-in-Err
returns-in-Err g c = first_err g.R.Read.remaining (projection_of c.args.columns) c.args.reader (g.R.Read.remaining c.read_first.new.reader) c.in-Err.e c.in-Err.ensures
