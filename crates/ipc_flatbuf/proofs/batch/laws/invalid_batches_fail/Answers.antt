use Rattle.ipc_flatbuf.specs.BatchErrorExamples.{zero_rows, absent_rows, negative_rows, codec_before_buffers, range_before_sum, overlapping, counts}
use Rattle.ipc_flatbuf.proofs.batch.laws.invalid_batches_fail.Goals as goal

pub returns-clause-read : goal.returns-clause-read
returns-clause-read c = zero_rows

pub returns-clause-absent : goal.returns-clause-absent
returns-clause-absent c = absent_rows

pub returns-clause-rows : goal.returns-clause-rows
returns-clause-rows c = negative_rows

pub returns-clause-codec : goal.returns-clause-codec
returns-clause-codec c = codec_before_buffers

pub returns-clause-range : goal.returns-clause-range
returns-clause-range c = range_before_sum

pub returns-clause-sum : goal.returns-clause-sum
returns-clause-sum c = overlapping

pub returns-clause-counts : goal.returns-clause-counts
returns-clause-counts c = counts
