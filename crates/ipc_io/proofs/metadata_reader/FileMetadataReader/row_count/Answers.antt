use Rattle.ipc_schema.specs.Schemas.{schema_of}
use Rattle.ipc_io.proofs.Metadata.{block_at, rows_counted}
use Rattle.ipc_io.proofs.metadata_reader.FileMetadataReader.row_count.Goals as goal

pub returns-clause-rows : goal.returns-clause-rows
returns-clause-rows g c =
    let position = g.R.Seek.stream_position in
    let bytes = g.R.Seek.stream_bytes in
    let inner = c.self.inside.inner in
    let s = schema_of c.self.inside.schema in
    let blocks = c.self.inside.blocks.items in
    let b = c.index-block.result.now in
    let there = block_at position bytes _ inner s blocks c.args.i b c.self.view_is c.requires c.index-block.ensures in
    rows_counted position bytes _ inner s blocks c.args.i b c.in_ok-front.front.items c.deref.result.now c.rows_before_body.result c.self.view_is there c.in_ok-front.ensures.front c.deref.ensures.value c.rows_before_body.ensures
