-- The footer of a file with a projection of its schema, and its blocks (File.fbs, table Footer).
use Rattle.std.specs.Prelude.{ℕ, ◌*◌, pos, List, ◌++◌, length, take, drop, Result, Ok, Err, if◌then◌else◌}
use Rattle.std.specs.Int.{w16}
use Rattle.ipc_flatbuf.specs.ReadResults.{◌>>=◌}
use Rattle.ipc_flatbuf.specs.declared.error.IpcReadError.{IpcReadError}
use Rattle.ipc_flatbuf.specs.declared.error.IpcReadError.TheVariants as errors
use Rattle.ipc_flatbuf.specs.Flatbuffers.{signed_at, spec_offset_at, field, spec_offset_field, spec_read_table}
use Rattle.ipc_schema.specs.Projections.{ProjectionModel}
use Rattle.ipc_schema.specs.ProjectedSchemas.{ProjectedSchemaModel, spec_projected_schema_at, projected_schema_of}
use Rattle.ipc_schema.specs.declared.footer.types.Block.{Block}
use Rattle.ipc_schema.specs.declared.footer.types.ProjectedFooter.{ProjectedFooter}
use Rattle.ipc_schema.specs.Footers.{spec_check_footer_version, spec_schema_position, spec_block_lists_at, spec_blocks_before, check_ends, footer_length, footer_position}

-- the value of a ProjectedFooter
pub record ProjectedFooterModel : Type 0 where
  pub picked : ProjectedSchemaModel
  pub dictionaries : List Block
  pub batches : List Block

-- table Footer; the budget is 64 times its length
unfoldable pub spec_projected_footer_at : ProjectionModel → List ℕ → Result ProjectedFooterModel IpcReadError
spec_projected_footer_at picks bytes = do
  position ← spec_offset_at bytes 0
  table ← spec_read_table bytes position (64 * length bytes)
  number ← field (signed_at w16 bytes) (pos 0) bytes table.0 0
  version ← spec_check_footer_version number
  to ← spec_offset_field bytes table.0 1
  there ← spec_schema_position to
  picked ← spec_projected_schema_at picks bytes there table.1
  lists ← spec_block_lists_at bytes table.0 picked.1
  Ok (record { picked = picked.0; dictionaries = lists.0; batches = lists.1 })

-- the footer, where its blocks end before a position
abbrev pub spec_check_blocks : ℕ → ProjectedFooterModel → Result ProjectedFooterModel IpcReadError
spec_check_blocks end f = if spec_blocks_before end (f.dictionaries ++ f.batches) then Ok f else Err errors.Block

-- the footer of a file, whose blocks end before it
unfoldable pub projected_footer_in : ProjectionModel → List ℕ → Result ProjectedFooterModel IpcReadError
projected_footer_in picks bytes = do
  ends ← check_ends bytes
  long ← footer_length bytes
  footer ← spec_projected_footer_at picks (take long (drop (footer_position long bytes) bytes))
  spec_check_blocks (footer_position long bytes) footer

-- the value of a Rust ProjectedFooter
abbrev pub projected_footer_of : ProjectedFooter → ProjectedFooterModel
projected_footer_of f = record { picked = projected_schema_of f.picked; dictionaries = f.dictionaries.items; batches = f.batches.items }
