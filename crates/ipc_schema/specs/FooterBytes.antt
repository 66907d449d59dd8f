-- The bytes of a footer, and of the end of a file.
use Rattle.std.specs.Prelude.{ℕ, ◌+◌, ◌*◌, List, [], ◌∷◌, ◌++◌, length}
use Rattle.ipc_flatbuf.specs.PartBytes.{u32_bytes, i32_bytes, i64_bytes, vector_bytes}
use Rattle.ipc_schema.specs.SchemaLaws.{part_of}
use Rattle.ipc_schema.specs.declared.footer.types.Block.{Block}
use Rattle.ipc_schema.specs.Footers.{FooterModel, magic}

unfoldable pub block_struct_bytes : Block → List ℕ
block_struct_bytes b = i64_bytes b.offset ++ (i32_bytes b.metadata_length ++ ((0 ∷ 0 ∷ 0 ∷ 0 ∷ []) ++ i64_bytes b.body_length))

-- table Footer, version V5, at 16; the vectors begin at 4 modulo 8, so that their items are aligned to 8 bytes
unfoldable pub footer_head : ℕ → ℕ → List ℕ
footer_head dictionaries batches =
    (16 ∷ 0 ∷ 0 ∷ 0 ∷ 12 ∷ 0 ∷ 20 ∷ 0 ∷ 16 ∷ 0 ∷ 4 ∷ 0 ∷ 8 ∷ 0 ∷ 12 ∷ 0 ∷ 12 ∷ 0 ∷ 0 ∷ 0 ∷ [])
    ++ (u32_bytes (44 + 24 * dictionaries + 24 * batches) ++ ((12 ∷ 0 ∷ 0 ∷ 0 ∷ []) ++ (u32_bytes (16 + 24 * dictionaries) ++ (4 ∷ 0 ∷ 0 ∷ 0 ∷ []))))

-- the vectors of blocks, then the part of the schema
unfoldable pub footer_part_bytes : List Block → List Block → List ℕ → List ℕ
footer_part_bytes dictionaries batches schema =
    footer_head (length dictionaries) (length batches) ++ (vector_bytes block_struct_bytes dictionaries ++ ((0 ∷ 0 ∷ 0 ∷ 0 ∷ []) ++ (vector_bytes block_struct_bytes batches ++ schema)))

abbrev pub footer_bytes : FooterModel → List ℕ
footer_bytes f = footer_part_bytes f.dictionaries f.batches (part_of f.schema)

-- the end of a file: the footer, its length, the magic
unfoldable pub file_end : FooterModel → List ℕ
file_end f = footer_bytes f ++ (u32_bytes (length (footer_bytes f)) ++ magic)

-- the start of a file: the magic, and two bytes of padding
abbrev pub file_head : List ℕ
file_head = magic ++ (0 ∷ 0 ∷ [])
