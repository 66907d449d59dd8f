-- What `nest info` prints: a line for each fact, with its name and its value.
use Rattle.std.specs.Prelude.{◌≡◌, ℕ, List, [], ◌∷◌, ◌++◌, Option, None, Some, Result, Ok, Err, codes, String, string_bytes}
use Rattle.std.specs.Fmt.{decimal}
use Rattle.std.specs.declared.alloc.Global.{Global}
use Rattle.std.specs.List.{list_any}
use Rattle.ipc_flatbuf.specs.declared.error.IpcReadError.{IpcReadError}
use Rattle.ipc_flatbuf.specs.declared.error.IpcReadError.TheVariants.{Memory}
use Rattle.ipc_io.specs.BatchInfos.{record_batches}
use Rattle.ipc_io.specs.Infos.{InfoTree, IsFirstError, info_tree}
use Rattle.ipc_io.specs.declared.batch_info.BatchInfo.{BatchInfo}
use Rattle.ipc_io.specs.declared.error.ReadError.TheVariants.{Ipc}
use Rattle.ipc_io.specs.declared.info.InfoError.{InfoError}
use Rattle.ipc_io.specs.declared.info.IpcInfo.{IpcInfo}
use Rattle.cli_read.specs.InfoTotals.{compression_text, has_version_4, has_version_5, is_lz4, is_plain, is_zstd, spec_delta_count, spec_dictionary_count, spec_row_count, version_text}

abbrev pub text_line : List ℕ → List ℕ → List ℕ
text_line name value = name ++ (codes ": " ++ (value ++ 10 ∷ []))

abbrev pub number_line : List ℕ → ℕ → List ℕ
number_line name n = text_line name (decimal n)

abbrev pub version_in : List BatchInfo → List ℕ
version_in infos = version_text (list_any has_version_4 infos) (list_any has_version_5 infos)

abbrev pub compression_in : List BatchInfo → List ℕ
compression_in infos = compression_text (list_any is_plain infos) (list_any is_lz4 infos) (list_any is_zstd infos)

-- the format, the metadata version and the compression of all batches, and the number of columns
abbrev pub shape_lines : List ℕ → ℕ → List BatchInfo → List ℕ
shape_lines format columns infos =
    text_line (codes "format") format ++ (text_line (codes "version") (version_in infos) ++ (text_line (codes "compression") (compression_in infos) ++ number_line (codes "columns") columns))

-- the numbers of record batches, of their rows, of dictionary batches, and of the deltas among them
abbrev pub batch_lines : List BatchInfo → List ℕ
batch_lines infos =
    number_line (codes "record batches") (record_batches infos)
    ++ (number_line (codes "rows") (spec_row_count infos) ++ (number_line (codes "dictionary batches") (spec_dictionary_count infos) ++ number_line (codes "delta dictionaries") (spec_delta_count infos)))

abbrev pub spec_info_lines : List ℕ → InfoTree → List ℕ
spec_info_lines format info = shape_lines format info.columns info.batches.read ++ batch_lines info.batches.read

-- what was read as lines; an allocation can fail
abbrev pub PrintsRead : List ℕ → Result IpcInfo InfoError → Result (String Global) InfoError → Type 0
PrintsRead format (Ok info) (Ok lines) = string_bytes lines ≡ spec_info_lines format (info_tree info)
PrintsRead format (Ok info) (Err stop) = stop ≡ record { batch = None; error = Ipc Memory }
PrintsRead format (Err error) (Ok lines) = ⊥
PrintsRead format (Err error) (Err stop) = stop ≡ error

-- the lines of an input whose metadata has no error
abbrev pub AreLinesOf : List ℕ → Result InfoTree IpcReadError → List ℕ → Type 0
AreLinesOf format (Ok info) lines = (info.batches.error ≡ None) × (lines ≡ spec_info_lines format info)
AreLinesOf format (Err error) lines = ⊥

-- the lines of what was decoded, or its first error
abbrev pub PrintsDecoded : List ℕ → Result InfoTree IpcReadError → Result (String Global) InfoError → Type 0
PrintsDecoded format decoded (Ok lines) = AreLinesOf format decoded (string_bytes lines)
PrintsDecoded format decoded (Err stop) = IsFirstError decoded stop.batch stop.error

-- the same of the bytes of a reader, if they are known
abbrev pub PrintsInfo : List ℕ → (List ℕ → Result InfoTree IpcReadError) → Option (List ℕ) → Result (String Global) InfoError → Type 0
PrintsInfo format decoded None result = Unit {0}
PrintsInfo format decoded (Some bytes) result = PrintsDecoded format (decoded bytes) result
