-- What an input decodes to.
use Rattle.std.specs.Prelude.{◌≡◌, ◌⊎◌, ℕ, List, Option}
use Rattle.std.specs.Option.{option_map}
use Rattle.ipc_schema.specs.Projections.{ProjectionModel}
use Rattle.ipc_io.specs.Seeks.{known}
use Rattle.cli_read.specs.Decoded.{Decoded, file_contents, stream_contents}
use Rattle.cli_read.specs.declared.input.Input.{Input}
use Rattle.cli_read.specs.declared.input.Input.TheVariants.{File, Stream}

module _ {R : Type 0} (remaining : R → Option (List ℕ)) (place : R → Option ℕ) (bytes : R → Option (List ℕ)) where
  abbrev pub decoded_input : ProjectionModel → Input R → Option Decoded
  decoded_input picks (Stream device) = option_map (stream_contents picks) (remaining device)
  decoded_input picks (File device) = option_map (file_contents picks) (known (place device) (bytes device))

-- bytes as a stream or as a file
abbrev pub IsDecodedFrom : ProjectionModel → List ℕ → Decoded → Type 0
IsDecodedFrom picks bytes s = (s ≡ stream_contents picks bytes) ⊎ (s ≡ file_contents picks bytes)
