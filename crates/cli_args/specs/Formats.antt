-- The IPC format of an output by its name.
use Rattle.std.specs.Prelude.{List, ℕ, nat_eq, codes, if◌then◌else◌}
use Rattle.std.specs.List.{ends_with}
use Rattle.cli_args.specs.declared.format.Format.{Format}
use Rattle.cli_args.specs.declared.format.Format.TheVariants.{File, Stream}

-- the streaming format if the name ends in `.arrows`
abbrev pub spec_format_of : List ℕ → Format
spec_format_of name = if ends_with nat_eq name (codes ".arrows") then Stream else File
