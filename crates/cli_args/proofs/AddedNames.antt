-- Names that are added to a command.
use Rattle.std.proofs.Common.{◌≡◌, ◌∙◌, ◌∷◌, [], ◌++◌, List, Bool, true, map, ap}
use Rattle.std.specs.Borrow.{Bor}
use Rattle.std.proofs.lemmas.List.{map-append}
use Rattle.clap.specs.Simple.{app_of_fields, on_top}
use Rattle.clap.specs.Words.{AddsCommandAliases, App, Shape, Text, app_of}
use Rattle.clap.specs.declared.builder.command.Command.{Command}
use Rattle.clap.specs.declared.builder.command.Command.TheOpen.{Command-F}
use Rattle.clap.specs.declared.builder.command.Command.TheViews.{out-Command as fields_of}
use Rattle.cli_args.specs.CommandLine.{IsCommand, with_alias}

-- a command with these aliases
abbrev aliased : List Text → App → App
aliased names a = on_top (λ (s : Shape). record s { aliases = names }) a

abbrev names_of : List (Bor Text × Bool) → List Text
names_of = map (λ alias. alias.0.now)

pub has_alias : (x : App) (c d : Command) (name : Bor Text) → IsCommand x c → AddsCommandAliases c d ((name, true) ∷ []) → IsCommand (with_alias name.now x) d
has_alias x c d name h s =
    let names : names_of (fields_of d).aliases.items ≡ names_of (fields_of c).aliases.items ++ name.now ∷ [] =
    ap names_of s.1 ∙ map-append (λ (alias : Bor Text × Bool). alias.0.now) (fields_of c).aliases.items ((name, true) ∷ []) in (
      ap app_of_fields s.0 ∙ ap (λ (ns : List Text). aliased ns (app_of c)) names ∙ ap (with_alias name.now) h.0,
      ap (λ (f : Command-F Command). f.has_globals) s.0 ∙ h.1,
    )
