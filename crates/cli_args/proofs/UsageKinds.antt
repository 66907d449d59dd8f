-- The kinds of error of arguments: those of clap, else that of what they mean.
use Rattle.std.proofs.Common.{◌≡◌, [], ◌∷◌, Ok, Err, Result, refl, inl, inr}
use Rattle.clap.specs.Kinds.{HasKind, Kinds, or_else}
use Rattle.clap.specs.Values.{kind_of}
use Rattle.clap.specs.declared.error.Error.{Error}
use Rattle.clap.specs.declared.error.kind.ErrorKind.TheVariants.{OutOfMemory}
use Rattle.cli_args.specs.Commands.{ArgumentsTree}
use Rattle.cli_args.specs.UsageErrors.{usage_kind, usage_kinds}
use Rattle.cli_args.specs.declared.usage_error.UsageError.{UsageError}

pub clap_kinds : (fault rest : Kinds) (e : Error) → HasKind fault e → HasKind (or_else fault rest) e
clap_kinds [] rest e (inl h) = inl h
clap_kinds [] rest e (inr h) = absurd h
clap_kinds (k ∷ ks) rest e h = h

pub meant_kinds : (fault : Kinds) (meant : Result ArgumentsTree UsageError) (e : Error) (u : UsageError) → fault ≡ [] → meant ≡ Err u → kind_of e ≡ usage_kind u → HasKind (or_else fault (usage_kinds meant)) e
meant_kinds fault meant e u none is kind = rw (none, is) (inr (inl kind))

pub no_kinds : (fault : Kinds) (meant : Result ArgumentsTree UsageError) (a : ArgumentsTree) → fault ≡ [] → meant ≡ Ok a → or_else fault (usage_kinds meant) ≡ []
no_kinds fault meant a none is = rw (none, is) refl
