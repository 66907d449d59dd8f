-- The lines of what was read are those of what was decoded.
use Rattle.std.proofs.Common.{◌≡◌, ℕ, List, Option, None, Some, Result, Ok, Err, refl, sym, subst}
use Rattle.std.specs.Prelude.{String, string_bytes}
use Rattle.std.specs.declared.alloc.Global.{Global}
use Rattle.ipc_flatbuf.specs.declared.error.IpcReadError.{IpcReadError}
use Rattle.ipc_io.specs.Infos.{InfoTree, IsFirstError, ReturnsInfo}
use Rattle.ipc_io.specs.declared.info.InfoError.{InfoError}
use Rattle.ipc_io.specs.declared.info.IpcInfo.{IpcInfo}
use Rattle.cli_read.specs.InfoText.{AreLinesOf, PrintsInfo, PrintsRead}

pub printed : (format : List ℕ) (decoded : List ℕ → Result InfoTree IpcReadError) (o : Option (List ℕ)) (read : Result IpcInfo InfoError) (result : Result (String Global) InfoError) → ReturnsInfo decoded o read → PrintsRead format read result → PrintsInfo format decoded o result
printed format decoded None read result h p = tt
printed format decoded (Some bytes) (Ok info) (Ok lines) h p = subst (λ (r : Result InfoTree IpcReadError). AreLinesOf format r (string_bytes lines)) (sym h) (refl, p)
printed format decoded (Some bytes) (Ok info) (Err stop) h p = subst (λ (s : InfoError). IsFirstError (decoded bytes) s.batch s.error) (sym p) (λ known. absurd (known refl))
printed format decoded (Some bytes) (Err error) (Ok lines) h p = absurd p
printed format decoded (Some bytes) (Err error) (Err stop) h p = subst (λ (s : InfoError). IsFirstError (decoded bytes) s.batch s.error) (sym p) h
