-- Bytes encode one stream, and one file.
use Rattle.std.proofs.Common.{◌≡◌, ℕ, List, [], ◌++◌, Result, Ok, Err, ap, sym, ◌∙◌, subst}
use Rattle.std.proofs.lemmas.List.{append-nil}
use Rattle.ipc_flatbuf.specs.declared.error.IpcReadError.{IpcReadError}
use Rattle.ipc.specs.Streams.{StreamTree, stream_in}
use Rattle.ipc.specs.Files.{FileTree, file_in}

abbrev value : StreamTree → Result StreamTree IpcReadError → StreamTree
value other (Ok x) = x
value other (Err error) = other

pub one_stream : (bytes : List ℕ) (got want : StreamTree) → stream_in bytes ≡ Ok got → stream_in (bytes ++ []) ≡ Ok want → got ≡ want
one_stream bytes got want g w =
    let same : stream_in bytes ≡ Ok want = subst (λ (x : List ℕ). stream_in x ≡ Ok want) (append-nil bytes) w in
    ap (value want) (sym g ∙ same)

abbrev file_value : FileTree → Result FileTree IpcReadError → FileTree
file_value other (Ok x) = x
file_value other (Err error) = other

pub one_file : (bytes : List ℕ) (got want : FileTree) → file_in bytes ≡ Ok got → file_in bytes ≡ Ok want → got ≡ want
one_file bytes got want g w = ap (file_value want) (sym g ∙ w)
