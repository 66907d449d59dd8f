-- Bytes encode at most one stream.
use Rattle.std.proofs.Common.{◌≡◌, ℕ, List, [], ◌++◌, Result, Ok, Err, ap, sym, ◌∙◌, subst}
use Rattle.std.proofs.lemmas.List.{append-nil}
use Rattle.ipc_flatbuf.specs.declared.error.IpcReadError.{IpcReadError}
use Rattle.ipc.specs.Streams.{StreamTree, stream_in}

abbrev value : StreamTree → Result StreamTree IpcReadError → StreamTree
value other (Ok x) = x
value other (Err error) = other

pub same_stream : (bytes : List ℕ) (got want : StreamTree) → stream_in bytes ≡ Ok got → stream_in (bytes ++ []) ≡ Ok want → got ≡ want
same_stream bytes got want g w =
    let same : stream_in bytes ≡ Ok want = subst (λ (x : List ℕ). stream_in x ≡ Ok want) (append-nil bytes) w in
    ap (value want) (sym g ∙ same)
