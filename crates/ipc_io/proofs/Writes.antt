-- What one more write leaves.
use Rattle.std.proofs.Common.{◌≡◌, ℕ, ◌-◌, List, [], ◌++◌, append-nil, length, take, drop, Option, sym, ap, ◌∙◌, append_assoc}
use Rattle.std.specs.Io.KnownBytes.{Appends, Keeps}
use Rattle.std.proofs.KnownBytes.{Appends-trans, Appends-kept}
use Rattle.ipc_io.specs.Writes.{WritesPrefix}
use Rattle.std.proofs.lemmas.List.{take_rest, take-append-drop}

-- the bytes written, and those left
abbrev pub IsUnderWay : Option (List ℕ) → Option (List ℕ) → List ℕ → List ℕ → Type 0
IsUnderWay old new bytes rest = (front : List ℕ) × (bytes ≡ front ++ rest) × Appends old new front

pub write_more : (a b c : Option (List ℕ)) (bytes rest : List ℕ) (n : ℕ) → IsUnderWay a b bytes rest → Appends b c (take n rest) → IsUnderWay a c bytes (take (length rest - n) (drop n rest))
write_more a b c bytes rest n way now =
    let front = way.0 in (
      front ++ take n rest,
      way.1 ∙ ap (λ l. front ++ l) (sym (take-append-drop n rest)) ∙ sym (append_assoc front (take n rest) (drop n rest)) ∙ ap (λ l. (front ++ take n rest) ++ l) (sym (take_rest rest n)),
      Appends-trans a b c front (take n rest) way.2 now,
    )

pub write_kept : (a b c : Option (List ℕ)) (bytes rest : List ℕ) → IsUnderWay a b bytes rest → Keeps b c → IsUnderWay a c bytes rest
write_kept a b c bytes rest way kept = (way.0, way.1, Appends-kept a b c way.0 way.2 kept)

-- all of the bytes are a prefix of them
pub whole_is_out : (old new : Option (List ℕ)) (bytes : List ℕ) → Appends old new bytes → WritesPrefix old new bytes
whole_is_out old new bytes put = (bytes, [], sym (append-nil bytes), put)
