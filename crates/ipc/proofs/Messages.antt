-- The positions of messages that are appended.
use Rattle.std.proofs.Common.{◌≡◌, ℕ, ◌+◌, ◌-◌, ◌≤◌, List, ◌++◌, length, take, drop, refl, sym, ap, ◌∙◌, arith}
use Rattle.std.specs.Prelude.{pos}
use Rattle.std.proofs.lemmas.List.{length-append, drop_at, take_all}
use Rattle.ipc_schema.specs.declared.footer.types.Block.{Block}
use Rattle.ipc.specs.EncodedFiles.{block_at}

-- a message with its body that was appended to these bytes
pub record IsPut (old new bytes head body : List ℕ) (start end size : ℕ) : Type 0 where
  pub written : new ≡ old ++ bytes
  pub whole : bytes ≡ head ++ body
  pub begins : start ≡ length old
  pub ends : end ≡ length new
  pub long : size ≡ length body

module _ (old new bytes head body : List ℕ) (start end size : ℕ) (is : IsPut old new bytes head body start end size) where
  all_long : end ≡ start + (length head + size)
  all_long =
      let all : length new ≡ length old + length bytes = ap length is.written ∙ length-append old bytes in
      let both : length bytes ≡ length head + length body = ap length is.whole ∙ length-append head body in
      omega (arith, all, both, is.begins, is.ends, is.long)

  pub write_within : start + size ≤ end
  write_within = omega (arith, all_long)

  pub write_head : end - start - size ≡ length head
  write_head = omega (arith, all_long)

  pub write_block : (block : Block) → block ≡ record { offset = pos start; metadata_length = pos (end - start - size); body_length = pos size } → block ≡ block_at (length old) head body
  write_block block e = rw (e, write_head, is.begins, is.long) refl

-- the bytes after the first are the message
pub write_behind : (old new bytes : List ℕ) (start : ℕ) → new ≡ old ++ bytes → start ≡ length old → take (length new - start) (drop start new) ≡ bytes
write_behind old new bytes start written begins =
    let all : length new ≡ length old + length bytes = ap length written ∙ length-append old bytes in
    let behind : drop start new ≡ bytes = ap (drop start) written ∙ drop_at old bytes start (sym begins) in
    ap (take (length new - start)) behind ∙ take_all (length new - start) bytes (omega (arith, all, begins))
