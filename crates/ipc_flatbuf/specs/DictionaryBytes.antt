-- The bytes of a dictionary batch: isDelta, the id, and the record batch of its values (Message.fbs, table DictionaryBatch).
use Rattle.std.specs.Prelude.{ℕ, ℤ, Bool, true, false, List, [], ◌∷◌, ◌++◌}
use Rattle.ipc_flatbuf.specs.PartBytes.{i64_bytes}
use Rattle.ipc_flatbuf.specs.MessageBytes.{message_bytes}
use Rattle.ipc_flatbuf.specs.declared.message.types.MessageKind.TheVariants.{DictionaryBatch}
use Rattle.ipc_flatbuf.specs.Batches.{BatchModel}
use Rattle.ipc_flatbuf.specs.BatchBytes.{batch_part_bytes}

-- isDelta: whether the values are appended to those of the id
abbrev pub delta_byte : Bool → ℕ
delta_byte true = 1
delta_byte false = 0

-- the table DictionaryBatch is at 12; the part of the record batch is at 32, with its table 16 bytes into it
unfoldable pub dictionary_part_head : Bool → ℤ → List ℕ
dictionary_part_head delta id = (10 ∷ 0 ∷ 20 ∷ 0 ∷ 12 ∷ 0 ∷ 4 ∷ 0 ∷ 8 ∷ 0 ∷ 0 ∷ 0 ∷ 12 ∷ 0 ∷ 0 ∷ 0 ∷ 32 ∷ 0 ∷ 0 ∷ 0 ∷ delta_byte delta ∷ 0 ∷ 0 ∷ 0 ∷ []) ++ i64_bytes id

unfoldable pub dictionary_part_bytes : Bool → ℤ → BatchModel → List ℕ
dictionary_part_bytes delta id b = dictionary_part_head delta id ++ batch_part_bytes b

-- the message of a dictionary batch without its body, which has body bytes
unfoldable pub dictionary_message : Bool → ℤ → BatchModel → ℕ → List ℕ
dictionary_message delta id b body = message_bytes DictionaryBatch body 12 (dictionary_part_bytes delta id b)
