-- Batches that are the same as given ones are the same as each other.
use Rattle.std.proofs.Common.{◌≡◌, List, [], ◌∷◌, sym, ◌∙◌}
use Rattle.ipc.specs.Streams.{RecordBatchTree}
use Rattle.ipc.specs.EncodedStreams.{AreSameBatches, IsSameBatch}

same_one : (b x y : RecordBatchTree) → IsSameBatch b x → IsSameBatch b y → IsSameBatch x y
same_one b x y p q = record { rows = q.rows ∙ sym p.rows; types = q.types ∙ sym p.types; slots = q.slots ∙ sym p.slots }

pub same_both : (bs xs ys : List RecordBatchTree) → AreSameBatches bs xs → AreSameBatches bs ys → AreSameBatches xs ys
same_both [] [] [] p q = tt
same_both [] [] (y ∷ ys) p q = absurd q
same_both [] (x ∷ xs) ys p q = absurd p
same_both (b ∷ bs) [] ys p q = absurd p
same_both (b ∷ bs) (x ∷ xs) [] p q = absurd q
same_both (b ∷ bs) (x ∷ xs) (y ∷ ys) p q = (same_one b x y p.0 q.0, same_both bs xs ys p.1 q.1)
