-- File footers round-trip.
use Rattle.std.proofs.Common.{◌≡◌, ℕ, ◌+◌, ◌-◌, ◌*◌, ◌^◌, ◌<◌, ◌≤◌, Bool, true, false, leb, List, [], ◌∷◌, ◌++◌, length, take, drop, Some, Ok, refl, sym, ap, ◌∙◌, append_assoc, arith}
use Rattle.std.specs.Prelude.{ℤ, pos, negsuc, nat_eq, ◌&&◌}
use Rattle.std.specs.Int.{w16, w32, w64, from_le_bytes, cast_signed}
use Rattle.std.specs.Int.RustNames.{FitsSigned}
use Rattle.std.specs.List.{AllByRecursion, flat_map, list_all, ends_with}
use Rattle.std.proofs.lemmas.Bool.{le-leb, leb-true}
use Rattle.std.proofs.lemmas.Bool.Decides.{Decides-eqb}
use Rattle.std.proofs.lemmas.Int.{ints}
use Rattle.std.proofs.lemmas.List.{append-nil, length-append, take_at, drop_at}
use Rattle.std.proofs.lemmas.List.Concat.{flat_map-cons}
use Rattle.std.proofs.lemmas.Nat.{from_le_bytes-to_le_bytes_4}
use Rattle.std.proofs.lemmas.Slice.Eq.{ends_is}
use Rattle.ipc_flatbuf.specs.Flatbuffers.{signed_at, spec_offset_at, spec_field_position, spec_read_table, vector_at}
use Rattle.ipc_flatbuf.specs.PartBytes.{u32_bytes, i32_bytes, i64_bytes, vector_bytes}
use Rattle.ipc_flatbuf.specs.FlatbufferLaws.{From, From_next}
use Rattle.ipc_flatbuf.specs.TemplateLaws.{From_at, i16_in, i32_in, i64_in, offset_in, table_in, visit_in, field_in}
use Rattle.ipc_flatbuf.specs.VectorLaws.{IsStruct, vector_round_trips}
use Rattle.ipc_schema.specs.Projections.{all}
use Rattle.ipc_schema.specs.ProjectedSchemas.{spec_projected_schema_at}
use Rattle.ipc_schema.specs.SchemaLaws.{SchemaFits, part_of, schema_cost, schema_pays}
use Rattle.ipc_schema.specs.ProjectionLaws.{all_written, projected_table_round_trips}
use Rattle.ipc_schema.specs.declared.footer.types.Block.{Block}
use Rattle.ipc_schema.specs.Footers.{FooterModel, spec_block_at, spec_blocks_in, spec_block_lists_at, is_before, is_block_before, spec_blocks_before, magic, has_magic}
use Rattle.ipc_schema.specs.ProjectedFooters.{ProjectedFooterModel, spec_projected_footer_at, projected_footer_in}
use Rattle.ipc_schema.specs.FooterBytes.{block_struct_bytes, footer_head, footer_part_bytes, footer_bytes, file_end, file_head}

-- ---- blocks

-- the numbers of a Rust Block are within their types
pub record BlockFits (b : Block) : Type 0 where
  pub offset : FitsSigned w64 b.offset
  pub metadata : FitsSigned w32 b.metadata_length
  pub body : FitsSigned w64 b.body_length

block_again : (b : Block) → BlockFits b → IsStruct spec_block_at 24 block_struct_bytes b
unfolding block_struct_bytes i64_bytes i32_bytes
block_again b fits = record {
  law = λ whole p after h.
      let part : List ℕ = block_struct_bytes b ++ after in
      let offset : signed_at w64 whole p ≡ Ok b.offset = i64_in whole p part 0 p b.offset h (omega arith) (omega arith) fits.offset refl in
      let metadata : signed_at w32 whole (p + 8) ≡ Ok b.metadata_length = i32_in whole p part 8 (p + 8) b.metadata_length h (omega arith) refl fits.metadata refl in
      let body : signed_at w64 whole (p + 16) ≡ Ok b.body_length = i64_in whole p part 16 (p + 16) b.body_length h (omega arith) refl fits.body refl in
      rw (offset, metadata, body) refl;
  long = refl;
}

blocks_again : (bs : List Block) → AllByRecursion BlockFits bs → AllByRecursion (IsStruct spec_block_at 24 block_struct_bytes) bs
blocks_again [] fits = tt
blocks_again (b ∷ bs) fits = (block_again b fits.0, blocks_again bs fits.1)

block_long : (b : Block) → length (block_struct_bytes b) ≡ 24
unfolding block_struct_bytes i64_bytes i32_bytes
block_long b = refl

blocks_long : (bs : List Block) → length (flat_map block_struct_bytes bs) ≡ 24 * length bs
blocks_long [] = refl
blocks_long (b ∷ bs) = rw (flat_map-cons block_struct_bytes b bs) (omega (arith, blocks_long bs, block_long b, length-append (block_struct_bytes b) (flat_map block_struct_bytes bs)))

vector_long : (bs : List Block) → length (vector_bytes block_struct_bytes bs) ≡ 4 + 24 * length bs
unfolding vector_bytes u32_bytes
vector_long bs = omega (arith, blocks_long bs)

-- ---- the footer

-- the schema and the blocks of a Rust footer are valid
pub record FooterFits (f : FooterModel) : Type 0 where
  pub schema : SchemaFits f.schema
  pub dictionaries : AllByRecursion BlockFits f.dictionaries
  pub batches : AllByRecursion BlockFits f.batches

pub footer_long : (f : FooterModel) → length (footer_bytes f) ≡ 48 + 24 * length f.dictionaries + 24 * length f.batches + length (part_of f.schema)
unfolding footer_part_bytes footer_head u32_bytes
footer_long f =
    let dictionaries : List ℕ = vector_bytes block_struct_bytes f.dictionaries in
    let batches : List ℕ = vector_bytes block_struct_bytes f.batches in
    let gap : List ℕ = 0 ∷ 0 ∷ 0 ∷ 0 ∷ [] in
    omega (arith, vector_long f.dictionaries, vector_long f.batches, length-append dictionaries (gap ++ (batches ++ part_of f.schema)), length-append batches (part_of f.schema))

-- the projection of all columns of a footer that was written
abbrev pub projected_footer_of_all : FooterModel → ProjectedFooterModel
projected_footer_of_all f = record { picked = all_written f.schema; dictionaries = f.dictionaries; batches = f.batches }

pub footer_round_trips : (f : FooterModel) → FooterFits f → length (footer_bytes f) < 2 ^ 31 → spec_projected_footer_at all (footer_bytes f) ≡ Ok (projected_footer_of_all f)
unfolding spec_projected_footer_at spec_blocks_in spec_block_lists_at footer_part_bytes footer_head u32_bytes
footer_round_trips f fits small =
    let d : ℕ = length f.dictionaries in
    let n : ℕ = length f.batches in
    let dictionaries : List ℕ = vector_bytes block_struct_bytes f.dictionaries in
    let batches : List ℕ = vector_bytes block_struct_bytes f.batches in
    let schema : List ℕ = part_of f.schema in
    let gap : List ℕ = 0 ∷ 0 ∷ 0 ∷ 0 ∷ [] in
    let whole : List ℕ = footer_bytes f in
    let left : ℕ = 64 * length whole in
    let long = footer_long f in
    let pays = schema_pays f.schema fits.schema in
    let h : From whole 0 whole = record { is = refl; within = omega arith } in
    let root : spec_offset_at whole 0 ≡ Ok 16 = offset_in whole 0 whole 0 0 16 h (omega arith) refl (omega arith) refl in
    let inner : List ℕ = drop 4 whole in
    let here : From whole 4 inner = From_at whole 0 4 4 whole inner h (omega arith) refl refl in
    let v : spec_read_table whole 16 left ≡ Ok (table_in 4 12 12, left - 8) = visit_in whole 4 inner 12 12 left here (omega arith) (omega arith) (omega arith) (omega arith) refl refl refl (omega arith) in
    let f0 : spec_field_position whole (table_in 4 12 12) 0 ≡ Ok (Some 32) = field_in whole 4 inner 12 12 0 16 here (omega arith) (omega arith) (omega arith) refl in
    let f1 : spec_field_position whole (table_in 4 12 12) 1 ≡ Ok (Some 20) = field_in whole 4 inner 12 12 1 4 here (omega arith) (omega arith) (omega arith) refl in
    let f2 : spec_field_position whole (table_in 4 12 12) 2 ≡ Ok (Some 24) = field_in whole 4 inner 12 12 2 8 here (omega arith) (omega arith) (omega arith) refl in
    let f3 : spec_field_position whole (table_in 4 12 12) 3 ≡ Ok (Some 28) = field_in whole 4 inner 12 12 3 12 here (omega arith) (omega arith) (omega arith) refl in
    let version : signed_at w16 whole 32 ≡ Ok (pos 4) = i16_in whole 0 whole 32 32 (pos 4) h (omega arith) refl (omega (arith, ints)) refl in
    let o1 : spec_offset_at whole 20 ≡ Ok (20 + (44 + 24 * d + 24 * n)) = offset_in whole 0 whole 20 20 (44 + 24 * d + 24 * n) h (omega arith) refl (omega arith) refl in
    let o2 : spec_offset_at whole 24 ≡ Ok (24 + 12) = offset_in whole 0 whole 24 24 12 h (omega arith) refl (omega arith) refl in
    let o3 : spec_offset_at whole 28 ≡ Ok (28 + (16 + 24 * d)) = offset_in whole 0 whole 28 28 (16 + 24 * d) h (omega arith) refl (omega arith) refl in
    let first : From whole 36 (dictionaries ++ (gap ++ (batches ++ schema))) = From_at whole 0 36 36 whole (dictionaries ++ (gap ++ (batches ++ schema))) h (omega arith) refl refl in
    let behind : From whole (36 + length dictionaries) (gap ++ (batches ++ schema)) = From_next whole 36 dictionaries (gap ++ (batches ++ schema)) first in
    let second : From whole (28 + (16 + 24 * d)) (batches ++ schema) = From_at whole (36 + length dictionaries) (28 + (16 + 24 * d)) 4 (gap ++ (batches ++ schema)) (batches ++ schema) behind (omega arith) (omega (arith, vector_long f.dictionaries)) refl in
    let third : From whole (28 + (16 + 24 * d) + length batches) schema = From_next whole (28 + (16 + 24 * d)) batches schema second in
    let last : From whole (28 + (16 + 24 * d) + length batches) (schema ++ []) = record { is = third.is ∙ sym (append-nil schema); within = third.within } in
    let s : spec_projected_schema_at all whole (20 + (44 + 24 * d + 24 * n)) (left - 8) ≡ Ok (all_written f.schema, left - 8 - schema_cost f.schema) =
    (projected_table_round_trips f.schema fits.schema).law whole (28 + (16 + 24 * d) + length batches) (20 + (44 + 24 * d + 24 * n)) (left - 8) [] last (omega arith) (omega (arith, vector_long f.batches)) (omega arith) in
    let rest : ℕ = left - 8 - schema_cost f.schema in
    let ds : vector_at (spec_block_at whole) 24 whole (Some (24 + 12)) rest ≡ Ok (f.dictionaries, rest - (4 + d * 24)) =
    vector_round_trips spec_block_at 24 block_struct_bytes f.dictionaries whole (24 + 12) rest (gap ++ (batches ++ schema)) (blocks_again f.dictionaries fits.dictionaries) first (omega arith) (omega arith) (omega arith) in
    let bs : vector_at (spec_block_at whole) 24 whole (Some (28 + (16 + 24 * d))) (rest - (4 + d * 24)) ≡ Ok (f.batches, rest - (4 + d * 24) - (4 + n * 24)) =
    vector_round_trips spec_block_at 24 block_struct_bytes f.batches whole (28 + (16 + 24 * d)) (rest - (4 + d * 24)) schema (blocks_again f.batches fits.batches) second (omega arith) (omega arith) (omega arith) in
    rw (root, v, f0, version, f1, o1, s, f2, o2, ds, f3, o3, bs) refl

-- ---- the file

-- the bytes before the end of a file, and the end
abbrev file_bytes : List ℕ → FooterModel → List ℕ
file_bytes inner f = file_head ++ (inner ++ file_end f)

marked : (inner : List ℕ) (f : FooterModel) → has_magic (file_bytes inner f) ≡ true
unfolding file_end
marked inner f =
    let size : List ℕ = u32_bytes (length (footer_bytes f)) in
    let front : List ℕ = file_head ++ (inner ++ (footer_bytes f ++ size)) in
    let regrouped : file_bytes inner f ≡ front ++ magic = simp append_assoc in
    let ends : ends_with nat_eq (file_bytes inner f) magic ≡ true = (ends_is Decides-eqb (file_bytes inner f) magic (ends_with nat_eq (file_bytes inner f) magic) refl).1 front regrouped in
    rw ends refl

number_back : (n : ℕ) → n < 2 ^ 32 → from_le_bytes w32 (u32_bytes n ++ magic) ≡ n
unfolding u32_bytes
number_back n small = from_le_bytes-to_le_bytes_4 n small

ending : (n : ℕ) → length (u32_bytes n ++ magic) ≡ 10
unfolding u32_bytes
ending n = refl

pub file_end_round_trips : (f : FooterModel) (inner : List ℕ) → FooterFits f → length (footer_bytes f) < 2 ^ 31 → spec_blocks_before (8 + length inner) (f.dictionaries ++ f.batches) ≡ true → projected_footer_in all (file_bytes inner f) ≡ Ok (projected_footer_of_all f)
unfolding projected_footer_in file_end
file_end_round_trips f inner fits small inside =
    let footer : List ℕ = footer_bytes f in
    let n : ℕ = length footer in
    let tail : List ℕ = u32_bytes n ++ magic in
    let bytes : List ℕ = file_bytes inner f in
    let long : length bytes ≡ 18 + length inner + n = omega (arith, length-append inner (footer ++ tail), length-append footer tail, ending n) in
    let some : 48 ≤ n = omega (arith, footer_long f) in
    let enough : leb 18 (length bytes) ≡ true = le-leb _ _ (omega (arith, long)) in
    let split : bytes ≡ (file_head ++ inner) ++ (footer ++ tail) = sym (append_assoc file_head inner (footer ++ tail)) in
    let last : bytes ≡ (file_head ++ (inner ++ footer)) ++ tail = simp append_assoc in
    let number : from_le_bytes w32 (drop (length bytes - 10) bytes) ≡ n =
    ap (λ (x : List ℕ). from_le_bytes w32 (drop (length bytes - 10) x)) last ∙ ap (from_le_bytes w32) (drop_at (file_head ++ (inner ++ footer)) tail (length bytes - 10) (omega (arith, long, length-append inner footer))) ∙ number_back n (omega arith) in
    let signed : cast_signed w32 n ≡ pos n = omega (arith, ints) in
    let one : leb 1 n ≡ true = le-leb _ _ (omega (arith, some)) in
    let room : leb (18 + n) (length bytes) ≡ true = le-leb _ _ (omega (arith, long)) in
    let position : length bytes - (10 + n) ≡ 8 + length inner = omega (arith, long) in
    let from : drop (8 + length inner) bytes ≡ footer ++ tail = ap (drop (8 + length inner)) split ∙ drop_at (file_head ++ inner) (footer ++ tail) (8 + length inner) (omega (arith, length-append file_head inner)) in
    let part : take n (drop (8 + length inner) bytes) ≡ footer = ap (take n) from ∙ take_at footer tail n refl in
    rw (enough, marked inner f, number, signed, one, room, position, part, footer_round_trips f fits small, inside) refl

-- the footer round-trips after any bytes between the first 8 and the end that contain its blocks
abbrev pub FooterRoundTrips : FooterModel → Type 0
FooterRoundTrips f = (inner : List ℕ) → spec_blocks_before (8 + length inner) (f.dictionaries ++ f.batches) ≡ true → projected_footer_in all (file_head ++ (inner ++ file_end f)) ≡ Ok (projected_footer_of_all f)

-- ---- a block before a position is before a later one

both_are : (a b : Bool) → (a && b) ≡ true → (a ≡ true) × (b ≡ true)
both_are true b h = (refl, h)
both_are false b h = cc

before_more : (end later : ℕ) (offset metadata body : ℤ) → end ≤ later → is_before end offset metadata body ≡ true → is_before later offset metadata body ≡ true
before_more end later (pos o) (pos m) (pos n) le h =
    let both = both_are (leb 8 o && leb 8 m) (leb (o + m + n) end) h in
    let ends : leb (o + m + n) later ≡ true = le-leb _ _ (omega (arith, leb-true (o + m + n) end both.1)) in
    rw (both.0, ends) refl
before_more end later (pos o) (pos m) (negsuc n) le h = cc
before_more end later (pos o) (negsuc m) body le h = cc
before_more end later (negsuc o) metadata body le h = cc

pub all_before_more : (end later : ℕ) (bs : List Block) → end ≤ later → list_all (is_block_before end) bs ≡ true → list_all (is_block_before later) bs ≡ true
all_before_more end later [] le h = refl
all_before_more end later (b ∷ bs) le h =
    let parts = both_are (is_block_before end b) (list_all (is_block_before end) bs) h in
    rw (before_more end later b.offset b.metadata_length b.body_length le parts.0, all_before_more end later bs le parts.1) refl
