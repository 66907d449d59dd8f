-- The footer of a file by the length of the file, its first and last bytes, and the bytes of the footer.
use Rattle.std.specs.Prelude.{◌≡◌, ℕ, ◌+◌, ◌-◌, ◌≤◌, nat_eq, nat_le, Bool, true, false, ◌&&◌, List, length, take, drop, Result, Ok, Err, refl}
use Rattle.std.specs.Int.{w32, from_le_bytes, cast_signed}
use Rattle.std.specs.List.{starts_with, ends_with}
use Rattle.std.specs.Cmp.Lexicographic.{pointwise}
use Rattle.std.proofs.Common.{leb, sym, ap, ◌∙◌, arith}
use Rattle.std.proofs.lemmas.Bool.{leb-true}
use Rattle.std.proofs.lemmas.List.{length-drop, drop-drop, take-take}
use Rattle.ipc_flatbuf.specs.ReadResults.{◌>>=◌, check}
use Rattle.ipc_flatbuf.specs.declared.error.IpcReadError.{IpcReadError}
use Rattle.ipc_flatbuf.specs.declared.error.IpcReadError.TheVariants.{Truncated, Magic, FooterLength}
use Rattle.ipc_flatbuf.specs.Flatbuffers.{spec_non_negative}
use Rattle.ipc_schema.specs.Projections.{ProjectionModel}
use Rattle.ipc_schema.specs.Footers.{magic, check_ends, footer_length, footer_position}
use Rattle.ipc_schema.specs.ProjectedFooters.{ProjectedFooterModel, spec_projected_footer_at, spec_check_blocks, projected_footer_in}

-- the length of the footer of a file of size bytes, by its head and its last 10 bytes
abbrev pub footer_length_by_ends : ℕ → List ℕ → List ℕ → Result ℕ IpcReadError
footer_length_by_ends size head tail = do
  long ← check (nat_le 18 size) Truncated
  marked ← check (starts_with nat_eq head magic && ends_with nat_eq tail magic) Magic
  n ← spec_non_negative FooterLength (cast_signed w32 (from_le_bytes w32 tail))
  within ← check (nat_le 1 n && nat_le (18 + n) size) FooterLength
  Ok n

-- the same by all bytes of the file
abbrev pub length_of_footer : List ℕ → Result ℕ IpcReadError
length_of_footer bytes = check_ends bytes >>= λ ends. footer_length bytes

-- the footer of its bytes, where its blocks end before a position
abbrev pub footer_before : ProjectionModel → List ℕ → ℕ → Result ProjectedFooterModel IpcReadError
footer_before picks own position = spec_projected_footer_at picks own >>= spec_check_blocks position

-- the footer of a file of size bytes, by its head, its last 10 bytes, and the bytes of a footer of each length
abbrev pub footer_by_parts : ProjectionModel → ℕ → List ℕ → List ℕ → (ℕ → List ℕ) → Result ProjectedFooterModel IpcReadError
footer_by_parts picks size head tail own = footer_length_by_ends size head tail >>= λ long. footer_before picks (own long) (size - (10 + long))

-- the last 10 bytes of a file: the length of the footer and the magic
abbrev pub last_bytes_of : List ℕ → List ℕ
last_bytes_of bytes = drop (length bytes - 10) bytes

-- the bytes of a footer of long bytes
abbrev pub footer_bytes_in : List ℕ → ℕ → List ℕ
footer_bytes_in bytes long = take long (drop (footer_position long bytes) bytes)

-- ---- the footer depends only on these parts

mark_within : (bytes : List ℕ) → 18 ≤ length bytes → ends_with nat_eq (last_bytes_of bytes) magic ≡ ends_with nat_eq bytes magic
mark_within bytes long =
    let ten : length (last_bytes_of bytes) - 6 ≡ 4 = omega (arith, length-drop (length bytes - 10) bytes) in
    let six : length bytes - 10 + 4 ≡ length bytes - 6 = omega arith in
    ap (λ (n : ℕ). pointwise nat_eq magic (drop n (last_bytes_of bytes))) ten
    ∙ ap (pointwise nat_eq magic) (drop-drop 4 (length bytes - 10) bytes)
    ∙ ap (λ (n : ℕ). pointwise nat_eq magic (drop n bytes)) six

ends_by : (bytes head : List ℕ) (long : Bool) → take 6 head ≡ take 6 bytes → leb 18 (length bytes) ≡ long → length_of_footer bytes ≡ footer_length_by_ends (length bytes) head (last_bytes_of bytes)
ends_by bytes head false same e = rw e refl
ends_by bytes head true same e = rw (e, mark_within bytes (leb-true 18 (length bytes) e), same) refl

pub footer_length_depends_on_ends : (bytes head : List ℕ) → take 6 head ≡ take 6 bytes → length_of_footer bytes ≡ footer_length_by_ends (length bytes) head (last_bytes_of bytes)
footer_length_depends_on_ends bytes head same = ends_by bytes head (leb 18 (length bytes)) same refl

regrouped : {A B C : Type 0} (r : Result A IpcReadError) (f : A → Result B IpcReadError) (g : B → Result C IpcReadError) → (r >>= λ x. f x >>= g) ≡ ((r >>= f) >>= g)
regrouped (Ok x) f g = refl
regrouped (Err error) f g = refl

pub file_by_length : (picks : ProjectionModel) (bytes : List ℕ) → projected_footer_in picks bytes ≡ (length_of_footer bytes >>= λ long. footer_before picks (footer_bytes_in bytes long) (footer_position long bytes))
unfolding projected_footer_in
file_by_length picks bytes = regrouped (check_ends bytes) (λ ends. footer_length bytes) (λ long. footer_before picks (footer_bytes_in bytes long) (footer_position long bytes))

pub file_fails : (picks : ProjectionModel) (bytes : List ℕ) (error : IpcReadError) → Err error ≡ length_of_footer bytes → projected_footer_in picks bytes ≡ Err error
file_fails picks bytes error fails = file_by_length picks bytes ∙ ap (λ (r : Result ℕ IpcReadError). r >>= λ long. footer_before picks (footer_bytes_in bytes long) (footer_position long bytes)) (sym fails)

-- the footer depends only on the length of the file, its first 6 and last 10 bytes, and the bytes of the footer
pub footer_depends_on_parts : (picks : ProjectionModel) (bytes : List ℕ) → projected_footer_in picks bytes ≡ footer_by_parts picks (length bytes) (take 6 bytes) (last_bytes_of bytes) (footer_bytes_in bytes)
footer_depends_on_parts picks bytes =
    file_by_length picks bytes
    ∙ ap (λ (r : Result ℕ IpcReadError). r >>= λ long. footer_before picks (footer_bytes_in bytes long) (footer_position long bytes)) (footer_length_depends_on_ends bytes (take 6 bytes) (take-take 6 6 bytes (omega arith)))
