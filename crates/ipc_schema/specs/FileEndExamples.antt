-- Worked examples: the first error of the ends of a file (Columnar format, IPC File Format).
use Rattle.std.specs.Prelude.{◌≡◌, ◌∷◌, ◌++◌, replicate, Ok, Err, refl}
use Rattle.ipc_flatbuf.specs.declared.error.IpcReadError.TheVariants.{FooterLength, Magic, Truncated}
use Rattle.ipc_schema.specs.Footers.{check_ends, footer_length, magic}

-- the magic is missing too
pub short_file : check_ends (replicate 17 0) ≡ Err Truncated
short_file = refl

pub no_magic : check_ends (replicate 18 0) ≡ Err Magic
no_magic = refl

-- the length of the footer is 0
pub empty_footer : footer_length (replicate 12 0 ++ magic) ≡ Err FooterLength
empty_footer = refl

-- 1, where no byte is left for it
pub long_footer : footer_length (replicate 8 0 ++ (1 ∷ 0 ∷ 0 ∷ 0 ∷ magic)) ≡ Err FooterLength
long_footer = refl

pub negative_footer : footer_length (replicate 8 0 ++ (255 ∷ 255 ∷ 255 ∷ 255 ∷ magic)) ≡ Err FooterLength
negative_footer = refl

pub one_byte_footer : footer_length (replicate 9 0 ++ (1 ∷ 0 ∷ 0 ∷ 0 ∷ magic)) ≡ Ok 1
one_byte_footer = refl
