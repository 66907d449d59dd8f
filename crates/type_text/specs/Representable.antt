-- Data types that their text represents in full: each name ends at its first terminator, what the text omits has its default, and the
-- nesting depth is bounded.
use Rattle.std.specs.Prelude.{◌≡◌, ◌⊎◌, ℕ, zero, suc, ◌<◌, ◌^◌, ℤ, pos, Bool, true, false, List, [], ◌∷◌, ◌++◌, codes, Option, Some, None}
use Rattle.std.specs.Str.{bytes_eq}
use Rattle.nest_memory.specs.Floats.{spec_is_float}
use Rattle.nest_memory.specs.TypeTree as types
use Rattle.nest_memory.specs.TypeTree.{Letters, TypeTree, FieldTree, field, FieldTrees, no_fields, more_fields}
use Rattle.type_text.specs.TypeParser.{after_prefix}

-- `end` first occurs after the name
abbrev pub IsTerminatedBy : List ℕ → List ℕ → Type 0
IsTerminatedBy end [] = Unit {0}
IsTerminatedBy end (b ∷ bs) = (after_prefix end ((b ∷ bs) ++ end) ≡ None) × IsTerminatedBy end bs

-- a union has a type id for each field, not negative and below 2 ^ 31
abbrev pub HasIds : List ℤ → FieldTrees → Type 0
HasIds [] no_fields = Unit {0}
HasIds (pos n ∷ ids) (more_fields f fs) = (n < 2 ^ 31) × HasIds ids fs
HasIds ids fs = ⊥

-- the first field's name does not begin with the closing bracket
abbrev pub LacksClosingBracket : FieldTrees → Type 0
LacksClosingBracket no_fields = Unit {0}
LacksClosingBracket (more_fields (field name t nullable metadata) fs) = after_prefix (codes ">") name ≡ None

-- The last quotes of a map hold the value's name if it is not the default, else the entries' name. That is unambiguous where the keys are
-- sorted, the entries have their default name, or the value has not.
abbrev pub HasUnambiguousQuotes : Bool → List ℕ → FieldTree → Type 0
HasUnambiguousQuotes sorted entries (field value t nullable metadata) = (sorted ≡ true) ⊎ ((bytes_eq (codes "entries") entries ≡ true) ⊎ (bytes_eq (codes "value") value ≡ false))

module _ (Inner : TypeTree → Type 0) where
  abbrev pub IsRepresentableField : FieldTree → Type 0
  IsRepresentableField (field name t nullable metadata) = IsTerminatedBy (codes ": ") name × Inner t × (metadata ≡ [])

  abbrev pub AreRepresentable : FieldTrees → Type 0
  AreRepresentable no_fields = Unit {0}
  AreRepresentable (more_fields f fs) = IsRepresentableField f × AreRepresentable fs

  -- the key field or the value field of a map, nullable as the columnar format requires
  abbrev pub IsRepresentableEntry : Bool → FieldTree → Type 0
  IsRepresentableEntry usual (field name t nullable metadata) = IsTerminatedBy (codes "')") name × Inner t × (nullable ≡ usual) × (metadata ≡ [])

  -- the entries of a map are a struct of a key and a value; only the value is nullable
  abbrev pub IsRepresentableMap : Bool → FieldTree → Type 0
  IsRepresentableMap sorted (field name (types.struct (more_fields key (more_fields value no_fields))) nullable metadata) =
      IsRepresentableEntry false key × IsRepresentableEntry true value × IsTerminatedBy (codes "')") name × HasUnambiguousQuotes sorted name value × (nullable ≡ false) × (metadata ≡ [])
  IsRepresentableMap sorted f = ⊥

  -- an extension type, which is floating-point or not
  abbrev pub IsRepresentableExtension : Bool → Letters → TypeTree → Option Letters → Type 0
  IsRepresentableExtension true name t metadata = Unit {0}
  IsRepresentableExtension false name t metadata = IsTerminatedBy (codes ", ") name × Inner t × (metadata ≡ None)

  -- The bare types of floats have the text of the extension types that represent floating-point numbers.
  abbrev pub IsRepresentableBody : TypeTree → Type 0
  IsRepresentableBody types.float16 = ⊥
  IsRepresentableBody types.float32 = ⊥
  IsRepresentableBody types.float64 = ⊥
  IsRepresentableBody (types.timestamp u (Some zone)) = IsTerminatedBy (codes "]") zone
  IsRepresentableBody (types.fixed_size_binary n) = n < 2 ^ 64
  IsRepresentableBody (types.decimal digits scale) = (digits < 2 ^ 64) × (scale < 2 ^ 64)
  IsRepresentableBody (types.decimal256 digits scale) = (digits < 2 ^ 64) × (scale < 2 ^ 64)
  IsRepresentableBody (types.list f) = IsRepresentableField f
  IsRepresentableBody (types.fixed_size_list f n) = IsRepresentableField f × (n < 2 ^ 64)
  IsRepresentableBody (types.large_list f) = IsRepresentableField f
  IsRepresentableBody (types.struct fs) = LacksClosingBracket fs × AreRepresentable fs
  IsRepresentableBody (types.union fs (Some ids) mode) = LacksClosingBracket fs × AreRepresentable fs × HasIds ids fs
  IsRepresentableBody (types.union fs None mode) = ⊥
  IsRepresentableBody (types.map f sorted) = IsRepresentableMap sorted f
  IsRepresentableBody (types.dictionary key t ordered) = Inner t
  IsRepresentableBody (types.extension name t metadata) = IsRepresentableExtension (spec_is_float (types.extension name t metadata)) name t metadata
  IsRepresentableBody t = Unit {0}

-- a type of at most so many levels that its text represents in full
abbrev pub IsRepresentable : ℕ → TypeTree → Type 0
IsRepresentable zero t = ⊥
IsRepresentable (suc levels) t = IsRepresentableBody (IsRepresentable levels) t
