-- Truth as in SQL: true, false, or None where it is unknown.
use Rattle.std.specs.Prelude.{Bool, true, false, not, Option, Some, None}

-- unknown if the truth is unknown
abbrev pub truth_not : Option Bool → Option Bool
truth_not None = None
truth_not (Some b) = Some (not b)

-- false if one is false, true if both are true, else unknown
abbrev pub truth_and : Option Bool → Option Bool → Option Bool
truth_and (Some false) q = Some false
truth_and (Some true) q = q
truth_and None (Some false) = Some false
truth_and None (Some true) = None
truth_and None None = None

-- true if one is true, false if both are false, else unknown
abbrev pub truth_or : Option Bool → Option Bool → Option Bool
truth_or (Some true) q = Some true
truth_or (Some false) q = q
truth_or None (Some true) = Some true
truth_or None (Some false) = None
truth_or None None = None
