-- Instances in rising order of their codes.
use Rattle.std.specs.Prelude.{List, [], ◌∷◌, if◌then◌else◌, nat_lt}
use Rattle.trajectory.specs.declared.instance.Instance.{Instance}

-- some instances with one more, placed before the first that has a greater code
abbrev pub inserted : Instance → List Instance → List Instance
inserted instance [] = instance ∷ []
inserted instance (next ∷ rest) = if nat_lt instance.code next.code then instance ∷ next ∷ rest else next ∷ inserted instance rest

-- instances in rising order of their codes
unfoldable pub by_code : List Instance → List Instance
by_code [] = []
by_code (instance ∷ instances) = inserted instance (by_code instances)
