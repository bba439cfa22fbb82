-- Lists that are looked up by a test of their elements. The first that meets the test is std's `find`.
use Rattle.std.specs.Prelude.{Bool, List, [], ◌∷◌, if◌then◌else◌}
use Rattle.std.specs.List.{find}
use Rattle.std.specs.Option.{option_map_or}

-- the list without the first element that meets a test; those after it move up
unfoldable pub without_first : {A : Type 0} → (A → Bool) → List A → List A
without_first test [] = []
without_first test (x ∷ xs) = (if test x then xs else (x ∷ without_first test xs))

-- the list with the first element that meets a test changed in its place
unfoldable pub changed_first : {A : Type 0} → (A → A) → (A → Bool) → List A → List A
changed_first change test [] = []
changed_first change test (x ∷ xs) = (if test x then (change x ∷ xs) else (x ∷ changed_first change test xs))

-- the list with the first element that meets a test in front, where there is one
unfoldable pub promoted_first : {A : Type 0} → (A → Bool) → List A → List A
promoted_first test xs = option_map_or (λ x. x ∷ without_first test xs) (find test xs) xs
